-- The entries of a group and its names, and the lists with which a group is taken up again.
use Rattle.std.proofs.Common.{ℕ, zero, suc, ◌≡◌, ◌<◌, ◌≤◌, ◌+◌, ◌^◌, true, List, [], ◌∷◌, ◌++◌, length, map, slice_get, refl, sym, ap, ◌∙◌, arith, Some}
use Rattle.std.proofs.Common.{All, get_or, add-zero}
use Rattle.std.proofs.lemmas.List.FromFn.{map-range_with_len_more}
use Rattle.std.proofs.lemmas.List.Kept.{AllPairs-cons}
use Rattle.std.proofs.lemmas.Option.{get_or_from_slice_get}
use Rattle.std.specs.List.{range_with_len, AllPairs}
use Rattle.std.proofs.lemmas.Grind.{common_steps}
use Rattle.vss_names.specs.Names.{is_name, TextValue}
use Rattle.diff_map.specs.Copies.{AreImages}
use Rattle.diff_area.specs.Format.{AreVolumes}
use Rattle.diff_area.proofs.GoodRecords.{and_left, and_right}
use Rattle.cow_volume.specs.Calls.{blocks_at, sets_at, blocks_in, sets_in}
use Rattle.cow_volume.specs.StandsFor.{GroupValue}
use Rattle.cow_volume.proofs.Group.{same_number}
use Rattle.cow_volume.proofs.Rows.{get_inside}
use Rattle.vss_catalog.specs.Entries.{AreRising, IsEntry, AreEntries, IsCatalog, EntryValue, lists_of, are_names_for, entry_at, entries_of, are_names, bytes_in}

-- ## The entries of a group, and its names.

pub as_many : {D : Type 0} (g : GroupValue D) (names : List TextValue) → are_names_for g names ≡ true → length names ≡ length g.area.volumes
as_many g names h = same_number (length names) (length g.area.volumes) (and_left _ _ h)

pub each_name : {D : Type 0} (g : GroupValue D) (names : List TextValue) → are_names_for g names ≡ true → are_names names ≡ true
each_name g names h = and_right _ _ h

pub entries-next : {D : Type 0} (g : GroupValue D) (names : List TextValue) (v : ℕ) (e : EntryValue) (old new : List EntryValue)
    → new ≡ old ++ e ∷ [] → old ≡ map (entry_at g names) (range_with_len 0 v) → e ≡ entry_at g names v → new ≡ map (entry_at g names) (range_with_len 0 (v + 1))
entries-next g names v e old new is so h = grind (arith, common_steps, map-range_with_len_more (entry_at g names) 0 v v (omega arith))

pub is_entry : {D : Type 0} (g : GroupValue D) (names : List TextValue) (v : ℕ) (e : EntryValue) (name : List ℕ) (blocks : ℕ) (sets : List ℕ)
    → e ≡ record { name = name; blocks = blocks; images = sets }
    → name ≡ bytes_in (slice_get names v) → blocks ≡ blocks_at g v → sets ≡ sets_at g v → e ≡ entry_at g names v
is_entry g names v e name blocks sets is a b c = grind arith

-- ## what holds of a group's catalog

rising : (last : ℕ) (sets : List ℕ) → AllPairs (λ s t. s < t) sets → All (λ s. (0 < s) × (s < 2 ^ 32)) sets → All (λ s. last < s) sets → AreRising last sets
rising last [] up fit above = tt
rising last (s ∷ rest) up fit above =
    let low : last < s = above 0 s (omega arith) in
    let narrow : s < 2 ^ 32 = (fit 0 s (omega arith)).1 in (
      low,
      narrow,
      rising s rest (λ i j d l inside. up (suc i) (suc j) d (omega arith) (omega arith)) (λ k d inside. fit (suc k) d (omega arith))
          (λ k d inside. up 0 (suc k) d (omega arith) (omega arith)),
    )

images_rise : (sets : List ℕ) → AreImages sets → AreRising 0 sets
images_rise sets are = rising 0 sets are.ascend are.above_zero (λ k d inside. (are.above_zero k d inside).0)

a_name : (names : List TextValue) (v : ℕ) → are_names names ≡ true → v < length names → is_name (bytes_in (slice_get names v)) ≡ true
a_name [] v h l = absurd (omega arith)
a_name (n ∷ ns) zero h l = and_left _ _ h
a_name (n ∷ ns) (suc v) h l = a_name ns v (and_right _ _ h) (omega arith)

module _ {D : Type 0} (g : GroupValue D) (names : List TextValue) (named : are_names_for g names ≡ true) (volumes : AreVolumes g.area.volumes) (many : length g.images ≡ length g.area.volumes) (rise : (v : ℕ) (sets : List ℕ) → slice_get g.images v ≡ Some sets → AreImages sets) where
  entry_allowed : (v : ℕ) → v < length g.area.volumes → IsEntry (entry_at g names v)
  entry_allowed v l =
      let long = as_many g names named in
      let blocks = get_inside g.area.volumes v l in
      let sets = get_inside g.images v (omega arith) in
      let are = rise v sets.0 sets.1 in
      let sets_are : sets_at g v ≡ sets.0 = ap sets_in sets.1 in
      let blocks_are : blocks_at g v ≡ blocks.0 = ap blocks_in blocks.1 in
      let at : get_or g.area.volumes v blocks.0 ≡ blocks.0 = get_or_from_slice_get g.area.volumes v blocks.0 blocks.0 blocks.1 in
      let bounds = volumes.each v blocks.0 l in
      let over = bounds.0 in
      let under = bounds.1 in
      grind (arith, common_steps, a_name, each_name, images_rise)

  entries_allowed : (first n : ℕ) → first + n ≤ length g.area.volumes → AreEntries (map (entry_at g names) (range_with_len first n))
  entries_allowed first zero l = tt
  entries_allowed first (suc n) l = (entry_allowed first (omega arith), entries_allowed (first + 1) n (omega arith))

  length-entries : (first n : ℕ) → length (map (entry_at g names) (range_with_len first n)) ≡ n
  length-entries first zero = refl
  length-entries first (suc n) = ap suc (length-entries (first + 1) n)

  pub catalog_allowed : IsCatalog (entries_of g names)
  catalog_allowed = grind (arith, length-entries, entries_allowed)

-- ## The lists of a catalog are such as a group is taken up again with; and those of a group's catalog are the group's own.

-- ## rising sets

all_above : (last : ℕ) (sets : List ℕ) → AreRising last sets → All (λ s. last < s) sets
all_above last [] rise = λ k d l. absurd (omega arith)
all_above last (s ∷ rest) rise = grind (arith, common_steps, all_above s rest rise.2)

ascending : (last : ℕ) (sets : List ℕ) → AreRising last sets → AllPairs (λ s t. s < t) sets
ascending last [] rise = λ i j d l inside. absurd (omega arith)
ascending last (s ∷ rest) rise = AllPairs-cons (λ x y. x < y) s rest (all_above s rest rise.2) (ascending s rest rise.2)

in_range : (last : ℕ) (sets : List ℕ) → AreRising last sets → All (λ s. (0 < s) × (s < 2 ^ 32)) sets
in_range last [] rise = λ k d l. absurd (omega arith)
in_range last (s ∷ rest) rise = grind (arith, common_steps, in_range s rest rise.2)

lists_allowed : (entries : List EntryValue) → AreEntries entries → All AreImages (lists_of entries)
lists_allowed [] are = λ k d l. absurd (omega arith)
lists_allowed (e ∷ es) are = grind (arith, common_steps, lists_allowed es are.1, ascending 0 e.images are.0.rise, in_range 0 e.images are.0.rise)

pub catalog_lists : (entries : List EntryValue) → IsCatalog entries → All AreImages (lists_of entries)
catalog_lists entries is = lists_allowed entries is.each

-- ## the lists of a group

same_lists : (f : ℕ → List ℕ) (images : List (List ℕ)) (a : ℕ) → ((v : ℕ) (sets : List ℕ) → slice_get images v ≡ Some sets → f (a + v) ≡ sets) → map f (range_with_len a (length images)) ≡ images
same_lists f [] a h = refl
same_lists f (x ∷ xs) a h =
    let further : (v : ℕ) (sets : List ℕ) → slice_get xs v ≡ Some sets → f (a + 1 + v) ≡ sets = λ v sets at. (let e : a + 1 + v ≡ a + suc v = omega arith in ap f e ∙ h (suc v) sets at) in
    ap (λ (y : List ℕ). y ∷ map f (range_with_len (a + 1) (length xs))) (sym (ap f (add-zero a)) ∙ h 0 x refl) ∙ ap (λ (ys : List (List ℕ)). x ∷ ys) (same_lists f xs (a + 1) further)

images_of : {D : Type 0} (g : GroupValue D) (names : List TextValue) (first n : ℕ) → lists_of (map (entry_at g names) (range_with_len first n)) ≡ map (sets_at g) (range_with_len first n)
images_of g names first zero = refl
images_of g names first (suc n) = ap (λ (ss : List (List ℕ)). sets_at g first ∷ ss) (images_of g names (first + 1) n)

pub own_lists : {D : Type 0} (g : GroupValue D) (names : List TextValue) → length g.images ≡ length g.area.volumes → lists_of (entries_of g names) ≡ g.images
own_lists g names many = grind (arith, images_of, same_lists)

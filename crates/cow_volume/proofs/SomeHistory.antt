-- For every group there are histories with its records and the sets of its images: each image is followed by a write of each block
-- of which it has a copy. Where no device tells what it holds, the group stands for them.
use Rattle.std.proofs.Common.{ℕ, zero, suc, ◌≡◌, ◌<◌, ◌≤◌, ◌+◌, ◌-◌, Bool, true, false, List, [], ◌∷◌, ◌++◌, length, Option, Some, None, slice_get, refl, sym, ap, ◌∙◌, subst, arith}
use Rattle.std.proofs.Common.{append_assoc, append-nil, length-append}
use Rattle.std.specs.Prelude.{◌==◌, ◌&&◌, ◌||◌, if◌then◌else◌, All, AllPairs}
use Rattle.std.proofs.Math.Seq.{drop-append_seam}
use Rattle.std.proofs.lemmas.List.{take-append-le, take_all}
use Rattle.std.proofs.lemmas.Bool.{false≢true, and_from, and_parts}
use Rattle.std.proofs.lemmas.List.Elements.{All-nil, All-cons, All-head, All-tail, All-contains}
use Rattle.std.proofs.lemmas.Option.{none-some, same_Some, slice_get_within, get_or_from_slice_get}
use Rattle.write_history.specs.History.{Write, Image, History, AreInTime, AreLater, names, sets_of}
use Rattle.write_history.specs.Slots.{writes_since}
use Rattle.diff_area.specs.declared.table_record.Record.{Record}
use Rattle.diff_map.specs.Copies.{AreImages as ArePlaced}
use Rattle.cow_volume.specs.StandsFor.{GroupValue, AreImages, IsVolume, StandsFor, is_named, record_of}
use Rattle.cow_volume.specs.Calls.{is_among, sets_in}
use Rattle.cow_volume.specs.Changes.{is_of}
use Rattle.cow_volume.specs.Resuming.{AllHaveImages, NoneTell}
use Rattle.cow_volume.proofs.Group.{same_number, number_is}
use Rattle.cow_volume.proofs.Rows.{used_is}
use Rattle.cow_volume.proofs.Merging.{is_of-it}

-- ## the writes after one image

-- a write of a block, with bytes that nothing is said of
abbrev unknown : ℕ → Write
unknown b = record { block = b; bytes = [] }

-- of each block of which the image of a set has a copy
abbrev recorded : ℕ → ℕ → List Record → List Write
recorded v set [] = []
recorded v set (r ∷ rs) = if is_of v set r then unknown r.block ∷ recorded v set rs else recorded v set rs

named-recorded : (v set b slot : ℕ) (records : List Record) → slice_get records slot ≡ Some (record_of v set b) → names (recorded v set records) b ≡ true
named-recorded v set b slot [] at = absurd (none-some (record_of v set b) at)
named-recorded v set b zero (r ∷ rs) at =
    let is : r ≡ record_of v set b = same_Some r (record_of v set b) at in
    ap (λ (x : Record). names (recorded v set (x ∷ rs)) b) is
    ∙ ap (λ (t : Bool). names (if t then unknown b ∷ recorded v set rs else recorded v set rs) b) (is_of-it v set b)
    ∙ ap (λ (t : Bool). t || names (recorded v set rs) b) (number_is b)
named-recorded v set b (suc slot) (r ∷ rs) at = grind (arith, named-recorded v set b slot rs at)

-- a slot has the copy of block b
abbrev HasRow : ℕ → ℕ → ℕ → List Record → Type 0
HasRow v set b records = (slot : ℕ) × (slice_get records slot ≡ Some (record_of v set b))

row_next : (v set b : ℕ) (r : Record) (rs : List Record) → HasRow v set b rs → HasRow v set b (r ∷ rs)
row_next v set b r rs at = (suc at.0, at.1)

row_here : (v set b : ℕ) (r : Record) (rs : List Record) → is_of v set r ≡ true → (r.block == b) ≡ true → HasRow v set b (r ∷ rs)
row_here v set b r rs own is = grind arith

recorded-named : (v set b : ℕ) (records : List Record) → names (recorded v set records) b ≡ true → HasRow v set b records
recorded-named v set b [] e = absurd (false≢true e)
recorded-named v set b (r ∷ rs) e = by_test (is_of v set r) refl (r.block == b) refl e (λ more. row_next v set b r rs (recorded-named v set b rs more)) where
  by_test : (t : Bool) → is_of v set r ≡ t → (s : Bool) → (r.block == b) ≡ s → names (if t then unknown r.block ∷ recorded v set rs else recorded v set rs) b ≡ true
      → (names (recorded v set rs) b ≡ true → HasRow v set b (r ∷ rs)) → HasRow v set b (r ∷ rs)
  by_test true own true is more further = row_here v set b r rs own is
  by_test true own false is more further = further (sym (ap (λ (s : Bool). s || names (recorded v set rs) b) is) ∙ more)
  by_test false other s is more further = further more

-- ## a volume

abbrev all_recorded : ℕ → List Record → List ℕ → List Write
all_recorded v records [] = []
all_recorded v records (set ∷ sets) = recorded v set records ++ all_recorded v records sets

-- the images of these sets, the first at this point
abbrev images_at : ℕ → List Record → ℕ → List ℕ → List Image
images_at v records point [] = []
images_at v records point (set ∷ sets) = record { set = set; point = point } ∷ images_at v records (point + length (recorded v set records)) sets

abbrev some_history : ℕ → List Record → List ℕ → History
some_history v records sets = record { writes = all_recorded v records sets; images = images_at v records 0 sets }

sets_are : (v : ℕ) (records : List Record) (point : ℕ) (sets : List ℕ) → sets_of (images_at v records point sets) ≡ sets
sets_are v records point [] = refl
sets_are v records point (set ∷ sets) = ap (λ xs. set ∷ xs) (sets_are v records (point + length (recorded v set records)) sets)

are_later : (v : ℕ) (records : List Record) (i : Image) (point : ℕ) (sets : List ℕ) → All (λ s. i.set < s) sets → i.point ≤ point → AreLater i (images_at v records point sets)
are_later v records i point [] above low = tt
are_later v records i point (set ∷ sets) above low =
    (above 0 set (omega arith), low, are_later v records i (point + length (recorded v set records)) sets (λ k d inside. above (suc k) d (omega arith)) (omega arith))

are_in_time : (v : ℕ) (records : List Record) (n point : ℕ) (sets : List ℕ) → AllPairs (λ older newer. older < newer) sets → point + length (all_recorded v records sets) ≤ n
    → AreInTime n (images_at v records point sets)
are_in_time v records n point [] rise room = tt
are_in_time v records n point (set ∷ sets) rise room =
    let long = length-append (recorded v set records) (all_recorded v records sets) in
    let within : point + length (recorded v set records ++ all_recorded v records sets) ≤ n = room in (
      omega arith,
      are_later v records (record { set = set; point = point }) (point + length (recorded v set records)) sets (λ k d inside. rise 0 (suc k) d (omega arith) (omega arith)) (omega arith),
      are_in_time v records n (point + length (recorded v set records)) sets (λ i j d low inside. rise (suc i) (suc j) d (omega arith) (omega arith)) (omega arith),
    )

above_zero : (v : ℕ) (records : List Record) (point : ℕ) (sets : List ℕ) → All (λ s. 0 < s) sets → All (λ (i : Image). 0 < i.set) (images_at v records point sets)
above_zero v records point [] above = All-nil (λ (i : Image). 0 < i.set)
above_zero v records point (set ∷ sets) above =
    All-cons (λ (i : Image). 0 < i.set) (record { set = set; point = point }) (images_at v records (point + length (recorded v set records)) sets) (All-head (λ s. 0 < s) set sets above)
    (above_zero v records (point + length (recorded v set records)) sets (All-tail (λ s. 0 < s) set sets above))

length-images : (v : ℕ) (records : List Record) (point : ℕ) (sets : List ℕ) → length (images_at v records point sets) ≡ length sets
length-images v records point [] = refl
length-images v records point (set ∷ sets) = ap suc (length-images v records (point + length (recorded v set records)) sets)

are_images : (v : ℕ) (records : List Record) (sets : List ℕ) → ArePlaced sets → AreImages (length (all_recorded v records sets)) (images_at v records 0 sets)
are_images v records sets placed = grind (arith, are_in_time, above_zero, length-images)

-- the writes up to the next image
shorter : (a b : ℕ) → (a + b) - a ≡ b
shorter a b = omega arith

since : (v : ℕ) (records : List Record) (before : List Write) (set : ℕ) (sets : List ℕ)
    → writes_since (before ++ (recorded v set records ++ all_recorded v records sets)) (length before)
    (images_at v records (length before + length (recorded v set records)) sets) ≡ recorded v set records
since v records before set [] = drop-append_seam before (recorded v set records ++ []) ∙ append-nil (recorded v set records)
since v records before set (next ∷ sets) = grind (arith, shorter, drop-append_seam, take-append-le, take_all)

-- the writes before are more by those of the next image
grown : (v : ℕ) (records : List Record) (before own : List Write) (sets : List ℕ) (set b : ℕ)
    → is_named ((before ++ own) ++ all_recorded v records sets) (images_at v records (length (before ++ own)) sets) set b
    ≡ is_named (before ++ (own ++ all_recorded v records sets)) (images_at v records (length before + length own) sets) set b
grown v records before own sets set b =
    ap (λ (ws : List Write). is_named ws (images_at v records (length (before ++ own)) sets) set b) (append_assoc before own (all_recorded v records sets))
    ∙ ap (λ k. is_named (before ++ (own ++ all_recorded v records sets)) (images_at v records k sets) set b) (length-append before own)

-- an image names just the blocks of its records
names-is : (v : ℕ) (records : List Record) (before : List Write) (sets : List ℕ) (set b : ℕ)
    → is_named (before ++ all_recorded v records sets) (images_at v records (length before) sets) set b ≡ (is_among set sets && names (recorded v set records) b)
names-is v records before [] set b = refl
names-is v records before (s ∷ sets) set b = by_test (s == set) refl
    (sym (grown v records before (recorded v s records) sets set b) ∙ names-is v records (before ++ recorded v s records) sets set b) where
      by_test : (t : Bool) → (s == set) ≡ t
          → is_named (before ++ (recorded v s records ++ all_recorded v records sets)) (images_at v records (length before + length (recorded v s records)) sets) set b
          ≡ (is_among set sets && names (recorded v set records) b)
          → is_named (before ++ (recorded v s records ++ all_recorded v records sets)) (images_at v records (length before) (s ∷ sets)) set b
          ≡ (((s == set) || is_among set sets) && names (recorded v set records) b)
      by_test true e further =
          ap (λ (t : Bool). if t then names
          (writes_since (before ++ (recorded v s records ++ all_recorded v records sets)) (length before) (images_at v records (length before + length (recorded v s records)) sets)) b
          else is_named (before ++ (recorded v s records ++ all_recorded v records sets)) (images_at v records (length before + length (recorded v s records)) sets) set b) e
          ∙ ap (λ (ws : List Write). names ws b) (since v records before s sets)
          ∙ ap (λ k. names (recorded v k records) b) (same_number s set e)
          ∙ sym (ap (λ (t : Bool). (t || is_among set sets) && names (recorded v set records) b) e)
      by_test false e further =
          ap (λ (t : Bool). if t then names
          (writes_since (before ++ (recorded v s records ++ all_recorded v records sets)) (length before) (images_at v records (length before + length (recorded v s records)) sets)) b
          else is_named (before ++ (recorded v s records ++ all_recorded v records sets)) (images_at v records (length before + length (recorded v s records)) sets) set b) e
          ∙ further
          ∙ sym (ap (λ (t : Bool). (t || is_among set sets) && names (recorded v set records) b) e)

is_volume : (slots : Option (List (List ℕ))) (records : List Record) (images : List (List ℕ)) (v n : ℕ) (sets : List ℕ) → ArePlaced sets → AllHaveImages records images → slice_get images v ≡ Some sets
    → IsVolume None slots records v n sets (some_history v records sets)
is_volume slots records images v n sets placed have at = record {
  blocks = tt;
  sets_are = sym (sets_are v records 0 sets);
  images = are_images v records sets placed;
  named = λ slot set b above row. names-is v records [] sets set b
      ∙ and_from (is_among set sets) (names (recorded v set records) b)
      (sym (ap (λ (o : Option (List ℕ)). is_among set (sets_in o)) at) ∙ have slot (record_of v set b) row (used_is (record_of v set b) above)) (named-recorded v set b slot records row);
  recorded = λ set b low named. recorded-named v set b records (and_parts (is_among set sets) (names (recorded v set records) b) (sym (names-is v records [] sets set b) ∙ named)).1;
  copied = λ slot set b p row point tells. absurd (false≢true tells);
}

-- ## the group

abbrev histories_from : ℕ → List Record → List (List ℕ) → List History
histories_from v records [] = []
histories_from v records (sets ∷ images) = some_history v records sets ∷ histories_from (v + 1) records images

length-histories : (v : ℕ) (records : List Record) (images : List (List ℕ)) → length (histories_from v records images) ≡ length images
length-histories v records [] = refl
length-histories v records (sets ∷ images) = ap suc (length-histories (v + 1) records images)

history-at : (first : ℕ) (records : List Record) (images : List (List ℕ)) (k : ℕ) (sets : List ℕ) (h : History) → slice_get images k ≡ Some sets
    → slice_get (histories_from first records images) k ≡ Some h → some_history (first + k) records sets ≡ h
history-at first records [] k sets h at is = absurd (none-some sets at)
history-at first records (other ∷ images) zero sets h at is =
    let none_more : first + 0 ≡ first = omega arith in
    ap (λ v. some_history v records sets) none_more ∙ ap (some_history first records) (sym (same_Some other sets at)) ∙ same_Some (some_history first records other) h is
history-at first records (other ∷ images) (suc k) sets h at is =
    let one_more : first + suc k ≡ (first + 1) + k = omega arith in
    ap (λ v. some_history v records sets) one_more ∙ history-at (first + 1) records images k sets h at is

zero_more : (v : ℕ) → v ≡ 0 + v
zero_more v = omega arith

pub some_stand : {D : Type 0} (told : D → Option (List (List ℕ))) (g : GroupValue D) → length g.devices ≡ length g.area.volumes → length g.images ≡ length g.area.volumes
    → All ArePlaced g.images → AllHaveImages g.area.records g.images → NoneTell told g.devices g.area.device → (hs : List History) × StandsFor told g hs
some_stand told g many lists placed have none = (
  histories_from 0 g.area.records g.images,
  record {
    devices = many;
    images = lists;
    histories = length-histories 0 g.area.records g.images ∙ lists;
    each = λ v n d sets h size device at history.
        let slots = told g.area.device in
        let is : some_history v g.area.records sets ≡ h = ap (λ k. some_history k g.area.records sets) (zero_more v) ∙ history-at 0 g.area.records g.images v sets h at history in
        subst (λ (o : Option (List (List ℕ))). IsVolume o slots g.area.records v n sets h) (sym (none v d device))
        (subst (IsVolume None slots g.area.records v n sets) is (is_volume slots g.area.records g.images v n sets (placed_at v sets at) have at));
  },
) where
  placed_at : (v : ℕ) (sets : List ℕ) → slice_get g.images v ≡ Some sets → ArePlaced sets
  placed_at v sets at = All-contains ArePlaced g.images sets placed (v, slice_get_within g.images v sets at, get_or_from_slice_get g.images v sets sets at)

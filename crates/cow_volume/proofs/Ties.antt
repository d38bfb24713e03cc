-- What the parts that find copies keep in step.
use Rattle.std.proofs.Common.{ℕ, zero, suc, ◌≡◌, ◌≢◌, ◌<◌, ◌+◌, ◌-◌, Bool, true, false, not, ◌&&◌, List, [], ◌∷◌, length, map, Option, Some, None, slice_get, slice_set, refl, sym, ap, ◌∙◌, subst}
use Rattle.std.proofs.Common.{arith, inl, inr, Contains}
use Rattle.std.specs.Prelude.{if◌then◌else◌, IfSome, IsNone, IsTrue, ◌↔◌}
use Rattle.std.proofs.lemmas.Bool.{false≢true, cases_lt}
use Rattle.std.proofs.lemmas.List.{length-set, map-set}
use Rattle.std.proofs.lemmas.List.Sums.{sum_by-cons}
use Rattle.std.proofs.lemmas.Option.{none-some, same_Some, slice_get-map, slice_get_within}
use Rattle.slot_pool.specs.Slots.{IsLowestFree, free_count}
use Rattle.diff_area.proofs.ByPlace.{get-set}
use Rattle.diff_area.specs.Format.{free, is_free, used_in}
use Rattle.diff_area.specs.declared.table_record.Record.{Record}
use Rattle.diff_map.specs.Copies.{copied_at, copy_of, HasCopy, IsFound, IsAbsent, MapValue, IsMap, AreImages, newest}
use Rattle.diff_map.specs.Groups.{IsUnnoted, map_at}
use Rattle.diff_map.specs.declared.copied.Copied.{Copied}
use Rattle.cow_volume.specs.StandsFor.{record_of}
use Rattle.cow_volume.specs.Changes.{IsFirstCopy, HasNoCopy}
use Rattle.cow_volume.specs.Calls.{sets_in}
use Rattle.cow_volume.specs.Room.{lacks_copy, is_full}
use Rattle.cow_volume.specs.Parts.{copied_for, AreTied, AreOfImages, images_of}
use Rattle.cow_volume.proofs.Following.{get_map}
use Rattle.cow_volume.proofs.Rows.{used_is, copied_for-other, copied_for-is, record_of_row, row_of_record, map-from, has_from_slot, absent_copy, copy_absent}
use Rattle.cow_volume.proofs.Rows.{newest_has_record, lacks_newest}

-- ## a volume's map

pub has_map : (volumes : List ℕ) (records : List Record) (maps : List MapValue) (pool : List Bool) (v : ℕ) → AreTied volumes records maps pool → v < length volumes → v < length maps
has_map volumes records maps pool v tied within = let same = tied.number in omega arith

pub tied_at : (volumes : List ℕ) (records : List Record) (maps : List MapValue) (pool : List Bool) (v : ℕ) → AreTied volumes records maps pool → v < length volumes
    → slice_get maps v ≡ Some (map_at maps v)
tied_at volumes records maps pool v tied within = get_map maps v (has_map volumes records maps pool v tied within)

pub images_at : (maps : List MapValue) (v : ℕ) (m : MapValue) → slice_get maps v ≡ Some m → slice_get (images_of maps) v ≡ Some m.images
images_at maps v m at = grind (arith, slice_get-map)

-- ## what is found

pub found_if : (o : Option ℕ) (copies : List (Option Copied)) (records : List Record) (v set block : ℕ) → copies ≡ map (copied_for v) records → 0 < set → IfSome o (IsFound copies set block)
    → IfSome o (IsFirstCopy records v set block)
found_if o copies records v set block e some f = grind (arith, record_of_row, row_of_record)

pub within_if : (o : Option ℕ) (records : List Record) (v set block : ℕ) → IfSome o (IsFirstCopy records v set block) → IfSome o (λ slot. slot < length records)
within_if o records v set block f = grind (arith, slice_get_within)

pub none_if : (o : Option ℕ) (copies : List (Option Copied)) (records : List Record) (v set block : ℕ) → copies ≡ map (copied_for v) records → 0 < set → (IsNone o ↔ IsAbsent copies set block)
    → (IsNone o ↔ HasNoCopy records v set block)
none_if o copies records v set block e some h = (
  λ none. absent_copy v records set block some (subst (λ (cs : List (Option Copied)). IsAbsent cs set block) e (h.0 none)),
  λ none. h.1 (subst (λ (cs : List (Option Copied)). IsAbsent cs set block) (sym e) (copy_absent v records set block none)),
)

-- ## whether the newest image has a copy

pub lacks_none : (records : List Record) (v : ℕ) (images : List ℕ) (b : ℕ) → length images ≡ 0 → false ≡ lacks_copy records v images b
lacks_none records v [] b none = refl
lacks_none records v (s ∷ rest) b none = absurd (omega arith)

pub lacks_if : (records : List Record) (copies : List (Option Copied)) (v : ℕ) (images : List ℕ) (b : ℕ) (has : Bool) → copies ≡ map (copied_for v) records → 0 < length images → 0 < newest images
    → (IsTrue has ↔ HasCopy copies (newest images) b) → not has ≡ lacks_copy records v images b
lacks_if records copies v images b has e some above h =
    ap not (newest_has_record records v (newest images) b has above (subst (λ (cs : List (Option Copied)). IsTrue has ↔ HasCopy cs (newest images) b) e h)) ∙ sym (lacks_newest records v images b some)

-- ## the pool

more_free : (t : Bool) (free_all used_all free_rest used_rest long : ℕ) → free_all ≡ (if t then 1 else 0) + free_rest → used_all ≡ (if not t then 1 else 0) + used_rest → free_rest + used_rest ≡ long
    → free_all + used_all ≡ suc long
more_free t free_all used_all free_rest used_rest long a b rest = grind arith

pub free_and_used : (records : List Record) → free_count (map is_free records) + used_in records ≡ length records
free_and_used [] = refl
free_and_used (r ∷ rs) = more_free (is_free r) (free_count (map is_free (r ∷ rs))) (used_in (r ∷ rs)) (free_count (map is_free rs)) (used_in rs) (length rs)
    (sum_by-cons (λ (b : Bool). if b then 1 else 0) (is_free r) (map is_free rs)) (sum_by-cons (λ (q : Record). if not (is_free q) then 1 else 0) r rs) (free_and_used rs)

pub newest_above : (images : List ℕ) → AreImages images → 0 < length images → 0 < newest images
newest_above images are some = (are.above_zero (length images - 1) 0 (omega arith)).0

pub full_if : (records : List Record) (free : ℕ) → free ≡ free_count (map is_free records) → free ≡ 0 → is_full records ≡ true
full_if records free count none = grind (arith, free_and_used)

pub not_full_if : (records : List Record) (free : ℕ) → free ≡ free_count (map is_free records) → free ≢ 0 → is_full records ≡ false
not_full_if records free count some = grind (arith, free_and_used)

pub full_only : (records : List Record) → is_full records ≡ true → free_count (map is_free records) ≡ 0
full_only records h = grind (arith, free_and_used)

pub and_true : (t f : Bool) → f ≡ true → t ≡ (t && f)
and_true t f e = grind arith

pub and_false : (t f : Bool) → f ≡ false → false ≡ (t && f)
and_false t f e = grind arith

pub lowest_if : (o : Option ℕ) (pool : List Bool) (records : List Record) → pool ≡ map is_free records → IfSome o (IsLowestFree pool) → IfSome o (IsLowestFree (map is_free records))
lowest_if o pool records e h = grind arith

-- ## a slot is noted

first_free : (t : Bool) (all rest : ℕ) → t ≡ true → all ≡ (if t then 1 else 0) + rest → 0 < all
first_free t all rest e h = grind arith

more_than : (t : Bool) (all rest : ℕ) → 0 < rest → all ≡ (if t then 1 else 0) + rest → 0 < all
more_than t all rest some h = grind arith

free_at : (records : List Record) (slot : ℕ) → slice_get (map is_free records) slot ≡ Some true → (r : Record) × (slice_get records slot ≡ Some r) × (is_free r ≡ true)
free_at [] slot h = absurd (none-some true h)
free_at (r ∷ rs) zero h = (r, refl, same_Some (is_free r) true h)
free_at (r ∷ rs) (suc slot) h = free_at rs slot h

pub free_is : (r : Record) → is_free r ≡ true → r ≡ free
free_is r h = grind arith

pub free_slot_is : (records : List Record) (slot : ℕ) → IsLowestFree (map is_free records) slot → slice_get records slot ≡ Some free
free_slot_is records slot low = let at = free_at records slot low.free in at.1 ∙ ap (λ (r : Record). Some r) (free_is at.0 at.2)

pub some_free : (pool : List Bool) (slot : ℕ) → slice_get pool slot ≡ Some true → 0 < free_count pool
some_free [] slot h = absurd (none-some true h)
some_free (b ∷ bs) zero h = first_free b (free_count (b ∷ bs)) (free_count bs) (same_Some b true h) (sum_by-cons (λ (t : Bool). if t then 1 else 0) b bs)
some_free (b ∷ bs) (suc slot) h = more_than b (free_count (b ∷ bs)) (free_count bs) (some_free bs slot h) (sum_by-cons (λ (t : Bool). if t then 1 else 0) b bs)

-- the slot that is taken is the lowest free one
pub taken_lowest : (o : Option ℕ) (old new : List Bool) (slot : ℕ) → IsLowestFree old slot → IfSome o (IsLowestFree old) → IfSome o (λ s. new ≡ slice_set old s false)
    → (IsNone o ↔ (free_count old ≡ 0)) → new ≡ slice_set old slot false
taken_lowest o old new slot low took is none = grind (arith, some_free, cases_lt, same_Some)

pub unnoted : (records : List Record) (copies : List (Option Copied)) (v slot : ℕ) → copies ≡ map (copied_for v) records → slice_get records slot ≡ Some free → slice_get copies slot ≡ Some None
unnoted records copies v slot e h = ap (λ (cs : List (Option Copied)). slice_get cs slot) e ∙ mapped records slot h where
  mapped : (rs : List Record) (k : ℕ) → slice_get rs k ≡ Some free → slice_get (map (copied_for v) rs) k ≡ Some None
  mapped [] k h = absurd (none-some free h)
  mapped (q ∷ rs) zero h = ap (λ (x : Record). Some (copied_for v x)) (same_Some q free h)
  mapped (q ∷ rs) (suc k) h = mapped rs k h

pub unnoted_all : (volumes : List ℕ) (records : List Record) (maps : List MapValue) (pool : List Bool) (slot : ℕ)
    → AreTied volumes records maps pool → slice_get records slot ≡ Some free → IsUnnoted maps slot
unnoted_all volumes records maps pool slot tied h = λ u m at. unnoted records m.copies u slot (tied.each u m at).copies h

-- the newest image lacks the copy: no record is that of it, and the map has none
pub lacks_some : (records : List Record) (v : ℕ) (images : List ℕ) (b : ℕ) → lacks_copy records v images b ≡ true → 0 < length images
lacks_some records v [] b h = absurd (false≢true h)
lacks_some records v (s ∷ rest) b h = omega arith

pub lacks_record : (records : List Record) (v : ℕ) (images : List ℕ) (b slot : ℕ) → lacks_copy records v images b ≡ true → slice_get records slot ≡ Some (record_of v (newest images) b) → ⊥
lacks_record records v images b slot h at = grind (arith, has_from_slot, lacks_newest, lacks_some)

pub lacks_row : (records : List Record) (copies : List (Option Copied)) (v : ℕ) (images : List ℕ) (b : ℕ) → copies ≡ map (copied_for v) records → lacks_copy records v images b ≡ true
    → HasCopy copies (newest images) b → ⊥
lacks_row records copies v images b e h has = grind (arith, lacks_record, record_of_row)

-- what is noted there, for the maps
set_map : (v : ℕ) (records : List Record) (slot : ℕ) (r : Record) → slice_get records slot ≡ Some free → copied_for v r ≡ None
    → map (copied_for v) (slice_set records slot r) ≡ map (copied_for v) records
set_map v [] slot r h none = refl
set_map v (q ∷ rs) zero r h none = ap (λ (x : Option Copied). x ∷ map (copied_for v) rs) (none ∙ sym (ap (copied_for v) (same_Some q free h)))
set_map v (q ∷ rs) (suc slot) r h none = ap (λ xs. copied_for v q ∷ xs) (set_map v rs slot r h none)

pub tied_noted : (volumes : List ℕ) (records : List Record) (maps : List MapValue) (pool new_pool : List Bool) (v slot set block : ℕ) (m n : MapValue) → AreTied volumes records maps pool
    → slice_get maps v ≡ Some m → slice_get records slot ≡ Some free → 0 < set → n.blocks ≡ m.blocks → n.copies ≡ slice_set m.copies slot (Some (copy_of set block)) → IsMap n
    → new_pool ≡ slice_set pool slot false → AreTied volumes (slice_set records slot (record_of v set block)) (slice_set maps v n) new_pool
tied_noted volumes records maps pool new_pool v slot set block m n tied at is_free_slot some blocks_are copies_are is_map pool_are = record {
  number = length-set maps v n ∙ tied.number;
  each = λ u w h. elim (get-set maps v u n w h) [
    | inl own ↦ record {
      blocks = ap (λ (k : ℕ). slice_get volumes k) own.0 ∙ (tied.each v m at).blocks ∙ ap (λ (k : ℕ). Some k) (sym (ap (λ (x : MapValue). x.blocks) own.1 ∙ blocks_are));
      copies = ap (λ (x : MapValue). x.copies) own.1 ∙ copies_are ∙ ap (λ (cs : List (Option Copied)). slice_set cs slot (Some (copy_of set block))) (tied.each v m at).copies
          ∙ ap (λ (o : Option Copied). slice_set (map (copied_for v) records) slot o) (sym (copied_for-is v (record_of v set block) some refl))
          ∙ sym (map-set (copied_for v) records slot (record_of v set block)) ∙ ap (λ (k : ℕ). map (copied_for k) (slice_set records slot (record_of v set block))) (sym own.0);
      valid = subst IsMap (sym own.1) is_map;
    }
    | inr other ↦ record {
      blocks = (tied.each u w other.1).blocks;
      copies = (tied.each u w other.1).copies ∙ sym (set_map u records slot (record_of v set block) is_free_slot (copied_for-other u (record_of v set block) (λ same. other.0 (sym same))));
      valid = (tied.each u w other.1).valid;
    }
  ];
  pool_is = pool_are ∙ ap (λ (p : List Bool). slice_set p slot false) tied.pool_is ∙ ap (λ (b : Bool). slice_set (map is_free records) slot b) (sym (used_is (record_of v set block) some))
      ∙ sym (map-set is_free records slot (record_of v set block));
}

-- an image was added
pub tied_added : (volumes : List ℕ) (records : List Record) (maps : List MapValue) (pool : List Bool) (v : ℕ) (m n : MapValue) → AreTied volumes records maps pool → slice_get maps v ≡ Some m
    → n.blocks ≡ m.blocks → n.copies ≡ m.copies → IsMap n → AreTied volumes records (slice_set maps v n) pool
tied_added volumes records maps pool v m n tied at blocks_are copies_are is_map = record {
  number = length-set maps v n ∙ tied.number;
  each = λ u w h. elim (get-set maps v u n w h) [
    | inl own ↦ record {
      blocks = ap (λ (k : ℕ). slice_get volumes k) own.0 ∙ (tied.each v m at).blocks ∙ ap (λ (k : ℕ). Some k) (sym (ap (λ (x : MapValue). x.blocks) own.1 ∙ blocks_are));
      copies = ap (λ (x : MapValue). x.copies) own.1 ∙ copies_are ∙ (tied.each v m at).copies ∙ ap (λ (k : ℕ). map (copied_for k) records) (sym own.0);
      valid = subst IsMap (sym own.1) is_map;
    }
    | inr other ↦ tied.each u w other.1
  ];
  pool_is = tied.pool_is;
}

pub noted_lacks : (records : List Record) (maps : List MapValue) (v b : ℕ) (m : MapValue) → slice_get maps v ≡ Some m → lacks_copy records v (sets_in (slice_get (images_of maps) v)) b ≡ true
    → lacks_copy records v m.images b ≡ true
noted_lacks records maps v b m at h = ap (λ (s : List ℕ). lacks_copy records v s b) (sym (ap sets_in (images_at maps v m at))) ∙ h

-- ## what all maps keep

pub of_images : (volumes : List ℕ) (records : List Record) (maps : List MapValue) (pool : List Bool) → AreTied volumes records maps pool → AreOfImages records (images_of maps)
of_images volumes records maps pool tied = record {
  sets = λ v sets h. let from = map-from (λ (m : MapValue). m.images) maps v sets h in subst AreImages from.2 (tied.each v from.0 from.1).valid.images;
  each = λ slot r at some sets h.
      let from = map-from (λ (m : MapValue). m.images) maps r.volume sets h in
      let its = tied.each r.volume from.0 from.1 in
      let row : copied_at from.0.copies slot ≡ Some (copy_of r.set r.block) = ap (λ (cs : List (Option Copied)). copied_at cs slot) its.copies
      ∙ row_of_record r.volume records slot r.set r.block some at in
      subst (λ (s : List ℕ). Contains s r.set) from.2 (its.valid.of_images slot (copy_of r.set r.block) row);
}

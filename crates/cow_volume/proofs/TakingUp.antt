-- The parts that find copies: where no slot is used, and those of a group that is taken up again, slot after slot.
use Rattle.std.proofs.Common.{ℕ, zero, suc, ◌≡◌, true, List, [], ◌∷◌, length, map, replicate, Option, Some, None, slice_get, refl, sym, ap, ◌∙◌, subst, arith}
use Rattle.std.proofs.Common.{◌<◌, ◌≤◌, ◌+◌, Bool, false, slice_set, inl, inr, Contains}
use Rattle.std.proofs.lemmas.List.{length-map, length-set}
use Rattle.std.proofs.lemmas.List.Elements.{All-contains}
use Rattle.std.proofs.lemmas.Option.{none-some, same_Some, slice_get_within, get_or_from_slice_get}
use Rattle.std.specs.Prelude.{All, IfSome, IsNone, ◌↔◌}
use Rattle.block_data.specs.BlockBytes.{zeros}
use Rattle.slot_pool.specs.Slots.{IsLowestFree, free_count}
use Rattle.write_history.specs.History.{History, fresh}
use Rattle.diff_map.specs.Copies.{copied_at, copy_of, HasCopy, MapValue, IsMap}
use Rattle.diff_map.specs.Groups.{new_map, IsUnnoted, map_at, with_images, with_row}
use Rattle.diff_map.specs.declared.copied.Copied.{Copied}
use Rattle.diff_area.specs.AreaValue.{AreaValue}
use Rattle.diff_area.specs.Format.{free, is_free, AreRecords}
use Rattle.diff_area.specs.declared.table_record.Record.{Record}
use Rattle.diff_area.proofs.ByPlace.{get-set, get-set_other}
use Rattle.cow_volume.specs.Calls.{sets_in, is_among}
use Rattle.cow_volume.specs.Resuming.{HasImage, AllHaveImages, mixed, so_far, unnoted, unused, used, IsTakenUp, AreTakenUp}
use Rattle.cow_volume.specs.StandsFor.{StandsFor}
use Rattle.cow_volume.specs.Parts.{copied_for, IsMapOf, AreTied, images_of, AreOfImages}
use Rattle.cow_volume.proofs.Counting.{used_record, within}
use Rattle.cow_volume.proofs.Kept.{group_fresh}
use Rattle.cow_volume.proofs.DeviceCalls.{size_row}
use Rattle.cow_volume.proofs.GroupReverts.{among_of, contains_of}
use Rattle.cow_volume.proofs.Following.{get_map, valid_now}
use Rattle.cow_volume.proofs.Rows.{mixed-all, mixed-set, mixed-same, mixed-before, mixed-from, map-from, get_inside, copied_for-is, copied_for-other}
use Rattle.cow_volume.proofs.Rows.{copied_for-free, record-from}
use Rattle.cow_volume.proofs.Ties.{free_is, taken_lowest}

-- ## The parts that find copies, where no slot is used.

pub none_at : (k slot : ℕ) (c : Copied) → copied_at (replicate k None) slot ≡ Some c → ⊥
none_at zero slot c h = none-some c h
none_at (suc k) zero c h = none-some c h
none_at (suc k) (suc slot) c h = none_at k slot c h

pub new_is_map : (k n : ℕ) → IsMap (new_map k n)
new_is_map k n = grind (arith, none_at)

rows_new : (v k : ℕ) → replicate k None ≡ map (copied_for v) (replicate k free)
rows_new v zero = refl
rows_new v (suc k) = ap (λ xs. None ∷ xs) (rows_new v k)

pool_new : (k : ℕ) → replicate k true ≡ map is_free (replicate k free)
pool_new zero = refl
pool_new (suc k) = ap (λ xs. true ∷ xs) (pool_new k)

pub tied_new : (volumes : List ℕ) (records : List Record) → records ≡ replicate (length records) free
    → AreTied volumes records (map (new_map (length records)) volumes) (replicate (length records) true)
tied_new volumes records is = record {
  number = length-map volumes (new_map (length records));
  each = λ v m h.
      let from = map-from (new_map (length records)) volumes v m h in
      subst (λ (x : MapValue). IsMapOf volumes records v x) from.2 (record {
        blocks = from.1;
        copies = rows_new v (length records) ∙ ap (map (copied_for v)) (sym is);
        valid = new_is_map (length records) from.0;
      });
  pool_is = pool_new (length records) ∙ ap (map is_free) (sym is);
}

pub images_new : (volumes : List ℕ) (k : ℕ) → images_of (map (new_map k) volumes) ≡ map (λ n. []) volumes
images_new [] k = refl
images_new (n ∷ volumes) k = ap (λ xs. [] ∷ xs) (images_new volumes k)

same_for_each : {X : Type 0} (volumes : List ℕ) (x : X) → map (λ n. x) volumes ≡ replicate (length volumes) x
same_for_each [] x = refl
same_for_each (n ∷ volumes) x = ap (λ xs. x ∷ xs) (same_for_each volumes x)

-- a new group stands for fresh histories
pub new_stands : {D : Type 0} (told : D → Option (List (List ℕ))) (size : D → ℕ) (devices : List D) (area : AreaValue D) → map size devices ≡ area.volumes
    → area.records ≡ replicate (length area.records) free
    → All (λ d. IfSome (told d) (λ blocks. blocks ≡ replicate (size d) zeros)) devices
    → StandsFor told (record { devices = devices; area = area; images = map (λ n. []) area.volumes }) (map (λ n. fresh) area.volumes)
new_stands {D = D} told size devices area fits is_free_all zeroed =
    let long : length devices ≡ length area.volumes = sym (length-map devices size) ∙ ap length fits in
    subst (λ (hs : List History). StandsFor told (record { devices = devices; area = area; images = map (λ n. []) area.volumes }) hs) (sym (same_for_each area.volumes fresh))
    (group_fresh told (record { devices = devices; area = area; images = map (λ n. []) area.volumes }) (length area.records) long
    (λ v n d volume device.
    let same : n ≡ size d = same_Some n (size d) (sym volume ∙ size_row size devices area.volumes v d fits device) in
    let has = zero_at v d device in
    subst (λ (k : ℕ). IfSome (told d) (λ blocks. blocks ≡ replicate k zeros)) (sym same) has)
    (same_for_each area.volumes []) is_free_all)
  where
    zero_at : (v : ℕ) (d : D) → slice_get devices v ≡ Some d → IfSome (told d) (λ blocks. blocks ≡ replicate (size d) zeros)
    zero_at v d at = All-contains (λ x. IfSome (told x) (λ blocks. blocks ≡ replicate (size x) zeros)) devices d zeroed (v, slice_get_within devices v d at, get_or_from_slice_get devices v d d at)

-- ## The maps and the pool of a group that is taken up again, slot after slot.

-- ## maps without copies

rows_without : (records : List Record) → replicate (length records) None ≡ map unnoted records
rows_without [] = refl
rows_without (r ∷ rs) = ap (λ xs. None ∷ xs) (rows_without rs)

pub map_begun : (volumes : List ℕ) (records : List Record) (images : List (List ℕ)) (v n slots : ℕ) (sets : List ℕ) (m : MapValue)
    → m ≡ record { blocks = n; images = sets; copies = replicate slots None } → slots ≡ length records
    → slice_get volumes v ≡ Some n → slice_get images v ≡ Some sets → IsMap m → IsTakenUp volumes records images 0 v m
map_begun volumes records images v n slots sets m is long blocks row valid = grind (arith, rows_without)

pub maps_begun : (volumes : List ℕ) (records : List Record) (images : List (List ℕ)) (slots : ℕ) (maps : List MapValue) → maps ≡ map (new_map slots) volumes → slots ≡ length records
    → length images ≡ length volumes → AreTakenUp volumes records (so_far 0 images) 0 (length volumes) maps
maps_begun volumes records images slots maps is long many = record {
  number = ap length is ∙ length-map volumes (new_map slots);
  each = λ v m h.
      let from = map-from (new_map slots) volumes v m (ap (λ (ms : List MapValue). slice_get ms v) (sym is) ∙ h) in
      let inside = slice_get_within volumes v from.0 from.1 in
      let sets = get_inside images v (omega arith) in
      map_begun volumes records (so_far 0 images) v from.0 slots [] m (sym from.2) long from.1 (mixed-from (λ s. s) (λ s. []) 0 images v sets.0 (omega arith) sets.1)
      (subst IsMap from.2 (new_is_map slots from.0));
}

pub none_yet : (volumes : List ℕ) (records : List Record) (images : List (List ℕ)) (k : ℕ) (maps : List MapValue) → AreTakenUp volumes records (so_far k images) 0 (length volumes) maps
    → length images ≡ length volumes → k < length maps → (map_at maps k).images ≡ []
none_yet volumes records images k maps up many inside =
    let number = up.number in
    let row = get_inside images k (omega arith) in
    same_Some (map_at maps k).images [] (sym (up.each k (map_at maps k) (get_map maps k inside)).sets ∙ mixed-from (λ s. s) (λ s. []) k images k row.0 (omega arith) row.1)

-- the images of the next volume are added
pub maps_added : (volumes : List ℕ) (records : List Record) (images : List (List ℕ)) (k : ℕ) (maps new : List MapValue) (sets : List ℕ)
    → AreTakenUp volumes records (so_far k images) 0 (length volumes) maps → slice_get images k ≡ Some sets → k < length maps → new ≡ slice_set maps k (with_images sets (map_at maps k))
    → IsMap (map_at new k) → AreTakenUp volumes records (so_far (k + 1) images) 0 (length volumes) new
maps_added volumes records images k maps new sets up row inside is valid = record {
  number = ap length is ∙ length-set maps k (with_images sets (map_at maps k)) ∙ up.number;
  each = λ u w h. elim (get-set maps k u (with_images sets (map_at maps k)) w (ap (λ (ms : List MapValue). slice_get ms u) (sym is) ∙ h)) [
    | inl own ↦ (
        let its = up.each k (map_at maps k) (get_map maps k inside) in
        let P : ℕ → MapValue → Type 0 = λ x y. IsTakenUp volumes records (so_far (k + 1) images) 0 x y in
        let one : P k (with_images sets (map_at maps k)) = record {
          blocks = its.blocks;
          sets = mixed-before (λ s. s) (λ s. []) (k + 1) images k sets (omega arith) row;
          copies = its.copies;
          valid = valid_now maps new k (with_images sets (map_at maps k)) inside is valid;
        } in
        subst (λ (x : ℕ). P x w) (sym own.0) (subst (P k) (sym own.1) one))
    | inr other ↦ (
        let its = up.each u w other.1 in
        record {
          blocks = its.blocks;
          sets = ap (λ (ss : List (List ℕ)). slice_get ss u) (mixed-set (λ s. s) (λ s. []) k images sets row) ∙ get-set_other (so_far k images) k u sets other.0 ∙ its.sets;
          copies = its.copies;
          valid = its.valid;
        })
  ];
}

pub maps_all : (volumes : List ℕ) (records : List Record) (images : List (List ℕ)) (k : ℕ) (maps : List MapValue) → length images ≤ k
    → AreTakenUp volumes records (so_far k images) 0 (length volumes) maps → AreTakenUp volumes records images 0 (length volumes) maps
maps_all volumes records images k maps all up = subst (λ (ss : List (List ℕ)). AreTakenUp volumes records ss 0 (length volumes) maps)
    (mixed-all (λ s. s) (λ s. []) k images all ∙ as_they_are images) up where
      as_they_are : (ss : List (List ℕ)) → map (λ s. s) ss ≡ ss
      as_they_are [] = refl
      as_they_are (s ∷ ss) = ap (λ xs. s ∷ xs) (as_they_are ss)

-- the map of no volume notes the slot of the next record
pub all_unnoted : (volumes : List ℕ) (records : List Record) (images : List (List ℕ)) (k count : ℕ) (maps : List MapValue) (r : Record) → slice_get records k ≡ Some r
    → AreTakenUp volumes records images k count maps → IsUnnoted maps k
all_unnoted volumes records images k count maps r at up = λ u m h.
    ap (λ (cs : List (Option Copied)). slice_get cs k) (up.each u m h).copies ∙ mixed-from (copied_for u) unnoted k records k r (omega arith) at

-- ## one record more

-- the row of the next record, where it is of no copy of the volume
pub map_same : (volumes : List ℕ) (records : List Record) (images : List (List ℕ)) (k v : ℕ) (m : MapValue) (r : Record) → slice_get records k ≡ Some r → copied_for v r ≡ None
    → IsTakenUp volumes records images k v m → IsTakenUp volumes records images (k + 1) v m
map_same volumes records images k v m r at none up = grind (arith, mixed-same)

pub maps_same : (volumes : List ℕ) (records : List Record) (images : List (List ℕ)) (k count : ℕ) (maps : List MapValue) (r : Record) → slice_get records k ≡ Some r → is_free r ≡ true
    → AreTakenUp volumes records images k count maps → AreTakenUp volumes records images (k + 1) count maps
maps_same volumes records images k count maps r at free up = record {
  number = up.number;
  each = λ v m h. map_same volumes records images k v m r at (ap (copied_for v) (free_is r free) ∙ copied_for-free v) (up.each v m h);
}

-- what the map of a record's volume needs so that it notes the slot
pub some_set : (volumes : List ℕ) (records : List Record) (k : ℕ) (r : Record) → AreRecords volumes records → slice_get records k ≡ Some r → is_free r ≡ false → 0 < r.set
some_set volumes records k r are at is_used = (are.each k r at (used_record r is_used)).set

-- an entry of the rows so far is of a record before
pub noted_before : (v : ℕ) (records : List Record) (k slot : ℕ) (c : Copied) → copied_at (mixed (copied_for v) unnoted k records) slot ≡ Some c
    → (r : Record) × (slot < k) × (slice_get records slot ≡ Some r) × (copied_for v r ≡ Some c)
noted_before v records zero slot c h = absurd (none_from records slot h) where
  none_from : (rs : List Record) (s : ℕ) → copied_at (map unnoted rs) s ≡ Some c → ⊥
  none_from [] s e = none-some c e
  none_from (q ∷ rs) zero e = none-some c e
  none_from (q ∷ rs) (suc s) e = none_from rs s e
noted_before v [] (suc k) slot c h = absurd (none-some c h)
noted_before v (q ∷ rs) (suc k) zero c h = (q, omega arith, refl, h)
noted_before v (q ∷ rs) (suc k) (suc slot) c h = let from = noted_before v rs k slot c h in (from.0, (let l = from.1 in omega arith), from.2, from.3)

pub map_lacks : (volumes : List ℕ) (records : List Record) (images : List (List ℕ)) (k : ℕ) (m : MapValue) (r : Record) → AreRecords volumes records → slice_get records k ≡ Some r → is_free r ≡ false
    → IsTakenUp volumes records images k r.volume m → HasCopy m.copies r.set r.block → ⊥
map_lacks volumes records images k m r are at is_used up has = grind (arith, noted_before, record-from, used_record)

pub map_has_image : (volumes : List ℕ) (records : List Record) (images : List (List ℕ)) (k : ℕ) (m : MapValue) (r : Record) → HasImage images r → is_free r ≡ false
    → IsTakenUp volumes records images k r.volume m → Contains m.images r.set
map_has_image volumes records images k m r has is_used up = grind (arith, contains_of)

pub map_in_range : (volumes : List ℕ) (records : List Record) (images : List (List ℕ)) (k : ℕ) (m : MapValue) (r : Record) → AreRecords volumes records → slice_get records k ≡ Some r
    → is_free r ≡ false → IsTakenUp volumes records images k r.volume m → r.block < m.blocks
map_in_range volumes records images k m r are at is_used up = within volumes records k m.blocks r.volume r are up.blocks at refl (some_set volumes records k r are at is_used)

-- the slot was noted there
pub maps_noted : (volumes : List ℕ) (records : List Record) (images : List (List ℕ)) (k count : ℕ) (maps new : List MapValue) (r : Record) → AreRecords volumes records
    → slice_get records k ≡ Some r → is_free r ≡ false → AreTakenUp volumes records images k count maps → r.volume < length maps
    → new ≡ slice_set maps r.volume (with_row k (Some (copy_of r.set r.block)) (map_at maps r.volume)) → IsMap (map_at new r.volume) → AreTakenUp volumes records images (k + 1) count new
maps_noted volumes records images k count maps new r are at is_used up inside set valid = record {
  number = ap length set ∙ length-set maps r.volume n ∙ up.number;
  each = λ u w h. elim (get-set maps r.volume u n w (ap (λ (ms : List MapValue). slice_get ms u) (sym set) ∙ h)) [
    | inl own ↦ (
        let its = up.each r.volume (map_at maps r.volume) (get_map maps r.volume inside) in
        let P : ℕ → MapValue → Type 0 = λ x y. IsTakenUp volumes records images (k + 1) x y in
        let one : P r.volume n = record {
          blocks = its.blocks;
          sets = its.sets;
          copies = ap (λ (cs : List (Option Copied)). slice_set cs k (Some (copy_of r.set r.block))) its.copies
              ∙ ap (λ (o : Option Copied). slice_set (mixed (copied_for r.volume) unnoted k records) k o) (sym (copied_for-is r.volume r (some_set volumes records k r are at is_used) refl))
              ∙ sym (mixed-set (copied_for r.volume) unnoted k records r at);
          valid = valid_now maps new r.volume n inside set valid;
        } in
        subst (λ (x : ℕ). P x w) (sym own.0) (subst (P r.volume) (sym own.1) one))
    | inr other ↦ map_same volumes records images k u w r at (copied_for-other u r (λ same. other.0 (sym same))) (up.each u w other.1)
  ];
} where
  n : MapValue
  n = with_row k (Some (copy_of r.set r.block)) (map_at maps r.volume)

-- ## which records have their image

pub all_more : (records : List Record) (images : List (List ℕ)) (k : ℕ) (r : Record) → ((slot : ℕ) (q : Record) → slot < k → slice_get records slot ≡ Some q → HasImage images q)
    → slice_get records k ≡ Some r → HasImage images r → (slot : ℕ) (q : Record) → slot < k + 1 → slice_get records slot ≡ Some q → HasImage images q
all_more records images k r before at has slot q low h = grind arith

-- where each record is of an image that its volume has, each has its image
pub all_have : (volumes : List ℕ) (records : List Record) (images : List (List ℕ)) → AreRecords volumes records → AreOfImages records images → length images ≡ length volumes
    → AllHaveImages records images
all_have volumes records images are of many = λ slot r at is_used.
    let its = are.each slot r at (used_record r is_used) in
    let low = its.volume in
    let sets = get_inside images r.volume (omega arith) in
    ap (λ (o : Option (List ℕ)). is_among r.set (sets_in o)) sets.1 ∙ among_of r.set sets.0 (of.each slot r at its.set sets.0 sets.1)

-- ## all records

same_lists : {X : Type 0} (xs ys : List X) → length xs ≡ length ys → ((v : ℕ) (x : X) → slice_get xs v ≡ Some x → slice_get ys v ≡ Some x) → xs ≡ ys
same_lists [] [] l each = refl
same_lists [] (y ∷ ys) l each = absurd (omega arith)
same_lists (x ∷ xs) [] l each = absurd (omega arith)
same_lists (x ∷ xs) (y ∷ ys) l each = ap (λ z. z ∷ xs) (sym (same_Some y x (each 0 x refl))) ∙ ap (λ zs. y ∷ zs) (same_lists xs ys (omega arith) (λ v z h. each (suc v) z h))

pub images_all : (volumes : List ℕ) (records : List Record) (images : List (List ℕ)) (k : ℕ) (maps : List MapValue) → AreTakenUp volumes records images k (length volumes) maps
    → length images ≡ length volumes → images_of maps ≡ images
images_all volumes records images k maps up many =
    same_lists (images_of maps) images (length-map maps (λ (m : MapValue). m.images) ∙ up.number ∙ sym many)
    (λ v sets h.
    let from = map-from (λ (m : MapValue). m.images) maps v sets h in
    (up.each v from.0 from.1).sets ∙ ap (λ (s : List ℕ). Some s) from.2)

pub tied_all : (volumes : List ℕ) (records : List Record) (images : List (List ℕ)) (maps : List MapValue) (pool : List Bool) → AreTakenUp volumes records images (length records) (length volumes) maps
    → pool ≡ map is_free records → AreTied volumes records maps pool
tied_all volumes records images maps pool up is = record {
  number = up.number;
  each = λ v m h.
      let its = up.each v m h in
      record { blocks = its.blocks; copies = its.copies ∙ mixed-all (copied_for v) unnoted (length records) records (omega arith); valid = its.valid };
  pool_is = is;
}

-- ## the pool

pub slot_taken : (records : List Record) (k : ℕ) (r : Record) (o : Option ℕ) (old new : List Bool) → slice_get records k ≡ Some r → old ≡ mixed used unused k records → IfSome o (IsLowestFree old)
    → IfSome o (λ s. new ≡ slice_set old s false) → (IsNone o ↔ (free_count old ≡ 0)) → new ≡ mixed used unused (k + 1) records
slot_taken records k r o old new at is low took none =
    let lowest : IsLowestFree (mixed used unused k records) k = record {
      free = mixed-from used unused k records k r (omega arith) at;
      lowest = λ other l. (let inside = slice_get_within records k r at in let x = get_inside records other (omega arith) in mixed-before used unused k records other x.0 l x.1);
    } in
    taken_lowest o old new k (subst (λ (p : List Bool). IsLowestFree p k) (sym is) lowest) low took none
    ∙ ap (λ (p : List Bool). slice_set p k false) is
    ∙ sym (mixed-set used unused k records r at)

pub slot_given : (records : List Record) (k : ℕ) (r : Record) (old new : List Bool) → slice_get records k ≡ Some r → is_free r ≡ true → old ≡ mixed is_free used k records → new ≡ slice_set old k true
    → new ≡ mixed is_free used (k + 1) records
slot_given records k r old new at free is set = set ∙ ap (λ (p : List Bool). slice_set p k true) is ∙ ap (λ (b : Bool). slice_set (mixed is_free used k records) k b) (sym free)
    ∙ sym (mixed-set is_free used k records r at)

pub slot_kept : (records : List Record) (k : ℕ) (r : Record) (old : List Bool) → slice_get records k ≡ Some r → is_free r ≡ false → old ≡ mixed is_free used k records
    → old ≡ mixed is_free used (k + 1) records
slot_kept records k r old at is_used is = is ∙ sym (mixed-same is_free used k records r at is_used)

pub pool_all : (f g : Record → Bool) (k : ℕ) (records : List Record) (pool : List Bool) → length records ≤ k → pool ≡ mixed f g k records → pool ≡ map f records
pool_all f g k records pool l is = is ∙ mixed-all f g k records l

pub pool_begun : (records : List Record) (pool : List Bool) (n : ℕ) → n ≡ length records → pool ≡ replicate n true → pool ≡ map unused records
pool_begun records pool n long is = is ∙ ap (λ k. replicate k true) long ∙ all_unused records where
  all_unused : (rs : List Record) → replicate (length rs) true ≡ map unused rs
  all_unused [] = refl
  all_unused (r ∷ rs) = ap (λ xs. true ∷ xs) (all_unused rs)

pub is_taken : (records : List Record) (k : ℕ) (r : Record) (pool : List Bool) → slice_get records k ≡ Some r → pool ≡ mixed is_free used k records → slice_get pool k ≡ Some false
is_taken records k r pool at is = ap (λ (p : List Bool). slice_get p k) is ∙ mixed-from is_free used k records k r (omega arith) at

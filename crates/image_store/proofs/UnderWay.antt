-- The calls of an update leave each image where it was committed.
use Rattle.std.proofs.Common.{◌≡◌, ◌≢◌, ℕ, zero, suc, ◌<◌, ◌≤◌, List, [], ◌∷◌, length, map, refl, ap, sym, subst, ◌∙◌, arith, Bool, true, false, Option, Some, inl, inr}
use Rattle.std.specs.Prelude.{◌⊎◌, IfSome, OnOk, option_map, slice_get, Result, Ok, Err}
use Rattle.std.proofs.lemmas.Bool.{cases_eq, cases_lt}
use Rattle.std.proofs.lemmas.Option.{same_Some, slice_get_within, slice_get_past}
use Rattle.std.proofs.lemmas.List.{length-append, length-drop, length-map, length-take-le}
use Rattle.diff_area.specs.AreaValue.{with_first}
use Rattle.diff_area.specs.Format.{table_for, AreRecords, blocks_for}
use Rattle.diff_area.specs.declared.table_record.Record.{Record}
use Rattle.diff_area.proofs.ByPlace.{get-with_first-past, length-table}
use Rattle.write_history.specs.declared.evicted.Evicted.{Evicted}
use Rattle.volume_device.specs.InMemory.{AreBlocks}
use Rattle.diff_map.specs.Copies.{AreImages}
use Rattle.cow_volume.specs.Calls.{sets_in}
use Rattle.cow_volume.specs.Changes.{gone_row}
use Rattle.cow_volume.specs.Ending.{IsSync, IsTable}
use Rattle.diff_area.specs.AreaValue.{AreaValue}
use Rattle.diff_area.specs.Loading.{IsLoaded}
use Rattle.vss_names.specs.Names.{TextValue}
use Rattle.volume_device.specs.declared.device.Device.{Ghosts}
use Rattle.cow_volume.specs.declared.cause.Cause.{Cause}
use Rattle.image_store.specs.Plain.{PlainStore, plain_at}
use Rattle.image_store.specs.StoreValue.{StoreValue, StandsAs}
use Rattle.image_store.specs.Updating.{IsAhead, IsOverwriting}
use Rattle.image_store.specs.declared.pass.Pass.{Pass}
use Rattle.image_store.specs.declared.pass.Pass.TheVariants.{Done, Evicted as Stopped}
use Rattle.image_store.proofs.Copied.{copied_kept}
use Rattle.image_store.proofs.Stores.{still, store_of}
use Rattle.cow_volume.specs.StandsFor.{GroupValue}
use Rattle.cow_volume.specs.declared.image_fault.ImageFault.{ImageFault}
use Rattle.cow_volume.specs.Calls.{blocks_at, sets_at, IsDropped, IsQuiet}
use Rattle.cow_volume.proofs.Group.{slice_get_inside, slice_get_map}
use Rattle.image_store.specs.Copying.{AreCopied, AreSameAt, HasCopiesOf, IsAreaSame, IsCopiedAhead, IsAreaLeft, IsInUse, KeepsSlots}
use Rattle.image_store.specs.Plain.{Plain, volume_in, gone_on, with_blocks, on_volume}
use Rattle.image_store.specs.PowerLoss.{IsCommitted, IsCopyPlace, IsShared, IsStillUnderWay, IsUnderWay, KeepsBlocks}
use Rattle.image_store.specs.Steps.{AreMixed}
use Rattle.image_store.specs.StoreValue.{HasPlains}
use Rattle.image_store.specs.Updating.{AreReady}
use Rattle.image_store.proofs.Plains.{as_many_blocks, as_many_plains, device_tells, synced_kept, volume_on}

-- ## what was committed

-- ## the slots

-- a slot that has a copy is in use
in_use : (records : List Record) (k : ℕ) → IsCopyPlace records k → IsInUse records k
in_use records k place = grind (arith, same_Some)

-- it still has it
place_still : {D : Type 0} (committed now : GroupValue D) (k : ℕ) → HasCopiesOf committed now → IsCopyPlace committed.area.records k → IsCopyPlace now.area.records k
place_still committed now k has place = grind arith

slots_on : {D : Type 0} (told : D → Option (List (List ℕ))) (committed old new : GroupValue D) → HasCopiesOf committed old → KeepsSlots told old new
    → KeepsBlocks told (IsCopyPlace committed.area.records) committed.area.device old.area.device → KeepsBlocks told (IsCopyPlace committed.area.records) committed.area.device new.area.device
slots_on told committed old new has kept before = grind (arith, in_use, place_still)

-- ## the volumes

-- each volume's device tells what it told, but at some places
volumes_on : {D : Type 0} (told : D → Option (List (List ℕ))) (committed old new : GroupValue D) (ps qs : List Plain) → HasPlains told old ps → HasPlains told new qs
    → new.area.volumes ≡ old.area.volumes
    → ((v : ℕ) → v < length old.area.volumes → AreSameAt (IsShared committed v) (volume_in ps v).blocks (volume_in qs v).blocks)
    → length old.devices ≡ length committed.devices
    → ((v : ℕ) (d e : D) → slice_get committed.devices v ≡ Some d → slice_get old.devices v ≡ Some e → KeepsBlocks told (IsShared committed v) d e)
    → (v : ℕ) (d e : D) → slice_get committed.devices v ≡ Some d → slice_get new.devices v ≡ Some e → KeepsBlocks told (IsShared committed v) d e
volumes_on told committed old new ps qs has now volumes same devices before = λ v d e at is.
    let there = slice_get_within committed.devices v d at in
    let many = has.stands.devices in
    let within : v < length old.area.volumes = omega arith in
    let o = slice_get_inside old.devices v (omega arith) in
    let was = device_tells told old ps v o.0 has within o.1 in
    let tells = device_tells told new qs v e now (let long = ap length volumes in omega arith) is in
    record {
      blocks = λ blocks told_is.
          let one = (before v d o.0 at o.1).blocks blocks told_is in
          let here : one.0 ≡ (volume_in ps v).blocks = same_Some one.0 (volume_in ps v).blocks (sym one.1 ∙ was) in
          let more = same v within in (
            (volume_in qs v).blocks,
            tells,
            record {
              number = more.number ∙ ap length (sym here) ∙ one.2.number;
              same = λ k shared. more.same k shared ∙ ap (λ (bs : List (List ℕ)). slice_get bs k) (sym here) ∙ one.2.same k shared;
            },
          );
    }

as_many_devices : {D : Type 0} (told : D → Option (List (List ℕ))) (old new : GroupValue D) (ps qs : List Plain) → HasPlains told old ps → HasPlains told new qs → new.area.volumes ≡ old.area.volumes
    → length new.devices ≡ length old.devices
as_many_devices told old new ps qs has now volumes = now.stands.devices ∙ ap length volumes ∙ sym has.stands.devices

-- ## the second pass

-- the volumes have what they had
pub copied_on : {D : Type 0} (told : D → Option (List (List ℕ))) (committed old new : GroupValue D) (ps qs : List Plain) → HasPlains told old ps → HasPlains told new qs
    → ((v : ℕ) → (volume_in qs v).blocks ≡ (volume_in ps v).blocks) → HasCopiesOf committed old → new.area.volumes ≡ old.area.volumes
    → length new.area.records ≡ length old.area.records → KeepsSlots told old new
    → IsUnderWay told committed old → IsUnderWay told committed new
copied_on told committed old new ps qs has now same copies volumes number slots before = record {
  number = number ∙ before.number;
  slots = slots_on told committed old new copies slots before.slots;
  devices = as_many_devices told old new ps qs has now volumes ∙ before.devices;
  each = volumes_on told committed old new ps qs has now volumes
      (λ v l. record { number = ap length (same v); same = λ k shared. ap (λ (bs : List (List ℕ)). slice_get bs k) (same v) }) before.devices before.each;
}

pub gone_blocks : (ps : List Plain) (v up_to : ℕ) → (volume_in (map (gone_on up_to) ps) v).blocks ≡ (volume_in ps v).blocks
gone_blocks [] v up_to = refl
gone_blocks (p ∷ ps) zero up_to = refl
gone_blocks (p ∷ ps) (suc v) up_to = gone_blocks ps v up_to

-- ## the third pass

-- a volume has some of the wanted blocks, and those that are shared are as they were
shared_still : {D : Type 0} (committed : GroupValue D) (v from : ℕ) (differs : List Bool) (wanted blocks now : List (List ℕ)) → AreCopied committed v differs from (length blocks)
    → AreReady differs wanted blocks from → AreMixed blocks wanted now → AreSameAt (IsShared committed v) blocks now
shared_still committed v from differs wanted blocks now copied ready mixed = record { number = mixed.0; same = λ k shared. by_mixed k shared (mixed.1 k) } where
  -- it is not marked, or it was put before
  wanted_there : (k : ℕ) → IsShared committed v k → k < length blocks → (slice_get differs k ≡ Some true) ⊎ (slice_get differs k ≡ Some false) → (k < from) ⊎ (from ≤ k)
      → slice_get blocks k ≡ slice_get wanted k
  wanted_there k shared l (inl marked) (inl below) = ready.first k below
  wanted_there k shared l (inl marked) (inr above) = let both : true ≡ false = sym shared ∙ copied k above l marked in cc
  wanted_there k shared l (inr unmarked) place = ready.rest k unmarked

  mark_there : (k : ℕ) (mark : Bool) → slice_get differs k ≡ Some mark → (slice_get differs k ≡ Some true) ⊎ (slice_get differs k ≡ Some false)
  mark_there k true at = inl at
  mark_there k false at = inr at

  by_place : (k : ℕ) → IsShared committed v k → (k < length blocks) ⊎ (length blocks ≤ k) → slice_get wanted k ≡ slice_get blocks k
  by_place k shared (inl l) =
      let mark = slice_get_inside differs k (omega arith) in
      sym (wanted_there k shared l (mark_there k mark.0 mark.1) (cases_lt k from))
  by_place k shared (inr past) =
      slice_get_past wanted k (omega arith) ∙ sym (slice_get_past blocks k past)

  by_mixed : (k : ℕ) → IsShared committed v k → (slice_get now k ≡ slice_get blocks k) ⊎ (slice_get now k ≡ slice_get wanted k) → slice_get now k ≡ slice_get blocks k
  by_mixed k shared (inl old) = old
  by_mixed k shared (inr new) = new ∙ by_place k shared (cases_lt k (length blocks))

pub same_or_other : (u v : ℕ) → (u ≡ v) ⊎ (u ≢ v)
same_or_other u v = elim (cases_eq u v) [ inl same ↦ inl same | inr other ↦ inr other ]

pub other_volume : (ps : List Plain) (v u : ℕ) (f : Plain → Plain) → u ≢ v → volume_in (on_volume v f ps) u ≡ volume_in ps u
other_volume [] v u f e = refl
other_volume (p ∷ ps) zero zero f e = absurd (e refl)
other_volume (p ∷ ps) zero (suc u) f e = refl
other_volume (p ∷ ps) (suc v) zero f e = refl
other_volume (p ∷ ps) (suc v) (suc u) f e = other_volume ps v u f (λ same. e (ap suc same))

pub overwritten_on : {D : Type 0} (told : D → Option (List (List ℕ))) (committed old new : GroupValue D) (ps : List Plain) (v from : ℕ) (differs : List Bool) (wanted now : List (List ℕ))
    → v < length old.area.volumes → HasPlains told old ps → HasPlains told new (on_volume v (with_blocks now) ps) → AreMixed (volume_in ps v).blocks wanted now
    → AreReady differs wanted (volume_in ps v).blocks from → AreCopied committed v differs from (blocks_at old v) → IsAreaSame told old new
    → IsUnderWay told committed old → IsUnderWay told committed new
overwritten_on told committed old new ps v from differs wanted now l has after mixed ready copied area before = record {
  number = ap length area.records ∙ before.number;
  slots = record { blocks = λ blocks is. let one = before.slots.blocks blocks is in (one.0, area.slots ∙ one.1, one.2) };
  devices = as_many_devices told old new ps (on_volume v (with_blocks now) ps) has after area.volumes ∙ before.devices;
  each = volumes_on told committed old new ps (on_volume v (with_blocks now) ps) has after area.volumes (λ u m. by_place u m (same_or_other u v)) before.devices before.each;
} where
  many : length (volume_in ps v).blocks ≡ blocks_at old v
  many = as_many_blocks told old ps v has l

  there : volume_in (on_volume v (with_blocks now) ps) v ≡ with_blocks now (volume_in ps v)
  there = volume_on ps v (with_blocks now) (let as_many = as_many_plains told old ps has in omega arith)

  own : AreSameAt (IsShared committed v) (volume_in ps v).blocks now
  own = shared_still committed v from differs wanted (volume_in ps v).blocks now (λ k low high marked. copied k low (omega (arith, many)) marked) ready mixed

  by_place : (u : ℕ) → u < length old.area.volumes → (u ≡ v) ⊎ (u ≢ v) → AreSameAt (IsShared committed u) (volume_in ps u).blocks (volume_in (on_volume v (with_blocks now) ps) u).blocks
  by_place u m (inl e) =
      let P : ℕ → Type 0 = λ w. AreSameAt (IsShared committed w) (volume_in ps w).blocks (volume_in (on_volume v (with_blocks now) ps) w).blocks in
      subst P (sym e) (subst (λ (q : Plain). AreSameAt (IsShared committed v) (volume_in ps v).blocks q.blocks) (sym there) own)
  by_place u m (inr e) =
      let same = ap (λ (q : Plain). q.blocks) (other_volume ps v u (with_blocks now) e) in
      record { number = ap length same; same = λ k shared. ap (λ (bs : List (List ℕ)). slice_get bs k) same }

-- ## a commit

-- the header and the table are written, or some of them, and no slot
table_places : (records : List Record) (k : ℕ) → IsCopyPlace records k → table_for (length records) ≤ k
table_places records k place = let at = place.place in omega arith

length-with_first : (first blocks : List (List ℕ)) → length first ≤ length blocks → length (with_first first blocks) ≡ length blocks
length-with_first first blocks l = grind (arith, length-append, length-drop)

past_table : (old new : Option (List (List ℕ))) (first : List (List ℕ)) (n : ℕ) (P : ℕ → Type 0) → ((k : ℕ) → P k → n ≤ k) → length first ≤ n → new ≡ option_map (with_first first) old
    → (blocks : List (List ℕ)) → old ≡ Some blocks → n ≤ length blocks → (now : List (List ℕ)) × (new ≡ Some now) × AreSameAt P blocks now
past_table old new first n x4 places l written blocks is long = grind (arith, length-with_first, get-with_first-past)

-- how the table was written, in full or in part
first_of : {D : Type 0} (told : D → Option (List (List ℕ))) (old new : GroupValue D) (r : Result Unit Cause) → IsTable told old new r
    → (first : List (List ℕ)) × (length first ≤ table_for (length old.area.records)) × (told new.area.device ≡ option_map (with_first first) (told old.area.device))
first_of told old new r table = grind (arith, length-table, length-take-le)

pub synced_on : {D : Type 0} (told : D → Option (List (List ℕ))) (committed old new : GroupValue D) (size : ℕ) (r : Result Unit Cause) → IsTable told old new r → new.devices ≡ old.devices
    → new.area.records ≡ old.area.records → IfSome (told old.area.device) (AreBlocks size) → size ≡ blocks_for (length old.area.records) → IsUnderWay told committed old → IsUnderWay told committed new
synced_on {D = D} told committed old new size r table devices records whole fits before =
    let first = first_of told old new r table in
    record {
      number = ap length records ∙ before.number;
      slots = record {
        blocks = λ blocks is.
            let one = before.slots.blocks blocks is in
            let many = (subst (λ (t : Option (List (List ℕ))). IfSome t (AreBlocks size)) one.1 whole).number in
            let number = before.number in
            let two = past_table (told old.area.device) (told new.area.device) first.0 (table_for (length old.area.records)) (IsCopyPlace committed.area.records)
            (λ k place. let low = table_places committed.area.records k place in let e = ap table_for number in omega arith) first.1 first.2 one.0 one.1 (omega arith) in
            (two.0, two.1, record { number = two.2.number ∙ one.2.number; same = λ k place. two.2.same k place ∙ one.2.same k place });
      };
      devices = ap length devices ∙ before.devices;
      each = λ v d e at is. before.each v d e at (ap (λ (ds : List D). slice_get ds v) (sym devices) ∙ is);
    }

-- the devices tell what they told
pub quiet_on : {D : Type 0} (ghosts : Ghosts D) (committed old new : GroupValue D) → IsQuiet ghosts old new → IsUnderWay ghosts.told committed old → IsUnderWay ghosts.told committed new
quiet_on {D = D} ghosts committed old new quiet before = record {
  number = ap length quiet.records ∙ before.number;
  slots = record { blocks = λ blocks is. let one = before.slots.blocks blocks is in (one.0, quiet.slots ∙ one.1, one.2) };
  devices = many ∙ before.devices;
  each = λ v d e at is. record { blocks = λ blocks told_is. by_device v d e at is blocks told_is };
} where
  many : length new.devices ≡ length old.devices
  many = sym (length-map new.devices ghosts.told) ∙ ap length quiet.blocks ∙ length-map old.devices ghosts.told

  by_device : (v : ℕ) (d e : D) → slice_get committed.devices v ≡ Some d → slice_get new.devices v ≡ Some e → (blocks : List (List ℕ)) → ghosts.told d ≡ Some blocks
      → (now : List (List ℕ)) × (ghosts.told e ≡ Some now) × AreSameAt (IsShared committed v) blocks now
  by_device v d e at is blocks told_is =
      let there = slice_get_within new.devices v e is in
      let o = slice_get_inside old.devices v (omega (arith, many)) in
      let one = (before.each v d o.0 at o.1).blocks blocks told_is in
      let tells : Some (ghosts.told e) ≡ Some (ghosts.told o.0) = sym (slice_get_map ghosts.told new.devices v e is) ∙ ap (λ (ts : List (Option (List (List ℕ)))). slice_get ts v) quiet.blocks
      ∙ slice_get_map ghosts.told old.devices v o.0 o.1 in
      (one.0, same_Some (ghosts.told e) (ghosts.told o.0) tells ∙ one.1, one.2)

-- no device was written
pub same_disk : {D : Type 0} (told : D → Option (List (List ℕ))) (old new : GroupValue D) → length new.area.records ≡ length old.area.records → new.area.device ≡ old.area.device
    → new.devices ≡ old.devices → IsStillUnderWay told old new
same_disk {D = D} told old new number area devices committed before = record {
  number = number ∙ before.number;
  slots = subst (λ (d : D). KeepsBlocks told (IsCopyPlace committed.area.records) committed.area.device d) (sym area) before.slots;
  devices = ap length devices ∙ before.devices;
  each = λ v d e at is. before.each v d e at (subst (λ (ds : List D). slice_get ds v ≡ Some e) devices is);
}

pub dropped_under_way : {D : Type 0} (ghosts : Ghosts D) (old new : GroupValue D) (v set : ℕ) (r : Result Unit ImageFault) → IsDropped ghosts old new v set r
    → OnOk r (IsStillUnderWay ghosts.told old new)
dropped_under_way ghosts old new v set (Ok done) is = same_disk ghosts.told old new is.1.kept.slots is.1.area is.1.devices
dropped_under_way ghosts old new v set (Err fault) is = tt

-- ## the calls of a store

pub copy_under_way : {D E : Type 0} (told : D → Option (List (List ℕ))) (committed : GroupValue D) (old new : StoreValue D) (v : ℕ) (differs : List Bool)
    (from to before counted : ℕ) (gone : List Evicted)
    (r : Result Pass E) (p : PlainStore) → IsCopiedAhead told old.group new.group v differs from to before counted r → IsAhead told new p gone r → StandsAs told old p → HasCopiesOf committed old.group
    → IsUnderWay told committed old.group → IsUnderWay told committed new.group
copy_under_way told committed old new v differs from to before counted gone (Ok Done) p copied ahead stands copies under =
    copied_on told committed old.group new.group p.volumes p.volumes stands.group ahead.group (λ u. refl) copies copied.kept.copies.volumes copied.kept.copies.number copied.kept.slots under
copy_under_way told committed old new v differs from to before counted gone (Ok (Stopped at up_to)) p copied ahead stands copies under =
    let kept = copied.copies.kept in
    copied_on told committed old.group new.group p.volumes (map (gone_on up_to) p.volumes) stands.group ahead.stands.group (λ u. gone_blocks p.volumes u up_to) copies
    (ap (λ (g : GroupValue _). g.area.volumes) copied.gone ∙ kept.copies.volumes)
    (ap (λ (g : GroupValue _). length g.area.records) copied.gone ∙ length-map copied.full.area.records (gone_row up_to) ∙ kept.copies.number)
    (record { blocks = λ blocks is. let one = kept.slots.blocks blocks is in (one.0, ap (λ (g : GroupValue _). told g.area.device) copied.gone ∙ one.1, one.2) }) under
copy_under_way told committed old new v differs from to before counted gone (Err failed) p copied ahead stands copies under =
    let kept = copied.2.kept in
    copied_on told committed old.group new.group p.volumes p.volumes stands.group ahead.group (λ u. refl) copies kept.copies.volumes kept.copies.number kept.slots under

pub overwrite_under_way : {D E : Type 0} (told : D → Option (List (List ℕ))) (committed : GroupValue D) (old new : StoreValue D) (v : ℕ) (differs : List Bool) (wanted : List (List ℕ)) (from : ℕ)
    (gone : List Evicted) (r : Result Pass E) (p : PlainStore) → v < length old.group.area.volumes → AreImages (sets_at old.group v)
    → (AreCopied old.group v differs from (blocks_at old.group v) → IsAreaLeft told old.group new.group r)
    → IsOverwriting told new p v differs wanted gone r → StandsAs told old p → AreReady differs wanted (plain_at p v).blocks from → HasCopiesOf committed old.group
    → AreCopied committed v differs from (blocks_at old.group v) → IsUnderWay told committed old.group → IsUnderWay told committed new.group
overwrite_under_way {E = E} told committed old new v differs wanted from gone r p l are area written stands ready copies copied under =
    let images : AreImages (sets_at committed v) = subst (λ (i : List (List ℕ)). AreImages (sets_in (slice_get i v))) copies.images are in
    by_result r (area (copied_kept committed old.group v differs from (blocks_at old.group v) images copies copied)) written
  where
    by_result : (r : Result Pass E) → IsAreaLeft told old.group new.group r → IsOverwriting told new p v differs wanted gone r → IsUnderWay told committed new.group
    by_result (Ok Done) left is = overwritten_on told committed old.group new.group p.volumes v from differs wanted wanted l stands.group is.1.group
        (ready.as_many, λ b. inr refl) ready copied left under
    by_result (Ok (Stopped at up_to)) left is = absurd left
    by_result (Err failed) left is = overwritten_on told committed old.group new.group p.volumes v from differs wanted is.0 l stands.group is.2.group is.1 ready copied left under

-- ## a commit, and an opening

pub synced_committed : {D : Type 0} (ghosts : Ghosts D) (old new : GroupValue D) (names : List TextValue) (last size : ℕ) (r : Result Unit Cause)
    → IsSync ghosts old new r → IsTable ghosts.told old new r
    → AreRecords new.area.volumes new.area.records → IfSome (ghosts.told new.area.device) (AreBlocks size)
    → OnOk r ((p : PlainStore) → StandsAs ghosts.told (store_of old names last) p → IsCommitted ghosts.told (store_of new names last) p)
synced_committed ghosts old new names last size r sync table records whole = grind (arith, still, synced_kept)

pub opened_committed : {D : Type 0} (ghosts : Ghosts D) (devices : List D) (device : D) (area : AreaValue D) (lists : List (List ℕ)) (s : StoreValue D) (size : ℕ) (p : PlainStore)
    → s.group ≡ record { devices = devices; area = area; images = lists } → IsLoaded ghosts device area → AreRecords area.volumes area.records → IfSome (ghosts.told area.device) (AreBlocks size)
    → StandsAs ghosts.told s p → IsCommitted ghosts.told s p
opened_committed ghosts devices device area lists s size p group loaded records whole stands = grind arith

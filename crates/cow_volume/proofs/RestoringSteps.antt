-- The blocks of a volume are restored one after another to an image that is its newest, and what it stands for after each.
use Rattle.std.proofs.Common.{◌≡◌, ◌<◌, ◌≤◌, ◌+◌, ℕ, Bool, true, false, List, [], ◌∷◌, length, map, drop, refl, ap, sym, subst, ◌∙◌, arith, Option, Some, is_some, inl, inr, length-append}
use Rattle.std.specs.Prelude.{filter, slice_get, slice_set, if◌then◌else◌, ◌==◌, nat_le, All, IfSome, Result, Ok, Err}
use Rattle.std.specs.Int.{from_bool}
use Rattle.std.proofs.lemmas.Bool.Decides.{nat_tests}
use Rattle.std.proofs.lemmas.List.Elements.{All-head, All-tail}
use Rattle.std.proofs.lemmas.Option.{slice_get_within}
use Rattle.vss_names.specs.Faults.{Rose, most}
use Rattle.volume_device.specs.declared.device.Device.{Ghosts}
use Rattle.write_history.specs.History.{History, Image, Write, names, point_in, sets_of, up_to_set, to_restore, reverted, reverted_in_part}
use Rattle.write_history.specs.Slots.{writes_since}
use Rattle.diff_area.specs.AreaValue.{KeepsTable}
use Rattle.diff_area.specs.Format.{place_of_slot}
use Rattle.diff_area.specs.declared.table_record.Record.{Record}
use Rattle.cow_volume.specs.StandsFor.{GroupValue, told_in, record_of, is_named, IsVolume, StandsFor}
use Rattle.cow_volume.specs.Parts.{CopiesValue, group_of, IsPut}
use Rattle.cow_volume.specs.Changes.{IsFirstCopy}
use Rattle.cow_volume.specs.CopiesAfter.{images_on, after_clear}
use Rattle.cow_volume.specs.Calls.{history_at, changed_at, blocks_in, blocks_at, sets_in, sets_at, is_among, IsKept, IsUnfailed, VolumeRose, DeviceRose, IsReverted, IsRevertedInPart, IsRevert}
use Rattle.cow_volume.specs.declared.cause.Cause.{Cause}
use Rattle.cow_volume.specs.declared.cause.Cause.TheVariants.{Volume}
use Rattle.cow_volume.specs.declared.revert_fault.RevertFault.{RevertFault}
use Rattle.cow_volume.specs.declared.revert_fault.RevertFault.TheVariants.{NoSuchImage, Fault}
use Rattle.cow_volume.specs.Restoring.{with_up_to, AreNewerGone, AreRestored, IsPutBack, IsNotPutBack, IsOneRestored, IsStopped, IsRestoring}
use Rattle.cow_volume.proofs.Members.{Has}
use Rattle.cow_volume.proofs.Group.{same_number, slice_get_inside, slice_set-same, place_at, history_at_is, changed_at-same}
use Rattle.cow_volume.proofs.GoingBack.{length-cleared, without_newer, all_kept, point_kept, reverted_from, reverted_in_part_from}
use Rattle.cow_volume.proofs.Reverting.{restores, restored_none, restored_below, point_within, block_kept, block_restored, next_restored}
use Rattle.cow_volume.proofs.GroupReverts.{changed_at-twice, changed_at-agree, changed_at-none, restoring_at, restoring_all, up_to_sets, most_of, images_row}
use Rattle.cow_volume.proofs.DeviceCalls.{still_lasts}
use Rattle.cow_volume.proofs.Kept.{kept_itself, kept_further, sizes_kept, kept_records, kept_called, quiet_area, quiet_called, quiet_further, quiet_stands, volume_rose_if}
use Rattle.cow_volume.proofs.Kept.{unfailed_called}

-- ## the volume before the first block

-- what stands at the number of the volume, whose newest image is that of the set
pub record IsAtStart {D : Type 0} (told : D → Option (List (List ℕ))) (g : GroupValue D) (hs : List History) (v set p : ℕ) : Type 0 where
  pub history_is : slice_get hs v ≡ Some (history_at hs v)
  pub device : D
  pub device_is : slice_get g.devices v ≡ Some device
  pub blocks_is : slice_get g.area.volumes v ≡ Some (blocks_at g v)
  pub sets_is : slice_get g.images v ≡ Some (sets_at g v)
  pub up_to : up_to_set set (history_at hs v).images ≡ (history_at hs v).images
  pub stands : IsVolume (told_in (told g.area.device) (told device)) (told g.area.device) g.area.records v (blocks_at g v) (sets_at g v) (without_newer set (history_at hs v))
  pub point_past : p ≤ length (history_at hs v).writes

pub at_start : {D : Type 0} (told : D → Option (List (List ℕ))) (g : GroupValue D) (hs : List History) (v set p : ℕ) → StandsFor told g hs → v < length g.area.volumes
    → All (λ s. s ≤ set) (sets_at g v) → point_in set (history_at hs v).images ≡ Some p → IsAtStart told g hs v set p
at_start told g hs v set p stands inside newest point =
    let place = place_at told g hs v stands inside in
    let blocks_are : place.blocks ≡ blocks_at g v = sym (ap blocks_in place.blocks_at) in
    let sets_are : place.sets ≡ sets_at g v = sym (ap sets_in place.sets_at) in
    let here : IsVolume (told_in (told g.area.device) (told place.device)) (told g.area.device) g.area.records v (blocks_at g v) (sets_at g v) (history_at hs v)
    = subst (λ (n : ℕ). IsVolume (told_in (told g.area.device) (told place.device)) (told g.area.device) g.area.records v n (sets_at g v) (history_at hs v)) blocks_are
    (subst (λ (sets : List ℕ). IsVolume (told_in (told g.area.device) (told place.device)) (told g.area.device) g.area.records v place.blocks sets (history_at hs v)) sets_are place.stands) in
    let up = all_kept set (history_at hs v).images (up_to_sets set (history_at hs v).images (λ s m. most_of set s (sets_at g v) newest (subst (λ (ss : List ℕ). Has s ss) (sym here.sets_are) m))) in
    let same : history_at hs v ≡ without_newer set (history_at hs v) = ap (λ (is : List Image). record { writes = (history_at hs v).writes; images = is }) (sym up) in
    let volume : IsVolume (told_in (told g.area.device) (told place.device)) (told g.area.device) g.area.records v (blocks_at g v) (sets_at g v) (without_newer set (history_at hs v))
    = subst (λ (h : History). IsVolume (told_in (told g.area.device) (told place.device)) (told g.area.device) g.area.records v (blocks_at g v) (sets_at g v) h) same here in
    record {
      history_is = place.history;
      device = place.device;
      device_is = place.device_at;
      blocks_is = place.blocks_at ∙ ap Some blocks_are;
      sets_is = place.sets_at ∙ ap Some sets_are;
      up_to = up;
      stands = volume;
      point_past = point_within (told_in (told g.area.device) (told place.device)) (told g.area.device) g.area.records v (blocks_at g v) (sets_at g v) (history_at hs v) set p volume point;
    }

-- an image that names a block is among the images
named_has : (ws : List Write) (s b : ℕ) (is : List Image) → is_named ws is s b ≡ true → Has s (sets_of is)
named_has ws s b [] e = absurd cc
named_has ws s b (i ∷ is) e = by_test (i.set == s) refl e (named_has ws s b is) where
  by_test : (t : Bool) → (i.set == s) ≡ t → (if t then names (writes_since ws i.point is) b else is_named ws is s b) ≡ true → (is_named ws is s b ≡ true → Has s (sets_of is))
      → Has s (i.set ∷ sets_of is)
  by_test true f g rest = inl (same_number i.set s f)
  by_test false f g rest = inr (rest g)

-- the slot that was found is that of the set itself
pub slot_of_set : {D : Type 0} (told : D → Option (List (List ℕ))) (g : GroupValue D) (hs : List History) (v set p b slot : ℕ) → IsAtStart told g hs v set p → All (λ s. s ≤ set) (sets_at g v)
    → 0 < set → IsFirstCopy g.area.records v set b slot → slice_get g.area.records slot ≡ Some (record_of v set b)
slot_of_set told g hs v set p b slot start newest above found =
    let from = found.from_set in
    let named = start.stands.named slot found.image b (omega arith) found.is_noted in
    let has = named_has (history_at hs v).writes found.image b (up_to_set set (history_at hs v).images) named in
    let most = most_of set found.image (sets_at g v) newest (subst (λ (ss : List ℕ). Has found.image ss) (sym start.stands.sets_are) has) in
    let same : found.image ≡ set = omega arith in
    found.is_noted ∙ ap (λ (s : ℕ). Some (record_of v s b)) same

-- no record is that of a copy of block b for the image of a set
abbrev HasNoRecord : List Record → ℕ → ℕ → ℕ → Type 0
HasNoRecord records v set b = (slot : ℕ) → slice_get records slot ≡ Some (record_of v set b) → ⊥

-- a block that has a copy for the set is named since its point, and one that has none is not
named_at : {D : Type 0} (told : D → Option (List (List ℕ))) (g : GroupValue D) (hs : List History) (v set p b slot : ℕ) → IsAtStart told g hs v set p → point_in set (history_at hs v).images ≡ Some p
    → b < blocks_at g v → slice_get g.area.records slot ≡ Some (record_of v set b)
    → names (drop p (history_at hs v).writes) b ≡ true
named_at told g hs v set p b slot start point l at =
    (restores (told_in (told g.area.device) (told start.device)) (told g.area.device) g.area.records v (blocks_at g v) (sets_at g v) (history_at hs v) set p b start.stands point l).0 (slot, at)

not_named : {D : Type 0} (told : D → Option (List (List ℕ))) (g : GroupValue D) (hs : List History) (v set p b : ℕ) → IsAtStart told g hs v set p → point_in set (history_at hs v).images ≡ Some p
    → b < blocks_at g v → HasNoRecord g.area.records v set b
    → names (drop p (history_at hs v).writes) b ≡ false
not_named told g hs v set p b start point l none = by_test (names (drop p (history_at hs v).writes) b) refl where
  by_test : (t : Bool) → names (drop p (history_at hs v).writes) b ≡ t → names (drop p (history_at hs v).writes) b ≡ false
  by_test true e = (let at = (restores (told_in (told g.area.device) (told start.device)) (told g.area.device) g.area.records v (blocks_at g v) (sets_at g v)
      (history_at hs v) set p b start.stands point l).1 e in absurd (none at.0 at.1))
  by_test false e = e

-- ## block after block

-- so many restored blocks are those of the first m blocks
below : (hs : List History) (v n set p m restored : ℕ) → restored ≡ length (to_restore m (history_at hs v).writes p)
    → changed_at v (reverted_in_part n set p restored) hs ≡ changed_at v (restored_below n set p m) hs
below hs v n set p m restored e = grind (arith, changed_at-agree, history_at_is)

-- none so far
pub restoring_start : {D : Type 0} (ghosts : Ghosts D) (g : GroupValue D) (v set : ℕ) → v < length g.area.volumes
    → All (λ s. s ≤ set) (sets_at g v) → AreRestored ghosts g g v set 0 0
restoring_start ghosts g v set inside newest = record {
  kept = kept_itself ghosts g;
  records = refl;
  images = refl;
  slots = refl;
  number = λ hs p stands point. refl;
  stands = λ hs p stands point.
      let start = at_start ghosts.told g hs v set p stands inside newest point in
      subst (λ (xs : List History). StandsFor ghosts.told g xs)
      (sym (changed_at-none v hs) ∙ changed_at-agree v (λ h. h) (reverted_in_part (blocks_at g v) set p 0) hs (λ h at.
      let here : history_at hs v ≡ h = history_at_is hs v h at in
      let up : h.images ≡ up_to_set set h.images = subst (λ (x : History). x.images ≡ up_to_set set x.images) here (sym start.up_to) in
      ap (λ (is : List Image). record { writes = h.writes; images = is }) up ∙ restored_none (blocks_at g v) set p h))
      stands;
}

-- block m has no copy for the set
pub restoring_skips : {D : Type 0} (ghosts : Ghosts D) (g now : GroupValue D) (v set m restored : ℕ) → v < length g.area.volumes
    → All (λ s. s ≤ set) (sets_at g v) → m < blocks_at g v
    → AreRestored ghosts g now v set m restored → HasNoRecord now.area.records v set m → AreRestored ghosts g now v set (m + 1) restored
restoring_skips ghosts g now v set m restored inside newest l done none = record {
  kept = done.kept;
  records = done.records;
  images = done.images;
  slots = done.slots;
  number = λ hs p stands point.
      let start = at_start ghosts.told g hs v set p stands inside newest point in
      let other = not_named ghosts.told g hs v set p m start point l (subst (λ (rs : List Record). HasNoRecord rs v set m) done.records none) in
      done.number hs p stands point ∙ ap length (sym (block_kept m (history_at hs v).writes p other));
  stands = done.stands;
}

-- block m got the bytes of its slot
pub restoring_puts : {D : Type 0} (ghosts : Ghosts D) (g now new : GroupValue D) (v set m restored : ℕ) → v < length g.area.volumes
    → All (λ s. s ≤ set) (sets_at g v) → m < blocks_at g v → 0 < set
    → AreRestored ghosts g now v set m restored → IsPutBack ghosts now new v set m → AreRestored ghosts g new v set (m + 1) (restored + 1)
restoring_puts {D = D} ghosts g now new v set m restored inside newest l above done put = record {
  kept = kept_further ghosts g now new done.kept put.kept;
  records = put.records ∙ done.records;
  images = put.images ∙ done.images;
  slots = put.slots ∙ done.slots;
  number = numbered;
  stands = λ hs p stands point.
      let start = at_start ghosts.told g hs v set p stands inside newest point in
      let before = subst (λ (xs : List History). StandsFor ghosts.told now xs) (below hs v (blocks_at g v) set p m restored (done.number hs p stands point)) (done.stands hs p stands point) in
      let after = restoring_at ghosts.told now new hs v (blocks_at g v) set p m put.slot put.bytes put.before put.after (sets_at g v) (history_at hs v) before
      (ap (λ (ns : List ℕ). slice_get ns v) done.kept.volumes ∙ start.blocks_is) put.was
      (ap (λ (ss : List (List ℕ)). slice_get ss v) done.images ∙ start.sets_is) start.history_is point start.point_past l
      (ap (λ (rs : List Record). slice_get rs put.slot) done.records ∙ slot_at hs p start) put.held put.devices put.written put.images put.kept.volumes put.records put.slots in
      subst (λ (xs : List History). StandsFor ghosts.told new xs) (sym (below hs v (blocks_at g v) set p (m + 1) (restored + 1) (numbered hs p stands point))) after;
} where
  slot_at : (hs : List History) (p : ℕ) → IsAtStart ghosts.told g hs v set p → slice_get g.area.records put.slot ≡ Some (record_of v set m)
  slot_at hs p start = slot_of_set ghosts.told g hs v set p m put.slot start newest above (subst (λ (rs : List Record). IsFirstCopy rs v set m put.slot) done.records put.found)

  numbered : (hs : List History) (p : ℕ) → StandsFor ghosts.told g hs → point_in set (history_at hs v).images ≡ Some p → restored + 1 ≡ length (to_restore (m + 1) (history_at hs v).writes p)
  numbered hs p stands point =
      let start = at_start ghosts.told g hs v set p stands inside newest point in
      let named = named_at ghosts.told g hs v set p m put.slot start point l (slot_at hs p start) in
      ap (λ (k : ℕ). k + 1) (done.number hs p stands point) ∙ sym (ap length (block_restored m (history_at hs v).writes p named) ∙ length-append (to_restore m (history_at hs v).writes p) (m ∷ []))

-- ## a device failed

pub rose_further : (a b c : ℕ) → a ≤ b → Rose b c → Rose a c
rose_further a b c l x4 = grind arith

volume_rose_further : {D : Type 0} (ghosts : Ghosts D) (g now new : GroupValue D) (v : ℕ) → IsKept ghosts g now
    → IsUnfailed ghosts.count g now → VolumeRose ghosts.count v now new → VolumeRose ghosts.count v g new
volume_rose_further ghosts g now new v kept same rose =
    let inside = slice_get_within now.devices v rose.before rose.was in
    let long = kept.devices in
    let d = slice_get_inside g.devices v (omega arith) in
    record {
      before = d.0;
      now = rose.now;
      was = d.1;
      is = rose.is;
      rose = rose_further (ghosts.count d.0) (ghosts.count rose.before) (ghosts.count rose.now) (kept.each v d.0 rose.before d.1 rose.was).later rose.rose;
      devices = rose.devices ∙ ap (λ (ns : List ℕ). slice_set ns v (ghosts.count rose.now)) same.devices;
      area = rose.area ∙ same.area;
    }

pub device_rose_further : {D : Type 0} (ghosts : Ghosts D) (g now new : GroupValue D) (v : ℕ) (cause : Cause)
    → IsKept ghosts g now → IsUnfailed ghosts.count g now → DeviceRose ghosts.count v now new cause → DeviceRose ghosts.count v g new cause
device_rose_further ghosts g now new v cause kept same rose = grind (arith, volume_rose_further, rose_further)

pub restoring_stops : {D : Type 0} (ghosts : Ghosts D) (g now new : GroupValue D) (v set m restored : ℕ) (cause : Cause)
    → v < length g.area.volumes → All (λ s. s ≤ set) (sets_at g v) → m < blocks_at g v → 0 < set
    → AreRestored ghosts g now v set m restored → IsUnfailed ghosts.count g now → IsNotPutBack ghosts now new v set m cause
    → IsStopped ghosts g new v set restored cause
restoring_stops ghosts g now new v set m restored cause inside newest l above done same failed = record {
  block = m;
  done = record {
    kept = kept_further ghosts g now new done.kept failed.quiet.kept;
    records = failed.quiet.records ∙ done.records;
    images = failed.quiet.images ∙ done.images;
    slots = failed.quiet.slots ∙ done.slots;
    number = done.number;
    stands = λ hs p stands point. quiet_stands ghosts now new (changed_at v (reverted_in_part (blocks_at g v) set p restored) hs) failed.quiet (done.stands hs p stands point);
  };
  fewer = λ hs p stands point.
      let start = at_start ghosts.told g hs v set p stands inside newest point in
      let at = slot_of_set ghosts.told g hs v set p m failed.slot start newest above (subst (λ (rs : List Record). IsFirstCopy rs v set m failed.slot) done.records failed.found) in
      let named = named_at ghosts.told g hs v set p m failed.slot start point l at in
      let number = done.number hs p stands point in
      let within = slice_get_within (to_restore (blocks_at g v) (history_at hs v).writes p) (length (to_restore m (history_at hs v).writes p)) m
      (next_restored m (blocks_at g v) (history_at hs v).writes p l named) in
      omega arith;
  rose = device_rose_further ghosts g now new v cause done.kept same failed.rose;
}

-- ## one block

-- what was read of its slot was written to it
pub put_back : {D : Type 0} (ghosts : Ghosts D) (devices after : List D) (old new : CopiesValue D) (v set b slot : ℕ) (bytes : List ℕ)
    (failed : Bool) → IsFirstCopy old.area.records v set b slot → KeepsTable ghosts.size ghosts.lending old.area new.area → new.images ≡ old.images
    → ghosts.told new.area.device ≡ ghosts.told old.area.device → ghosts.count old.area.device ≤ ghosts.count new.area.device → ghosts.count new.area.device ≡ ghosts.count old.area.device
    → IfSome (ghosts.told old.area.device) (λ blocks. slice_get blocks (place_of_slot (length old.area.records) slot) ≡ Some bytes) → IsPut ghosts v b bytes devices after failed
    → failed ≡ false
    → IsPutBack ghosts (group_of devices old) (group_of after new) v set b
put_back ghosts devices after old new v set b slot bytes failed found table images same later unfailed held put e = record {
  slot = slot;
  bytes = bytes;
  before = put.call.before;
  after = put.call.after;
  found = found;
  held = held;
  was = put.call.was;
  devices = put.call.devices;
  written = put.written e;
  unfailed = unfailed_called ghosts v devices after failed old new put.call e unfailed;
  kept = kept_further ghosts (group_of devices old) (group_of devices new) (group_of after new) (grind (arith, ap is_some same))
      (kept_called ghosts v devices after failed new put.call);
  records = table.records;
  images = images;
  slots = same;
}

-- the volume's device failed
pub not_put_back : {D : Type 0} (ghosts : Ghosts D) (devices after : List D) (old new : CopiesValue D) (v set b slot : ℕ) (bytes : List ℕ)
    (failed : Bool) → IsFirstCopy old.area.records v set b slot → KeepsTable ghosts.size ghosts.lending old.area new.area → new.images ≡ old.images
    → ghosts.told new.area.device ≡ ghosts.told old.area.device → ghosts.count old.area.device ≤ ghosts.count new.area.device → ghosts.count new.area.device ≡ ghosts.count old.area.device
    → ghosts.lasting new.area.device ≡ ghosts.lasting old.area.device → IsPut ghosts v b bytes devices after failed → failed ≡ true → IsNotPutBack ghosts (group_of devices old) (group_of after new) v set b Volume
not_put_back ghosts devices after old new v set b slot bytes failed found table images same later unfailed lasting put e = record {
  slot = slot;
  found = found;
  quiet = quiet_further ghosts (group_of devices old) (group_of devices new) (group_of after new) (quiet_area ghosts devices old new table images same later (still_lasts ghosts old.area.device new.area.device same lasting))
      (quiet_called ghosts v devices after failed new put.call (put.kept e) (put.still e));
  rose = volume_rose_if ghosts v devices after failed old new put.call e unfailed;
}

pub at_most_one : (put : Bool) → from_bool put ≤ 1
at_most_one put = grind arith

-- one block more, which has a copy or has none
pub restoring_one : {D : Type 0} (ghosts : Ghosts D) (g now new : GroupValue D) (v set m restored : ℕ) (put : Bool) (more : ℕ)
    → v < length g.area.volumes → All (λ s. s ≤ set) (sets_at g v) → m < blocks_at g v → 0 < set → more ≡ from_bool put
    → AreRestored ghosts g now v set m restored → IsOneRestored ghosts now new v set m (Ok put)
    → AreRestored ghosts g new v set (m + 1) (restored + more)
restoring_one ghosts g now new v set m restored true more inside newest l above e done one =
    subst (λ (k : ℕ). AreRestored ghosts g new v set (m + 1) (restored + k)) (sym e) (restoring_puts ghosts g now new v set m restored inside newest l above done one)
restoring_one {D = D} ghosts g now new v set m restored false more inside newest l above e done one =
    let none : restored ≡ restored + more = omega arith in
    subst (λ (k : ℕ). AreRestored ghosts g new v set (m + 1) k) none
    (subst (λ (x : GroupValue D). AreRestored ghosts g x v set (m + 1) restored) (sym one.0)
    (restoring_skips ghosts g now v set m restored inside newest l done (λ slot at. one.1 slot set at (omega arith))))

-- no device failed
pub one_unfailed : {D : Type 0} (ghosts : Ghosts D) (now new : GroupValue D) (v set m : ℕ) (put : Bool)
    → IsOneRestored ghosts now new v set m (Ok put) → IsUnfailed ghosts.count now new
one_unfailed ghosts now new v set m put one = grind arith

-- ## from the start to the end

-- the histories without the newer images
pub record IsNewer {D : Type 0} (told : D → Option (List (List ℕ))) (devices : List D) (old mid : CopiesValue D) (hs : List History) (v set p : ℕ) : Type 0 where
  pub stands : StandsFor told (group_of devices mid) (changed_at v (with_up_to set) hs)
  pub same : history_at (changed_at v (with_up_to set) hs) v ≡ with_up_to set (history_at hs v)
  pub point : point_in set (history_at (changed_at v (with_up_to set) hs) v).images ≡ Some p

pub newer_of : {D : Type 0} (told : D → Option (List (List ℕ))) (devices : List D) (old mid : CopiesValue D) (hs : List History) (v set p : ℕ) → v < length old.area.volumes
    → AreNewerGone told old mid v set → StandsFor told (group_of devices old) hs
    → point_in set (history_at hs v).images ≡ Some p → IsNewer told devices old mid hs v set p
newer_of told devices old mid hs v set p inside gone stands point =
    let place = place_at told (group_of devices old) hs v stands inside in
    let same = history_at_is (changed_at v (with_up_to set) hs) v (with_up_to set (history_at hs v)) (changed_at-same v (with_up_to set) hs (history_at hs v) place.history) in
    record {
      stands = gone.stands devices hs stands;
      same = same;
      point = ap (λ (x : History). point_in set x.images) same ∙ point_kept set (history_at hs v).images ∙ point;
    }

-- all images of the volume stay
all_stay : (set : ℕ) (xs : List ℕ) → All (λ s. s ≤ set) xs → filter (λ s. nat_le s set) xs ≡ xs
all_stay set [] most = refl
all_stay set (x ∷ xs) most = by_test (nat_le x set) (is_most x set (All-head (λ s. s ≤ set) x xs most)) (all_stay set xs (All-tail (λ s. s ≤ set) x xs most)) where
  is_most : (a b : ℕ) → a ≤ b → nat_le a b ≡ true
  is_most a b l = grind (arith, nat_tests)

  by_test : (t : Bool) → t ≡ true → filter (λ s. nat_le s set) xs ≡ xs → (if t then x ∷ filter (λ s. nat_le s set) xs else filter (λ s. nat_le s set) xs) ≡ x ∷ xs
  by_test true e rest = ap (λ ys. x ∷ ys) rest
  by_test false e rest = cc

clear_images : {D : Type 0} (c : CopiesValue D) (v set : ℕ) → is_among set (images_on c v) ≡ true → All (λ s. s ≤ set) (images_on c v) → (after_clear c v set).images ≡ c.images
clear_images c v set among most = grind (arith, all_stay, slice_set-same, images_row)

images_same : {D : Type 0} (c d : CopiesValue D) (v : ℕ) → d.images ≡ c.images → images_on d v ≡ images_on c v
images_same c d v e = ap (λ (ss : List (List ℕ)). sets_in (slice_get ss v)) e

-- all blocks are restored, and the copies of the set go
pub reverted_all : {D : Type 0} (ghosts : Ghosts D) (devices after : List D) (old mid now : CopiesValue D) (v set restored : ℕ)
    → v < length old.area.volumes → is_among set (images_on old v) ≡ true → AreNewerGone ghosts.told old mid v set
    → AreRestored ghosts (group_of devices mid) (group_of after now) v set (blocks_at (group_of devices mid) v) restored
    → IsUnfailed ghosts.count (group_of devices mid) (group_of after now) → IsReverted ghosts (group_of devices old) (group_of after (after_clear now v set)) v set
reverted_all {D = D} ghosts devices after old mid now v set restored inside image gone done unfailed = record {
  image = image;
  kept = kept_further ghosts (group_of devices old) (group_of devices mid) (group_of after (after_clear now v set))
      (kept_records ghosts devices old mid gone.volumes gone.slots gone.device)
      (kept_further ghosts (group_of devices mid) (group_of after now) (group_of after (after_clear now v set)) done.kept
      (kept_records ghosts after now (after_clear now v set) refl (length-cleared v set now.area.records) refl));
  stands = λ hs p stands point.
      let newer = newer_of ghosts.told devices old mid hs v set p inside gone stands point in
      let mid_inside : v < length mid.area.volumes = subst (λ (ns : List ℕ). v < length ns) (sym gone.volumes) inside in
      let start = at_start ghosts.told (group_of devices mid) (changed_at v (with_up_to set) hs) v set p newer.stands mid_inside gone.most newer.point in
      let n = blocks_at (group_of devices mid) v in
      let all = subst (λ (xs : List History). StandsFor ghosts.told (group_of after now) xs)
      (below (changed_at v (with_up_to set) hs) v n set p n restored (done.number (changed_at v (with_up_to set) hs) p newer.stands newer.point))
      (done.stands (changed_at v (with_up_to set) hs) p newer.stands newer.point) in
      let within = slice_get_within devices v start.device start.device_is in
      let long = done.kept.devices in
      let d = slice_get_inside after v (omega arith) in
      let images = images_same mid now v done.images in
      let end = restoring_all ghosts.told (group_of after now) (group_of after (after_clear now v set)) (changed_at v (with_up_to set) hs) v n set p d.0 (sets_at (group_of devices mid) v)
      (history_at (changed_at v (with_up_to set) hs) v) all
      (ap (λ (ns : List ℕ). slice_get ns v) done.kept.volumes ∙ start.blocks_is) d.1
      (ap (λ (ss : List (List ℕ)). slice_get ss v) done.images ∙ start.sets_is) start.history_is newer.point start.point_past
      refl (clear_images now v set (ap (is_among set) images ∙ gone.among) (subst (λ (ss : List ℕ). All (λ s. s ≤ set) ss) (sym images) gone.most)) refl refl refl in
      subst (λ (xs : List History). StandsFor ghosts.told (group_of after (after_clear now v set)) xs)
      (changed_at-twice v (reverted set p) (with_up_to set) hs ∙ changed_at-agree v (λ h. reverted set p (with_up_to set h)) (reverted set p) hs (λ h at. reverted_from set p h))
      end;
  unfailed = record { devices = unfailed.devices; area = unfailed.area ∙ ap ghosts.count gone.device };
  slots = done.slots ∙ ap ghosts.told gone.device;
}

-- a device failed
pub reverted_some : {D : Type 0} (ghosts : Ghosts D) (devices after : List D) (old mid now : CopiesValue D) (v set restored : ℕ)
    (cause : Cause) → v < length old.area.volumes → is_among set (images_on old v) ≡ true → AreNewerGone ghosts.told old mid v set
    → IsStopped ghosts (group_of devices mid) (group_of after now) v set restored cause
    → IsRevertedInPart ghosts (group_of devices old) (group_of after now) v set restored × DeviceRose ghosts.count v (group_of devices old) (group_of after now) cause
reverted_some {D = D} ghosts devices after old mid now v set restored cause inside image gone stopped =
    let done = stopped.done in
    let kept = kept_records ghosts devices old mid gone.volumes gone.slots gone.device in
    let blocks : blocks_at (group_of devices mid) v ≡ blocks_at (group_of devices old) v = ap (λ (ns : List ℕ). blocks_in (slice_get ns v)) gone.volumes in (
      record {
        image = image;
        kept = kept_further ghosts (group_of devices old) (group_of devices mid) (group_of after now) kept done.kept;
        fewer = λ hs p stands point.
            let newer = newer_of ghosts.told devices old mid hs v set p inside gone stands point in
            subst (λ (n : ℕ). restored < length (to_restore n (history_at hs v).writes p)) blocks
            (subst (λ (h : History). restored < length (to_restore (blocks_at (group_of devices mid) v) h.writes p)) newer.same
            (stopped.fewer (changed_at v (with_up_to set) hs) p newer.stands newer.point));
        stands = λ hs p stands point.
            let newer = newer_of ghosts.told devices old mid hs v set p inside gone stands point in
            subst (λ (n : ℕ). StandsFor ghosts.told (group_of after now) (changed_at v (reverted_in_part n set p restored) hs)) blocks
            (subst (λ (xs : List History). StandsFor ghosts.told (group_of after now) xs)
            (changed_at-twice v (reverted_in_part (blocks_at (group_of devices mid) v) set p restored) (with_up_to set) hs
            ∙ changed_at-agree v (λ h. reverted_in_part (blocks_at (group_of devices mid) v) set p restored (with_up_to set h))
            (reverted_in_part (blocks_at (group_of devices mid) v) set p restored) hs
            (λ h at. reverted_in_part_from (blocks_at (group_of devices mid) v) set p restored h))
            (done.stands (changed_at v (with_up_to set) hs) p newer.stands newer.point));
        slots = done.slots ∙ ap ghosts.told gone.device;
      },
      device_rose_further ghosts (group_of devices old) (group_of devices mid) (group_of after now) v cause kept (record { devices = refl; area = ap ghosts.count gone.device }) stopped.rose,
    )

pub revert_done : {D : Type 0} (ghosts : Ghosts D) (devices after : List D) (old mid now new : CopiesValue D) (v set : ℕ) (x : Unit)
    → v < length old.area.volumes → is_among set (images_on old v) ≡ true → AreNewerGone ghosts.told old mid v set
    → IsRestoring ghosts (group_of devices mid) (group_of after now) v set (Ok x) → new ≡ after_clear now v set
    → IsReverted ghosts (group_of devices old) (group_of after new) v set
revert_done {D = D} ghosts devices after old mid now new v set x inside image gone done is =
    subst (λ (c : CopiesValue D). IsReverted ghosts (group_of devices old) (group_of after c) v set) (sym is)
    (reverted_all ghosts devices after old mid now v set done.0 inside image gone done.1 done.2)

pub revert_failed : {D : Type 0} (ghosts : Ghosts D) (devices after : List D) (old mid now : CopiesValue D) (v set : ℕ) (fault : RevertFault)
    → v < length old.area.volumes → is_among set (images_on old v) ≡ true → AreNewerGone ghosts.told old mid v set
    → IsRestoring ghosts (group_of devices mid) (group_of after now) v set (Err fault) → IsRevert ghosts (group_of devices old) (group_of after now) v set (Err fault)
revert_failed ghosts devices after old mid now v set NoSuchImage inside image gone failed = absurd failed
revert_failed ghosts devices after old mid now v set
    (Fault restored cause) inside image gone failed = reverted_some ghosts devices after old mid now v set restored cause inside image gone failed

-- each device still has as many blocks as its volume
pub sizes_reverted : {D : Type 0} (ghosts : Ghosts D) (old new : GroupValue D) (v set : ℕ) (r : Result Unit RevertFault)
    → IsRevert ghosts old new v set r → map ghosts.size old.devices ≡ old.area.volumes → map ghosts.size new.devices ≡ new.area.volumes
sizes_reverted ghosts old new v set r is sizes = grind (arith, sizes_kept)

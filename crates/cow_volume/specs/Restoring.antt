-- How a volume is brought back to an image: block after block is restored from the copies of that image and the newer ones, and then
-- these go at once; where a device fails, the newer images are merged down. What each step leaves of the group. (This project's own.)
use Rattle.std.specs.Prelude.{ℕ, ◌≡◌, ◌<◌, ◌≤◌, Bool, true, false, List, length, filter, nat_le, All, Option, Some, IfSome, slice_get, slice_set, option_map, Result, Ok, Err}
use Rattle.write_history.specs.History.{History, point_in, up_to_set, to_restore, reverted_in_part}
use Rattle.diff_area.specs.Format.{place_of_slot}
use Rattle.cow_volume.specs.StandsFor.{GroupValue, StandsFor}
use Rattle.cow_volume.specs.Parts.{CopiesValue, group_of}
use Rattle.cow_volume.specs.Changes.{IsFirstCopy, HasNoCopy, cleared}
use Rattle.cow_volume.specs.CopiesAfter.{images_on, with_records}
use Rattle.cow_volume.specs.Calls.{history_at, changed_at, blocks_at, is_among, IsKept, IsUnfailed, IsQuiet, DeviceRose}
use Rattle.cow_volume.specs.declared.cause.Cause.{Cause}
use Rattle.cow_volume.specs.declared.revert_fault.RevertFault.{RevertFault}
use Rattle.cow_volume.specs.declared.revert_fault.RevertFault.TheVariants.{NoSuchImage, Fault}
use Rattle.volume_device.specs.declared.device.Device.{Ghosts}

-- ## the newer images

-- the history with the images up to that of a set alone
abbrev pub with_up_to : ℕ → History → History
with_up_to set h = record { writes = h.writes; images = up_to_set set h.images }

-- the images of volume v that are newer than that of a set went
pub record AreNewerGone {D : Type 0} (told : D → Option (List (List ℕ))) (old new : CopiesValue D) (v set : ℕ) : Type 0 where
  pub among : is_among set (images_on new v) ≡ true
  pub most : All (λ s. s ≤ set) (images_on new v)
  pub device : new.area.device ≡ old.area.device
  pub volumes : new.area.volumes ≡ old.area.volumes
  pub slots : length new.area.records ≡ length old.area.records
  pub stands : (devices : List D) (hs : List History) → StandsFor told (group_of devices old) hs → StandsFor told (group_of devices new) (changed_at v (with_up_to set) hs)

-- and they were merged down: what the image of the set shows is found where it was, and without the copies from that set on there
-- is no difference
pub record IsMergedTo {D : Type 0} (told : D → Option (List (List ℕ))) (old new : CopiesValue D) (v set : ℕ) : Type 0 where
  pub gone : AreNewerGone told old new v set
  pub found : (b slot : ℕ) → IsFirstCopy old.area.records v set b slot → IsFirstCopy new.area.records v set b slot
  pub none : (b : ℕ) → HasNoCopy old.area.records v set b → HasNoCopy new.area.records v set b
  pub records : cleared v set new.area.records ≡ cleared v set old.area.records
  pub sets : filter (λ s. nat_le s set) (images_on new v) ≡ filter (λ s. nat_le s set) (images_on old v)
  pub others : (xs : List ℕ) → slice_set new.images v xs ≡ slice_set old.images v xs

-- the copies with the records and the images of others, to which they are merged down
abbrev pub merged_as : {D : Type 0} → CopiesValue D → CopiesValue D → CopiesValue D
merged_as mid now = record { area = with_records mid.area.records now.area; images = mid.images }

-- ## block after block

-- the records, the images and what the area's device tells are as they were
pub record KeepsCopies {D : Type 0} (ghosts : Ghosts D) (old new : GroupValue D) : Type 0 where
  pub kept : IsKept ghosts old new
  pub records : new.area.records ≡ old.area.records
  pub images : new.images ≡ old.images
  pub slots : ghosts.told new.area.device ≡ ghosts.told old.area.device

-- of the first m blocks of volume v, those that are to be restored to the image of a set, its newest, are; so many are they
pub record AreRestored {D : Type 0} (ghosts : Ghosts D) (old new : GroupValue D) (v set m restored : ℕ) : Type 0 where
  pub kept : IsKept ghosts old new
  pub records : new.area.records ≡ old.area.records
  pub images : new.images ≡ old.images
  pub slots : ghosts.told new.area.device ≡ ghosts.told old.area.device
  pub number : (hs : List History) (p : ℕ) → StandsFor ghosts.told old hs → point_in set (history_at hs v).images ≡ Some p → restored ≡ length (to_restore m (history_at hs v).writes p)
  pub stands : (hs : List History) (p : ℕ) → StandsFor ghosts.told old hs → point_in set (history_at hs v).images ≡ Some p
      → StandsFor ghosts.told new (changed_at v (reverted_in_part (blocks_at old v) set p restored) hs)

-- block b of volume v got the bytes of the slot that was found for it
pub record IsPutBack {D : Type 0} (ghosts : Ghosts D) (old new : GroupValue D) (v set b : ℕ) : Type 0 where
  pub slot : ℕ
  pub bytes : List ℕ
  pub before : D
  pub after : D
  pub found : IsFirstCopy old.area.records v set b slot
  pub held : IfSome (ghosts.told old.area.device) (λ blocks. slice_get blocks (place_of_slot (length old.area.records) slot) ≡ Some bytes)
  pub was : slice_get old.devices v ≡ Some before
  pub devices : new.devices ≡ slice_set old.devices v after
  pub written : ghosts.told after ≡ option_map (λ blocks. slice_set blocks b bytes) (ghosts.told before)
  pub unfailed : IsUnfailed ghosts.count old new
  pub kept : IsKept ghosts old new
  pub records : new.area.records ≡ old.area.records
  pub images : new.images ≡ old.images
  pub slots : ghosts.told new.area.device ≡ ghosts.told old.area.device

-- a slot was found for it, and then a device failed
pub record IsNotPutBack {D : Type 0} (ghosts : Ghosts D) (old new : GroupValue D) (v set b : ℕ) (cause : Cause) : Type 0 where
  pub slot : ℕ
  pub found : IsFirstCopy old.area.records v set b slot
  pub quiet : IsQuiet ghosts old new
  pub rose : DeviceRose ghosts.count v old new cause

-- what became of block b: no image from the set on has a copy of it; or it was restored; or a device failed
abbrev pub IsOneRestored : {D : Type 0} → Ghosts D → GroupValue D → GroupValue D → ℕ → ℕ → ℕ → Result Bool Cause → Type 0
IsOneRestored ghosts old new v set b (Ok false) = (new ≡ old) × HasNoCopy old.area.records v set b
IsOneRestored ghosts old new v set b (Ok true) = IsPutBack ghosts old new v set b
IsOneRestored ghosts old new v set b (Err cause) = IsNotPutBack ghosts old new v set b cause

-- ## all blocks

-- a device failed after so many blocks were restored: fewer than there are to restore
pub record IsStopped {D : Type 0} (ghosts : Ghosts D) (old new : GroupValue D) (v set restored : ℕ) (cause : Cause) : Type 0 where
  pub block : ℕ
  pub done : AreRestored ghosts old new v set block restored
  pub fewer : (hs : List History) (p : ℕ) → StandsFor ghosts.told old hs → point_in set (history_at hs v).images ≡ Some p → restored < length (to_restore (blocks_at old v) (history_at hs v).writes p)
  pub rose : DeviceRose ghosts.count v old new cause

abbrev pub IsRestoring : {D : Type 0} → Ghosts D → GroupValue D → GroupValue D → ℕ → ℕ → Result Unit RevertFault → Type 0
IsRestoring ghosts old new v set (Ok done) = (restored : ℕ) × AreRestored ghosts old new v set (blocks_at old v) restored × IsUnfailed ghosts.count old new
IsRestoring ghosts old new v set (Err NoSuchImage) = ⊥
IsRestoring ghosts old new v set (Err (Fault restored cause)) = IsStopped ghosts old new v set restored cause

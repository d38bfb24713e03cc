-- The steps of which calls on a group are made: one call on one device. (This project's own.)
use Rattle.std.specs.Prelude.{ℕ, ◌≡◌, ◌≤◌, List, length, Option, Some, slice_get, slice_set, option_map, IfSome, Result, Ok, Err}
use Rattle.vss_names.specs.Faults.{Rose}
use Rattle.volume_device.specs.declared.device.Device.{Ghosts}
use Rattle.diff_area.specs.Format.{place_of_slot}
use Rattle.cow_volume.specs.declared.cause.Cause.{Cause}
use Rattle.cow_volume.specs.declared.cause.Cause.TheVariants.{NoSuchBlock, Volume, Area}
use Rattle.write_history.specs.History.{History, Write, written}
use Rattle.cow_volume.specs.StandsFor.{GroupValue, StandsFor}
use Rattle.cow_volume.specs.Calls.{IsKept, IsUnfailed, DeviceRose, changed_at}
use Rattle.cow_volume.specs.Parts.{CopiesValue}

-- a device is another state of the same one, and tells this now
pub record IsOn {D : Type 0} (ghosts : Ghosts D) (old new : D) (now : Option (List (List ℕ))) : Type 0 where
  pub tells : ghosts.told new ≡ now
  pub size_is : ghosts.size new ≡ ghosts.size old
  pub lends : ghosts.lending new ≡ ghosts.lending old
  pub later : ghosts.count old ≤ ghosts.count new

-- the area's device is, and the records and the images are as they were
pub record IsAreaOn {D : Type 0} (ghosts : Ghosts D) (old new : CopiesValue D) (now : Option (List (List ℕ))) : Type 0 where
  pub device : IsOn ghosts old.area.device new.area.device now
  pub volumes : new.area.volumes ≡ old.area.volumes
  pub records : new.area.records ≡ old.area.records
  pub images : new.images ≡ old.images

-- a block with these bytes, where blocks are told
abbrev pub put : ℕ → List ℕ → Option (List (List ℕ)) → Option (List (List ℕ))
put at bytes told = option_map (λ blocks. slice_set blocks at bytes) told

-- which count rose; the other is as it was
abbrev pub RoseBy : {D : Type 0} → (D → ℕ) → D → D → D → D → Cause → Type 0
RoseBy count device new_device area new_area NoSuchBlock = ⊥
RoseBy count device new_device area new_area Volume = Rose (count device) (count new_device) × (count new_area ≡ count area)
RoseBy count device new_device area new_area Area = Rose (count area) (count new_area) × (count new_device ≡ count device)

-- a block of a volume's device was copied into a slot
pub record IsCopiedIn {D : Type 0} (ghosts : Ghosts D) (device new_device : D) (old new : CopiesValue D) (block slot : ℕ) : Type 0 where
  pub copy : List ℕ
  pub read : IfSome (ghosts.told device) (λ blocks. slice_get blocks block ≡ Some copy)
  pub device_on : IsOn ghosts device new_device (ghosts.told device)
  pub area_on : IsAreaOn ghosts old new (put (place_of_slot (length old.area.records) slot) copy (ghosts.told old.area.device))
  pub device_same : ghosts.count new_device ≡ ghosts.count device
  pub area_same : ghosts.count new.area.device ≡ ghosts.count old.area.device

-- a device failed, and nothing was copied
pub record IsNotCopied {D : Type 0} (ghosts : Ghosts D) (device new_device : D) (old new : CopiesValue D) (cause : Cause) : Type 0 where
  pub device_on : IsOn ghosts device new_device (ghosts.told device)
  pub area_on : IsAreaOn ghosts old new (ghosts.told old.area.device)
  pub rose : RoseBy ghosts.count device new_device old.area.device new.area.device cause

abbrev pub IsCopy : {D : Type 0} → Ghosts D → D → D → CopiesValue D → CopiesValue D → ℕ → ℕ → Result Unit Cause → Type 0
IsCopy ghosts device new_device old new block slot (Ok done) = IsCopiedIn ghosts device new_device old new block slot
IsCopy ghosts device new_device old new block slot (Err cause) = IsNotCopied ghosts device new_device old new cause

-- these bytes were copied into a slot, or the area's device failed
pub record IsSlotFailed {D : Type 0} (ghosts : Ghosts D) (old new : CopiesValue D) (cause : Cause) : Type 0 where
  pub area_on : IsAreaOn ghosts old new (ghosts.told old.area.device)
  pub cause_is : cause ≡ Area
  pub rose : Rose (ghosts.count old.area.device) (ghosts.count new.area.device)

abbrev pub IsSlotCopy : {D : Type 0} → Ghosts D → CopiesValue D → CopiesValue D → ℕ → List ℕ → Result Unit Cause → Type 0
IsSlotCopy ghosts old new slot bytes (Ok done) =
    IsAreaOn ghosts old new (put (place_of_slot (length old.area.records) slot) bytes (ghosts.told old.area.device)) × (ghosts.count new.area.device ≡ ghosts.count old.area.device)
IsSlotCopy ghosts old new slot bytes (Err cause) = IsSlotFailed ghosts old new cause

-- ## a write that lacks no slot

-- the block was written
pub record IsPut {D : Type 0} (ghosts : Ghosts D) (old new : GroupValue D) (v : ℕ) (w : Write) : Type 0 where
  pub kept : IsKept ghosts old new
  pub stands : (hs : List History) → StandsFor ghosts.told old hs → StandsFor ghosts.told new (changed_at v (written w) hs)
  pub unfailed : IsUnfailed ghosts.count old new

-- a device failed, and it stands for what it stood for
pub record IsNotPut {D : Type 0} (ghosts : Ghosts D) (old new : GroupValue D) (v : ℕ) (cause : Cause) : Type 0 where
  pub kept : IsKept ghosts old new
  pub stands : (hs : List History) → StandsFor ghosts.told old hs → StandsFor ghosts.told new hs
  pub rose : DeviceRose ghosts.count v old new cause

abbrev pub IsPutOr : {D : Type 0} → Ghosts D → GroupValue D → GroupValue D → ℕ → Write → Result Unit Cause → Type 0
IsPutOr ghosts old new v w (Ok done) = IsPut ghosts old new v w
IsPutOr ghosts old new v w (Err cause) = IsNotPut ghosts old new v cause

-- ## one device is written

-- the block of a device was written, or the device failed and is as it was
abbrev pub IsPutOn : {D : Type 0} → Ghosts D → D → D → ℕ → List ℕ → Result Unit Cause → Type 0
IsPutOn ghosts old new block bytes (Ok done) = IsOn ghosts old new (put block bytes (ghosts.told old)) × (ghosts.count new ≡ ghosts.count old)
IsPutOn ghosts old new block bytes (Err cause) = IsOn ghosts old new (ghosts.told old) × (cause ≡ Volume) × Rose (ghosts.count old) (ghosts.count new)

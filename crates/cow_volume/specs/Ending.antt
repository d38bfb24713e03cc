-- What is left of a group where the records of its copies are written to the area's device and brought to where they last. (This
-- project's own.)
use Rattle.std.specs.Prelude.{ℕ, ◌≡◌, true, List, Option, Some, is_some, option_map, IfSome, slice_get, Result, Ok, Err}
use Rattle.std.specs.List.{concat}
use Rattle.write_history.specs.History.{History}
use Rattle.write_history.specs.Slots.{copies}
use Rattle.diff_area.specs.AreaValue.{AreInPart, with_first, table_blocks}
use Rattle.diff_area.specs.Copies.{AreStored}
use Rattle.diff_area.specs.Loading.{IsReadFrom}
use Rattle.cow_volume.specs.StandsFor.{GroupValue, placed, StandsFor}
use Rattle.cow_volume.specs.Calls.{IsKept, IsUnfailed, AreaRose}
use Rattle.cow_volume.specs.declared.cause.Cause.{Cause}
use Rattle.cow_volume.specs.declared.cause.Cause.TheVariants.{Area}
use Rattle.volume_device.specs.declared.device.Device.{Ghosts}

-- only what the area's device has before its slots may have changed: the group stands for what it stood for
pub record IsSynced {D : Type 0} (ghosts : Ghosts D) (old new : GroupValue D) : Type 0 where
  pub kept : IsKept ghosts old new
  pub devices : new.devices ≡ old.devices
  pub records : new.area.records ≡ old.area.records
  pub images : new.images ≡ old.images
  pub stands : (hs : List History) → StandsFor ghosts.told old hs → StandsFor ghosts.told new hs
  -- and it stands for nothing else
  pub stood : (hs : List History) → StandsFor ghosts.told new hs → StandsFor ghosts.told old hs

-- the header and the table are on the area's device, where what is read of them is what is in memory; its slots are as they were
pub record IsTableWritten {D : Type 0} (told : D → Option (List (List ℕ))) (old new : GroupValue D) : Type 0 where
  pub written : told new.area.device ≡ option_map (with_first (table_blocks old.area.volumes old.area.records)) (told old.area.device)
  pub read : IfSome (told new.area.device) (λ blocks. IsReadFrom (concat blocks) new.area.volumes new.area.records)

-- or the first few of their blocks are
abbrev pub IsTable : {D : Type 0} → (D → Option (List (List ℕ))) → GroupValue D → GroupValue D → Result Unit Cause → Type 0
IsTable told old new (Ok done) = IsTableWritten told old new
IsTable told old new (Err cause) = AreInPart (table_blocks old.area.volumes old.area.records) (told old.area.device) (told new.area.device)

-- each device tells its blocks
abbrev pub AllTell : {D : Type 0} → (D → Option (List (List ℕ))) → List D → Type 0
AllTell told devices = (v : ℕ) (d : _) → slice_get devices v ≡ Some d → is_some (told d) ≡ true

-- on the area's device stand the copies of the definitions, where all devices tell; or that device failed
abbrev pub IsSync : {D : Type 0} → Ghosts D → GroupValue D → GroupValue D → Result Unit Cause → Type 0
IsSync ghosts old new (Ok done) = IsSynced ghosts old new
    × ((hs : List History) → StandsFor ghosts.told old hs → AllTell ghosts.told old.devices → AreStored (ghosts.told new.area.device) (copies (placed old.area.volumes) hs))
    × IsUnfailed ghosts.count old new
IsSync ghosts old new (Err cause) = IsSynced ghosts old new × (cause ≡ Area) × AreaRose ghosts.count old new

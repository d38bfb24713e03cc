-- What reading a device's blocks leaves and gives, and what an area that is loaded from a device has. (This project's own.)
use Rattle.std.specs.List.{concat}
use Rattle.std.specs.Prelude.{ℕ, ◌≡◌, ◌≤◌, Bool, List, take, drop, Option, IfSome, true, length, replicate, vec_capacity}
use Rattle.vss_names.specs.Faults.{Rose}
use Rattle.block_data.specs.declared.block_buf.TheConstants.{BLOCK}
use Rattle.volume_device.specs.InMemory.{AreBlocks}
use Rattle.volume_device.specs.declared.device.Device.{Ghosts}
use Rattle.diff_area.specs.AreaValue.{AreaValue}
use Rattle.diff_area.specs.Format.{volumes_in, header_of, records_of, IsArea, pages_for, blocks_for, AreVolumes, AreRecords}
use Rattle.diff_area.specs.Refusals.{IsRefused}
use Rattle.diff_area.specs.declared.area_fault.AreaFault.{AreaFault}
use Rattle.diff_area.specs.declared.area_fault.AreaFault.TheVariants.{Device, BadHeader, BadRecord, OutOfMemory}
use Rattle.diff_area.specs.declared.table_record.Record.{Record}
use Rattle.diff_area.specs.declared.tables.Tables.{Tables}

-- ## What reading a device's blocks leaves and gives. (This project's own.)

-- The device was read alone: what it tells is as it was, and its count did not fall.
pub record IsReadAlone {D : Type 0} (ghosts : Ghosts D) (old new : D) : Type 0 where
  pub told_is : ghosts.told new ≡ ghosts.told old
  pub size_is : ghosts.size new ≡ ghosts.size old
  pub lends : ghosts.lending new ≡ ghosts.lending old
  pub later : ghosts.count old ≤ ghosts.count new

-- the count rose where a call failed for the device's sake, and is as it was where it failed for another
abbrev pub RoseFor : ℕ → ℕ → AreaFault → Type 0
RoseFor before now Device = Rose before now
RoseFor before now (BadHeader field found) = now ≡ before
RoseFor before now (BadRecord slot set block volume) = now ≡ before
RoseFor before now OutOfMemory = now ≡ before

-- these blocks were read, one after another
abbrev pub AreRead : Option (List (List ℕ)) → ℕ → ℕ → List ℕ → Type 0
AreRead told first count bytes = IfSome told (λ blocks. bytes ≡ concat (take count (drop first blocks)))

-- blocks are read alone: nothing was found to be refused
abbrev pub IsReadFault : ℕ → ℕ → AreaFault → Type 0
IsReadFault before now Device = Rose before now
IsReadFault before now (BadHeader field found) = ⊥
IsReadFault before now (BadRecord slot set block volume) = ⊥
IsReadFault before now OutOfMemory = now ≡ before

-- ## What an area that is loaded from a device has. (This project's own.)

-- the bytes are an area of these volumes, with these records
pub record IsReadFrom (bytes : List ℕ) (volumes : List ℕ) (records : List Record) : Type 0 where
  pub area : IsArea bytes
  pub volumes_are : volumes ≡ volumes_in (header_of bytes)
  pub records_are : records ≡ records_of bytes

-- the area is that of the device, which was read alone, and none of whose calls failed
pub record IsLoaded {D : Type 0} (ghosts : Ghosts D) (device : D) (area : AreaValue D) : Type 0 where
  pub alone : IsReadAlone ghosts device area.device
  pub same : ghosts.count area.device ≡ ghosts.count device
  pub read : IfSome (ghosts.told device) (λ blocks. IsReadFrom (concat blocks) area.volumes area.records)

-- the blocks of a device, where it tells them, are refused so, and the count rose just where the device failed
pub record AreRefused (told : Option (List (List ℕ))) (before now : ℕ) (fault : AreaFault) : Type 0 where
  pub rose : RoseFor before now fault
  pub refused : IfSome told (λ blocks. IsRefused (concat blocks) fault)

-- what is kept in memory of an area that is read: none of its pages is written yet
pub record AreLoaded (told : Option (List (List ℕ))) (size : ℕ) (tables : Tables) : Type 0 where
  pub size_fits : size ≡ blocks_for (length tables.records.items)
  pub are_volumes : AreVolumes tables.volumes.items
  pub are_records : AreRecords tables.volumes.items tables.records.items
  pub changed_all : tables.changed.items ≡ replicate (pages_for (length tables.records.items)) true
  pub room : BLOCK ≤ vec_capacity tables.page
  pub whole : IfSome told (AreBlocks size)
  pub read : IfSome told (λ blocks. IsReadFrom (concat blocks) tables.volumes.items tables.records.items)

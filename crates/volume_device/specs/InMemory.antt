-- What contracts see of a device in memory and of a maker of such devices, with its plan of failures. (This project's own.)
use Rattle.std.specs.Prelude.{ℕ, ◌≡◌, List, length, All, Bool, false, Option, Some, None, bytes_eq, position, option_and_then, slice_get, remove, true, Result}
use Rattle.std.specs.Prelude.{OnOk, replicate, slice_set, if◌then◌else◌, is_err, ◌==◌, ◌+◌, ◌++◌, ◌∷◌, [], map, Ok, Err}
use Rattle.vss_names.specs.Faults.{counted, Schedule, failing_at, never, IsCall}
use Rattle.block_data.specs.BlockBytes.{zeros}
use Rattle.block_data.specs.declared.block_buf.TheConstants.{BLOCK}
use Rattle.volume_device.specs.declared.make_fault.MakeFault.{MakeFault}
use Rattle.volume_device.specs.declared.make_fault.MakeFault.TheVariants.{Failed, OutOfMemory}
use Rattle.volume_device.specs.declared.mem_device.MemDevice.{MemDevice}
use Rattle.volume_device.specs.declared.mem_maker.MemMaker.{MemMaker}
use Rattle.volume_device.specs.declared.planned.Planned.{Planned}

-- ## What the blocks of a device are: as many as its size says, each of `BLOCK` bytes. (This project's own.)

-- a list of so many blocks
pub record AreBlocks (size : ℕ) (blocks : List (List ℕ)) : Type 0 where
  pub number : length blocks ≡ size
  pub whole : All (λ block. length block ≡ BLOCK) blocks

-- ## A plan of devices in memory: rows that say of the next device of a name whether it is refused, and which of its
-- calls fail. The first row of a name serves the first device of that name, and is then used up. (This project's
-- own.)

abbrev pub is_for : List ℕ → Planned → Bool
is_for name row = bytes_eq row.name.bytes name

-- the place of the first row of a name
abbrev pub place_for : List ℕ → List Planned → Option ℕ
place_for name plan = position (is_for name) plan

-- the first row of a name
abbrev pub row_for : List ℕ → List Planned → Option Planned
row_for name plan = option_and_then (slice_get plan) (place_for name plan)

abbrev pub without_row : List Planned → Option ℕ → List Planned
without_row plan None = plan
without_row plan (Some place) = remove plan place

-- the plan once the first row of a name is used up
abbrev pub used_up : List ℕ → List Planned → List Planned
used_up name plan = without_row plan (place_for name plan)

abbrev pub is_refused : Option Planned → Bool
is_refused None = false
is_refused (Some row) = row.refused

abbrev pub planned_reads : Option Planned → Schedule
planned_reads None = never
planned_reads (Some row) = failing_at row.reads

abbrev pub planned_writes : Option Planned → Schedule
planned_writes None = never
planned_writes (Some row) = failing_at row.writes

abbrev pub planned_flushes : Option Planned → Schedule
planned_flushes None = never
planned_flushes (Some row) = failing_at row.flushes

-- ## What a contract sees of a device in memory: its blocks, which of its calls fail, and its count of faults.
-- (This project's own.)

abbrev pub blocks_of : MemDevice → List (List ℕ)
blocks_of device = device.blocks.items

abbrev pub reads_of : MemDevice → Schedule
reads_of device = device.reads

abbrev pub writes_of : MemDevice → Schedule
writes_of device = device.writes

abbrev pub flushes_of : MemDevice → Schedule
flushes_of device = device.flushes

abbrev pub faults_of : MemDevice → ℕ
faults_of device = device.count

-- whether a block was written since the last accepted flush
abbrev pub is_dirty : MemDevice → Bool
is_dirty device = device.dirty

-- what lasts of it: its blocks, once they were flushed
abbrev pub lasting_of : MemDevice → Option (List (List ℕ))
lasting_of device = if is_dirty device then None else Some (blocks_of device)

-- it lends exactly where none of its reads is to fail
abbrev pub lends_of : MemDevice → Bool
lends_of device = length (reads_of device).failing == 0

-- a device of so many zero blocks, none of whose calls fails
pub record IsNew (size : ℕ) (device : MemDevice) : Type 0 where
  pub zero : blocks_of device ≡ replicate size zeros
  pub reads : reads_of device ≡ never
  pub writes : writes_of device ≡ never
  pub flushes : flushes_of device ≡ never
  pub faults : faults_of device ≡ 0
  pub clean : is_dirty device ≡ false

-- one read: an accepted one gives the block, and no block changes
pub record IsRead {E : Type 0} (old new : MemDevice) (index : ℕ) (out : List ℕ) (result : Result Unit E) : Type 0 where
  pub call : IsCall (reads_of old) (reads_of new) (faults_of old) (faults_of new) result
  pub block : OnOk result (slice_get (blocks_of old) index ≡ Some out)
  pub blocks : blocks_of new ≡ blocks_of old
  pub dirty : is_dirty new ≡ is_dirty old
  pub writes : writes_of new ≡ writes_of old
  pub flushes : flushes_of new ≡ flushes_of old

-- one write: an accepted one sets the block, and another changes none
pub record IsWrite {E : Type 0} (old new : MemDevice) (index : ℕ) (block : List ℕ) (result : Result Unit E) : Type 0 where
  pub call : IsCall (writes_of old) (writes_of new) (faults_of old) (faults_of new) result
  pub blocks : blocks_of new ≡ (if is_err result then blocks_of old else slice_set (blocks_of old) index block)
  pub dirty : is_dirty new ≡ (if is_err result then is_dirty old else true)
  pub reads : reads_of new ≡ reads_of old
  pub flushes : flushes_of new ≡ flushes_of old

-- one flush, which changes no block; after an accepted one they last
pub record IsFlush {E : Type 0} (old new : MemDevice) (result : Result Unit E) : Type 0 where
  pub call : IsCall (flushes_of old) (flushes_of new) (faults_of old) (faults_of new) result
  pub blocks : blocks_of new ≡ blocks_of old
  pub dirty : is_dirty new ≡ (if is_err result then is_dirty old else false)
  pub reads : reads_of new ≡ reads_of old
  pub writes : writes_of new ≡ writes_of old

-- ## What a contract sees of a maker of devices in memory: its plan, the names of those that it made, those that it got
-- back, its free places and its count; and what one `make` of it does. (This project's own.)

abbrev pub plan_of : MemMaker → List Planned
plan_of maker = maker.plan

-- the names of the devices that it made, in order
abbrev pub names_of : MemMaker → List (List ℕ)
names_of maker = map (λ name. name.bytes) maker.names.items

abbrev pub returned_of : MemMaker → List MemDevice
returned_of maker = maker.devices.items

abbrev pub places_of : MemMaker → ℕ
places_of maker = maker.places

abbrev pub maker_faults_of : MemMaker → ℕ
maker_faults_of maker = maker.count

-- the first row of a name
abbrev pub row_of : MemMaker → List ℕ → Option Planned
row_of maker name = row_for name (plan_of maker)

-- a new device of so many zero blocks, whose calls fail as its row says
pub record IsPlanned (row : Option Planned) (size : ℕ) (device : MemDevice) : Type 0 where
  pub zero : blocks_of device ≡ replicate size zeros
  pub reads : reads_of device ≡ planned_reads row
  pub writes : writes_of device ≡ planned_writes row
  pub flushes : flushes_of device ≡ planned_flushes row
  pub faults : faults_of device ≡ 0
  pub clean : is_dirty device ≡ false

-- The device of a name was made as the name's first row says. That row is used up, and a place was added.
pub record IsMade (old new : MemMaker) (name : List ℕ) (size : ℕ) (device : MemDevice) : Type 0 where
  pub accepted : is_refused (row_of old name) ≡ false
  pub planned : IsPlanned (row_of old name) size device
  pub plan : plan_of new ≡ used_up name (plan_of old)
  pub names : names_of new ≡ names_of old ++ name ∷ []
  pub places : places_of new ≡ places_of old + 1
  pub faults : maker_faults_of new ≡ maker_faults_of old

-- The name's first row refuses the device. That row is used up, and the count rose by one.
pub record IsRefused (old new : MemMaker) (name : List ℕ) : Type 0 where
  pub refused : is_refused (row_of old name) ≡ true
  pub plan : plan_of new ≡ used_up name (plan_of old)
  pub names : names_of new ≡ names_of old
  pub places : places_of new ≡ places_of old
  pub faults : maker_faults_of new ≡ counted (maker_faults_of old) 1

-- Memory was refused, and all is as before.
pub record IsUnmade (old new : MemMaker) (name : List ℕ) : Type 0 where
  pub accepted : is_refused (row_of old name) ≡ false
  pub plan : plan_of new ≡ plan_of old
  pub names : names_of new ≡ names_of old
  pub places : places_of new ≡ places_of old
  pub faults : maker_faults_of new ≡ maker_faults_of old

-- what one `make` does, by its answer
abbrev pub IsMakeOf : MemMaker → MemMaker → List ℕ → ℕ → Result MemDevice MakeFault → Type 0
IsMakeOf old new name size (Ok device) = IsMade old new name size device
IsMakeOf old new name size (Err Failed) = IsRefused old new name
IsMakeOf old new name size (Err OutOfMemory) = IsUnmade old new name

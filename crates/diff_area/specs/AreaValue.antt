-- What a contract sees of an area, with the bytes of its header and table as they are written, and of a new one. (This project's own.)
use Rattle.std.specs.List.{flat_map, range_with_len}
use Rattle.std.specs.Prelude.{ℕ, ◌-◌, ◌*◌, List, ◌∷◌, ◌++◌, length, take, drop, map, codes, ◌≡◌, ◌≤◌, ◌+◌, Bool, false, Option, Some, slice_get, option_map}
use Rattle.std.specs.Prelude.{Vec, vec_capacity, true, replicate}
use Rattle.std.specs.declared.alloc.Global.{Global}
use Rattle.byteorder.specs.Endian.{little_bytes}
use Rattle.block_data.specs.BlockBytes.{run_of}
use Rattle.block_data.specs.declared.block_buf.TheConstants.{BLOCK}
use Rattle.diff_area.specs.Format.{pages_for, blocks_for, used_in, AreVolumes, AreRecords, free}
use Rattle.diff_area.specs.declared.table_record.Record.{Record}
use Rattle.diff_area.specs.declared.tables.Tables.{Tables}

-- ## The bytes of a header and of a table, as they are written. All numbers have four bytes, the lowest first. (This
-- project's own; the order of bytes is that of the crate byteorder.)

unfoldable pub number_bytes : ℕ → List ℕ
number_bytes n = little_bytes 4 n

-- the 16 bytes of a record
unfoldable pub record_bytes : Record → List ℕ
record_bytes r = number_bytes r.set ++ number_bytes r.block ++ number_bytes r.volume ++ number_bytes 0

-- these bytes, and zeros to the end of the block
unfoldable pub padded : List ℕ → List ℕ
padded bytes = bytes ++ run_of (BLOCK - length bytes) 0

-- the records that stand in page k
unfoldable pub records_of_page : List Record → ℕ → List Record
records_of_page records k = take 1024 (drop (1024 * k) records)

-- page k of the table; the records past the last slot are zeros
unfoldable pub page_bytes : List Record → ℕ → List ℕ
page_bytes records k = padded (flat_map record_bytes (records_of_page records k))

-- the header, in layout 2
unfoldable pub header_bytes : List ℕ → List Record → List ℕ
header_bytes volumes records =
    padded (codes "VSSAREA1" ++ number_bytes 2 ++ number_bytes (length records) ++ number_bytes (used_in records) ++ number_bytes (length volumes) ++ flat_map number_bytes volumes)

-- the header and the table
unfoldable pub table_blocks : List ℕ → List Record → List (List ℕ)
table_blocks volumes records = header_bytes volumes records ∷ map (page_bytes records) (range_with_len 0 (pages_for (length records)))

-- ## What a contract sees of an area: its device, the numbers of blocks of its group's volumes, and the record of each
-- slot, in order of slots. The records are in memory, and the device's table may lag behind until they are written.
-- (This project's own.)

pub record AreaValue (D : Type 0) : Type 0 where
  pub device : D
  pub volumes : List ℕ
  pub records : List Record

-- each page that does not count as changed stands on the device, where it tells its blocks
abbrev pub AreWritten : Option (List (List ℕ)) → List Record → List Bool → Type 0
AreWritten told records changed =
    (blocks : List (List ℕ)) (k : ℕ) → told ≡ Some blocks → slice_get changed k ≡ Some false → slice_get blocks (1 + k) ≡ Some (page_bytes records k)

-- what an area's fields keep
pub record KeepsArea {D : Type 0} (told : D → Option (List (List ℕ))) (size : D → ℕ) (device : D) (volumes : List ℕ) (records : List Record) (changed : List Bool) (page : Vec ℕ Global) : Type 0 where
  pub fits : size device ≡ blocks_for (length records)
  pub are_volumes : AreVolumes volumes
  pub are_records : AreRecords volumes records
  pub pages : length changed ≡ pages_for (length records)
  pub written : AreWritten (told device) records changed
  pub room : BLOCK ≤ vec_capacity page

-- the device is another state of the same one, and all else is as it was
pub record KeepsTable {D : Type 0} (size : D → ℕ) (lending : D → Bool) (old new : AreaValue D) : Type 0 where
  pub volumes : new.volumes ≡ old.volumes
  pub records : new.records ≡ old.records
  pub size_is : size new.device ≡ size old.device
  pub lends : lending new.device ≡ lending old.device

-- ## what a device tells once the table is written

-- these blocks stand in place of the first ones
abbrev pub with_first : List (List ℕ) → List (List ℕ) → List (List ℕ)
with_first first blocks = first ++ drop (length first) blocks

-- the first few of these blocks stand there, and the others do not yet
pub record AreInPart (first : List (List ℕ)) (old new : Option (List (List ℕ))) : Type 0 where
  pub count : ℕ
  pub within : count ≤ length first
  pub blocks : new ≡ option_map (with_first (take count first)) old

-- ## What is made for a new area: free records, none of which is written, and room for a page. (This project's own.)

pub record AreNew (slots : ℕ) (blocks : List ℕ) (tables : Tables) : Type 0 where
  pub volumes : tables.volumes.items ≡ blocks
  pub records : tables.records.items ≡ replicate slots free
  pub changed : tables.changed.items ≡ replicate (pages_for slots) true
  pub room : BLOCK ≤ vec_capacity tables.page

-- the same with these records
pub record AreOfRecords (volumes : List ℕ) (records : List Record) (tables : Tables) : Type 0 where
  pub volumes_are : tables.volumes.items ≡ volumes
  pub records_are : tables.records.items ≡ records
  pub changed_all : tables.changed.items ≡ replicate (pages_for (length records)) true
  pub room : BLOCK ≤ vec_capacity tables.page

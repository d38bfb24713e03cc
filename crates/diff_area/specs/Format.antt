-- The format of an area: where its parts stand on its device, its records, and what its bytes say. (This project's own.)
use Rattle.std.specs.List.{list_any, range_with_len, starts_with}
use Rattle.std.specs.Prelude.{ℕ, ◌+◌, ◌/◌, ◌≡◌, ◌≢◌, ◌<◌, ◌≤◌, Bool, ◌==◌, ◌&&◌, not, List, length, slice_index, slice_get, Some, All, count_by, ◌*◌, true}
use Rattle.std.specs.Prelude.{take, drop, map, ◌||◌, nat_lt, nat_le, nat_eq, if◌then◌else◌, None, codes, find}
use Rattle.byteorder.specs.Endian.{little_number}
use Rattle.block_data.specs.declared.block_buf.TheConstants.{BLOCK}
use Rattle.diff_area.specs.declared.table_record.Record.{Record}

-- ## Where the parts of an area stand on its device: a header, then the pages of the table, then the slots. A page has
-- 1,024 records of 16 bytes. (This project's own.)

-- how many pages there are for so many slots
abbrev pub pages_for : ℕ → ℕ
pages_for slots = (slots + 1023) / 1024

-- how many blocks the header and the table have
abbrev pub table_for : ℕ → ℕ
table_for slots = 1 + pages_for slots

-- how many blocks an area has in all
abbrev pub blocks_for : ℕ → ℕ
blocks_for slots = table_for slots + slots

-- the block of a slot, in an area of so many slots
abbrev pub place_of_slot : ℕ → ℕ → ℕ
place_of_slot slots slot = table_for slots + slot

-- ## The records of an area's table, one for each slot: for which copy the slot is used, or zeros where it is free.
-- (This project's own.)

-- the record of a free slot
abbrev pub free : Record
free = record { set = 0; block = 0; volume = 0 }

abbrev pub is_free : Record → Bool
is_free r = (r.set == 0) && (r.block == 0) && (r.volume == 0)

-- how many records are not free
abbrev pub used_in : List Record → ℕ
used_in records = count_by (λ r. not (is_free r)) records

-- the numbers of blocks of the volumes of a group
pub record AreVolumes (volumes : List ℕ) : Type 0 where
  pub some : 0 < length volumes
  pub few : length volumes ≤ 128
  pub each : All (λ blocks. (0 < blocks) × (blocks ≤ 65536)) volumes

-- a record that is not free: of a set, of a volume of the group and of a block of that volume
pub record IsUsed (volumes : List ℕ) (r : Record) : Type 0 where
  pub set : 0 < r.set
  pub volume : r.volume < length volumes
  pub block : r.block < slice_index volumes r.volume

-- its numbers fit their four bytes
pub record IsNarrow (r : Record) : Type 0 where
  pub set : r.set < 4294967296
  pub block : r.block < 4294967296
  pub volume : r.volume < 4294967296

abbrev pub AreNarrow : List Record → Type 0
AreNarrow records = (slot : ℕ) (r : Record) → slice_get records slot ≡ Some r → IsNarrow r

-- the records of an area: each is free or of a block of the group, and no two that are not free are equal
pub record AreRecords (volumes : List ℕ) (records : List Record) : Type 0 where
  pub few : length records ≤ 65536
  pub narrow : AreNarrow records
  pub each : (slot : ℕ) (r : Record) → slice_get records slot ≡ Some r → r ≢ free → IsUsed volumes r
  pub once : (slot other : ℕ) (r : Record) → slice_get records slot ≡ Some r → slice_get records other ≡ Some r → r ≢ free → slot ≡ other

-- ## The format of an area, on its bytes: what a header and a record say, and the conditions under which they are of the
-- format. All numbers have four bytes, the lowest first; bytes that are missing read as zeros. Layout 2 is written;
-- layout 1, which is of one volume, is read too. (This project's own.)

-- so many bytes from a place on, or as many of them as there are
unfoldable pub part : ℕ → ℕ → List ℕ → List ℕ
part at len bytes = take len (drop at bytes)

-- the number at a place
unfoldable pub number_at : List ℕ → ℕ → ℕ
number_at bytes at = little_number 4 (drop at bytes)

-- ## the header, which is the first block

abbrev pub layout_in : List ℕ → ℕ
layout_in header = number_at header 8

abbrev pub slots_in : List ℕ → ℕ
slots_in header = number_at header 12

-- how many records are used, as the header says
abbrev pub stated_used : List ℕ → ℕ
stated_used header = number_at header 16

abbrev pub volume_count : List ℕ → ℕ
volume_count header = if layout_in header == 1 then 1 else number_at header 20

-- where the numbers of blocks of the volumes begin
abbrev pub volumes_from : ℕ → ℕ
volumes_from layout = if layout == 1 then 20 else 24

unfoldable pub volumes_in : List ℕ → List ℕ
volumes_in header = map (λ v. number_at header (volumes_from (layout_in header) + 4 * v)) (range_with_len 0 (volume_count header))

-- the bytes after the last field
unfoldable pub rest_in : List ℕ → List ℕ
rest_in header = drop (volumes_from (layout_in header) + 4 * volume_count header) header

-- 1. it begins with the letters
abbrev pub has_magic : List ℕ → Bool
has_magic header = starts_with nat_eq header (codes "VSSAREA1")

-- 2. the layout is one of the two
abbrev pub is_layout : ℕ → Bool
is_layout layout = (layout == 1) || (layout == 2)

-- 3. the slots are not too many, and they fit the area's number of bytes
abbrev pub fits : ℕ → ℕ → Bool
fits size slots = nat_le slots 65536 && (size == BLOCK * blocks_for slots)

-- 4. there are 1 to 128 volumes
abbrev pub is_volume_count : ℕ → Bool
is_volume_count count = nat_le 1 count && nat_le count 128

-- 5. each has 1 to 65,536 blocks: no number is out of range
abbrev pub is_out_of_range : ℕ → Bool
is_out_of_range blocks = not (nat_le 1 blocks && nat_le blocks 65536)

-- 6. all other bytes are zeros: none is not
abbrev pub is_nonzero : ℕ → Bool
is_nonzero byte = not (byte == 0)

-- a header that meets the six conditions, of an area of so many bytes
pub record HasHeader (size : ℕ) (header : List ℕ) : Type 0 where
  pub magic : has_magic header ≡ true
  pub layout : is_layout (layout_in header) ≡ true
  pub slots : fits size (slots_in header) ≡ true
  pub volumes : is_volume_count (volume_count header) ≡ true
  pub blocks : find is_out_of_range (volumes_in header) ≡ None
  pub rest : find is_nonzero (rest_in header) ≡ None

-- ## the records, of 16 bytes each, which fill the pages of the table

-- the bytes of the record of a slot
unfoldable pub row_at : List ℕ → ℕ → List ℕ
row_at table slot = part (16 * slot) 16 table

-- what a record says, in its layout
abbrev pub row_of : ℕ → List ℕ → Record
row_of layout row = record { set = number_at row 0; block = number_at row 4; volume = if layout == 1 then 0 else number_at row 8 }

-- the other bytes of a record are zeros
abbrev pub has_zeros : ℕ → List ℕ → Bool
has_zeros layout row = ((layout == 2) || (number_at row 8 == 0)) && (number_at row 12 == 0)

-- the records of the first n slots
unfoldable pub rows_in : ℕ → List ℕ → ℕ → List Record
rows_in layout table n = map (λ slot. row_of layout (row_at table slot)) (range_with_len 0 n)

-- a record of a set, of a volume of the group and of a block of that volume
abbrev pub is_used : List ℕ → Record → Bool
is_used volumes r = nat_lt 0 r.set && nat_lt r.volume (length volumes) && nat_lt r.block (slice_index volumes r.volume)

abbrev pub is_same : Record → Record → Bool
is_same r other = (r.set == other.set) && (r.block == other.block) && (r.volume == other.volume)

-- a record that is good by itself: it is all zeros, or is used, and then it is of a slot that there is
unfoldable pub is_sound : List ℕ → ℕ → ℕ → ℕ → List ℕ → Bool
is_sound volumes slots layout slot row =
    has_zeros layout row && (is_free (row_of layout row) || (is_used volumes (row_of layout row) && nat_lt slot slots))

-- 7. the record is good by itself, and where it is not free no earlier one is equal
unfoldable pub is_good : List ℕ → ℕ → ℕ → ℕ → List ℕ → List Record → Bool
is_good volumes slots layout slot row earlier =
    is_sound volumes slots layout slot row && (is_free (row_of layout row) || not (list_any (is_same (row_of layout row)) earlier))

-- the same of a record in its table
abbrev pub good_at : List ℕ → ℕ → ℕ → List ℕ → ℕ → Bool
good_at volumes slots layout table slot = is_good volumes slots layout slot (row_at table slot) (rows_in layout table slot)

-- and under a header
abbrev pub good_in : List ℕ → List ℕ → ℕ → Bool
good_in header table slot = good_at (volumes_in header) (slots_in header) (layout_in header) table slot

-- ## an area

abbrev pub header_of : List ℕ → List ℕ
header_of bytes = part 0 BLOCK bytes

abbrev pub table_of : List ℕ → List ℕ
table_of bytes = part BLOCK (BLOCK * pages_for (slots_in (header_of bytes))) bytes

-- the records of all slots
abbrev pub records_of : List ℕ → List Record
records_of bytes = rows_in (layout_in (header_of bytes)) (table_of bytes) (slots_in (header_of bytes))

-- how many records there are, with those past the last slot
abbrev pub row_count : ℕ → ℕ
row_count slots = 1024 * pages_for slots

-- An area: its header is of the format, each record is, and 8. as many are used as the header says.
pub record IsArea (bytes : List ℕ) : Type 0 where
  pub header : HasHeader (length bytes) (header_of bytes)
  pub records : (slot : ℕ) → slot < row_count (slots_in (header_of bytes)) → good_in (header_of bytes) (table_of bytes) slot ≡ true
  pub used : stated_used (header_of bytes) ≡ used_in (records_of bytes)

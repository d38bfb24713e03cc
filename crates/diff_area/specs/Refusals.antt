-- Which refusal bytes get that are no area: that of the first condition that they do not meet, in the order of the
-- conditions, with what was found there. (This project's own.)
use Rattle.std.specs.Fmt.{decimal}
use Rattle.std.specs.Prelude.{ℕ, ◌≡◌, ◌≢◌, ◌<◌, true, false, List, length, Some, None, find, ◌++◌, codes}
use Rattle.diff_area.specs.Format.{number_at, layout_in, slots_in, stated_used, volume_count, volumes_in, rest_in, has_magic, is_layout, fits, is_volume_count}
use Rattle.diff_area.specs.Format.{is_out_of_range, is_nonzero, HasHeader, row_at, row_of, good_in, header_of, table_of, records_of, row_count, used_in}
use Rattle.diff_area.specs.declared.area_fault.AreaFault.{AreaFault}
use Rattle.diff_area.specs.declared.area_fault.AreaFault.TheVariants.{Device, BadHeader, BadRecord, OutOfMemory}
use Rattle.diff_area.specs.declared.header_field.HeaderField.{HeaderField}
use Rattle.diff_area.specs.declared.header_field.HeaderField.TheVariants.{Magic, Layout, Slots, Used, Volumes, Blocks, Rest}
use Rattle.diff_area.specs.declared.table_record.Record.{Record}

-- the field is the first that is not of the format, and this was found there
abbrev pub IsBadField : ℕ → List ℕ → HeaderField → ℕ → Type 0
IsBadField size h Magic found = (has_magic h ≡ false) × (found ≡ number_at h 0)
IsBadField size h Layout found = (has_magic h ≡ true) × (is_layout (layout_in h) ≡ false) × (found ≡ layout_in h)
IsBadField size h Slots found =
    (has_magic h ≡ true) × (is_layout (layout_in h) ≡ true) × (fits size (slots_in h) ≡ false) × (found ≡ slots_in h)
IsBadField size h Volumes found =
    (has_magic h ≡ true) × (is_layout (layout_in h) ≡ true) × (fits size (slots_in h) ≡ true)
    × (is_volume_count (volume_count h) ≡ false) × (found ≡ volume_count h)
IsBadField size h Blocks found =
    (has_magic h ≡ true) × (is_layout (layout_in h) ≡ true) × (fits size (slots_in h) ≡ true)
    × (is_volume_count (volume_count h) ≡ true) × (find is_out_of_range (volumes_in h) ≡ Some found)
IsBadField size h Rest found =
    (has_magic h ≡ true) × (is_layout (layout_in h) ≡ true) × (fits size (slots_in h) ≡ true)
    × (is_volume_count (volume_count h) ≡ true) × (find is_out_of_range (volumes_in h) ≡ None)
    × (find is_nonzero (rest_in h) ≡ Some found)
IsBadField size h Used found = ⊥

-- the header is refused so, or memory was
abbrev pub IsBadHeader : ℕ → List ℕ → AreaFault → Type 0
IsBadHeader size h Device = ⊥
IsBadHeader size h (BadHeader field found) = IsBadField size h field found
IsBadHeader size h (BadRecord slot set block volume) = ⊥
IsBadHeader size h OutOfMemory = Unit {0}

-- the record of this slot is the first that is not good, and it says this
pub record IsFirstBad (header table : List ℕ) (slot : ℕ) (r : Record) : Type 0 where
  pub within : slot < row_count (slots_in header)
  pub earlier : (other : ℕ) → other < slot → good_in header table other ≡ true
  pub bad : good_in header table slot ≡ false
  pub says : row_of (layout_in header) (row_at table slot) ≡ r

-- the header and the records are of the format, and another number of them is used than the header says
pub record IsMiscounted (bytes : List ℕ) (found : ℕ) : Type 0 where
  pub header : HasHeader (length bytes) (header_of bytes)
  pub records : (slot : ℕ) → slot < row_count (slots_in (header_of bytes)) → good_in (header_of bytes) (table_of bytes) slot ≡ true
  pub stated : found ≡ stated_used (header_of bytes)
  pub other : found ≢ used_in (records_of bytes)

-- the first refusal of the bytes of an area; nothing is said of the device and of memory
abbrev pub IsRefused : List ℕ → AreaFault → Type 0
IsRefused bytes Device = Unit {0}
IsRefused bytes (BadHeader Used found) = IsMiscounted bytes found
IsRefused bytes (BadHeader field found) = IsBadField (length bytes) (header_of bytes) field found
IsRefused bytes (BadRecord slot set block volume) =
    HasHeader (length bytes) (header_of bytes) × IsFirstBad (header_of bytes) (table_of bytes) slot (record { set = set; block = block; volume = volume })
IsRefused bytes OutOfMemory = Unit {0}

-- ## What is said of a call on an area that failed. (This project's own.)

abbrev pub field_name : HeaderField → List ℕ
field_name Magic = codes "Magic"
field_name Layout = codes "Layout"
field_name Slots = codes "Slots"
field_name Used = codes "Used"
field_name Volumes = codes "Volumes"
field_name Blocks = codes "Blocks"
field_name Rest = codes "Rest"

abbrev pub message_of : AreaFault → List ℕ
message_of Device = codes "the device failed"
message_of (BadHeader field found) = codes "the header has " ++ decimal found ++ codes " in field " ++ field_name field
message_of (BadRecord slot set block volume) =
    codes "slot " ++ decimal slot ++ codes " has set " ++ decimal set ++ codes ", block " ++ decimal block ++ codes ", volume " ++ decimal volume
message_of OutOfMemory = codes "out of memory"

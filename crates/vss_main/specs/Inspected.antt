-- The listing of an area, and what an inspection of a source promises, by how it ended. (This project's own.)
use Rattle.std.specs.Fmt.{decimal}
use Rattle.std.specs.List.{flat_map, range_with_len}
use Rattle.std.specs.Prelude.{ℕ, List, [], ◌∷◌, ◌++◌, length, if◌then◌else◌, codes, slice_index, ◌≡◌, ◌≤◌, Option, Some, IfSome}
use Rattle.hex.specs.Hex.{encode_lower}
use Rattle.vss_names.specs.Faults.{Rose}
use Rattle.block_data.specs.BlockBytes.{sha256}
use Rattle.io_edge.specs.Streams.{Gave, Took, TookPart}
use Rattle.diff_area.specs.Copies.{slot_of}
use Rattle.diff_area.specs.Format.{layout_in, slots_in, volumes_in, header_of, table_of, row_at, row_of, records_of, IsArea, is_free, used_in}
use Rattle.diff_area.specs.Refusals.{IsRefused}
use Rattle.diff_area.specs.declared.area_fault.AreaFault.{AreaFault}
use Rattle.diff_area.specs.declared.area_fault.AreaFault.TheVariants.{Device, BadHeader, BadRecord}
use Rattle.diff_area.specs.declared.area_fault.AreaFault.TheVariants as fault
use Rattle.diff_area.specs.declared.table_record.Record.{Record}
use Rattle.vss_main.specs.Command.{most_area_bytes}
use Rattle.vss_main.specs.Outside.{Around, IsUnmade}
use Rattle.vss_main.specs.declared.inspection.Inspection.{Inspection}
use Rattle.vss_main.specs.declared.inspection.Inspection.TheVariants.{Listed, Refused, ReadFault, WriteFault, TooLong, OutOfMemory}
use Rattle.vss_main.specs.declared.status.Status.{Status}
use Rattle.vss_main.specs.declared.status.Status.TheVariants as told

-- ## The listing of an area: a line of its layout, its slots and how many of them are used; a line for each volume of its group; a
-- line for each slot that is used, in order of slots, with the record that it has and the SHA-256 of its block; and a last line.
-- Numbers are decimal, digests hexadecimal in lower case. (This project's own.)

-- the text as a line, with the newline that ends it
abbrev pub as_line : List ℕ → List ℕ
as_line text = text ++ 10 ∷ []

-- the layout, the number of slots and the number of those that are used
abbrev pub head_of : ℕ → ℕ → ℕ → List ℕ
head_of layout slots used = as_line (codes "area layout " ++ decimal layout ++ codes " slots " ++ decimal slots ++ codes " used " ++ decimal used)

abbrev pub head_line : List ℕ → List ℕ
head_line bytes = head_of (layout_in (header_of bytes)) (slots_in (header_of bytes)) (used_in (records_of bytes))

-- ## the volumes of the group

abbrev pub volume_line : List ℕ → ℕ → List ℕ
volume_line bytes v = as_line (codes "volume " ++ decimal v ++ codes " blocks " ++ decimal (slice_index (volumes_in (header_of bytes)) v))

-- those of the first n volumes
unfoldable pub volume_lines : List ℕ → ℕ → List ℕ
volume_lines bytes n = flat_map (volume_line bytes) (range_with_len 0 n)

-- ## the slots

-- a slot with this record and this block
abbrev pub used_line : ℕ → Record → List ℕ → List ℕ
used_line slot r block =
    as_line (codes "slot " ++ decimal slot ++ codes " set " ++ decimal r.set ++ codes " volume " ++ decimal r.volume
    ++ codes " block " ++ decimal r.block ++ codes " " ++ encode_lower (sha256 block))

-- a free slot has no line
abbrev pub record_line : ℕ → Record → List ℕ → List ℕ
record_line slot r block = if is_free r then [] else used_line slot r block

-- the record of a slot
abbrev pub record_of : List ℕ → ℕ → Record
record_of bytes slot = row_of (layout_in (header_of bytes)) (row_at (table_of bytes) slot)

abbrev pub slot_line : List ℕ → ℕ → List ℕ
slot_line bytes slot = record_line slot (record_of bytes slot) (slot_of bytes slot)

-- those of the first n slots
unfoldable pub slot_lines : List ℕ → ℕ → List ℕ
slot_lines bytes n = flat_map (slot_line bytes) (range_with_len 0 n)

-- ## the whole

abbrev pub last_line : List ℕ
last_line = as_line (codes "end")

abbrev pub listing : List ℕ → List ℕ
listing bytes = head_line bytes ++ volume_lines bytes (length (volumes_in (header_of bytes))) ++ slot_lines bytes (slots_in (header_of bytes)) ++ last_line

-- ## What an inspection of a source promises, by how it ended: if the area is listed, the bytes read to the end are an area, and the sink took
-- its listing; if it is refused, they are none, and what is shown is the first refusal of their format. (This project's own.)

-- the source and the sink before the call and after it
pub record Edges : Type 0 where
  pub left_first : Option (List ℕ)
  pub left_last : Option (List ℕ)
  pub reads_first : ℕ
  pub reads_last : ℕ
  pub taken_first : Option (List ℕ)
  pub taken_last : Option (List ℕ)
  pub writes_first : ℕ
  pub writes_last : ℕ

-- nothing was written
pub record IsSilent (e : Edges) : Type 0 where
  pub taken : e.taken_last ≡ e.taken_first
  pub writes : e.writes_last ≡ e.writes_first

-- the source was read to its end, and these bytes are all that it gave
pub record IsAreaInput (e : Edges) (input : List ℕ) : Type 0 where
  pub gave : Gave e.left_first input e.left_last
  pub to_the_end : IfSome e.left_last (λ rest. rest ≡ [])
  pub within : length input ≤ most_area_bytes
  pub reads : e.reads_last ≡ e.reads_first

-- the input is an area, and its listing was written
pub record IsListed (e : Edges) : Type 0 where
  pub input : List ℕ
  pub is_input : IsAreaInput e input
  pub is_area : IsArea input
  pub written : Took e.taken_first (listing input) e.taken_last
  pub writes : e.writes_last ≡ e.writes_first

-- a first part of the listing was written
pub record IsListedInPart (e : Edges) : Type 0 where
  pub input : List ℕ
  pub is_input : IsAreaInput e input
  pub is_area : IsArea input
  pub part : TookPart e.taken_first (listing input) e.taken_last
  pub rose : Rose e.writes_first e.writes_last

-- the input is no area: this is the first refusal of its format
pub record IsNoArea (e : Edges) (why : AreaFault) : Type 0 where
  pub input : List ℕ
  pub is_input : IsAreaInput e input
  pub refused : IsRefused input why
  pub no_device : why ≡ fault.Device → ⊥
  pub no_memory : why ≡ fault.OutOfMemory → ⊥
  pub silent : IsSilent e

pub record IsUnread (e : Edges) : Type 0 where
  pub rose : Rose e.reads_first e.reads_last
  pub silent : IsSilent e

-- the input is too long, or memory was refused
pub record IsCutShort (e : Edges) : Type 0 where
  pub reads : e.reads_last ≡ e.reads_first
  pub silent : IsSilent e

-- how it ends where there is no listing for this cause
abbrev pub ended_by : AreaFault → Inspection
ended_by Device = Refused Device
ended_by (BadHeader field found) = Refused (BadHeader field found)
ended_by (BadRecord slot set block volume) = Refused (BadRecord slot set block volume)
ended_by fault.OutOfMemory = OutOfMemory

abbrev pub IsInspected : Edges → Inspection → Type 0
IsInspected e Listed = IsListed e
IsInspected e (Refused why) = IsNoArea e why
IsInspected e ReadFault = IsUnread e
IsInspected e WriteFault = IsListedInPart e
IsInspected e TooLong = IsCutShort e
IsInspected e OutOfMemory = IsCutShort e

-- Where the input is an area and no count rises, its listing is written or memory is wanting.
pub record NothingRises (e : Edges) : Type 0 where
  pub reads : Rose e.reads_first e.reads_last → ⊥
  pub writes : Rose e.writes_first e.writes_last → ⊥

abbrev pub IsListedOrWantsMemory : Inspection → Type 0
IsListedOrWantsMemory Listed = Unit {0}
IsListedOrWantsMemory OutOfMemory = Unit {0}
IsListedOrWantsMemory _ = ⊥

abbrev pub IsListedWhereItCan : Edges → Inspection → Type 0
IsListedWhereItCan e ended =
    (bytes : List ℕ) → e.left_first ≡ Some bytes → length bytes ≤ most_area_bytes → IsArea bytes → NothingRises e → IsListedOrWantsMemory ended

-- ## what the word `inspect` promises of the top call: the status tells how the inspection ended, and no device was made

-- the status with which an inspection ends
abbrev pub status_of : Inspection → Status
status_of Listed = told.Done
status_of (Refused why) = told.AreaRefused why
status_of ReadFault = told.ReadFault
status_of WriteFault = told.WriteFault
status_of TooLong = told.TooLong
status_of OutOfMemory = told.OutOfMemory

-- the source and the sink before the call and after it
abbrev pub edges_of : {D : Type 0} → Around D → Edges
edges_of a = record {
  left_first = a.left_first;
  left_last = a.left_last;
  reads_first = a.reads_first;
  reads_last = a.reads_last;
  taken_first = a.out.taken_first;
  taken_last = a.out.taken_last;
  writes_first = a.out.writes_first;
  writes_last = a.out.writes_last;
}

pub record IsListing {D : Type 0} (a : Around D) (status : Status) : Type 0 where
  pub ended : Inspection
  pub status_is : status ≡ status_of ended
  pub inspected : IsInspected (edges_of a) ended
  pub complete : IsListedWhereItCan (edges_of a) ended
  pub unmade : IsUnmade a.out.maker

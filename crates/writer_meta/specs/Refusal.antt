-- Why a metadata document is refused. (This project's own.)
use Rattle.std.specs.Char.{encode_utf8}
use Rattle.std.specs.List.{flat_map}
use Rattle.std.specs.Prelude.{◌≡◌, ℕ, List, codes, Option, Some, None, Result, Err, ⊤, ◌++◌, if◌then◌else◌}
use Rattle.writer_meta.specs.Values.{is_printable}
use Rattle.writer_meta.specs.declared.field.Field.{Field}
use Rattle.writer_meta.specs.declared.field.Field.TheVariants.{Document, Class, Name, Level, Usage, Source, FreezeTimeout, Components, Kind, Path, Selectable}
use Rattle.writer_meta.specs.declared.meta_fault.MetaFault.{MetaFault}
use Rattle.writer_meta.specs.declared.meta_fault.MetaFault.TheVariants.{NotJson, MissingField, WrongKind, UnknownName, DoubleComponent, TooMany, OutOfMemory}

-- the text is no JSON; a member is missing; a value is not as the format says; a member is not of the format; a
-- component has the full name of an earlier one; there are too many components
pub data Refusal : Type 0 where
  IsNotJson : Refusal
  Misses : Field → Refusal
  HasWrong : Field → Refusal
  HasUnknown : List ℕ → Refusal
  HasDouble : List ℕ → Refusal
  HasTooMany : Refusal

-- the refusal that a fault tells; want of memory tells none
abbrev pub refusal_of : MetaFault → Option Refusal
refusal_of NotJson = Some IsNotJson
refusal_of (MissingField field) = Some (Misses field)
refusal_of (WrongKind field) = Some (HasWrong field)
refusal_of (UnknownName name) = Some (HasUnknown name.bytes)
refusal_of (DoubleComponent name) = Some (HasDouble name.bytes)
refusal_of TooMany = Some HasTooMany
refusal_of OutOfMemory = None

abbrev pub IsRefused : {A : Type 0} → Option Refusal → Result A Refusal → Type 0
IsRefused None said = ⊤
IsRefused (Some refusal) said = said ≡ Err refusal

-- what is said is the refusal that the fault tells, unless the fault is want of memory
abbrev pub Tells : {A : Type 0} → MetaFault → Result A Refusal → Type 0
Tells fault said = IsRefused (refusal_of fault) said

-- the name of a member
abbrev pub member_name : Field → List ℕ
member_name Document = codes "document"
member_name Class = codes "class"
member_name Name = codes "name"
member_name Level = codes "level"
member_name Usage = codes "usage"
member_name Source = codes "source"
member_name FreezeTimeout = codes "freeze_timeout"
member_name Components = codes "components"
member_name Kind = codes "type"
member_name Path = codes "path"
member_name Selectable = codes "selectable"

-- ## What is said of a text that is no metadata document, and the numbers of the faults. (This project's own.)

-- the number of a fault, in the order of the format
abbrev pub number_of : MetaFault → Option ℕ
number_of NotJson = Some 1
number_of (MissingField field) = Some 2
number_of (WrongKind field) = Some 3
number_of (UnknownName name) = Some 4
number_of (DoubleComponent name) = Some 5
number_of TooMany = Some 6
number_of OutOfMemory = None

-- a printable character as it is, and a question mark for any other byte
abbrev pub printable : ℕ → ℕ
printable byte = if is_printable byte then byte else 63

abbrev pub shown_text : List ℕ → List ℕ
shown_text bytes = flat_map (λ byte. encode_utf8 (printable byte)) bytes

abbrev pub message_of : MetaFault → List ℕ
message_of NotJson = codes "no JSON"
message_of (MissingField field) = codes "`" ++ member_name field ++ codes "` is missing"
message_of (WrongKind field) = codes "`" ++ member_name field ++ codes "` has a value that is not allowed"
message_of (UnknownName name) = codes "unknown member `" ++ shown_text name.bytes ++ codes "`"
message_of (DoubleComponent name) = codes "a second component `" ++ shown_text name.bytes ++ codes "`"
message_of TooMany = codes "more than 1024 components"
message_of OutOfMemory = codes "out of memory"

-- The values that a metadata document may have, a definition for each row of its format. (This project's own format;
-- the kinds of values are the SDK's.)
use Rattle.std.specs.Prelude.{ℕ, ◌==◌, ◌&&◌, ◌||◌, Bool, false, not, List, [], ◌∷◌, length, nat_eq, nat_le, if◌then◌else◌, Option, Some, None, option_map, option_and_then}
use Rattle.std.specs.Int.{from_be_bytes, w128}
use Rattle.std.specs.List.{list_all, list_any, starts_with, ends_with}
use Rattle.serde_json.specs.Data.{Data}
use Rattle.serde_json.specs.Find.{as_bool, as_number, as_str, as_u64}
use Rattle.uuid.specs.Text.{parsed}
use Rattle.tick_limits.specs.Time.{default_freeze}
use Rattle.vss_names.specs.declared.level.Level.{Level}
use Rattle.vss_names.specs.declared.usage.Usage.{Usage}
use Rattle.vss_names.specs.declared.source_kind.SourceKind.{SourceKind}
use Rattle.vss_names.specs.declared.component_type.ComponentType.{ComponentType}
use Rattle.vss_names.specs.Level.{level_of_number}
use Rattle.vss_names.specs.Usage.{usage_of_number}
use Rattle.vss_names.specs.SourceKind.{source_kind_of_number}
use Rattle.vss_names.specs.ComponentType.{component_type_of_number}
use Rattle.writer_meta.specs.Metadata.{backslash}

-- a byte of 32 to 126
abbrev pub is_printable : ℕ → Bool
is_printable byte = nat_le 32 byte && nat_le byte 126

-- 1 to 128 printable bytes
abbrev pub is_writer_name : List ℕ → Bool
is_writer_name name = nat_le 1 (length name) && nat_le (length name) 128 && list_all is_printable name

abbrev pub has_backslash : List ℕ → Bool
has_backslash name = list_any (λ byte. byte == backslash) name

-- 1 to 64 printable bytes without a backslash
abbrev pub is_component_name : List ℕ → Bool
is_component_name name = nat_le 1 (length name) && nat_le (length name) 64 && list_all is_printable name && not (has_backslash name)

-- two backslashes stand in a row; `after` says that one stands before
abbrev pub has_double_from : Bool → List ℕ → Bool
has_double_from after [] = false
has_double_from after (byte ∷ path) = (after && (byte == backslash)) || has_double_from (byte == backslash) path

-- at most 255 printable bytes, that neither begin nor end with a backslash and have no two in a row
abbrev pub is_path : List ℕ → Bool
is_path path =
    nat_le (length path) 255
    && list_all is_printable path
    && not (starts_with nat_eq path (backslash ∷ []))
    && not (ends_with nat_eq path (backslash ∷ []))
    && not (has_double_from false path)

abbrev pub is_freeze_timeout : ℕ → Bool
is_freeze_timeout ticks = nat_le 1 ticks && nat_le ticks default_freeze

-- x, where it passes
abbrev pub some_if : {A : Type 0} → Bool → A → Option A
some_if passes x = if passes then Some x else None

-- a string that passes
abbrev pub string_value : (List ℕ → Bool) → Data → Option (List ℕ)
string_value passes d = option_and_then (λ text. some_if (passes text) text) (as_str d)

-- what an integer without a sign, of at most 64 bits, stands for
abbrev pub number_value : {A : Type 0} → (ℕ → Option A) → Data → Option A
number_value stands_for d = option_and_then stands_for (option_and_then as_u64 (as_number d))

-- ## of the document

-- a string that is a universally unique identifier, as one number of sixteen bytes, the most significant first
abbrev pub class_value : Data → Option ℕ
class_value d = option_map (from_be_bytes w128) (option_and_then parsed (as_str d))

abbrev pub name_value : Data → Option (List ℕ)
name_value d = string_value is_writer_name d

abbrev pub level_value : Data → Option Level
level_value d = number_value level_of_number d

abbrev pub usage_value : Data → Option Usage
usage_value d = number_value usage_of_number d

abbrev pub source_value : Data → Option SourceKind
source_value d = number_value source_kind_of_number d

abbrev pub freeze_timeout_value : Data → Option ℕ
freeze_timeout_value d = number_value (λ ticks. some_if (is_freeze_timeout ticks) ticks) d

-- ## of a component

abbrev pub kind_value : Data → Option ComponentType
kind_value d = number_value component_type_of_number d

abbrev pub path_value : Data → Option (List ℕ)
path_value d = string_value is_path d

abbrev pub component_name_value : Data → Option (List ℕ)
component_name_value d = string_value is_component_name d

abbrev pub selectable_value : Data → Option Bool
selectable_value d = as_bool d

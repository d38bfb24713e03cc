-- A metadata document: what a text says of a writer, or why it is refused. The checks stand in the order in which the
-- format makes them, so the refusal is the first. (This project's own format.)
use Rattle.std.specs.Borrow.{Bor}
use Rattle.std.specs.List.{list_any, list_all}
use Rattle.std.specs.Option.{option_or}
use Rattle.std.specs.Prelude.{ℕ, ◌+◌, Bool, List, [], ◌∷◌, codes, nat_le, if◌then◌else◌, Option, Some, None, ok_or, Result, Ok, Err, option_map, ◌≡◌, ◌<◌, ◌≤◌}
use Rattle.std.specs.Prelude.{◌^◌, ◌&&◌, length, IsTrue}
use Rattle.std.specs.Str.{bytes_eq, is_utf8}
use Rattle.serde_json.specs.Data.{Data, Items, no_items, item, Members, no_members, member}
use Rattle.serde_json.specs.Find.{get, get_member, as_array, as_object}
use Rattle.serde_json.specs.Read.{read}
use Rattle.serde_json.specs.View.{view}
use Rattle.serde_json.specs.declared.value.Value.{Value}
use Rattle.vss_names.specs.declared.component_type.ComponentType.{ComponentType}
use Rattle.vss_names.specs.declared.level.Level.{Level}
use Rattle.vss_names.specs.declared.source_kind.SourceKind.{SourceKind}
use Rattle.vss_names.specs.declared.usage.Usage.{Usage}
use Rattle.tick_limits.specs.Time.{default_freeze}
use Rattle.writer_meta.specs.Metadata.{Part, Meta, full_name}
use Rattle.writer_meta.specs.Refusal.{Refusal, IsNotJson, Misses, HasWrong, HasUnknown, HasDouble, HasTooMany, member_name}
use Rattle.writer_meta.specs.Values.{class_value, name_value, level_value, usage_value, source_value, freeze_timeout_value, kind_value, path_value}
use Rattle.writer_meta.specs.Values.{component_name_value, selectable_value, is_writer_name, is_component_name, is_path, is_freeze_timeout}
use Rattle.writer_meta.specs.declared.field.Field.{Field}
use Rattle.writer_meta.specs.declared.field.Field.TheVariants as field
use Rattle.writer_meta.specs.declared.part_values.PartValues.{PartValues}

-- what comes of a value, if there is one
abbrev pub then_on : {A B : Type 0} → Result A Refusal → (A → Result B Refusal) → Result B Refusal
then_on (Ok x) more = more x
then_on (Err refusal) more = Err refusal

-- ## members

-- the value as the format says, where it is
abbrev pub value_at : {A : Type 0} → (Data → Option A) → Field → Data → Result A Refusal
value_at value field d = ok_or (value d) (HasWrong field)

-- a member that has to be there
abbrev pub required : {A : Type 0} → (Data → Option A) → Field → Option Data → Result A Refusal
required value field found = then_on (ok_or found (Misses field)) (value_at value field)

-- a member of this data that has to be there
abbrev pub required_in : {A : Type 0} → (Data → Option A) → Field → Data → Result A Refusal
required_in value field d = required value field (get (member_name field) d)

-- a member that may be missing
abbrev pub optional : {A : Type 0} → A → (Data → Option A) → Field → Option Data → Result A Refusal
optional default value field None = Ok default
optional default value field (Some d) = value_at value field d

-- ## the rows of the document

unfoldable pub class_in : Data → Result ℕ Refusal
class_in d = required_in class_value field.Class d

unfoldable pub name_in : Data → Result (List ℕ) Refusal
name_in d = required_in name_value field.Name d

unfoldable pub level_in : Data → Result Level Refusal
level_in d = required_in level_value field.Level d

unfoldable pub usage_in : Data → Result Usage Refusal
usage_in d = required_in usage_value field.Usage d

unfoldable pub source_in : Data → Result SourceKind Refusal
source_in d = required_in source_value field.Source d

-- the longest time-out, where nothing is said
unfoldable pub freeze_timeout_in : Data → Result ℕ Refusal
freeze_timeout_in d = optional default_freeze freeze_timeout_value field.FreezeTimeout (get (codes "freeze_timeout") d)

unfoldable pub components_in : Data → Result Items Refusal
components_in d = required_in as_array field.Components d

-- ## the rows of a component, by the values of its members

unfoldable pub kind_in : Option Data → Result ComponentType Refusal
kind_in found = required kind_value field.Kind found

-- the empty path, where nothing is said
unfoldable pub path_in : Option Data → Result (List ℕ) Refusal
path_in found = optional [] path_value field.Path found

unfoldable pub component_name_in : Option Data → Result (List ℕ) Refusal
component_name_in found = required component_name_value field.Name found

unfoldable pub selectable_in : Option Data → Result Bool Refusal
selectable_in found = required selectable_value field.Selectable found

-- ## unknown members

abbrev pub document_members : List (List ℕ)
document_members =
    codes "class" ∷ codes "components" ∷ codes "freeze_timeout" ∷ codes "level" ∷ codes "name" ∷ codes "source" ∷ codes "usage" ∷ []

abbrev pub component_members : List (List ℕ)
component_members = codes "name" ∷ codes "path" ∷ codes "selectable" ∷ codes "type" ∷ []

abbrev pub is_known : List (List ℕ) → List ℕ → Bool
is_known known name = list_any (λ k. bytes_eq k name) known

-- the first member that the format does not have; members stand in byte order of their names
unfoldable pub unknown_in : (List ℕ → Bool) → Members → Option (List ℕ)
unknown_in known no_members = None
unknown_in known (member name d more) = if known name then unknown_in known more else Some name

-- what is said, unless a member is unknown
abbrev pub unless_unknown : {A : Type 0} → Option (List ℕ) → Result A Refusal → Result A Refusal
unless_unknown None said = said
unless_unknown (Some name) said = Err (HasUnknown name)

-- ## components

-- the values of a component's members, where they are
pub record PartRows : Type 0 where
  pub kind : Option Data
  pub path : Option Data
  pub name : Option Data
  pub selectable : Option Data

abbrev pub rows_in : Members → PartRows
rows_in members =
    record { kind = get_member (codes "type") members; path = get_member (codes "path") members; name = get_member (codes "name") members; selectable = get_member (codes "selectable") members }

unfoldable pub rows_of_part : PartRows → Result Part Refusal
rows_of_part rows =
    then_on (kind_in rows.kind) (λ kind.
    then_on (path_in rows.path) (λ path.
    then_on (component_name_in rows.name) (λ name.
    then_on (selectable_in rows.selectable) (λ selectable.
    Ok (record { kind = kind; path = path; name = name; selectable = selectable })))))

-- a component is an object
abbrev pub part_of_members : Option Members → Result Part Refusal
part_of_members None = Err (HasWrong field.Components)
part_of_members (Some members) = unless_unknown (unknown_in (is_known component_members) members) (rows_of_part (rows_in members))

unfoldable pub part_in : Data → Result Part Refusal
part_in d = part_of_members (as_object d)

unfoldable pub parts_in : Items → Result (List Part) Refusal
parts_in no_items = Ok []
parts_in (item d more) = then_on (part_in d) (λ part. then_on (parts_in more) (λ parts. Ok (part ∷ parts)))

-- how many items
abbrev pub count_of : Items → ℕ
count_of no_items = 0
count_of (item d more) = count_of more + 1

-- the first full name that an earlier component has, or one of these
unfoldable pub double_after : List (List ℕ) → List Part → Option (List ℕ)
double_after names [] = None
double_after names (part ∷ parts) =
    if list_any (λ name. bytes_eq name (full_name part)) names
    then Some (full_name part)
    else double_after (full_name part ∷ names) parts

abbrev pub unless_double : Option (List ℕ) → List Part → Result (List Part) Refusal
unless_double None parts = Ok parts
unless_double (Some name) parts = Err (HasDouble name)

-- no two components of one full name
abbrev pub distinct : List Part → Result (List Part) Refusal
distinct parts = unless_double (double_after [] parts) parts

-- at most 1,024 components
unfoldable pub list_of_parts : Items → Result (List Part) Refusal
list_of_parts items = if nat_le (count_of items) 1024 then then_on (parts_in items) distinct else Err HasTooMany

-- ## the whole

unfoldable pub rows_of_meta : Data → Result Meta Refusal
rows_of_meta d =
    then_on (class_in d) (λ class.
    then_on (name_in d) (λ name.
    then_on (level_in d) (λ level.
    then_on (usage_in d) (λ usage.
    then_on (source_in d) (λ source.
    then_on (freeze_timeout_in d) (λ freeze_timeout.
    then_on (components_in d) (λ components.
    then_on (list_of_parts components) (λ parts.
    Ok (record { class = class; name = name; level = level; usage = usage; source = source; freeze_timeout = freeze_timeout; parts = parts })))))))))

abbrev pub meta_of_members : Data → Option Members → Result Meta Refusal
meta_of_members d None = Err (HasWrong field.Document)
meta_of_members d (Some members) = unless_unknown (unknown_in (is_known document_members) members) (rows_of_meta d)

-- the metadata of a JSON value, or the first refusal
unfoldable pub meta_in : Data → Result Meta Refusal
meta_in d = meta_of_members d (as_object d)

-- the JSON value of a text, where it is UTF-8
unfoldable pub value_of_text : List ℕ → Option Data
value_of_text text = if is_utf8 text then read text else None

-- the metadata that a text is, or the first refusal
unfoldable pub metadata_in : List ℕ → Result Meta Refusal
metadata_in text = then_on (ok_or (value_of_text text) IsNotJson) meta_in

-- ## The members of a component as they are found, one after another. (This project's own.)

-- those of the one, and where it has none, those of the other
abbrev pub rows_or : PartRows → PartRows → PartRows
rows_or a b = record { kind = option_or a.kind b.kind; path = option_or a.path b.path; name = option_or a.name b.name; selectable = option_or a.selectable b.selectable }

-- with those of one member more
abbrev pub rows_with : PartRows → List ℕ → Data → PartRows
rows_with rows name d = rows_or rows (rows_in (member name d no_members))

-- what is found of a value, as data
abbrev pub seen : Option (Bor Value) → Option Data
seen found = option_map (λ v. view v.now) found

abbrev pub rows_seen : PartValues → PartRows
rows_seen values = record { kind = seen values.kind; path = seen values.path; name = seen values.name; selectable = seen values.selectable }

-- ## The metadata that the format allows: those that some document says. (This project's own format.)

abbrev pub is_allowed_part : Part → Bool
is_allowed_part part = is_path part.path && is_component_name part.name

-- at most 1,024 components, each of an allowed path and name, no two of one full name
pub record AreAllowedParts (parts : List Part) : Type 0 where
  pub few : length parts ≤ 1024
  pub each : IsTrue (list_all is_allowed_part parts)
  pub distinct : double_after [] parts ≡ None

-- a class of sixteen bytes, names and paths of the allowed bytes and lengths, a time-out that a writer may state, and
-- at most 1,024 components, no two of one full name
pub record IsAllowed (m : Meta) : Type 0 where
  pub class : m.class < 2 ^ 128
  pub name : IsTrue (is_writer_name m.name)
  pub freeze_timeout : IsTrue (is_freeze_timeout m.freeze_timeout)
  pub few : length m.parts ≤ 1024
  pub parts : IsTrue (list_all is_allowed_part m.parts)
  pub distinct : double_after [] m.parts ≡ None

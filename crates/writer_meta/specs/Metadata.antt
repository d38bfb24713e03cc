-- A writer's metadata as the definitions speak of them: the class as a number, texts as bytes, and the components as
-- a list of parts. (After the SDK's writer metadata document; full names and ancestors follow its logical paths.)
use Rattle.std.specs.Int.{to_be_bytes, w128}
use Rattle.std.specs.List.{starts_with}
use Rattle.std.specs.Prelude.{ℕ, Bool, List, [], ◌∷◌, ◌++◌, map, nat_eq, ◌||◌, codes}
use Rattle.std.specs.Str.{bytes_eq}
use Rattle.serde_json.specs.Data.{Data, boolean, number, string, array, object, unsigned, Items, no_items, item, no_members, member}
use Rattle.serde_json.specs.Written.{compact_text}
use Rattle.uuid.specs.Text.{lower, hyphenated_text}
use Rattle.vss_names.specs.ComponentType as kind
use Rattle.vss_names.specs.Level as level
use Rattle.vss_names.specs.SourceKind as source
use Rattle.vss_names.specs.Usage as usage
use Rattle.vss_names.specs.declared.component_type.ComponentType.{ComponentType}
use Rattle.vss_names.specs.declared.level.Level.{Level}
use Rattle.vss_names.specs.declared.source_kind.SourceKind.{SourceKind}
use Rattle.vss_names.specs.declared.usage.Usage.{Usage}
use Rattle.writer_meta.specs.declared.component.Component.{Component}
use Rattle.writer_meta.specs.declared.metadata.Metadata.{Metadata}

-- a component
pub record Part : Type 0 where
  pub kind : ComponentType
  pub path : List ℕ
  pub name : List ℕ
  pub selectable : Bool

pub record Meta : Type 0 where
  pub class : ℕ
  pub name : List ℕ
  pub level : Level
  pub usage : Usage
  pub source : SourceKind
  pub freeze_timeout : ℕ
  pub parts : List Part

abbrev pub part_of : Component → Part
part_of c = record { kind = c.kind; path = c.path.bytes; name = c.name.bytes; selectable = c.selectable }

-- what the metadata say
abbrev pub meta_of : Metadata → Meta
meta_of m = record {
  class = m.class;
  name = m.name.bytes;
  level = m.level;
  usage = m.usage;
  source = m.source;
  freeze_timeout = m.freeze_timeout;
  parts = map part_of m.components;
}

-- ## full names and ancestors

abbrev pub backslash : ℕ
backslash = 92

abbrev pub joined : List ℕ → List ℕ → List ℕ
joined [] name = name
joined (c ∷ path) name = c ∷ path ++ backslash ∷ name

-- the name where the path is empty, else path, backslash, name
abbrev pub full_name : Part → List ℕ
full_name p = joined p.path p.name

-- a is an ancestor of c: c's path is a's full name, or begins with it and a backslash
abbrev pub is_ancestor : Part → Part → Bool
is_ancestor a c = bytes_eq c.path (full_name a) || starts_with nat_eq c.path (full_name a ++ backslash ∷ [])

-- ## The document that is written of metadata: the compact JSON text of the object with all members, which stand in byte
-- order of their names. (This project's own format.)

-- hyphenated, in lower case
abbrev pub class_text : ℕ → List ℕ
class_text class = hyphenated_text lower (to_be_bytes w128 class)

unfoldable pub part_data : Part → Data
part_data part = object (
    member (codes "name") (string part.name)
    (member (codes "path") (string part.path)
    (member (codes "selectable") (boolean part.selectable)
    (member (codes "type") (number (unsigned (kind.number_of part.kind))) no_members))))

abbrev pub parts_data : List Part → Items
parts_data [] = no_items
parts_data (part ∷ parts) = item (part_data part) (parts_data parts)

unfoldable pub meta_data : Meta → Data
meta_data m = object (
    member (codes "class") (string (class_text m.class))
    (member (codes "components") (array (parts_data m.parts))
    (member (codes "freeze_timeout") (number (unsigned m.freeze_timeout))
    (member (codes "level") (number (unsigned (level.number_of m.level)))
    (member (codes "name") (string m.name)
    (member (codes "source") (number (unsigned (source.number_of m.source)))
    (member (codes "usage") (number (unsigned (usage.number_of m.usage))) no_members)))))))

-- the bytes of the document
unfoldable pub document_text : Meta → List ℕ
document_text m = compact_text (meta_data m)

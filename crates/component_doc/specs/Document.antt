-- The component document: the compact JSON text that lists the chosen components. (After the SDK's backup components
-- document; its form as JSON is this project's own.)
use Rattle.std.specs.Prelude.{◌≡◌, ℕ, Bool, true, false, List, [], ◌∷◌, codes, Option, Some, None, option_map, slice_get}
use Rattle.vss_names.specs.declared.context.Context.{Context}
use Rattle.vss_names.specs.Context.{number_of}
use Rattle.serde_json.specs.Data.{Data, boolean, number, string, array, object, unsigned, Items, no_items, item, Members, no_members, member}
use Rattle.serde_json.specs.Written.{compact_text}
use Rattle.writer_meta.specs.Metadata.{Meta, full_name, class_text}
use Rattle.writer_meta.specs.Document.{value_of_text}
use Rattle.component_doc.specs.declared.choice.Choice.{Choice}
use Rattle.component_doc.specs.Selection.{Selected, chosen}
use Rattle.component_doc.specs.Over.{Held, is_named, IsOver, meta_at}

-- the object of a component
unfoldable pub component_data : ℕ → Bool → List ℕ → ℕ → Data
component_data class explicit full writer = object (
    member (codes "class") (string (class_text class))
    (member (codes "explicit") (boolean explicit)
    (member (codes "path") (string full)
    (member (codes "writer") (number (unsigned writer)) no_members))))

-- the object of a choice, where the writer is known and has such a component
abbrev pub choice_data : Choice → Option Meta → Option Data
choice_data c None = None
choice_data c (Some m) = option_map (λ p. component_data m.class c.explicit (full_name p) c.writer) (slice_get m.parts c.component)

abbrev pub with_item : Option Data → Items → Items
with_item None rest = rest
with_item (Some d) rest = item d rest

abbrev pub choices_data : List (Option Meta) → List Choice → Items
choices_data ms [] = no_items
choices_data ms (c ∷ cs) = with_item (choice_data c (meta_at (slice_get ms c.writer))) (choices_data ms cs)

-- the last members: a document of a mode without selection says so
abbrev pub last_members : Bool → Members
last_members true = no_members
last_members false = member (codes "select") (boolean false) no_members

-- of these items, in a mode with a selection or without one
unfoldable pub document_of : Items → Context → Bool → Data
document_of items c named = object (
    member (codes "components") (array items)
    (member (codes "context") (number (unsigned (number_of c))) (last_members named)))

abbrev pub document : List (Option Meta) → Selected → Context → Data
document ms s c = document_of (choices_data ms (chosen s ms)) c (is_named s)

-- the bytes of the component document
unfoldable pub document_text : List (Option Meta) → Selected → Context → List ℕ
document_text ms s c = compact_text (document ms s c)

-- ## which texts are documents

-- the text is the document of this selection over these metadata, in this context
pub record IsDocument (ms : List (Option Meta)) (text : List ℕ) (c : Context) (h : Held) : Type 0 where
  pub over : IsOver ms h
  pub written : text ≡ document_text ms h.selected c

-- the text is JSON
abbrev pub IsJson : List ℕ → Type 0
IsJson text = (d : Data) × (value_of_text text ≡ Some d)

-- the text is the document of this selection in this context, and of no other
pub record IsDocumentOf (ms : List (Option Meta)) (text : List ℕ) (c : Context) (h : Held) : Type 0 where
  pub json : IsJson text
  pub document : IsDocument ms text c h
  pub alone : (d : Context) (k : Held) → IsDocument ms text d k → (d ≡ c) × (k ≡ h)

-- The text of a component document reads back as the value that was written, and is the document of one selection alone.
use Rattle.std.proofs.Common.{◌≡◌, ℕ, ◌<◌, ◌≤◌, ◌^◌, nat_eq, false, None, arith, refl, List, [], ◌∷◌, length, Bool, true, Option, Some, option_map, slice_get}
use Rattle.std.proofs.Common.{subst, ◌∙◌, if◌then◌else◌, Result, IfErr, IsErrAnd, sym, ap}
use Rattle.std.proofs.lemmas.Bool.Decides.{nat_tests}
use Rattle.std.proofs.lemmas.Grind.{common_steps}
use Rattle.std.proofs.lemmas.Option.{none-some, same_Some, slice_get_within}
use Rattle.std.specs.Str.{is_utf8}
use Rattle.json.proofs.Printed.Decimals.{IsNumber-decimal}
use Rattle.json.proofs.Printed.Tokens.{tokens-print}
use Rattle.json.proofs.Printed.Trees.{value-json_tokens, ArePrintable-json_tokens}
use Rattle.json.specs.Json as json
use Rattle.json.specs.Tree as tree
use Rattle.serde_json.proofs.Numbers.{number_of-decimal}
use Rattle.serde_json.proofs.Texts.{print-outline}
use Rattle.serde_json.specs.Data.{Data, Items}
use Rattle.serde_json.specs.Read.{read, of_json, of_items, max_depth}
use Rattle.serde_json.specs.Written.{outline, items_outline, has_float, items_have_float, compact_text}
use Rattle.vss_names.specs.Context.{context_of_number, number_of}
use Rattle.vss_names.specs.declared.context.Context.{Context}
use Rattle.writer_meta.specs.Document.{value_of_text}
use Rattle.writer_meta.specs.Metadata.{Part, Meta, full_name}
use Rattle.component_doc.specs.Document.{component_data, choice_data, with_item, choices_data, document_of, document, document_text, IsDocument, IsDocumentOf}
use Rattle.component_doc.specs.Over.{is_named, Held, meta_at, AreAllowed, IsOver}
use Rattle.component_doc.specs.Reading.{context_in, selected_in}
use Rattle.component_doc.specs.Refusal.{Lacks, TellsOfText}
use Rattle.component_doc.specs.Selection.{Selected, chosen}
use Rattle.component_doc.specs.declared.choice.Choice.{Choice}
use Rattle.component_doc.specs.declared.doc_fault.DocFault.{DocFault}
use Rattle.component_doc.specs.declared.doc_fault.DocFault.TheVariants.{NotDocument}
use Rattle.component_doc.proofs.Told.{selected-back, context-back}

-- ## Numbers of contexts and of writers.

other : (k n : ℕ) → k < n → nat_eq k n ≡ false
other k n h = grind (arith, nat_tests)

-- past the greatest number there is no context
pub no_context_past : (n : ℕ) → 2 ^ 32 ≤ n → context_of_number n ≡ None
unfolding context_of_number
no_context_past n h = rw (other 0 n (omega arith), other 9 n (omega arith), other 25 n (omega arith)) refl

pub small-number_of : (c : Context) → number_of c < 2 ^ 64
small-number_of c = grind arith

-- ## The text of a component document reads back as the value that was written.

-- a value whose text reads back: its numbers have decimal texts, its members stand in order, and it is shallow
record Reads (d : Data) : Type 0 where
  back : of_json (outline d) ≡ Some d
  numbers : tree.HasNumbers (outline d)
  depth : tree.depth (outline d) ≤ 1
  whole : has_float d ≡ false

record ItemsRead (ds : Items) : Type 0 where
  back : of_items (items_outline ds) ≡ Some ds
  numbers : tree.ItemsHaveNumbers (items_outline ds)
  depth : tree.items_depth (items_outline ds) ≤ 1
  whole : items_have_float ds ≡ false

-- ## components

component-back : (class : ℕ) (explicit : Bool) (full : List ℕ) (writer : ℕ) → writer < 2 ^ 64
    → of_json (outline (component_data class explicit full writer)) ≡ Some (component_data class explicit full writer)
unfolding component_data
component-back class explicit full writer small = rw (number_of-decimal writer small) refl

component-numbers : (class : ℕ) (explicit : Bool) (full : List ℕ) (writer : ℕ) → writer < 2 ^ 64 → tree.HasNumbers (outline (component_data class explicit full writer))
unfolding component_data
component-numbers class explicit full writer small = (tt, (tt, (tt, (IsNumber-decimal writer small, tt))))

component-depth : (class : ℕ) (explicit : Bool) (full : List ℕ) (writer : ℕ) → tree.depth (outline (component_data class explicit full writer)) ≤ 1
unfolding component_data
component-depth class explicit full writer = omega arith

component-whole : (class : ℕ) (explicit : Bool) (full : List ℕ) (writer : ℕ) → has_float (component_data class explicit full writer) ≡ false
unfolding component_data
component-whole class explicit full writer = refl

component-reads : (class : ℕ) (explicit : Bool) (full : List ℕ) (writer : ℕ) → writer < 2 ^ 64 → Reads (component_data class explicit full writer)
component-reads class explicit full writer small = grind (arith, component-back, component-numbers, component-depth, component-whole)

part-reads : (c : Choice) (m : Meta) (found : Option Part) (d : Data) → c.writer < 2 ^ 64 → option_map (λ p. component_data m.class c.explicit (full_name p) c.writer) found ≡ Some d → Reads d
part-reads c m None d small e = absurd (none-some d e)
part-reads c m (Some p) d small e = subst Reads (same_Some _ d e) (component-reads m.class c.explicit (full_name p) c.writer small)

choice-reads : (c : Choice) (found : Option Meta) (d : Data) → ((m : Meta) → found ≡ Some m → c.writer < 2 ^ 64) → choice_data c found ≡ Some d → Reads d
choice-reads c None d small e = absurd (none-some d e)
choice-reads c (Some m) d small e = part-reads c m (slice_get m.parts c.component) d (small m refl) e

from-meta_at : (found : Option (Option Meta)) (m : Meta) → meta_at found ≡ Some m → found ≡ Some (Some m)
from-meta_at found m e = grind arith

-- a writer that is known has a small number
known-small : (ms : List (Option Meta)) (w : ℕ) (m : Meta) → length ms < 2 ^ 32 → meta_at (slice_get ms w) ≡ Some m → w < 2 ^ 64
known-small ms w m few e = grind (arith, slice_get_within, from-meta_at)

with_item-reads : (found : Option Data) (rest : Items) → ((d : Data) → found ≡ Some d → Reads d) → ItemsRead rest → ItemsRead (with_item found rest)
with_item-reads found rest each more = grind arith

choices-read : (ms : List (Option Meta)) (choices : List Choice) → length ms < 2 ^ 32 → ItemsRead (choices_data ms choices)
choices-read ms [] few = record { back = refl; numbers = tt; depth = omega arith; whole = refl }
choices-read ms (c ∷ choices) few =
    let found = meta_at (slice_get ms c.writer) in
    with_item-reads (choice_data c found) (choices_data ms choices) (λ d e. choice-reads c found d (λ m is. known-small ms c.writer m few is) e) (choices-read ms choices few)

-- ## the whole

document-back : (items : Items) (c : Context) (named : Bool) → of_items (items_outline items) ≡ Some items → of_json (outline (document_of items c named)) ≡ Some (document_of items c named)
unfolding document_of
document-back items c named back = grind (arith, number_of-decimal, small-number_of)

document-numbers : (items : Items) (c : Context) (named : Bool) → tree.ItemsHaveNumbers (items_outline items) → tree.HasNumbers (outline (document_of items c named))
unfolding document_of
document-numbers items c true numbers = (numbers, (IsNumber-decimal (number_of c) (small-number_of c), tt))
document-numbers items c false numbers = (numbers, (IsNumber-decimal (number_of c) (small-number_of c), (tt, tt)))

document-depth : (items : Items) (c : Context) (named : Bool) → tree.items_depth (items_outline items) ≤ 1 → tree.depth (outline (document_of items c named)) ≤ 127
unfolding document_of
document-depth items c named depth = grind arith

document-whole : (items : Items) (c : Context) (named : Bool) → items_have_float items ≡ false → has_float (document_of items c named) ≡ false
unfolding document_of
document-whole items c named whole = grind arith

pub has_float-document : (ms : List (Option Meta)) (s : Selected) (c : Context) → length ms < 2 ^ 32 → has_float (document ms s c) ≡ false
has_float-document ms s c few = document-whole (choices_data ms (chosen s ms)) c (is_named s) (choices-read ms (chosen s ms) few).whole

-- the grammar reads the text of such a value back
read-compact_text : (d : Data) → of_json (outline d) ≡ Some d → tree.HasNumbers (outline d) → tree.depth (outline d) ≤ 127 → read (compact_text d) ≡ Some d
read-compact_text d back numbers shallow =
    let ts = tree.json_tokens (outline d) in let fact = tokens-print ts (ArePrintable-json_tokens (outline d) numbers) in
    grind (arith, common_steps, print-outline d, value-json_tokens (outline d) max_depth [] shallow)

pub read-document_text : (ms : List (Option Meta)) (s : Selected) (c : Context) → length ms < 2 ^ 32 → read (document_text ms s c) ≡ Some (document ms s c)
unfolding document_text
read-document_text ms s c few = grind (arith, choices-read, read-compact_text, document-back, document-numbers, document-depth)

-- ## A text is the document of one selection in one context, and of no other.

value-if : (b : Bool) (found : Option Data) (d : Data) → (if b then found else None) ≡ Some d → found ≡ Some d
value-if b found d e = grind arith

read-of_value : (text : List ℕ) (d : Data) → value_of_text text ≡ Some d → read text ≡ Some d
unfolding value_of_text
read-of_value text d e = value-if (is_utf8 text) (read text) d e

-- the value of a document
document-value : (ms : List (Option Meta)) (text : List ℕ) (d : Data) (c : Context) (h : Held) → length ms < 2 ^ 32 → value_of_text text ≡ Some d
    → IsDocument ms text c h → d ≡ document ms h.selected c
document-value ms text d c h few value is = grind (arith, same_Some, read-of_value, read-document_text)

pub context-of : (ms : List (Option Meta)) (text : List ℕ) (d : Data) (c : Context) (h : Held) → length ms < 2 ^ 32 → value_of_text text ≡ Some d → IsDocument ms text c h → context_in d ≡ Some c
context-of ms text d c h few value is = ap context_in (document-value ms text d c h few value is) ∙ context-back ms h.selected c

pub selected-of : (ms : List (Option Meta)) (text : List ℕ) (d : Data) (c : Context) (h : Held) → AreAllowed ms → length ms < 2 ^ 32 → value_of_text text ≡ Some d → IsDocument ms text c h
    → selected_in ms d ≡ Some h.selected
selected-of ms text d c h allowed few value is = ap (selected_in ms) (document-value ms text d c h few value is) ∙ selected-back ms h.selected c allowed is.over.selected

abbrev held : ℕ → Selected → Held
held n s = record { writers = n; selected = s }

same-held : (ms : List (Option Meta)) (h k : Held) → IsOver ms h → IsOver ms k → k.selected ≡ h.selected → k ≡ h
same-held ms h k one other same = ap (λ n. held n k.selected) (other.writers ∙ sym one.writers) ∙ ap (held h.writers) same

pub document-alone : (ms : List (Option Meta)) (text : List ℕ) (d : Data) (c : Context) (h : Held) → AreAllowed ms → length ms < 2 ^ 32 → value_of_text text ≡ Some d → IsDocument ms text c h
    → IsDocumentOf ms text c h
document-alone ms text d c h allowed few value is =
    let fact = selected-of ms text d c h allowed few value is in
    grind (arith, common_steps, context-of ms text d, context-of ms text d c h few value is, same-held ms h, selected-of ms text d)

-- ## refusals

-- a value that names no context
pub no-context : (ms : List (Option Meta)) (text : List ℕ) (d : Data) → length ms < 2 ^ 32 → value_of_text text ≡ Some d → context_in d ≡ None → TellsOfText ms NotDocument text
no-context ms text d few value none = ((d, value), λ c h is. none-some c (sym none ∙ context-of ms text d c h few value is))

no-selection : (ms : List (Option Meta)) (text : List ℕ) (d : Data) (fault : DocFault) → AreAllowed ms → length ms < 2 ^ 32 → value_of_text text ≡ Some d
    → Lacks fault (selected_in ms d) → TellsOfText ms fault text
no-selection ms text d fault allowed few value lacks = grind (arith, none-some, selected-of)

-- a value that names no selection
pub no-selection-handed_on : {T : Type 0} (r : Result T DocFault) (ms : List (Option Meta)) (text : List ℕ) (d : Data) (fault : DocFault)
    → IsErrAnd r (λ f. f ≡ fault) → AreAllowed ms → length ms < 2 ^ 32
    → value_of_text text ≡ Some d → Lacks fault (selected_in ms d) → IfErr r (λ f. TellsOfText ms f text)
no-selection-handed_on r ms text d fault is allowed few value lacks = grind (arith, no-selection)

-- a text that is not the one that is written of what it names
pub no-document : (ms : List (Option Meta)) (text : List ℕ) (d : Data) (c : Context) (s : Selected) (written : List ℕ) → AreAllowed ms → length ms < 2 ^ 32 → value_of_text text ≡ Some d
    → context_in d ≡ Some c → selected_in ms d ≡ Some s → written ≡ document_text ms s c → (written ≡ text → ⊥) → TellsOfText ms NotDocument text
no-document ms text d c s written allowed few value context selected is other = grind (arith, same_Some, context-of, selected-of)

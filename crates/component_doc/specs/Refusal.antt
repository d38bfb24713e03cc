-- Why a component is not named, and why a text is no component document. (After the SDK's refusals when a component is
-- added; their order, and the document's, are this project's own.)
use Rattle.std.specs.Prelude.{◌≡◌, ℕ, List, Option, None, ⊤, codes}
use Rattle.vss_names.specs.declared.context.Context.{Context}
use Rattle.writer_meta.specs.Document.{value_of_text}
use Rattle.writer_meta.specs.Metadata.{Meta}
use Rattle.component_doc.specs.Document.{IsDocument, IsJson}
use Rattle.component_doc.specs.Over.{Held}
use Rattle.component_doc.specs.Selection.{Naming, IsNotFound, IsNotSelectable, IsNamedAlready}
use Rattle.component_doc.specs.declared.add_fault.AddFault.{AddFault}
use Rattle.component_doc.specs.declared.add_fault.AddFault.TheVariants.{NotFound, NotSelectable, AlreadyExists, OutOfMemory}
use Rattle.component_doc.specs.declared.doc_fault.DocFault.{DocFault}
use Rattle.component_doc.specs.declared.doc_fault.DocFault.TheVariants as doc

-- what naming comes to is what the fault tells; want of memory tells nothing
abbrev pub Tells : AddFault → Naming → Type 0
Tells NotFound naming = naming ≡ IsNotFound
Tells NotSelectable naming = naming ≡ IsNotSelectable
Tells AlreadyExists naming = naming ≡ IsNamedAlready
Tells OutOfMemory naming = ⊤

-- what the fault tells of the text: it is no JSON; it is JSON, and the document of no selection over these metadata in
-- any context; want of memory tells nothing
abbrev pub TellsOfText : List (Option Meta) → DocFault → List ℕ → Type 0
TellsOfText ms doc.NotJson text = value_of_text text ≡ None
TellsOfText ms doc.NotDocument text = IsJson text × ((c : Context) (h : Held) → IsDocument ms text c h → ⊥)
TellsOfText ms doc.OutOfMemory text = ⊤

-- the fault says that there is no such thing; want of memory says nothing
abbrev pub Lacks : {A : Type 0} → DocFault → Option A → Type 0
Lacks doc.NotJson found = ⊥
Lacks doc.NotDocument found = found ≡ None
Lacks doc.OutOfMemory found = ⊤

-- the fault says that a text has no value, or is want of memory
abbrev pub IsNoValue : DocFault → List ℕ → Type 0
IsNoValue doc.NotJson text = value_of_text text ≡ None
IsNoValue doc.NotDocument text = ⊥
IsNoValue doc.OutOfMemory text = ⊤

-- ## What is said of a component that is not named, and of a text that is no component document. (This project's own.)

abbrev pub message_of : AddFault → List ℕ
message_of NotFound = codes "no such component"
message_of NotSelectable = codes "the component cannot be selected"
message_of AlreadyExists = codes "the component is selected already"
message_of OutOfMemory = codes "out of memory"

abbrev pub message_of_text : DocFault → List ℕ
message_of_text doc.NotJson = codes "no JSON"
message_of_text doc.NotDocument = codes "no component document"
message_of_text doc.OutOfMemory = codes "out of memory"

-- What the drawing of a report promises, by how it ended: if it is written, no line of the report is refused, and the sink took a
-- drawing, or lines; if the report is refused, its first refusal is the answer, and nothing is written. (This project's own.)
use Rattle.std.specs.Prelude.{ℕ, ◌≡◌, List, Option, Some, None}
use Rattle.vss_names.specs.Faults.{Rose}
use Rattle.io_edge.specs.Streams.{Took, TookPart}
use Rattle.vss_tools.specs.Drawn.{IsDrawn, IsLines}
use Rattle.vss_tools.specs.Refused.{refusal}
use Rattle.vss_tools.specs.declared.timeline.ended.Ended.{Ended}
use Rattle.vss_tools.specs.declared.timeline.ended.Ended.TheVariants.{Written, Refused, WriteFault, OutOfMemory}
use Rattle.vss_tools.specs.declared.timeline.form.Form.{Form}
use Rattle.vss_tools.specs.declared.timeline.form.Form.TheVariants.{Drawing, Lines}
use Rattle.vss_tools.specs.declared.timeline.picture_error.PictureError.{PictureError}
use Rattle.vss_tools.specs.declared.timeline.picture_error.PictureError.TheVariants as error
use Rattle.vss_tools.specs.declared.timeline.refusal.Refusal.{Refusal}

-- what is asked for, and the sink before the call and after it
pub record Edges : Type 0 where
  pub form : Form
  pub scenario : List ℕ
  pub report : List ℕ
  pub taken_first : Option (List ℕ)
  pub taken_last : Option (List ℕ)
  pub writes_first : ℕ
  pub writes_last : ℕ

-- a text in a form
abbrev pub IsPage : List ℕ → Form → Type 0
IsPage text Drawing = IsDrawn text
IsPage text Lines = IsLines text

-- a text in the form, and no line of the report is refused
pub record IsPicture (e : Edges) (text : List ℕ) : Type 0 where
  pub page : IsPage text e.form
  pub good : refusal e.scenario e.report ≡ None

-- why a report has no picture; out of memory may come in place of it
abbrev pub IsRefusal : Option Refusal → PictureError → Type 0
IsRefusal first (error.Refused why) = first ≡ Some why
IsRefusal first error.OutOfMemory = Unit {0}

abbrev pub IsCause : List ℕ → List ℕ → PictureError → Type 0
IsCause scenario report e = IsRefusal (refusal scenario report) e

pub record IsWritten (e : Edges) : Type 0 where
  pub text : List ℕ
  pub picture : IsPicture e text
  pub took : Took e.taken_first text e.taken_last
  pub writes : e.writes_last ≡ e.writes_first

pub record IsWrittenInPart (e : Edges) : Type 0 where
  pub text : List ℕ
  pub picture : IsPicture e text
  pub part : TookPart e.taken_first text e.taken_last
  pub rose : Rose e.writes_first e.writes_last

pub record IsSilent (e : Edges) : Type 0 where
  pub taken : e.taken_last ≡ e.taken_first
  pub writes : e.writes_last ≡ e.writes_first

pub record IsRefused (e : Edges) (why : Refusal) : Type 0 where
  pub first : refusal e.scenario e.report ≡ Some why
  pub silent : IsSilent e

abbrev pub IsEnded : Edges → Ended → Type 0
IsEnded e Written = IsWritten e
IsEnded e (Refused why) = IsRefused e why
IsEnded e WriteFault = IsWrittenInPart e
IsEnded e OutOfMemory = IsSilent e

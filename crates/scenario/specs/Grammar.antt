-- What one line says after the lines before it, or why it is refused; and so which text is which scenario. (This project's own format.)
use Rattle.std.specs.List.{list_all}
use Rattle.std.specs.Prelude.{ℕ, ◌==◌, ◌&&◌, ◌||◌, Bool, not, List, [], ◌∷◌, length, slice_index, nat_le, nat_lt, if◌then◌else◌, Option, Some, None, Result, Ok}
use Rattle.std.specs.Prelude.{Err, ◌≡◌, ◌+◌, true}
use Rattle.scenario.specs.Bounds.{begins_agenda}
use Rattle.scenario.specs.Declarations.{opening_of, area_of, volume_of, writer_of, answer_of, lane_of}
use Rattle.scenario.specs.Fields.{bytes_of, words_at, fields_for}
use Rattle.scenario.specs.Lines.{lines_in}
use Rattle.scenario.specs.Ops.{◌>>=◌, op_of}
use Rattle.scenario.specs.Plan.{LanePlan, Plan}
use Rattle.scenario.specs.SoFar.{SoFar, Saying, line_count, agenda_count, nothing, after, takes, plan_in}
use Rattle.scenario.specs.SoFar as saying
use Rattle.scenario.specs.Words.{word_of}
use Rattle.scenario.specs.declared.fields.Fields.{Fields}
use Rattle.scenario.specs.declared.op.Op.{Op}
use Rattle.scenario.specs.declared.reason.Reason.{Reason}
use Rattle.scenario.specs.declared.reason.Reason.TheVariants.{BadByte, NoNewline, UnknownWord, Misplaced, TooMany, Empty}
use Rattle.scenario.specs.declared.refusal.Refusal.{Refusal}
use Rattle.scenario.specs.declared.refused.Refused.{Refused}
use Rattle.scenario.specs.declared.refused.Refused.TheVariants.{Line, OutOfMemory}
use Rattle.scenario.specs.declared.span.Span.{Span}
use Rattle.scenario.specs.declared.text_line.TextLine.{TextLine}
use Rattle.scenario.specs.declared.unread.Unread.{Unread}
use Rattle.scenario.specs.declared.unread.Unread.TheVariants as unread
use Rattle.scenario.specs.declared.word.Word.{Word}
use Rattle.scenario.specs.declared.word.Word.TheVariants as word

-- ## What one line says after the lines before it, or why it is refused. Within a line the checks come in this order: its
-- bytes, its newline, its first word, its place, the number of its fields, the fields from left to right, the limits. A
-- line that is skipped is checked for its bytes and its newline alone. (This project's own format and limits.)

-- ## bytes

abbrev pub is_printable : ℕ → Bool
is_printable byte = nat_le 32 byte && nat_le byte 126

-- an empty line, or a comment: a line that begins with `#`
abbrev pub is_skipped : List ℕ → Bool
is_skipped bytes = (length bytes == 0) || (slice_index bytes 0 == 35)

-- ## place

abbrev pub has_lane : List LanePlan → Bool
has_lane lanes = nat_lt 0 (length lanes)

-- the `scenario` line comes first and once, then declarations, then lanes with their lines
abbrev pub may_stand : Bool → Bool → Word → Bool
may_stand opened in_lane word.Scenario = not opened
may_stand opened in_lane word.Area = opened && not in_lane
may_stand opened in_lane word.Volume = opened && not in_lane
may_stand opened in_lane word.Writer = opened && not in_lane
may_stand opened in_lane word.Answer = opened && not in_lane
may_stand opened in_lane word.Lane = opened
may_stand opened in_lane _ = opened && in_lane

-- ## lines

-- at most 100,000 lines over all lanes, and at most 2,000 that may begin an agenda
abbrev pub has_line_room : ℕ → ℕ → Op → Bool
has_line_room lines agendas op = nat_lt lines 100000 && (not (begins_agenda op) || nat_lt agendas 2000)

abbrev pub line_if : SoFar → ℕ → Op → Result Saying Reason
line_if d number op = if has_line_room (line_count d.lanes) (agenda_count d.lanes) op then Ok (saying.Line (record { number = number; op = op })) else Err TooMany

-- a line of the lane at hand
unfoldable pub line_of : List ℕ → SoFar → ℕ → Word → Fields → Result Saying Reason
line_of text d number w fields = op_of text d.volumes d.writers w fields >>= (λ op. line_if d number op)

unfoldable pub row_of : List ℕ → SoFar → ℕ → Word → Fields → Result Saying Reason
row_of text d number word.Scenario fields = opening_of text fields
row_of text d number word.Area fields = area_of text d fields
row_of text d number word.Volume fields = volume_of text d fields
row_of text d number word.Writer fields = writer_of text d fields
row_of text d number word.Answer fields = answer_of text d fields
row_of text d number word.Lane fields = lane_of text d fields
row_of text d number w fields = line_of text d number w fields

abbrev pub placed_row_of : List ℕ → SoFar → ℕ → ℕ → Option Word → List Span → Result Saying Reason
placed_row_of text d number end None words = Err UnknownWord
placed_row_of text d number end (Some w) words =
    if may_stand d.opened (has_lane d.lanes) w then row_of text d number w (fields_for w end words) else Err Misplaced

-- by the words of a line that ends at `end`
abbrev pub said_of : List ℕ → SoFar → ℕ → ℕ → List Span → Result Saying Reason
said_of text d number end [] = Err UnknownWord
said_of text d number end (first ∷ rest) = placed_row_of text d number end (word_of (bytes_of text first)) rest

-- what a line says, with its number in the text
unfoldable pub saying_of : List ℕ → SoFar → ℕ → TextLine → Result Saying Reason
saying_of text d number line =
    if list_all is_printable (bytes_of text line.span)
    then (if line.ended
    then (if is_skipped (bytes_of text line.span) then Ok saying.Skipped else said_of text d number line.span.end (words_at text line.span.start line.span.end))
    else Err NoNewline)
    else Err BadByte

-- ## Which text is which scenario: its lines are read one after another, and the first bad one is refused. (This project's
-- own format.)

-- what a text is: a scenario, or its first bad line with the first check that this does not pass
pub data Reading : Type 0 where
  IsScenario : Plan → Reading
  IsBad : ℕ → Reason → Reading

-- a text has to have a `scenario` line; where it has none, the line after its last is missed
abbrev pub whole : List ℕ → ℕ → SoFar → Reading
whole text number d = if d.opened then IsScenario (plan_in text d) else IsBad number Empty

-- what comes after a line
abbrev pub goes_on : ℕ → (Saying → Reading) → Result Saying Reason → Reading
goes_on number more (Ok saying) = more saying
goes_on number more (Err reason) = IsBad number reason

-- what these lines make of a text whose lines before number `number` say d
abbrev pub read_from : List ℕ → ℕ → SoFar → List TextLine → Reading
read_from text number d [] = whole text number d
read_from text number d (line ∷ lines) = goes_on number (λ saying. read_from text (number + 1) (after d saying) lines) (saying_of text d number line)

unfoldable pub reading_of : List ℕ → Reading
reading_of text = read_from text 1 nothing (lines_in text)

-- whether memory is taken before a text of these lines is known to be bad; after its last line it is, for the scenario
abbrev pub takes_from : List ℕ → ℕ → SoFar → List TextLine → Bool
takes_from text number d [] = d.opened
takes_from text number d (line ∷ lines) = takes (λ saying. takes_from text (number + 1) (after d saying) lines) (saying_of text d number line)

unfoldable pub takes_memory : List ℕ → Bool
takes_memory text = takes_from text 1 nothing (lines_in text)

-- why a text of this reading was refused: out of memory only where some was taken
abbrev pub IsRefused : Reading → Bool → Refused → Type 0
IsRefused reading taken (Line line reason) = reading ≡ IsBad line reason
IsRefused reading taken OutOfMemory = taken ≡ true

-- why a text was refused
abbrev pub IsRefusal : List ℕ → Refused → Type 0
IsRefusal text refused = IsRefused (reading_of text) (takes_memory text) refused

-- the first bad line, with its reason
abbrev pub first_bad : Reading → Option (ℕ × Reason)
first_bad (IsScenario plan) = None
first_bad (IsBad line reason) = Some (line, reason)

-- what a refusal tells of the reading
abbrev pub told_bad : Refusal → ℕ × Reason
told_bad refusal = (refusal.line, refusal.cause.reason)

-- why the reading stopped at this line
abbrev pub IsUnreadAt : ℕ → Reading → Bool → Unread → Type 0
IsUnreadAt line reading taken (unread.Bad cause) = reading ≡ IsBad line cause.reason
IsUnreadAt line reading taken unread.OutOfMemory = taken ≡ true

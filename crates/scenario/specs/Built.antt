-- Scenarios that are built of values: what each call of a builder adds, or why it is refused. A call is a line: lines are numbered from
-- 2, as where a text begins with `scenario 1`; names are appended to the source, each with a newline. A call is checked
-- as the line of a text would be, with the same definitions and the same reasons. (This project's own.)
use Rattle.std.specs.Prelude.{ℕ, ◌≡◌, ◌<◌, ◌≤◌, ◌+◌, ◌++◌, ◌&&◌, true, List, [], ◌∷◌, length, nat_le, nat_lt, if◌then◌else◌, Some, None, Result, Ok, Err, is_ok}
use Rattle.std.specs.List.{list_all}
use Rattle.writer_meta.specs.Metadata.{Meta, meta_of}
use Rattle.writer_meta.specs.Document.{IsAllowed}
use Rattle.writer_calls.specs.declared.scripted.Scripted.{Scripted}
use Rattle.scenario.specs.declared.op.Op.{Op}
use Rattle.scenario.specs.declared.op.Op.TheVariants as op
use Rattle.scenario.specs.declared.reason.Reason.{Reason}
use Rattle.scenario.specs.declared.reason.Reason.TheVariants.{BadByte, Misplaced, BadCount, TooMany}
use Rattle.scenario.specs.declared.refused.Refused.{Refused}
use Rattle.scenario.specs.declared.refused.Refused.TheVariants.{Line, OutOfMemory}
use Rattle.scenario.specs.declared.span.Span.{Span}
use Rattle.scenario.specs.declared.field.Field.TheVariants.{Text, Number}
use Rattle.scenario.specs.declared.field.Field.TheVariants as field
use Rattle.scenario.specs.declared.fields.Fields.{Fields}
use Rattle.scenario.specs.declared.fields.Fields.TheVariants.{One, Two, Three, Four}
use Rattle.scenario.specs.declared.word.Word.{Word}
use Rattle.scenario.specs.declared.word.Word.TheVariants as word
use Rattle.scenario.specs.declared.given.Given.{Given}
use Rattle.scenario.specs.declared.entry.Entry.{Entry}
use Rattle.scenario.specs.declared.entry.Entry.TheVariants as entry
use Rattle.scenario.specs.declared.value.Value.{Value}
use Rattle.scenario.specs.declared.value.Value.TheVariants as value
use Rattle.scenario.specs.declared.volume_row.VolumeRow.{VolumeRow}
use Rattle.scenario.specs.Plan.{WriterPlan}
use Rattle.vss_names.specs.Names.{is_name}
use Rattle.scenario.specs.Fields.{bytes_of}
use Rattle.scenario.specs.Ops.{◌>>=◌, volume_at, block_at, writer_at, read_of, image_of, query_of, properties_of, revert_of, delete_of, tick_of, disable_of, add_of}
use Rattle.scenario.specs.SoFar.{SoFar, Saying, after}
use Rattle.scenario.specs.Declarations.{new_writer, writer_if, nth_field, answer_if}
use Rattle.scenario.specs.Grammar.{is_printable, has_lane, may_stand, line_if, row_of}
use Rattle.scenario.specs.Drafts.{DraftValue, new_draft, names_after, counts_after, IsDraft}
use Rattle.scenario.specs.Named.{IsNamed}

pub record BuiltValue : Type 0 where
  -- the names so far
  pub source : List ℕ
  -- of the next line
  pub number : ℕ
  pub draft : DraftValue

abbrev pub value_of : Given → BuiltValue
value_of g = record { source = g.source.items; number = g.number; draft = g.draft }

-- after the line `scenario 1`
abbrev pub nothing_built : BuiltValue
nothing_built = record { source = []; number = 2; draft = new_draft true }

-- ## one call

-- with these bytes and a newline
abbrev pub pushed : BuiltValue → List ℕ → BuiltValue
pushed b bytes = record b { source = b.source ++ bytes ++ 10 ∷ [] }

abbrev pub span_after : List ℕ → List ℕ → Span
span_after source bytes = record { start = length source; end = length source + length bytes }

-- where the bytes of a name will be, if they may stand in a line and the source has at most 4,000,000,000 bytes with them
unfoldable pub place_after : List ℕ → List ℕ → Result Span Reason
place_after source bytes =
    if list_all is_printable bytes then (if nat_le (length source + length bytes + 1) 4000000000 then Ok (span_after source bytes) else Err TooMany) else Err BadByte

abbrev pub with_saying : BuiltValue → Saying → BuiltValue
with_saying b s = record {
  source = b.source;
  number = b.number + 1;
  draft = record { said = after b.draft.said s; names = names_after b.source b.draft.names s; counts = counts_after b.draft.counts s };
}

-- what a builder is after a call, or the line that is refused, with its first failing check
abbrev pub Built : Type 0
Built = Result BuiltValue (ℕ × Reason)

abbrev pub added : BuiltValue → Result Saying Reason → Built
added b (Ok s) = Ok (with_saying b s)
added b (Err reason) = Err (b.number, reason)

-- ## lines of values

-- a line with this word, where it may stand
abbrev pub if_placed : SoFar → Word → Result Saying Reason → Result Saying Reason
if_placed d w said = if may_stand d.opened (has_lane d.lanes) w then said else Err Misplaced

abbrev pub line_said : List ℕ → SoFar → ℕ → Word → Fields → Result Saying Reason
line_said text d number w fields = if_placed d w (row_of text d number w fields)

-- a line that writes this block: its number or its byte is in range
unfoldable pub of_block : List ℕ → List VolumeRow → ℕ → ℕ → Op → Result Op Reason
of_block text rows v b what = volume_at text rows (Number v) >>= (λ i. block_at text rows i (Number b) >>= (λ k. Ok what))

-- the full name of a component is some part of the source
unfoldable pub of_part : List ℕ → Span → Op → Result Op Reason
of_part text full what = if nat_lt full.start full.end && nat_le full.end (length text) then Ok what else Err BadCount

-- a line of a lane, checked as the fields of its form
unfoldable pub op_in : List ℕ → List VolumeRow → List WriterPlan → Op → Result Op Reason
op_in text rows writers (op.WriteFill v b x) = of_block text rows v b (op.WriteFill v b x)
op_in text rows writers (op.WriteStamp v b n) = of_block text rows v b (op.WriteStamp v b n)
op_in text rows writers (op.Read v b) = read_of text rows (Two (Number v) (Number b))
op_in text rows writers (op.ImageDigest s v) = image_of text rows (Two (Number s) (Number v))
op_in text rows writers (op.ImageBlock s v b) = image_of text rows (Three (Number s) (Number v) (Number b))
op_in text rows writers (op.Query v) = query_of text rows (One (Number v))
op_in text rows writers (op.Properties s v) = properties_of text rows (Two (Number s) (Number v))
op_in text rows writers (op.Revert s v) = revert_of text rows (Two (Number s) (Number v))
op_in text rows writers (op.DeleteSet s) = delete_of text rows (One (Number s))
op_in text rows writers (op.DeleteImage s v) = delete_of text rows (Two (Number s) (Number v))
op_in text rows writers (op.Tick n) = tick_of text (One (Number n))
op_in text rows writers (op.Disable w) = disable_of text writers (One (Number w))
op_in text rows writers (op.Component w full) = writer_at text writers (Number w) >>= (λ i. of_part text full (op.Component w full))
op_in text rows writers (op.Add v) = add_of text rows (One (Number v))
op_in text rows writers what = Ok what

abbrev pub op_said : List ℕ → SoFar → ℕ → Op → Result Saying Reason
op_said text d number what = if has_lane d.lanes then (op_in text d.volumes d.writers what >>= (λ o. line_if d number o)) else Err Misplaced

-- a writer with its metadata in place of a document
abbrev pub writer_said : List ℕ → SoFar → Span → Meta → Result Saying Reason
writer_said text d name meta = new_writer text d name >>= (λ n. writer_if d n meta)

-- a row of a script, which may also be an answer that is ok
unfoldable pub answer_said : List ℕ → SoFar → ℕ → Scripted → Result Saying Reason
answer_said text d writer row = do
  w ← writer_at text d.writers (Number writer)
  n ← nth_field text d.writers w row.order (Number row.nth)
  answer_if d (record { writer = w; order = row.order; nth = n }) row.answer

-- what a value says, with a name or a full name at this part of the source
abbrev pub value_said : List ℕ → SoFar → ℕ → Span → Value → Result Saying Reason
value_said text d number name (value.Area slots) = line_said text d number word.Area (Two (Text name) (Number slots))
value_said text d number name (value.OwnVolume blocks slots) = line_said text d number word.Volume (Three (Text name) (Number blocks) (Number slots))
value_said text d number name (value.SharedVolume blocks area) =
    line_said text d number word.Volume (Four (Text name) (Number blocks) field.Word (Number area))
value_said text d number name (value.Writer metadata) = if_placed d word.Writer (writer_said text d name (meta_of metadata))
value_said text d number name (value.Answer writer row) = if_placed d word.Answer (answer_said text d writer row)
value_said text d number name (value.Lane None) = line_said text d number word.Lane (One (Text name))
value_said text d number name (value.Lane (Some w)) = line_said text d number word.Lane (Three (Text name) field.Word (Number w))
value_said text d number name (value.Line what) = op_said text d number what
value_said text d number name (value.Component writer) = op_said text d number (op.Component writer name)

-- ## calls

-- what a builder is after a call with these bytes and this value: the bytes are taken first
abbrev pub with_value : BuiltValue → List ℕ → Value → Built
with_value b bytes v =
    added (pushed b bytes) (place_after b.source bytes >>= (λ name. value_said (pushed b bytes).source b.draft.said b.number name v))

-- why a call with these bytes and this value is refused: out of memory only where the bytes may be taken
abbrev pub IsRefusedBy : BuiltValue → List ℕ → Value → Refused → Type 0
IsRefusedBy b bytes v (Line line reason) = with_value b bytes v ≡ Err (line, reason)
IsRefusedBy b bytes v OutOfMemory = is_ok (place_after b.source bytes) ≡ true

-- a writer's metadata are allowed by their format
abbrev pub IsValue : Value → Type 0
IsValue (value.Writer metadata) = IsAllowed (meta_of metadata)
IsValue _ = Unit {0}

-- ## what every builder keeps

-- with whatever is appended to its source
pub record IsGrowing (source : List ℕ) (number : ℕ) (d : DraftValue) : Type 0 where
  pub drafts : (more : List ℕ) → IsDraft (source ++ more) d
  pub named : (more : List ℕ) → IsNamed (source ++ more) number d.said
  pub some : 0 < number
  pub few : number ≤ length source + 2
  pub short : length source ≤ 4000000000

abbrev pub Grows : Given → Type 0
Grows g = IsGrowing g.source.items g.number g.draft

-- what an entry adds has a name and the number of its line
abbrev pub IsNewlyNamed : List ℕ → ℕ → Entry → Type 0
IsNewlyNamed text number entry.Skipped = Unit {0}
IsNewlyNamed text number entry.Opening = Unit {0}
IsNewlyNamed text number (entry.Area area) = Unit {0}
IsNewlyNamed text number (entry.OwnVolume row) = is_name (bytes_of text row.name) ≡ true
IsNewlyNamed text number (entry.SharedVolume row a area) = is_name (bytes_of text row.name) ≡ true
IsNewlyNamed text number (entry.Writer name metadata) = is_name (bytes_of text name) ≡ true
IsNewlyNamed text number (entry.Answer w row) = Unit {0}
IsNewlyNamed text number (entry.Lane name whom) = is_name (bytes_of text name) ≡ true
IsNewlyNamed text number (entry.Line line) = line.number ≡ number

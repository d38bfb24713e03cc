-- The lines of a lane: what each word means with its fields. The fields are checked from left to right. Volumes and
-- writers are named by the names that were declared, and a block is below its volume's number of blocks. (This project's
-- own format.)
use Rattle.std.specs.Prelude.{ℕ, ◌-◌, Bool, true, false, List, codes, length, nat_lt, if◌then◌else◌, ok_or, Some, Result, Ok, Err, slice_get}
use Rattle.std.specs.Str.{bytes_eq}
use Rattle.scenario.specs.declared.op.Op.{Op}
use Rattle.scenario.specs.declared.op.Op.TheVariants as op
use Rattle.scenario.specs.declared.reason.Reason.{Reason}
use Rattle.scenario.specs.declared.reason.Reason.TheVariants.{UnknownWord, Misplaced, BadCount, BadNumber, UnknownName}
use Rattle.scenario.specs.declared.span.Span.{Span}
use Rattle.scenario.specs.declared.volume_row.VolumeRow.{VolumeRow}
use Rattle.scenario.specs.declared.field.Field.{Field}
use Rattle.scenario.specs.declared.field.Field.TheVariants.{Text, Number}
use Rattle.scenario.specs.declared.field.Field.TheVariants as field
use Rattle.scenario.specs.declared.fields.Fields.{Fields}
use Rattle.scenario.specs.declared.fields.Fields.TheVariants.{Zero, One, Two, Three, Four}
use Rattle.scenario.specs.declared.word.Word.{Word}
use Rattle.scenario.specs.declared.word.Word.TheVariants as word
use Rattle.scenario.specs.Plan.{WriterPlan, blocks_in}
use Rattle.scenario.specs.Fields.{bytes_of, span_of}
use Rattle.scenario.specs.Numbers.{number_in, in_range}
use Rattle.scenario.specs.Names.{volume_named, writer_named}

-- what follows a check that is passed
infixl 10 ◌>>=◌
abbrev pub ◌>>=◌ : {A B : Type 0} → Result A Reason → (A → Result B Reason) → Result B Reason
(Ok x) >>= more = more x
(Err reason) >>= more = Err reason

-- ## fields

-- a number from `low` to `high`
unfoldable pub number_field : List ℕ → ℕ → ℕ → Span → Result ℕ Reason
number_field text low high span = number_in low high (bytes_of text span)

abbrev pub number_at : List ℕ → ℕ → ℕ → Field → Result ℕ Reason
number_at text low high (Text span) = number_field text low high span
number_at text low high (Number n) = in_range low high (Some n)
number_at text low high _ = Err BadNumber

-- the number of one of so many that were declared
abbrev pub number_below : ℕ → Field → Result ℕ Reason
number_below count (Number n) = if nat_lt n count then Ok n else Err UnknownName
number_below count _ = Err UnknownName

-- the name of a volume
unfoldable pub volume_field : List ℕ → List VolumeRow → Span → Result ℕ Reason
volume_field text rows span = ok_or (volume_named text rows (bytes_of text span)) UnknownName

abbrev pub volume_at : List ℕ → List VolumeRow → Field → Result ℕ Reason
volume_at text rows (Text span) = volume_field text rows span
volume_at text rows field = number_below (length rows) field

-- the name of a writer
unfoldable pub writer_field : List ℕ → List WriterPlan → Span → Result ℕ Reason
writer_field text writers span = ok_or (writer_named text writers (bytes_of text span)) UnknownName

abbrev pub writer_at : List ℕ → List WriterPlan → Field → Result ℕ Reason
writer_at text writers (Text span) = writer_field text writers span
writer_at text writers field = number_below (length writers) field

-- a block of the volume
abbrev pub block_at : List ℕ → List VolumeRow → ℕ → Field → Result ℕ Reason
block_at text rows v field = number_at text 0 (blocks_in (slice_get rows v) - 1) field

abbrev pub set_at : List ℕ → Field → Result ℕ Reason
set_at text field = number_at text 1 4294967295 field

-- a word that has to stand there
abbrev pub is_word : List ℕ → Field → List ℕ → Bool
is_word text (Text span) name = bytes_eq (bytes_of text span) name
is_word text field.Word name = true
is_word text (Number n) name = false

-- ## lines

-- `fill x` or `stamp n`
abbrev pub payload_of : List ℕ → ℕ → ℕ → Field → Field → Result Op Reason
payload_of text v b kind number =
    if is_word text kind (codes "fill") then (number_at text 0 255 number >>= (λ x. Ok (op.WriteFill v b x)))
    else (if is_word text kind (codes "stamp") then (number_at text 0 18446744073709551615 number >>= (λ n. Ok (op.WriteStamp v b n)))
    else Err UnknownWord)

-- `write volume block fill x`, `write volume block stamp n`
unfoldable pub write_of : List ℕ → List VolumeRow → Fields → Result Op Reason
write_of text rows (Four volume block kind number) = do
  v ← volume_at text rows volume
  b ← block_at text rows v block
  payload_of text v b kind number
write_of text rows _ = Err BadCount

-- `read volume block`
unfoldable pub read_of : List ℕ → List VolumeRow → Fields → Result Op Reason
read_of text rows (Two volume block) = do
  v ← volume_at text rows volume
  b ← block_at text rows v block
  Ok (op.Read v b)
read_of text rows _ = Err BadCount

-- `image set volume`, `image set volume block`
unfoldable pub image_of : List ℕ → List VolumeRow → Fields → Result Op Reason
image_of text rows (Two set volume) = do
  s ← set_at text set
  v ← volume_at text rows volume
  Ok (op.ImageDigest s v)
image_of text rows (Three set volume block) = do
  s ← set_at text set
  v ← volume_at text rows volume
  b ← block_at text rows v block
  Ok (op.ImageBlock s v b)
image_of text rows _ = Err BadCount

-- a volume alone
unfoldable pub volume_alone : List ℕ → List VolumeRow → Fields → Result ℕ Reason
volume_alone text rows (One volume) = volume_at text rows volume
volume_alone text rows _ = Err BadCount

-- a set and a volume
unfoldable pub set_and_volume : List ℕ → List VolumeRow → Fields → Result (ℕ × ℕ) Reason
set_and_volume text rows (Two set volume) = do
  s ← set_at text set
  v ← volume_at text rows volume
  Ok (s, v)
set_and_volume text rows _ = Err BadCount

-- `query volume`
abbrev pub query_of : List ℕ → List VolumeRow → Fields → Result Op Reason
query_of text rows fields = volume_alone text rows fields >>= (λ v. Ok (op.Query v))

-- `add volume`
abbrev pub add_of : List ℕ → List VolumeRow → Fields → Result Op Reason
add_of text rows fields = volume_alone text rows fields >>= (λ v. Ok (op.Add v))

-- `properties set volume`
abbrev pub properties_of : List ℕ → List VolumeRow → Fields → Result Op Reason
properties_of text rows fields = set_and_volume text rows fields >>= (λ p. Ok (op.Properties p.0 p.1))

-- `revert set volume`
abbrev pub revert_of : List ℕ → List VolumeRow → Fields → Result Op Reason
revert_of text rows fields = set_and_volume text rows fields >>= (λ p. Ok (op.Revert p.0 p.1))

-- `disable writer`
abbrev pub disable_of : List ℕ → List WriterPlan → Fields → Result Op Reason
disable_of text writers (One writer) = writer_at text writers writer >>= (λ w. Ok (op.Disable w))
disable_of text writers _ = Err BadCount

-- `delete set`, `delete set volume`
unfoldable pub delete_of : List ℕ → List VolumeRow → Fields → Result Op Reason
delete_of text rows (One set) = set_at text set >>= (λ s. Ok (op.DeleteSet s))
delete_of text rows (Two set volume) = do
  s ← set_at text set
  v ← volume_at text rows volume
  Ok (op.DeleteImage s v)
delete_of text rows _ = Err BadCount

-- `tick n`
unfoldable pub tick_of : List ℕ → Fields → Result Op Reason
tick_of text (One ticks) = number_at text 1 1000000000 ticks >>= (λ n. Ok (op.Tick n))
tick_of text _ = Err BadCount

-- `begin n`, `begin n all`
unfoldable pub begin_of : List ℕ → Fields → Result Op Reason
begin_of text (One context) = number_at text 0 4294967295 context >>= (λ n. Ok (op.Begin n false))
begin_of text (Two context all) = do
  n ← number_at text 0 4294967295 context
  if is_word text all (codes "all") then Ok (op.Begin n true) else Err UnknownWord
begin_of text _ = Err BadCount

-- `component writer rest`, the rest a full name
unfoldable pub component_of : List ℕ → List WriterPlan → Fields → Result Op Reason
component_of text writers (Two writer full) = writer_at text writers writer >>= (λ w. Ok (op.Component w (span_of full)))
component_of text writers _ = Err BadCount

-- a word alone
abbrev pub alone : Op → Fields → Result Op Reason
alone what Zero = Ok what
alone what _ = Err BadCount

-- what a line of a lane says, by its first word
unfoldable pub op_of : List ℕ → List VolumeRow → List WriterPlan → Word → Fields → Result Op Reason
op_of text rows writers word.Scenario fields = Err Misplaced
op_of text rows writers word.Area fields = Err Misplaced
op_of text rows writers word.Volume fields = Err Misplaced
op_of text rows writers word.Writer fields = Err Misplaced
op_of text rows writers word.Answer fields = Err Misplaced
op_of text rows writers word.Lane fields = Err Misplaced
op_of text rows writers word.Write fields = write_of text rows fields
op_of text rows writers word.Read fields = read_of text rows fields
op_of text rows writers word.Image fields = image_of text rows fields
op_of text rows writers word.Query fields = query_of text rows fields
op_of text rows writers word.Properties fields = properties_of text rows fields
op_of text rows writers word.Revert fields = revert_of text rows fields
op_of text rows writers word.Delete fields = delete_of text rows fields
op_of text rows writers word.Tick fields = tick_of text fields
op_of text rows writers word.Begin fields = begin_of text fields
op_of text rows writers word.Disable fields = disable_of text writers fields
op_of text rows writers word.Gather fields = alone op.Gather fields
op_of text rows writers word.Component fields = component_of text writers fields
op_of text rows writers word.Document fields = alone op.Document fields
op_of text rows writers word.Start fields = alone op.Start fields
op_of text rows writers word.Add fields = add_of text rows fields
op_of text rows writers word.Prepare fields = alone op.Prepare fields
op_of text rows writers word.Snapshot fields = alone op.Snapshot fields
op_of text rows writers word.Await fields = alone op.Await fields
op_of text rows writers word.Status fields = alone op.Status fields
op_of text rows writers word.Complete fields = alone op.Complete fields
op_of text rows writers word.Abort fields = alone op.Abort fields
op_of text rows writers word.End fields = alone op.End fields

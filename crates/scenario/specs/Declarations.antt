-- The lines before the lanes, and the line that begins a lane. The fields are checked from left to right, then the limits.
-- (This project's own format and limits.)
use Rattle.std.specs.Prelude.{ℕ, ◌+◌, ◌&&◌, Bool, List, [], length, codes, nat_le, nat_lt, if◌then◌else◌, find, Option, Some, None, is_some, ok_or, Result, Ok, Err, slice_get}
use Rattle.vss_names.specs.declared.order.Order.{Order}
use Rattle.vss_names.specs.declared.writer_error.WriterError.{WriterError}
use Rattle.vss_names.specs.Order.{order_of_name}
use Rattle.vss_names.specs.WriterError.{error_of_name}
use Rattle.writer_meta.specs.Metadata.{Meta}
use Rattle.writer_meta.specs.Refusal.{Refusal}
use Rattle.writer_meta.specs.Document.{metadata_in}
use Rattle.writer_calls.specs.declared.answer.Answer.{Answer}
use Rattle.writer_calls.specs.declared.answer.Answer.TheVariants.{Veto}
use Rattle.writer_calls.specs.declared.scripted.Scripted.{Scripted}
use Rattle.writer_calls.specs.Script.{is_row_for}
use Rattle.scenario.specs.declared.reason.Reason.{Reason}
use Rattle.scenario.specs.declared.reason.Reason.TheVariants.{UnknownWord, BadCount, BadName, DoubleName, UnknownName, BadDocument, TooMany}
use Rattle.scenario.specs.declared.span.Span.{Span}
use Rattle.scenario.specs.declared.area_row.AreaRow.{AreaRow}
use Rattle.scenario.specs.declared.volume_row.VolumeRow.{VolumeRow}
use Rattle.scenario.specs.declared.asked.Asked.{Asked}
use Rattle.scenario.specs.declared.field.Field.{Field}
use Rattle.scenario.specs.declared.field.Field.TheVariants.{Text}
use Rattle.scenario.specs.declared.fields.Fields.{Fields}
use Rattle.scenario.specs.declared.name_kind.NameKind.{NameKind}
use Rattle.scenario.specs.declared.name_kind.NameKind.TheVariants as kind
use Rattle.scenario.specs.declared.fields.Fields.TheVariants.{One, Two, Three, Four, Five}
use Rattle.scenario.specs.Plan.{WriterPlan, LanePlan, script_in}
use Rattle.scenario.specs.Fields.{bytes_of, span_of}
use Rattle.vss_names.specs.Names.{is_name}
use Rattle.scenario.specs.Names.{area_named, volume_named, writer_named, lane_named}
use Rattle.scenario.specs.Ops.{◌>>=◌, number_at, volume_at, writer_at, number_below, is_word}
use Rattle.scenario.specs.SoFar.{SoFar, Saying, group_for, answer_count}
use Rattle.scenario.specs.SoFar as saying

-- a new name, where `taken` says whether one of its kind has it
unfoldable pub name_field : List ℕ → Bool → Span → Result Span Reason
name_field text taken span = if is_name (bytes_of text span) then (if taken then Err DoubleName else Ok span) else Err BadName

-- `scenario 1`
unfoldable pub opening_of : List ℕ → Fields → Result Saying Reason
opening_of text (One version) = number_at text 1 1 version >>= (λ n. Ok saying.Opening)
opening_of text _ = Err BadCount

-- ## areas and volumes

-- at most 131,072 blocks and slots together
abbrev pub has_space : SoFar → ℕ → Bool
has_space d size = nat_le (d.size + size) 131072

-- the name of an area that is new
abbrev pub new_area : List ℕ → SoFar → Span → Result Span Reason
new_area text d name = name_field text (is_some (area_named text d.areas (bytes_of text name))) name

-- `area name slots`
unfoldable pub area_of : List ℕ → SoFar → Fields → Result Saying Reason
area_of text d (Two name slots) = do
  n ← new_area text d (span_of name)
  s ← number_at text 0 65536 slots
  if nat_lt (length d.areas) 128 && has_space d s then Ok (saying.Area (record { name = n; slots = s })) else Err TooMany
area_of text d _ = Err BadCount

-- at most 128 volumes
abbrev pub has_volume_room : SoFar → ℕ → Bool
has_volume_room d size = nat_lt (length d.volumes) 128 && has_space d size

-- the name of a volume that is new
abbrev pub new_volume : List ℕ → SoFar → Span → Result Span Reason
new_volume text d name = name_field text (is_some (volume_named text d.volumes (bytes_of text name))) name

abbrev pub own_row : SoFar → Span → ℕ → ℕ → VolumeRow
own_row d name blocks slots = record { name = name; blocks = blocks; slots = slots; group = length d.groups }

-- `volume name blocks slots`
unfoldable pub own_volume_of : List ℕ → SoFar → Span → Field → Field → Result Saying Reason
own_volume_of text d name blocks slots = do
  n ← new_volume text d name
  b ← number_at text 1 65536 blocks
  s ← number_at text 0 65536 slots
  if has_volume_room d (b + s) then Ok (saying.OwnVolume (own_row d n b s)) else Err TooMany

abbrev pub shared_row : SoFar → Span → ℕ → AreaRow → VolumeRow
shared_row d name blocks area = record { name = name; blocks = blocks; slots = area.slots; group = group_for d.groups area }

abbrev pub area_at : ℕ → Option AreaRow → Result (ℕ × AreaRow) Reason
area_at a None = Err UnknownName
area_at a (Some area) = Ok (a, area)

-- the number of a declared area
abbrev pub area_number : List ℕ → List AreaRow → Field → Result ℕ Reason
area_number text areas (Text span) = ok_or (area_named text areas (bytes_of text span)) UnknownName
area_number text areas field = number_below (length areas) field

-- a declared area, with its number
unfoldable pub area_field : List ℕ → List AreaRow → Field → Result (ℕ × AreaRow) Reason
area_field text areas field = area_number text areas field >>= (λ a. area_at a (slice_get areas a))

abbrev pub shared_if : SoFar → Span → ℕ → ℕ → AreaRow → Result Saying Reason
shared_if d name blocks a area = if has_volume_room d blocks then Ok (saying.SharedVolume (shared_row d name blocks area) a area) else Err TooMany

-- `volume name blocks in area`
unfoldable pub shared_volume_of : List ℕ → SoFar → Span → Field → Field → Field → Result Saying Reason
shared_volume_of text d name blocks kind area = do
  n ← new_volume text d name
  b ← number_at text 1 65536 blocks
  if is_word text kind (codes "in") then (area_field text d.areas area >>= (λ p. shared_if d n b p.0 p.1)) else Err UnknownWord

abbrev pub volume_of : List ℕ → SoFar → Fields → Result Saying Reason
volume_of text d (Three name blocks slots) = own_volume_of text d (span_of name) blocks slots
volume_of text d (Four name blocks kind area) = shared_volume_of text d (span_of name) blocks kind area
volume_of text d _ = Err BadCount

-- ## writers and their answers

abbrev pub described : Result Meta Refusal → Result Meta Reason
described (Ok meta) = Ok meta
described (Err refusal) = Err BadDocument

abbrev pub document_field : List ℕ → Span → Result Meta Reason
document_field text span = described (metadata_in (bytes_of text span))

abbrev pub new_writer : List ℕ → SoFar → Span → Result Span Reason
new_writer text d name = name_field text (is_some (writer_named text d.writers (bytes_of text name))) name

-- at most 64 writers
abbrev pub writer_if : SoFar → Span → Meta → Result Saying Reason
writer_if d name meta = if nat_lt (length d.writers) 64 then Ok (saying.Writer (record { name = name; meta = meta; script = [] })) else Err TooMany

-- `writer name rest`, the rest a metadata document
unfoldable pub writer_of : List ℕ → SoFar → Fields → Result Saying Reason
writer_of text d (Two name document) = new_writer text d (span_of name) >>= (λ n. document_field text (span_of document) >>= writer_if d n)
writer_of text d _ = Err BadCount

abbrev pub order_field : List ℕ → Span → Result Order Reason
order_field text span = ok_or (order_of_name (bytes_of text span)) UnknownWord

abbrev pub code_field : List ℕ → Span → Result WriterError Reason
code_field text span = ok_or (error_of_name (bytes_of text span)) UnknownWord

-- whether a line before speaks of this order of a writer
abbrev pub is_answered : List WriterPlan → ℕ → Order → ℕ → Bool
is_answered writers w order nth = is_some (find (is_row_for order nth) (script_in (slice_get writers w)))

abbrev pub new_nth : List WriterPlan → ℕ → Order → ℕ → Result ℕ Reason
new_nth writers w order nth = if is_answered writers w order nth then Err DoubleName else Ok nth

abbrev pub nth_field : List ℕ → List WriterPlan → ℕ → Order → Field → Result ℕ Reason
nth_field text writers w order field = number_at text 1 2000 field >>= new_nth writers w order

-- which order of which writer an `answer` line speaks of
unfoldable pub asked_of : List ℕ → List WriterPlan → Field → Field → Field → Result Asked Reason
asked_of text writers writer order nth = do
  w ← writer_at text writers writer
  o ← order_field text (span_of order)
  n ← nth_field text writers w o nth
  Ok (record { writer = w; order = o; nth = n })

abbrev pub row_for : Asked → Option Answer → Scripted
row_for asked answer = record { order = asked.order; nth = asked.nth; answer = answer }

-- at most 10,000 `answer` lines
abbrev pub answer_if : SoFar → Asked → Option Answer → Result Saying Reason
answer_if d asked answer = if nat_lt (answer_count d.writers) 10000 then Ok (saying.Answer asked.writer (row_for asked answer)) else Err TooMany

abbrev pub lost_if : List ℕ → SoFar → Field → Asked → Result Saying Reason
lost_if text d kind asked = if is_word text kind (codes "lost") then answer_if d asked None else Err UnknownWord

abbrev pub veto_if : List ℕ → SoFar → Field → Field → Asked → Result Saying Reason
veto_if text d kind code asked =
    if is_word text kind (codes "veto") then (code_field text (span_of code) >>= (λ error. answer_if d asked (Some (Veto error)))) else Err UnknownWord

-- `answer writer order nth lost`, `answer writer order nth veto code`
unfoldable pub answer_of : List ℕ → SoFar → Fields → Result Saying Reason
answer_of text d (Four writer order nth kind) = asked_of text d.writers writer order nth >>= lost_if text d kind
answer_of text d (Five writer order nth kind code) = asked_of text d.writers writer order nth >>= veto_if text d kind code
answer_of text d _ = Err BadCount

-- ## lanes

abbrev pub new_lane : List ℕ → SoFar → Span → Result Span Reason
new_lane text d name = name_field text (is_some (lane_named text d.lanes (bytes_of text name))) name

-- at most 64 lanes
abbrev pub lane_if : SoFar → Span → Option ℕ → Result Saying Reason
lane_if d name whom = if nat_lt (length d.lanes) 64 then Ok (saying.Lane name whom) else Err TooMany

-- `lane name`
unfoldable pub free_lane_of : List ℕ → SoFar → Span → Result Saying Reason
free_lane_of text d name = new_lane text d name >>= (λ n. lane_if d n None)

-- `lane name as writer`
unfoldable pub acting_lane_of : List ℕ → SoFar → Span → Field → Field → Result Saying Reason
acting_lane_of text d name kind writer = do
  n ← new_lane text d name
  if is_word text kind (codes "as") then (writer_at text d.writers writer >>= (λ w. lane_if d n (Some w))) else Err UnknownWord

abbrev pub lane_of : List ℕ → SoFar → Fields → Result Saying Reason
lane_of text d (One name) = free_lane_of text d (span_of name)
lane_of text d (Three name kind writer) = acting_lane_of text d (span_of name) kind writer
lane_of text d _ = Err BadCount

-- ## by the kind of the name

abbrev pub new_name : List ℕ → SoFar → NameKind → Span → Result Span Reason
new_name text d kind.Area name = new_area text d name
new_name text d kind.Volume name = new_volume text d name
new_name text d kind.Writer name = new_writer text d name
new_name text d kind.Lane name = new_lane text d name

abbrev pub count_of : SoFar → NameKind → ℕ
count_of d kind.Area = length d.areas
count_of d kind.Volume = length d.volumes
count_of d kind.Writer = length d.writers
count_of d kind.Lane = length d.lanes

abbrev pub lane_at : List ℕ → List LanePlan → Field → Result ℕ Reason
lane_at text lanes (Text span) = ok_or (lane_named text lanes (bytes_of text span)) UnknownName
lane_at text lanes field = number_below (length lanes) field

-- the number of what was declared
abbrev pub declared_at : List ℕ → SoFar → NameKind → Field → Result ℕ Reason
declared_at text d kind.Area field = area_number text d.areas field
declared_at text d kind.Volume field = volume_at text d.volumes field
declared_at text d kind.Writer field = writer_at text d.writers field
declared_at text d kind.Lane field = lane_at text d.lanes field

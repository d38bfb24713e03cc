-- Short words for writing a scenario, a trail and the metadata of writers down.
use Rattle.std.specs.List.{concat}
use Rattle.std.specs.Prelude.{ℕ, ◌+◌, List, [], ◌∷◌, ◌++◌, codes, replicate, map, take, Option, Some, None, true}
use Rattle.hex.specs.Hex.{encode_lower}
use Rattle.vss_names.specs.declared.component_type.ComponentType.{ComponentType}
use Rattle.vss_names.specs.declared.component_type.ComponentType.TheVariants.{Database, FileGroup}
use Rattle.vss_names.specs.declared.level.Level.TheVariants.{System, BackEnd, FrontEnd}
use Rattle.vss_names.specs.declared.order.Order.{Order}
use Rattle.vss_names.specs.declared.source_kind.SourceKind.TheVariants as source
use Rattle.vss_names.specs.declared.usage.Usage.TheVariants as usage
use Rattle.block_data.specs.BlockBytes.{sha256, payload_bytes}
use Rattle.block_data.specs.declared.payload.Payload.TheVariants.{Fill}
use Rattle.write_history.specs.declared.actor.Actor.{Actor}
use Rattle.write_history.specs.declared.actor.Actor.TheVariants.{Lane, Writer, Advance, Idle}
use Rattle.write_history.specs.declared.mark.Mark.TheVariants.{Clean, Fault}
use Rattle.write_history.specs.declared.move_item.Move.{Move}
use Rattle.writer_calls.specs.declared.answer.Answer.{Answer}
use Rattle.writer_calls.specs.declared.scripted.Scripted.{Scripted}
use Rattle.writer_meta.specs.Metadata.{Meta, Part}
use Rattle.scenario.specs.Plan.{GroupPlan, WriterPlan, LaneLine, LanePlan}
use Rattle.scenario.specs.declared.op.Op.{Op}
use Rattle.scenario.specs.declared.op.Op.TheVariants.{End}
use Rattle.scenario.specs.declared.span.Span.{Span}
use Rattle.scenario.specs.declared.volume_row.VolumeRow.{VolumeRow}

-- ## Short words for writing a scenario and a trail down.

-- ## scenarios

abbrev pub span : ℕ → ℕ → Span
span from to = record { start = from; end = to }

-- a volume of so many blocks; the slots are its group's, and the group has this number
abbrev pub volume : Span → ℕ → ℕ → ℕ → VolumeRow
volume name blocks slots group = record { name = name; blocks = blocks; slots = slots; group = group }

-- a group of this name, with so many slots
abbrev pub group : Span → ℕ → GroupPlan
group name slots = record { name = name; slots = slots }

-- a writer with its metadata and its script
abbrev pub writer : Span → Meta → List Scripted → WriterPlan
writer name meta script = record { name = name; meta = meta; script = script }

-- the answer to the nth order of a kind; none is a lost one
abbrev pub scripted : Order → ℕ → Option Answer → Scripted
scripted order nth answer = record { order = order; nth = nth; answer = answer }

-- lines, the first of them with this number
abbrev pub numbered : ℕ → List Op → List LaneLine
numbered n [] = []
numbered n (op ∷ ops) = record { number = n; op = op } ∷ numbered (n + 1) ops

-- a lane that acts as no writer, and one that does
abbrev pub lane : Span → List LaneLine → LanePlan
lane name lines = record { name = name; acts_as = None; lines = lines }

abbrev pub lane_as : Span → ℕ → List LaneLine → LanePlan
lane_as name writer lines = record { name = name; acts_as = Some writer; lines = lines }

-- the `end` that a lane gets where it begins a session and does not end it
abbrev pub implied_end : List LaneLine
implied_end = record { number = 0; op = End } ∷ []

-- ## trails

abbrev pub clean : Actor → Move
clean actor = record { actor = actor; mark = Clean }

-- a lane's move in which a device fails
abbrev pub faulty_by_lane : ℕ → Move
faulty_by_lane i = record { actor = Lane i; mark = Fault }

-- so many moves of a lane
abbrev pub by_lane : ℕ → ℕ → List Move
by_lane i n = replicate n (clean (Lane i))

-- so many steps of the provider
abbrev pub steps : ℕ → List Move
steps n = replicate n (clean Advance)

-- answers of these writers
abbrev pub by_writers : List ℕ → List Move
by_writers ws = map (λ w. clean (Writer w)) ws

abbrev pub idle : Move
idle = clean Idle

-- ## texts

abbrev pub line : List ℕ → List ℕ
line text = text ++ 10 ∷ []

-- a block full of x
abbrev pub filled : ℕ → List ℕ
filled x = payload_bytes (Fill x)

-- the digest of blocks, each full of one byte
abbrev pub digest_of : List ℕ → List ℕ
digest_of xs = encode_lower (sha256 (concat (map filled xs)))

-- what is printed of a block full of x
abbrev pub data_of : ℕ → List ℕ
data_of x = encode_lower (take 8 (filled x)) ++ 32 ∷ encode_lower (sha256 (filled x))

-- each as a line
abbrev pub lines : List (List ℕ) → List ℕ
lines [] = []
lines (text ∷ texts) = line text ++ lines texts

-- the line of a move, and those of its effects
abbrev pub with_effects : List ℕ → List (List ℕ) → List ℕ
with_effects text effects = line text ++ lines effects

-- the lines of moves without effects
abbrev pub alone : List (List ℕ) → List (List ℕ)
alone texts = map (λ text. with_effects text []) texts

-- the closing line of a volume, those of its images, and the rest
abbrev pub volume_with : List ℕ → List (List ℕ) → List ℕ → List ℕ
volume_with text images rest = line text ++ lines images ++ rest

-- a whole report: its moves, the line that ends them, the volumes, the writers
abbrev pub report_of : List (List ℕ) → List ℕ → List ℕ → List (List ℕ) → List ℕ
report_of moves end volumes writers = line (codes "report 1") ++ concat moves ++ (line end ++ volumes ++ lines writers)

-- ## The metadata of the writers of the worked runs, one of each level. Of their classes it matters only that they differ.

-- a selectable component without a path
abbrev pub part : ComponentType → List ℕ → Part
part kind name = record { kind = kind; path = []; name = name; selectable = true }

abbrev pub system : Meta
system = record { class = 1; name = codes "System"; level = System; usage = usage.SystemService; source = source.Other; freeze_timeout = 60000; parts = part FileGroup (codes "main") ∷ [] }

abbrev pub database : Meta
database = record { class = 2; name = codes "Database"; level = BackEnd; usage = usage.UserData; source = source.TransactedDb; freeze_timeout = 60000; parts = part Database (codes "main") ∷ [] }

abbrev pub web : Meta
web = record { class = 3; name = codes "Web"; level = FrontEnd; usage = usage.UserData; source = source.Other; freeze_timeout = 60000; parts = part FileGroup (codes "main") ∷ [] }

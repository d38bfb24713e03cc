-- What the lines of a text say that were read so far, and what one more line adds. (This project's own format.)
use Rattle.std.specs.Prelude.{ℕ, zero, suc, ◌+◌, ◌++◌, Bool, true, false, List, [], ◌∷◌, length, map, sum, slice_set, unwrap_or, is_some, Option, Some, None, if◌then◌else◌, Result, Ok, Err}
use Rattle.writer_calls.specs.declared.scripted.Scripted.{Scripted}
use Rattle.scenario.specs.declared.op.Op.TheVariants.{End}
use Rattle.scenario.specs.declared.reason.Reason.{Reason}
use Rattle.scenario.specs.declared.reason.Reason.TheVariants.{BadDocument, TooMany}
use Rattle.scenario.specs.declared.span.Span.{Span}
use Rattle.scenario.specs.declared.volume_row.VolumeRow.{VolumeRow}
use Rattle.scenario.specs.declared.area_row.AreaRow.{AreaRow}
use Rattle.scenario.specs.Plan.{Plan, GroupPlan, WriterPlan, LaneLine, LanePlan}
use Rattle.scenario.specs.Bounds.{ends_sessions, agenda_lines}

pub record SoFar : Type 0 where
  -- the `scenario` line was read
  pub opened : Bool
  -- those that `area` lines declare, each with the number of its group once a volume is in it
  pub areas : List AreaRow
  pub volumes : List VolumeRow
  -- the areas that volumes use, by the first volume of each
  pub groups : List GroupPlan
  -- the blocks of all volumes and the slots of all areas together
  pub size : ℕ
  pub writers : List WriterPlan
  -- each with the lines that were read
  pub lanes : List LanePlan

abbrev pub nothing : SoFar
nothing = record { opened = false; areas = []; volumes = []; groups = []; size = 0; writers = []; lanes = [] }

-- what one line says
pub data Saying : Type 0 where
  -- nothing: the line is skipped
  Skipped : Saying
  -- the `scenario` line
  Opening : Saying
  Area : GroupPlan → Saying
  -- a volume with an area of its own
  OwnVolume : VolumeRow → Saying
  -- a volume in a declared area, which has this number and stood so
  SharedVolume : VolumeRow → ℕ → AreaRow → Saying
  Writer : WriterPlan → Saying
  -- a row of a writer's script
  Answer : ℕ → Scripted → Saying
  -- a lane begins
  Lane : Span → Option ℕ → Saying
  -- a line of the lane at hand
  Line : LaneLine → Saying

-- ## parts

-- a volume alone is a group, which has the volume's name
abbrev pub own_group : VolumeRow → GroupPlan
own_group r = record { name = r.name; slots = r.slots }

-- a declared area that no volume is in
abbrev pub new_area : GroupPlan → AreaRow
new_area area = record { name = area.name; slots = area.slots; group = None }

-- the group of a declared area
abbrev pub area_group : AreaRow → GroupPlan
area_group area = record { name = area.name; slots = area.slots }

-- the number of a declared area's group: the one that it has, or the next number
abbrev pub group_for : List GroupPlan → AreaRow → ℕ
group_for groups area = unwrap_or area.group (length groups)

-- the groups with that of a declared area
abbrev pub with_group : AreaRow → List GroupPlan → List GroupPlan
with_group area groups = if is_some area.group then groups else groups ++ area_group area ∷ []

-- the areas, where the one of number a has this group
abbrev pub with_area_group : ℕ → AreaRow → ℕ → List AreaRow → List AreaRow
with_area_group a area g areas = slice_set areas a (record area { group = Some g })

-- a row more in the script of writer w
abbrev pub with_answer : ℕ → Scripted → List WriterPlan → List WriterPlan
with_answer w row [] = []
with_answer zero row (writer ∷ writers) = record writer { script = writer.script ++ row ∷ [] } ∷ writers
with_answer (suc w) row (writer ∷ writers) = writer ∷ with_answer w row writers

-- a line more in the last lane
abbrev pub with_line : LaneLine → List LanePlan → List LanePlan
with_line line [] = []
with_line line (lane ∷ []) = record lane { lines = lane.lines ++ line ∷ [] } ∷ []
with_line line (lane ∷ next ∷ lanes) = lane ∷ with_line line (next ∷ lanes)

-- ## one line more

abbrev pub after : SoFar → Saying → SoFar
after d Skipped = d
after d Opening = record d { opened = true }
after d (Area area) = record d { areas = d.areas ++ new_area area ∷ []; size = d.size + area.slots }
after d (OwnVolume row) = record d { volumes = d.volumes ++ row ∷ []; groups = d.groups ++ own_group row ∷ []; size = d.size + (row.blocks + row.slots) }
after d (SharedVolume row a area) =
    record d { areas = with_area_group a area row.group d.areas; volumes = d.volumes ++ row ∷ []; groups = with_group area d.groups; size = d.size + row.blocks }
after d (Writer writer) = record d { writers = d.writers ++ writer ∷ [] }
after d (Answer w row) = record d { writers = with_answer w row d.writers }
after d (Lane name whom) = record d { lanes = d.lanes ++ record { name = name; acts_as = whom; lines = [] } ∷ [] }
after d (Line line) = record d { lanes = with_line line d.lanes }

-- ## memory

-- whether memory is taken for a line, or else for those after it: what a line says is kept, and a document is read. A line is
-- known to be bad before that; only the document, and the number of the writers, are checked after it
abbrev pub takes : (Saying → Bool) → Result Saying Reason → Bool
takes more (Ok Skipped) = more Skipped
takes more (Ok Opening) = more Opening
takes more (Ok _) = true
takes more (Err BadDocument) = true
takes more (Err TooMany) = true
takes more (Err _) = false

abbrev pub takes_itself : Result Saying Reason → Bool
takes_itself = takes (λ said. false)

-- ## counts

abbrev pub line_count : List LanePlan → ℕ
line_count lanes = sum (map (λ (l : LanePlan). length l.lines) lanes)

-- the lines that may begin an agenda, over all lanes
abbrev pub agenda_count : List LanePlan → ℕ
agenda_count lanes = sum (map (λ (l : LanePlan). agenda_lines l.lines) lanes)

abbrev pub answer_count : List WriterPlan → ℕ
answer_count writers = sum (map (λ (w : WriterPlan). length w.script) writers)

-- ## the end

-- the `end` that a lane gets without writing it
abbrev pub implied_end : LaneLine
implied_end = record { number = 0; op = End }

-- a lane that has a `begin` and no `end` after its last `begin` gets one
abbrev pub closed : List LaneLine → List LaneLine
closed lines = if ends_sessions lines then lines else lines ++ implied_end ∷ []

abbrev pub closed_lane : LanePlan → LanePlan
closed_lane lane = record lane { lines = closed lane.lines }

-- what all lines say together
abbrev pub plan_in : List ℕ → SoFar → Plan
plan_in text d = record {
  source = text;
  volumes = d.volumes;
  groups = d.groups;
  writers = d.writers;
  lanes = map closed_lane d.lanes;
}

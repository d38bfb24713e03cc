-- What a scenario says: its text, the volumes with the groups that share a diff area, the writers with their metadata
-- and scripts, and the lanes with their lines. Names are parts of the text. (This project's own.)
use Rattle.std.specs.Prelude.{ℕ, List, [], map, ◌==◌, Option, Some, None, slice_get, slice_range}
use Rattle.write_history.specs.Slots.{Placed}
use Rattle.writer_meta.specs.Metadata.{Meta}
use Rattle.writer_calls.specs.declared.scripted.Scripted.{Scripted}
use Rattle.scenario.specs.declared.group_row.GroupRow.{GroupRow as DeclaredGroup}
use Rattle.scenario.specs.declared.lane_line.LaneLine.{LaneLine as DeclaredLine}
use Rattle.scenario.specs.declared.span.Span.{Span}
use Rattle.scenario.specs.declared.volume_row.VolumeRow.{VolumeRow}

-- the volumes that share one diff area: those of a declared area, or a volume alone
abbrev pub GroupPlan : Type 0
GroupPlan = DeclaredGroup

pub record WriterPlan : Type 0 where
  pub name : Span
  pub meta : Meta
  pub script : List Scripted

-- a line, with its number in the text. A lane that has a `begin` line and no `end` line after its last `begin` gets one
-- further line `end`, whose number is 0.
abbrev pub LaneLine : Type 0
LaneLine = DeclaredLine

pub record LanePlan : Type 0 where
  pub name : Span
  -- the writer as which the lane acts
  pub acts_as : Option ℕ
  pub lines : List LaneLine

pub record Plan : Type 0 where
  pub source : List ℕ
  pub volumes : List VolumeRow
  -- numbered by their first volumes
  pub groups : List GroupPlan
  pub writers : List WriterPlan
  pub lanes : List LanePlan

-- the text of a span
abbrev pub token : Plan → Span → List ℕ
token s span = slice_range s.source span.start span.end

-- ## volumes

abbrev pub blocks_in : Option VolumeRow → ℕ
blocks_in None = 0
blocks_in (Some r) = r.blocks

abbrev pub slots_in : Option VolumeRow → ℕ
slots_in None = 0
slots_in (Some r) = r.slots

abbrev pub blocks_of : Plan → ℕ → ℕ
blocks_of s v = blocks_in (slice_get s.volumes v)

-- the slots of the group of a volume
abbrev pub slots_of : Plan → ℕ → ℕ
slots_of s v = slots_in (slice_get s.volumes v)

-- each volume as the group of volume v sees it
abbrev pub placed : ℕ → VolumeRow → Placed
placed g r = record { blocks = r.blocks; within = r.group == g }

abbrev pub placed_in : List VolumeRow → Option VolumeRow → List Placed
placed_in rows None = []
placed_in rows (Some r) = map (placed r.group) rows

abbrev pub group_of : Plan → ℕ → List Placed
group_of s v = placed_in s.volumes (slice_get s.volumes v)

-- ## writers and lanes

abbrev pub class_in : Option WriterPlan → ℕ
class_in None = 0
class_in (Some w) = w.meta.class

abbrev pub class_of : Plan → ℕ → ℕ
class_of s w = class_in (slice_get s.writers w)

abbrev pub script_in : Option WriterPlan → List Scripted
script_in None = []
script_in (Some w) = w.script

abbrev pub script_of : Plan → ℕ → List Scripted
script_of s w = script_in (slice_get s.writers w)

abbrev pub writer_in : Option LanePlan → Option ℕ
writer_in None = None
writer_in (Some l) = l.acts_as

-- the writer as which a lane acts
abbrev pub acts_as : Plan → ℕ → Option ℕ
acts_as s lane = writer_in (slice_get s.lanes lane)

abbrev pub lines_in : Option LanePlan → List LaneLine
lines_in None = []
lines_in (Some l) = l.lines

abbrev pub lines_of : Plan → ℕ → List LaneLine
lines_of s lane = lines_in (slice_get s.lanes lane)

-- What every scenario that was read keeps to: its names are parts of its text, its numbers are within the limits, and each
-- lane ends the sessions that it begins. (The limits are this project's own, but for 64 volumes in a set and 512 images
-- on a volume, which are the SDK's.)
use Rattle.std.specs.Prelude.{ℕ, ◌≡◌, ◌<◌, ◌≤◌, ◌+◌, Bool, true, false, List, [], ◌∷◌, length, map, sum, count_by, All, IfSome, Option, Some, None, slice_get, nat_lt, ◌==◌, ◌&&◌, ◌||◌, not, if◌then◌else◌}
use Rattle.std.specs.List.{list_any}
use Rattle.scenario.specs.declared.op.Op.{Op}
use Rattle.scenario.specs.declared.op.Op.TheVariants.{Begin, Disable, Gather, Component, Add, Prepare, Snapshot, Complete, End}
use Rattle.scenario.specs.declared.line.Line.{Line}
use Rattle.scenario.specs.declared.line.Line.TheVariants.{Writes, Reads, ShowsImage, ShowsBlock, ShowsSets, ShowsProperties, Reverts, DeletesSet, DeletesImage, Ticks, Calls}
use Rattle.scenario.specs.Calls.{line_of}
use Rattle.scenario.specs.declared.span.Span.{Span}
use Rattle.scenario.specs.declared.volume_row.VolumeRow.{VolumeRow}
use Rattle.writer_meta.specs.Document.{IsAllowed}
use Rattle.writer_calls.specs.declared.scripted.Scripted.{Scripted}
use Rattle.scenario.specs.Fields.{IsPart}
use Rattle.scenario.specs.Plan.{Plan, GroupPlan, WriterPlan, LaneLine, LanePlan, blocks_in}

-- ## names

-- the text of a span is a part of the scenario's text
abbrev pub IsSpan : Plan → Span → Type 0
IsSpan s = IsPart (length s.source)

-- a name of a text of n bytes has at most 32 characters
pub record IsShortPart (n : ℕ) (name : Span) : Type 0 where
  pub part : IsPart n name
  pub short : name.end ≤ name.start + 32

-- ## lines

abbrev pub IsBlockOf : List VolumeRow → ℕ → ℕ → Type 0
IsBlockOf rows v b = (v < length rows) × (b < blocks_in (slice_get rows v))

abbrev pub IsBlock : Plan → ℕ → ℕ → Type 0
IsBlock s = IsBlockOf s.volumes

-- what a session call names, in a text of n bytes with these volumes and so many writers
abbrev pub IsCallRanged : ℕ → List VolumeRow → ℕ → Op → Type 0
IsCallRanged n rows writers (Disable w) = w < writers
IsCallRanged n rows writers (Component w full) = (w < writers) × IsPart n full
IsCallRanged n rows writers (Add v) = v < length rows
IsCallRanged n rows writers _ = Unit {0}

-- the numbers of a line that does this are in range
abbrev pub IsRangedBy : ℕ → List VolumeRow → ℕ → Op → Line → Type 0
IsRangedBy n rows writers op (Writes v b payload) = IsBlockOf rows v b
IsRangedBy n rows writers op (Reads v b) = IsBlockOf rows v b
IsRangedBy n rows writers op (ShowsImage set v) = v < length rows
IsRangedBy n rows writers op (ShowsBlock set v b) = IsBlockOf rows v b
IsRangedBy n rows writers op (ShowsSets v) = v < length rows
IsRangedBy n rows writers op (ShowsProperties set v) = v < length rows
IsRangedBy n rows writers op (Reverts set v) = v < length rows
IsRangedBy n rows writers op (DeletesSet set) = Unit {0}
IsRangedBy n rows writers op (DeletesImage set v) = v < length rows
IsRangedBy n rows writers op (Ticks ticks) = ticks ≤ 1000000000
IsRangedBy n rows writers op (Calls c) = IsCallRanged n rows writers op

abbrev pub IsRanged : ℕ → List VolumeRow → ℕ → Op → Type 0
IsRanged n rows writers op = IsRangedBy n rows writers op (line_of op)

abbrev pub IsOp : Plan → Op → Type 0
IsOp s = IsRanged (length s.source) s.volumes (length s.writers)

-- ## sessions end

abbrev pub is_begin : Op → Bool
is_begin (Begin c all) = true
is_begin _ = false

abbrev pub is_end : Op → Bool
is_end End = true
is_end _ = false

abbrev pub has_end : List LaneLine → Bool
has_end lines = list_any (λ l. is_end l.op) lines

-- after each `begin` there is an `end`
abbrev pub ends_sessions : List LaneLine → Bool
ends_sessions [] = true
ends_sessions (l ∷ lines) = (not (is_begin l.op) || has_end lines) && ends_sessions lines

-- ## agendas

-- the lines that may begin an agenda
abbrev pub begins_agenda : Op → Bool
begins_agenda Gather = true
begins_agenda Prepare = true
begins_agenda Snapshot = true
begins_agenda Complete = true
begins_agenda _ = false

abbrev pub agenda_lines : List LaneLine → ℕ
agenda_lines lines = count_by (λ l. begins_agenda l.op) lines

-- ## all of it

-- a declared volume, in a text of n bytes
pub record IsRow (n : ℕ) (row : VolumeRow) : Type 0 where
  pub name : IsShortPart n row.name
  pub some : 0 < row.blocks
  pub most : row.blocks ≤ 65536
  pub few_slots : row.slots ≤ 65536

-- an area that volumes use
pub record IsGroupRow (n : ℕ) (g : GroupPlan) : Type 0 where
  pub name : IsShortPart n g.name
  pub few_slots : g.slots ≤ 65536

-- counted from 1
abbrev pub IsNth : Scripted → Type 0
IsNth row = (0 < row.nth) × (row.nth ≤ 2000)

pub record IsWriterRow (n : ℕ) (w : WriterPlan) : Type 0 where
  pub name : IsShortPart n w.name
  pub allowed : IsAllowed w.meta
  pub nths : All IsNth w.script

abbrev pub IsVolume : Plan → VolumeRow → Type 0
IsVolume s = IsRow (length s.source)

abbrev pub IsGroup : Plan → GroupPlan → Type 0
IsGroup s = IsGroupRow (length s.source)

abbrev pub IsWriter : Plan → WriterPlan → Type 0
IsWriter s = IsWriterRow (length s.source)

pub record IsLane (s : Plan) (l : LanePlan) : Type 0 where
  pub name : IsShortPart (length s.source) l.name
  pub whom : IfSome l.acts_as (λ w. w < length s.writers)
  pub ops : All (λ (x : LaneLine). IsOp s x.op) l.lines
  pub ends : ends_sessions l.lines ≡ true
  -- with the `end` that it may have beside the lines that are counted
  pub few_lines : length l.lines ≤ 100001

-- ## groups

-- the groups of these volumes, where those before them have n: each volume is in one of those, or in the next
abbrev pub groups_from : ℕ → List VolumeRow → Option ℕ
groups_from n [] = Some n
groups_from n (r ∷ rows) = if nat_lt r.group n then groups_from n rows else (if r.group == n then groups_from (n + 1) rows else None)

abbrev pub group_slots : Option GroupPlan → ℕ
group_slots None = 0
group_slots (Some g) = g.slots

pub record IsInGroup (groups : List GroupPlan) (r : VolumeRow) : Type 0 where
  pub in_range : r.group < length groups
  pub slots : r.slots ≡ group_slots (slice_get groups r.group)

-- each volume is in a group and has its slots, and groups are numbered by their first volumes
pub record AreGrouped (s : Plan) : Type 0 where
  pub rows : All (IsInGroup s.groups) s.volumes
  pub numbered : groups_from 0 s.volumes ≡ Some (length s.groups)

-- ## the whole

pub record IsPlan (s : Plan) : Type 0 where
  pub short : length s.source < 4294967295
  pub volumes : All (IsVolume s) s.volumes
  pub few_volumes : length s.volumes ≤ 128
  pub groups : All (IsGroup s) s.groups
  pub few_groups : length s.groups ≤ 128
  pub grouped : AreGrouped s
  pub writers : All (IsWriter s) s.writers
  pub few_answers : sum (map (λ (w : WriterPlan). length w.script) s.writers) ≤ 10000
  pub lanes : All (IsLane s) s.lanes
  pub few_lanes : length s.lanes ≤ 64
  pub few_writers : length s.writers ≤ 64
  -- each lane may have an `end` beside the lines that are counted
  pub few_lines : sum (map (λ (l : LanePlan). length l.lines) s.lanes) ≤ 100064
  -- the grammar's limit on `gather`, `prepare`, `snapshot` and `complete` lines together, over all lanes
  pub few_agendas : sum (map (λ (l : LanePlan). agenda_lines l.lines) s.lanes) ≤ 2000

-- What is kept of the lines that were read so far: what they say, the names by kind, and how many there are of what is
-- limited; and what holds of it after every line. (This project's own.)
use Rattle.std.specs.Prelude.{ℕ, ◌≡◌, ◌<◌, ◌≤◌, ◌+◌, ◌++◌, Bool, true, false, List, [], ◌∷◌, length, All, find, Some, None, IfSome, slice_get, if◌then◌else◌, Result, Ok, Err}
use Rattle.writer_meta.specs.Metadata.{meta_of}
use Rattle.writer_meta.specs.Document.{IsAllowed}
use Rattle.writer_calls.specs.declared.scripted.Scripted.{Scripted}
use Rattle.writer_calls.specs.Script.{is_row_for}
use Rattle.scenario.specs.declared.op.Op.{Op}
use Rattle.scenario.specs.declared.reason.Reason.{Reason}
use Rattle.scenario.specs.declared.cause.Cause.{Cause}
use Rattle.scenario.specs.declared.unread.Unread.{Unread}
use Rattle.scenario.specs.declared.unread.Unread.TheVariants.{Bad, OutOfMemory}
use Rattle.scenario.specs.declared.span.Span.{Span}
use Rattle.scenario.specs.declared.area_row.AreaRow.{AreaRow}
use Rattle.scenario.specs.declared.volume_row.VolumeRow.{VolumeRow}
use Rattle.scenario.specs.declared.counts.Counts.{Counts}
use Rattle.scenario.specs.declared.name_kind.NameKind.{NameKind}
use Rattle.scenario.specs.declared.name_kind.NameKind.TheVariants as kind
use Rattle.scenario.specs.declared.entry.Entry.{Entry}
use Rattle.scenario.specs.declared.entry.Entry.TheVariants as entry
use Rattle.scenario.specs.Plan.{GroupPlan, LaneLine, LanePlan, script_in}
use Rattle.scenario.specs.Bounds.{IsShortPart, IsRow, IsGroupRow, IsNth, IsWriterRow, IsRanged, begins_agenda, IsInGroup, groups_from}
use Rattle.scenario.specs.SoFar.{SoFar, Saying, nothing, after, takes_itself, group_for, area_group, line_count, agenda_count, answer_count}
use Rattle.scenario.specs.SoFar as saying
use Rattle.scenario.specs.Fields.{bytes_of}
use Rattle.scenario.specs.Names.{place_of, area_names, volume_names, writer_names, lane_names}

-- the names that are taken, by kind and in order of declaration
pub record Names : Type 0 where
  pub areas : List (List ℕ)
  pub volumes : List (List ℕ)
  pub writers : List (List ℕ)
  pub lanes : List (List ℕ)

abbrev pub names_of : Names → NameKind → List (List ℕ)
names_of names kind.Area = names.areas
names_of names kind.Volume = names.volumes
names_of names kind.Writer = names.writers
names_of names kind.Lane = names.lanes

pub record DraftValue : Type 0 where
  pub said : SoFar
  pub names : Names
  pub counts : Counts

-- where the `scenario` line was read, or not
abbrev pub new_draft : Bool → DraftValue
new_draft opened = record {
  said = record nothing { opened = opened };
  names = record { areas = []; volumes = []; writers = []; lanes = [] };
  counts = record { lines = 0; agenda_lines = 0; answers = 0 };
}

abbrev pub empty_draft : DraftValue
empty_draft = new_draft false

-- ## one line more

-- in the words of the language
abbrev pub saying_in : Entry → Saying
saying_in entry.Skipped = saying.Skipped
saying_in entry.Opening = saying.Opening
saying_in (entry.Area area) = saying.Area area
saying_in (entry.OwnVolume row) = saying.OwnVolume row
saying_in (entry.SharedVolume row a area) = saying.SharedVolume row a area
saying_in (entry.Writer name metadata) = saying.Writer (record { name = name; meta = meta_of metadata; script = [] })
saying_in (entry.Answer w row) = saying.Answer w row
saying_in (entry.Lane name whom) = saying.Lane name whom
saying_in (entry.Line line) = saying.Line line

abbrev pub names_after : List ℕ → Names → Saying → Names
names_after text names saying.Skipped = names
names_after text names saying.Opening = names
names_after text names (saying.Area area) = record names { areas = names.areas ++ bytes_of text area.name ∷ [] }
names_after text names (saying.OwnVolume row) = record names { volumes = names.volumes ++ bytes_of text row.name ∷ [] }
names_after text names (saying.SharedVolume row a area) = record names { volumes = names.volumes ++ bytes_of text row.name ∷ [] }
names_after text names (saying.Writer writer) = record names { writers = names.writers ++ bytes_of text writer.name ∷ [] }
names_after text names (saying.Answer w row) = names
names_after text names (saying.Lane name whom) = record names { lanes = names.lanes ++ bytes_of text name ∷ [] }
names_after text names (saying.Line line) = names

-- one more where it is one that begins an agenda
abbrev pub agendas_with : ℕ → Op → ℕ
agendas_with n op = if begins_agenda op then n + 1 else n

abbrev pub counts_after : Counts → Saying → Counts
counts_after c (saying.Answer w row) = record c { answers = c.answers + 1 }
counts_after c (saying.Lane name whom) = c
counts_after c (saying.Line line) = record c { lines = c.lines + 1; agenda_lines = agendas_with c.agenda_lines line.op }
counts_after c saying.Skipped = c
counts_after c saying.Opening = c
counts_after c (saying.Area area) = c
counts_after c (saying.OwnVolume row) = c
counts_after c (saying.SharedVolume row a area) = c
counts_after c (saying.Writer writer) = c

abbrev pub with_entry : List ℕ → DraftValue → Entry → DraftValue
with_entry text d e = record {
  said = after d.said (saying_in e);
  names = names_after text d.names (saying_in e);
  counts = counts_after d.counts (saying_in e);
}

-- ## what holds of the parts, in a text of n bytes

-- a declared area is among the groups once it has one
pub record IsAreaRow (n : ℕ) (groups : List GroupPlan) (area : AreaRow) : Type 0 where
  pub declared : IsGroupRow n (area_group area)
  pub group : IfSome area.group (λ g. slice_get groups g ≡ Some (area_group area))

pub record IsLaneRow (n : ℕ) (rows : List VolumeRow) (writers : ℕ) (lane : LanePlan) : Type 0 where
  pub name : IsShortPart n lane.name
  pub whom : IfSome lane.acts_as (λ w. w < writers)
  pub ops : All (λ (l : LaneLine). IsRanged n rows writers l.op) lane.lines

-- ## what holds after every line

-- the limits of the language
pub record IsWithin (n : ℕ) (d : SoFar) : Type 0 where
  pub areas : All (IsAreaRow n d.groups) d.areas
  pub few_areas : length d.areas ≤ 128
  pub volumes : All (IsRow n) d.volumes
  pub few_volumes : length d.volumes ≤ 128
  pub groups : All (IsGroupRow n) d.groups
  pub few_groups : length d.groups ≤ length d.volumes
  pub in_groups : All (IsInGroup d.groups) d.volumes
  pub numbered : groups_from 0 d.volumes ≡ Some (length d.groups)
  pub small : d.size ≤ 131072
  pub writers : All (IsWriterRow n) d.writers
  pub few_writers : length d.writers ≤ 64
  pub few_answers : answer_count d.writers ≤ 10000
  pub lanes : All (IsLaneRow n d.volumes (length d.writers)) d.lanes
  pub few_lanes : length d.lanes ≤ 64
  pub few_lines : line_count d.lanes ≤ 100000
  pub few_agendas : agenda_count d.lanes ≤ 2000

pub record AreNames (text : List ℕ) (d : SoFar) (names : Names) : Type 0 where
  pub areas : names.areas ≡ area_names text d.areas
  pub volumes : names.volumes ≡ volume_names text d.volumes
  pub writers : names.writers ≡ writer_names text d.writers
  pub lanes : names.lanes ≡ lane_names text d.lanes

pub record AreCounts (d : SoFar) (c : Counts) : Type 0 where
  pub lines : c.lines ≡ line_count d.lanes
  pub agenda_lines : c.agenda_lines ≡ agenda_count d.lanes
  pub answers : c.answers ≡ answer_count d.writers

pub record IsDraft (text : List ℕ) (d : DraftValue) : Type 0 where
  pub within : IsWithin (length text) d.said
  pub names : AreNames text d.said d.names
  pub counts : AreCounts d.said d.counts

-- ## what a line says keeps to it

-- a volume that is new, of so many blocks and slots in all
pub record IsNewVolume (text : List ℕ) (d : DraftValue) (row : VolumeRow) (size : ℕ) : Type 0 where
  pub limits : IsRow (length text) row
  pub few : length d.said.volumes < 128
  pub small : d.said.size + size ≤ 131072
  pub new : place_of (bytes_of text row.name) d.names.volumes ≡ None
  pub before_lanes : d.said.lanes ≡ []

pub record IsNewArea (text : List ℕ) (d : DraftValue) (area : GroupPlan) : Type 0 where
  pub limits : IsGroupRow (length text) area
  pub few : length d.said.areas < 128
  pub small : d.said.size + area.slots ≤ 131072
  pub new : place_of (bytes_of text area.name) d.names.areas ≡ None

-- a volume in a declared area
pub record IsShared (d : SoFar) (row : VolumeRow) (a : ℕ) (area : AreaRow) : Type 0 where
  pub found : slice_get d.areas a ≡ Some area
  pub group : row.group ≡ group_for d.groups area
  pub slots : row.slots ≡ area.slots

pub record IsNewName (text : List ℕ) (names : List (List ℕ)) (name : Span) : Type 0 where
  pub short : IsShortPart (length text) name
  pub new : place_of (bytes_of text name) names ≡ None

-- a row that no row before it of this script speaks of
pub record IsNewAnswer (d : SoFar) (w : ℕ) (row : Scripted) : Type 0 where
  pub known : w < length d.writers
  pub nth : IsNth row
  pub few : answer_count d.writers < 10000
  pub new : find (is_row_for row.order row.nth) (script_in (slice_get d.writers w)) ≡ None
  pub before_lanes : d.lanes ≡ []

pub record IsNewLine (n : ℕ) (d : SoFar) (line : LaneLine) : Type 0 where
  pub ranged : IsRanged n d.volumes (length d.writers) line.op
  pub few : line_count d.lanes < 100000
  pub few_agendas : begins_agenda line.op ≡ true → agenda_count d.lanes < 2000
  pub in_lane : 0 < length d.lanes

abbrev pub IsEntry : List ℕ → DraftValue → Entry → Type 0
IsEntry text d entry.Skipped = Unit {0}
IsEntry text d entry.Opening = Unit {0}
IsEntry text d (entry.Area area) = IsNewArea text d area
IsEntry text d (entry.OwnVolume row) = IsNewVolume text d row (row.blocks + row.slots) × (row.group ≡ length d.said.groups)
IsEntry text d (entry.SharedVolume row a area) = IsNewVolume text d row row.blocks × IsShared d.said row a area
IsEntry text d (entry.Writer name metadata) = IsNewName text d.names.writers name × IsAllowed (meta_of metadata) × (length d.said.writers < 64) × (d.said.lanes ≡ [])
IsEntry text d (entry.Answer w row) = IsNewAnswer d.said w row
IsEntry text d (entry.Lane name whom) = IsNewName text d.names.lanes name × IfSome whom (λ w. w < length d.said.writers) × (length d.said.lanes < 64)
IsEntry text d (entry.Line line) = IsNewLine (length text) d.said line

-- ## what was read of a line

-- of why a line is refused the definitions speak of the reason alone
abbrev pub by_reason : {A : Type 0} → Result A Cause → Result A Reason
by_reason (Ok it) = Ok it
by_reason (Err cause) = Err cause.reason

abbrev pub told : Result Entry Cause → Result Saying Reason
told (Ok entry) = Ok (saying_in entry)
told (Err cause) = Err cause.reason

-- why a line was not taken
abbrev pub IsUnread : Result Saying Reason → Unread → Type 0
IsUnread said (Bad cause) = said ≡ Err cause.reason
IsUnread said OutOfMemory = takes_itself said ≡ true

-- The service by its changes: an act makes a short list of them, each to one part of the state, and the state after it is
-- their fold. An act that is refused, or that only looks, has none. (The calls are those of the SDK's
-- IVssBackupComponents, and the steps those of its creation of a snapshot set; a kind says where it is this project's own.)
use Rattle.std.specs.Prelude.{ℕ, ◌+◌, Bool, true, false, List, [], ◌∷◌, ◌++◌, length, fold, map, if◌then◌else◌, Option, Some, None, option_map}
use Rattle.vss_names.specs.declared.context.Context.{Context}
use Rattle.vss_names.specs.declared.context.Context.TheVariants.{Backup, AppRollback, NasRollback}
use Rattle.vss_names.specs.declared.set_outcome.SetOutcome.{SetOutcome}
use Rattle.vss_names.specs.declared.set_outcome.SetOutcome.TheVariants.{Failed}
use Rattle.vss_names.specs.declared.vss_result.VssResult.{VssResult}
use Rattle.vss_names.specs.declared.vss_result.VssResult.TheVariants.{AsyncCancelled, InsufficientStorage}
use Rattle.block_data.specs.BlockBytes.{payload_bytes}
use Rattle.write_history.specs.declared.mark.Mark.{Mark}
use Rattle.write_history.specs.declared.mark.Mark.TheVariants.{Clean, Fault, FaultAfter}
use Rattle.write_history.specs.History.{Write, written, cut as history_cut, dropped, reverted, reverted_in_part}
use Rattle.write_history.specs.Slots.{Placed, gone_up_to}
use Rattle.writer_state.specs.declared.said.Said.{Said}
use Rattle.writer_calls.specs.Script.{said_of}
use Rattle.set_agenda.specs.declared.group.Group.{Group}
use Rattle.set_agenda.specs.declared.group.Group.TheVariants.{Cut, Commit}
use Rattle.set_agenda.specs.Agenda.{open_group, next_volume}
use Rattle.set_agenda.specs.Course.{Course, idle_ticks, change_at, answered as course_answered, stepped as course_stepped, timed, failed as course_failed, gathered, prepared, snapshot_begun, completing, released}
use Rattle.requestor.specs.Session.{Session, context_of, opened, started, agenda_ended, set_failed}
use Rattle.component_doc.specs.Selection.{Pair, Naming, IsNotFound, IsNotSelectable, IsNamedAlready, Names as NamesNow, naming, takers}
use Rattle.scenario.specs.declared.line.Line.{Line as Does}
use Rattle.scenario.specs.declared.line.Line.TheVariants as does
use Rattle.scenario.specs.declared.op.Op.{Op}
use Rattle.scenario.specs.declared.op.Op.TheVariants as op
use Rattle.scenario.specs.Calls.{line_of}
use Rattle.scenario.specs.Plan.{Plan, blocks_of, group_of, token}
use Rattle.vss_model.specs.declared.event.Event.{Event}
use Rattle.vss_model.specs.declared.event.Event.TheVariants.{Line, Answer as AnswerEvent, Provider, Idle}
use Rattle.vss_model.specs.State.{State, SetRow, Kept, in_progress, row_changed, left_now, kept_image}
use Rattle.vss_model.specs.Steps.{Ending, NothingEnds, AgendaEnds, SetFails, ending, row_settled, runs, row_cut, is_flush, is_failed_step}
use Rattle.vss_model.specs.Images.{going_up_to, cleared, set_loses_image}
use Rattle.vss_model.specs.Sessions.{is_disabled, known_metas, selected, new_number, new_set, with_volume, volumes_of}

pub data Change : Type 0 where
  -- so many ticks go by (this project's own)
  Passes : ℕ → Change
  -- the session opens, goes on to another stage, or is over (InitializeForBackup, DoSnapshotSet and others)
  SessionIs : Option Session → Change
  -- the components that it has named (AddComponent)
  Names : List Pair → Change
  -- a set is started (StartSnapshotSet)
  StartsSet : SetRow → Change
  -- the set of this number gets a volume (AddToSnapshotSet)
  AddsVolume : ℕ → ℕ → Change
  -- the set of this number has its cut at this clock
  IsCutAt : ℕ → ℕ → Change
  -- the set in progress gets an outcome
  Settles : SetOutcome → Change
  -- the agenda, the writers and their rows go on (GatherWriterMetadata, PrepareForBackup, DoSnapshotSet, BackupComplete)
  CourseIs : Course → Change
  -- a volume gets an effective write (this project's own)
  Writes : ℕ → Write → Change
  -- a volume gets its image of a set
  Makes : ℕ → ℕ → Change
  -- a volume reads again as its image of this set, with this point, and newer images go (RevertToSnapshot)
  Reverts : ℕ → ℕ → ℕ → Change
  -- a device failed in that: of so many blocks only the first few that differ were restored (this project's own)
  RevertsPart : ℕ → ℕ → ℕ → ℕ → ℕ → Change
  -- all images of a set go (DeleteSnapshots, AbortBackup)
  DropsSet : ℕ → Change
  -- the image of a set on a volume goes (DeleteSnapshots)
  Drops : ℕ → ℕ → Change
  -- the images of all sets up to a number go from the volumes of a group, as their diff area has no slot left
  Evicts : ℕ → List Placed → Change

abbrev pub apply : State → Change → State
apply st (Passes n) = record st { clock = st.clock + n }
apply st (SessionIs q) = record st { session = q }
apply st (Names pairs) = record st { explicit = pairs }
apply st (StartsSet r) = record st { sets = st.sets ++ r ∷ [] }
apply st (AddsVolume n v) = record st { sets = map (row_changed n (with_volume v)) st.sets }
apply st (IsCutAt n now) = record st { sets = map (row_cut n now) st.sets }
apply st (Settles o) = record st { sets = map (row_settled o) st.sets }
apply st (CourseIs c) = record st { course = c }
apply st (Writes v w) = record st { volumes = change_at v (written w) st.volumes }
apply st (Makes n v) = record st { volumes = change_at v (history_cut n) st.volumes }
apply st (Reverts v n p) = record st { volumes = change_at v (reverted n p) st.volumes }
apply st (RevertsPart v blocks n p k) = record st { volumes = change_at v (reverted_in_part blocks n p k) st.volumes }
apply st (DropsSet n) = record st { volumes = map (dropped n) st.volumes }
apply st (Drops n v) = record st { volumes = change_at v (dropped n) st.volumes }
apply st (Evicts n group) = record st { volumes = gone_up_to n group st.volumes }

abbrev pub after_changes : State → List Change → State
after_changes st changes = fold apply st changes

-- ## the course goes on, and what ends with it

abbrev pub drops : Option SetRow → List Change
drops None = []
drops (Some r) = DropsSet r.number ∷ []

abbrev pub ends : Ending → SetOutcome → State → List Change
ends NothingEnds o st = []
ends AgendaEnds o st = SessionIs (option_map agenda_ended st.session) ∷ Settles o ∷ []
ends (SetFails why) o st = SessionIs (option_map (set_failed why) st.session) ∷ Settles o ∷ drops (in_progress st)

abbrev pub goes_on : Bool → Course → State → List Change
goes_on ran c st = CourseIs c ∷ ends (ending st.course.outcome c.outcome ran c.agenda) c.outcome st

-- the set in progress, if there is one, fails
abbrev pub fails : Option SetRow → VssResult → State → List Change
fails None why st = []
fails (Some r) why st = CourseIs (course_failed why st.course) ∷ ends (SetFails why) (Failed why) st

-- ## writes and images

-- a write that takes an image of the set in progress fails that set
abbrev pub makes_room : Plan → ℕ → ℕ → State → List Change
makes_room s v b st =
    Evicts (going_up_to s v b st) (group_of s v)
    ∷ (if set_loses_image (in_progress st) st.volumes (cleared s v b st) then fails (in_progress st) InsufficientStorage st else [])

abbrev pub puts : ℕ → Write → Mark → List Change
puts v w Clean = Writes v w ∷ []
puts v w Fault = []
puts v w (FaultAfter k) = []

abbrev pub reverts : Plan → ℕ → Option Kept → Mark → List Change
reverts s v None mark = []
reverts s v (Some k) Clean = Reverts v k.row.number k.point ∷ []
reverts s v (Some k) Fault = []
reverts s v (Some k) (FaultAfter n) = RevertsPart v (blocks_of s v) k.row.number k.point n ∷ []

abbrev pub deletes : ℕ → Option Kept → List Change
deletes v None = []
deletes v (Some k) = Drops k.row.number v ∷ []

-- ## session calls

abbrev pub names : Naming → List Change
names IsNotFound = []
names IsNotSelectable = []
names IsNamedAlready = []
names (NamesNow explicit) = Names explicit ∷ []

abbrev pub adds : ℕ → Option SetRow → List Change
adds v None = []
adds v (Some r) = AddsVolume r.number v ∷ []

-- a session of context 0 takes its set's images with it
abbrev pub releases : Context → Option ℕ → List Change
releases Backup None = []
releases Backup (Some n) = DropsSet n ∷ []
releases AppRollback set = []
releases NasRollback set = []

abbrev pub closes : Session → State → List Change
closes q st = Names [] ∷ CourseIs (released st.course) ∷ SessionIs None ∷ releases q.context q.set

abbrev pub calls : Plan → Op → Session → State → List Change
calls s (op.Disable w) q st = CourseIs (let c = st.course in record c { disabled = c.disabled ++ w ∷ [] }) ∷ []
calls s op.Gather q st = goes_on true (gathered (is_disabled s st) st.clock st.course) st
calls s (op.Component w full) q st = names (naming (known_metas s st) w (token s full) st.explicit)
calls s op.Start q st = SessionIs (Some (started (new_number st) q)) ∷ StartsSet (new_set (new_number st) q.context) ∷ []
calls s (op.Add v) q st = adds v (in_progress st)
calls s op.Prepare q st = goes_on true (prepared (takers (length s.writers) (selected s q st)) st.clock st.course) st
calls s op.Snapshot q st = goes_on true (snapshot_begun (volumes_of (in_progress st)) st.clock st.course) st
calls s op.Complete q st = goes_on true (completing st.clock st.course) st
calls s op.Abort q st = fails (in_progress st) AsyncCancelled st
calls s op.End q st =
    let aborted = fails (in_progress st) AsyncCancelled st in aborted ++ closes q (after_changes st aborted)
calls s _ q st = []

abbrev pub opens : ℕ → Bool → Context → List Change
opens lane all c = SessionIs (Some (opened lane c all)) ∷ Names [] ∷ []

abbrev pub opens_as : ℕ → Bool → Option Context → List Change
opens_as lane all None = []
opens_as lane all (Some c) = opens lane all c

abbrev pub begins : ℕ → Op → List Change
begins lane (op.Begin n all) = opens_as lane all (context_of n all)
begins lane _ = []

abbrev pub session_calls : Plan → ℕ → Op → Option Session → State → List Change
session_calls s lane o None st = begins lane o
session_calls s lane o (Some q) st = calls s o q st

-- ## every act

-- a limit that is spent then is treated in the same move
abbrev pub passes : ℕ → State → List Change
passes n st = Passes n ∷ goes_on (runs st) (timed (st.clock + n) st.course) st

abbrev pub does_change : Plan → ℕ → Op → Does → Mark → State → List Change
does_change s lane o (does.Writes v b payload) mark st = makes_room s v b st ++ puts v (record { block = b; bytes = payload_bytes payload }) mark
does_change s lane o (does.Reverts n v) mark st = reverts s v (kept_image st n v) mark
does_change s lane o (does.DeletesSet n) mark st = DropsSet n ∷ []
does_change s lane o (does.DeletesImage n v) mark st = deletes v (kept_image st n v)
does_change s lane o (does.Ticks n) mark st = passes n st
does_change s lane o (does.Calls c) mark st = session_calls s lane o st.session st
does_change s lane o _ mark st = []

-- the one Cut step of a set
abbrev pub cuts : Option SetRow → ℕ → List Change
cuts None now = []
cuts (Some r) now = IsCutAt r.number now ∷ []

-- a volume gets its image in its Commit step
abbrev pub makes : Option SetRow → Option ℕ → List Change
makes (Some r) (Some v) = Makes r.number v ∷ []
makes _ _ = []

abbrev pub made_at : Option Group → Option ℕ → State → List Change
made_at (Some Cut) v st = cuts (in_progress st) st.clock
made_at (Some Commit) v st = makes (in_progress st) v
made_at _ v st = []

abbrev pub steps : Bool → Option Group → Option ℕ → State → List Change
steps true g v st = goes_on (runs st) (course_stepped false st.clock st.course) st
steps false g v st = made_at g v st ++ goes_on (runs st) (course_stepped true st.clock st.course) st

-- the provider's next step
abbrev pub next_step : Mark → State → List Change
next_step mark st = let g = open_group (left_now st) in steps (is_failed_step (is_flush g) mark) g (next_volume (left_now st)) st

abbrev pub answers : ℕ → Said → State → List Change
answers w said st = goes_on (runs st) (course_answered w said st.clock st.course) st

abbrev pub event_changes : Plan → State → Event → Mark → List Change
event_changes s st (Line lane o) mark = does_change s lane o (line_of o) mark st
event_changes s st (AnswerEvent w answer) mark = answers w (said_of answer) st
event_changes s st Provider mark = next_step mark st
event_changes s st Idle mark = passes (idle_ticks st.clock st.course) st

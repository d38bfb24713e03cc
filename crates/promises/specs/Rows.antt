-- What becomes of a writer's row in an act. It says what the writer says to its open order, or that its answer was lost; each participant
-- that has not failed is told once that its set fails, and then waits for nothing; `gather` asks anew what a writer has; and with the
-- session's `end` it waits for nothing. Nothing else changes a row. (The states are those of the SDK's VSS_WRITER_STATE, and that writers are
-- told of a failure is its OnAbort; whom, and the states after an ok, are this project's own.)
use Rattle.std.specs.Prelude.{ℕ, ◌≡◌, ◌==◌, ◌&&◌, if◌then◌else◌, Bool, true, false, List, Option, Some, None, slice_get}
use Rattle.vss_names.specs.declared.order.Order.{Order}
use Rattle.vss_names.specs.declared.order.Order.TheVariants.{Identify, PrepareBackup, PrepareSnapshot, Freeze, Thaw, PostSnapshot, BackupComplete}
use Rattle.vss_names.specs.declared.writer_error.WriterError.TheVariants.{Timeout}
use Rattle.vss_names.specs.declared.writer_state.WriterState.{WriterState}
use Rattle.vss_names.specs.declared.writer_state.WriterState.TheVariants.{Unknown, Stable, WaitingForFreeze, WaitingForThaw, WaitingForPostSnapshot, WaitingForBackupComplete, FailedAtIdentify, FailedAtPrepareBackup, FailedAtPrepareSnapshot, FailedAtFreeze, FailedAtThaw, FailedAtPostSnapshot, FailedAtBackupComplete}
use Rattle.writer_state.specs.declared.said.Said.{Said}
use Rattle.writer_state.specs.declared.said.Said.TheVariants.{Ok, Veto, Lost}
use Rattle.writer_state.specs.declared.writer_row.WriterRow.{WriterRow}
use Rattle.writer_state.specs.WriterState.{is_failed, one_more}
use Rattle.writer_calls.specs.Script.{said_of}
use Rattle.set_agenda.specs.Agenda.{is_among}
use Rattle.set_agenda.specs.Course.{is_member}
use Rattle.scenario.specs.declared.op.Op.TheVariants.{Gather, End}
use Rattle.scenario.specs.Plan.{Plan}
use Rattle.vss_model.specs.declared.event.Event.{Event}
use Rattle.vss_model.specs.declared.event.Event.TheVariants.{Line, Answer as AnswerEvent}
use Rattle.vss_model.specs.Reply.{Reply, is_fine, is_pending}
use Rattle.vss_model.specs.State.{State, SetRow, in_progress, row_of}
use Rattle.vss_model.specs.Acts.{Act, enabled, order_of_writer, reply, after, state}
use Rattle.vss_model.specs.Effects.{lost}
use Rattle.vss_model.specs.Facts.{has_failed}

-- ## whether the set in progress fails

abbrev pub row_fails : Option SetRow → Bool
row_fails None = false
row_fails (Some q) = has_failed q.result

-- the set that was in progress has failed
abbrev pub set_fails : Option SetRow → State → Bool
set_fails None next = false
set_fails (Some r) next = row_fails (row_of next r.number)

-- ## what is said

abbrev pub state_at_ok : Order → WriterState
state_at_ok Identify = Stable
state_at_ok PrepareBackup = Stable
state_at_ok PrepareSnapshot = WaitingForFreeze
state_at_ok Freeze = WaitingForThaw
state_at_ok Thaw = WaitingForPostSnapshot
state_at_ok PostSnapshot = WaitingForBackupComplete
state_at_ok BackupComplete = Stable

abbrev pub state_at_failure : Order → WriterState
state_at_failure Identify = FailedAtIdentify
state_at_failure PrepareBackup = FailedAtPrepareBackup
state_at_failure PrepareSnapshot = FailedAtPrepareSnapshot
state_at_failure Freeze = FailedAtFreeze
state_at_failure Thaw = FailedAtThaw
state_at_failure PostSnapshot = FailedAtPostSnapshot
state_at_failure BackupComplete = FailedAtBackupComplete

abbrev pub row_said : Option Order → Said → WriterRow → WriterRow
row_said None said r = r
row_said (Some order) Ok r = record r { state = state_at_ok order; code = None }
row_said (Some order) (Veto why) r = record r { state = state_at_failure order; code = Some why }
row_said (Some order) Lost r = record r { state = state_at_failure order; code = Some Timeout }

-- ## what else becomes of it

-- nothing is waited for any more
abbrev pub at_rest : WriterState → WriterState
at_rest WaitingForFreeze = Stable
at_rest WaitingForThaw = Stable
at_rest WaitingForPostSnapshot = Stable
at_rest WaitingForBackupComplete = Stable
at_rest state = state

-- the set fails; the count of failures that a writer is told of stands still at 2^32 - 1
abbrev pub row_told : WriterRow → WriterRow
row_told r = if is_failed r.state then r else record r { state = at_rest r.state; aborts = one_more r.aborts }

abbrev pub row_asked : WriterRow → WriterRow
row_asked r = record r { state = Unknown; code = None }

abbrev pub row_over : WriterRow → WriterRow
row_over r = record r { state = at_rest r.state }

-- ## by the act

-- writer w answers, or its answer is lost
abbrev pub speaks : State → Event → ℕ → Bool
speaks st (AnswerEvent u answer) w = u == w
speaks st event w = is_among w (lost st event)

abbrev pub said_by : Event → Said
said_by (AnswerEvent u answer) = said_of answer
said_by event = Lost

abbrev pub asks_anew : Event → Reply → Bool
asks_anew (Line lane Gather) told = is_pending told
asks_anew event told = false

abbrev pub ends_session : Event → Reply → Bool
ends_session (Line lane End) told = is_fine told
ends_session event told = false

abbrev pub row_by : Bool → (WriterRow → WriterRow) → WriterRow → WriterRow
row_by true f r = f r
row_by false f r = r

-- the row of writer w after the act
abbrev pub row_next : State → Event → Reply → State → ℕ → WriterRow → WriterRow
row_next st event told next w r =
    row_by (ends_session event told) row_over
    (row_by (set_fails (in_progress st) next && is_member st.course.members w) row_told
    (row_by (speaks st event w) (row_said (order_of_writer st w) (said_by event)) (row_by (asks_anew event told) row_asked r)))

-- of an act that may come, and of each writer of the scenario
abbrev pub RowsChange : Plan → List Act → Act → Type 0
RowsChange s so_far act = (w : ℕ) (r : WriterRow) → enabled s (state s so_far) act.event ≡ true → slice_get (state s so_far).course.rows w ≡ Some r
    → slice_get (after s (state s so_far) act).course.rows w ≡ Some (row_next (state s so_far) act.event (reply s (state s so_far) act) (after s (state s so_far) act) w r)

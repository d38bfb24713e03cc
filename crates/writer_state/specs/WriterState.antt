-- The states of a writer. The names are those of the SDK's enumeration VSS_WRITER_STATE; that Identify, PrepareBackup
-- and BackupComplete leave a writer STABLE, and what a failed set does to it, is this project's own.
use Rattle.std.specs.Prelude.{Bool, true, false, Option, Some, None, if◌then◌else◌, ℕ, ◌+◌, ◌-◌, ◌^◌, min}
use Rattle.vss_names.specs.declared.level.Level.{Level}
use Rattle.vss_names.specs.declared.order.Order.{Order}
use Rattle.vss_names.specs.declared.order.Order.TheVariants.{Identify, PrepareBackup, PrepareSnapshot, Freeze, Thaw, PostSnapshot, BackupComplete}
use Rattle.vss_names.specs.declared.writer_error.WriterError.{WriterError}
use Rattle.vss_names.specs.declared.writer_error.WriterError.TheVariants.{Timeout}
use Rattle.vss_names.specs.declared.writer_state.WriterState.{WriterState}
use Rattle.vss_names.specs.declared.writer_state.WriterState.TheVariants.{Unknown, Stable, WaitingForFreeze, WaitingForThaw, WaitingForPostSnapshot}
use Rattle.vss_names.specs.declared.writer_state.WriterState.TheVariants.{WaitingForBackupComplete, FailedAtIdentify, FailedAtPrepareBackup}
use Rattle.vss_names.specs.declared.writer_state.WriterState.TheVariants.{FailedAtPrepareSnapshot, FailedAtFreeze, FailedAtThaw, FailedAtPostSnapshot}
use Rattle.vss_names.specs.declared.writer_state.WriterState.TheVariants.{FailedAtBackupComplete}
use Rattle.writer_state.specs.declared.said.Said.{Said}
use Rattle.writer_state.specs.declared.said.Said.TheVariants.{Ok, Veto, Lost}
use Rattle.writer_state.specs.declared.writer_row.WriterRow.{WriterRow}

-- the state after an ok to this order
abbrev pub after_ok : Order → WriterState
after_ok Identify = Stable
after_ok PrepareBackup = Stable
after_ok PrepareSnapshot = WaitingForFreeze
after_ok Freeze = WaitingForThaw
after_ok Thaw = WaitingForPostSnapshot
after_ok PostSnapshot = WaitingForBackupComplete
after_ok BackupComplete = Stable

-- the state after a veto to this order, or a lost answer
abbrev pub failed_at : Order → WriterState
failed_at Identify = FailedAtIdentify
failed_at PrepareBackup = FailedAtPrepareBackup
failed_at PrepareSnapshot = FailedAtPrepareSnapshot
failed_at Freeze = FailedAtFreeze
failed_at Thaw = FailedAtThaw
failed_at PostSnapshot = FailedAtPostSnapshot
failed_at BackupComplete = FailedAtBackupComplete

-- the state after this was said to this order
abbrev pub state_after : Order → Said → WriterState
state_after order Ok = after_ok order
state_after order (Veto code) = failed_at order
state_after order Lost = failed_at order

-- the code that is kept: the veto's own, and for a lost answer VSS_E_WRITERERROR_TIMEOUT
abbrev pub code_after : Said → Option WriterError
code_after Ok = None
code_after (Veto code) = Some code
code_after Lost = Some Timeout

abbrev pub is_ok : Said → Bool
is_ok Ok = true
is_ok (Veto code) = false
is_ok Lost = false

-- all states but the first six are failures
abbrev pub is_failed : WriterState → Bool
is_failed Unknown = false
is_failed Stable = false
is_failed WaitingForFreeze = false
is_failed WaitingForThaw = false
is_failed WaitingForPostSnapshot = false
is_failed WaitingForBackupComplete = false
is_failed _ = true

-- the state of a writer from which nothing more is awaited: UNKNOWN and a failure stand, and else it is STABLE
abbrev pub stable_again : WriterState → WriterState
stable_again Unknown = Unknown
stable_again state = if is_failed state then state else Stable

-- ## What is kept of a writer: its state, the code of its failure, its level, its freeze time-out, and the number of
-- failed sets that it was told of; and what the events of a session make of it. (This project's own.)

-- a writer that was given no order yet
abbrev pub first_row : Level → ℕ → WriterRow
first_row level limit = record { state = Unknown; code = None; level = level; limit = limit; aborts = 0 }

-- after the writer said this to this order
abbrev pub row_after : Order → Said → WriterRow → WriterRow
row_after order said row = record row { state = state_after order said; code = code_after said }

-- one abort more; the count stands still at 2^32 - 1
abbrev pub one_more : ℕ → ℕ
one_more aborts = min (aborts + 1) (2 ^ 32 - 1)

-- after a set failed in which the writer takes part: it is told so, unless it has failed itself
abbrev pub row_aborted : WriterRow → WriterRow
row_aborted row = if is_failed row.state then row else record row { state = stable_again row.state; aborts = one_more row.aborts }

-- as the writers are asked anew what they have
abbrev pub row_gathered : WriterRow → WriterRow
row_gathered row = record row { state = Unknown; code = None }

-- after the session ended
abbrev pub row_ended : WriterRow → WriterRow
row_ended row = record row { state = stable_again row.state }

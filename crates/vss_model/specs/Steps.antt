-- What a change of the course ends: an agenda, or the set that fails; and what the provider's steps are. (After the SDK's sequence of a snapshot.)
use Rattle.std.specs.Prelude.{Bool, true, Option, None, is_some, if◌then◌else◌, ℕ, false, Some}
use Rattle.vss_names.specs.declared.set_outcome.SetOutcome.{SetOutcome}
use Rattle.vss_names.specs.declared.set_outcome.SetOutcome.TheVariants.{Running, Failed}
use Rattle.vss_names.specs.declared.vss_result.VssResult.{VssResult}
use Rattle.write_history.specs.declared.mark.Mark.{Mark}
use Rattle.write_history.specs.declared.mark.Mark.TheVariants.{Clean, Fault, FaultAfter}
use Rattle.set_agenda.specs.Agenda.{Agenda}
use Rattle.set_agenda.specs.declared.group.Group.{Group}
use Rattle.set_agenda.specs.declared.group.Group.TheVariants.{Orders, PreCommit, Flush, Hold, Cut, Commit, Release, PostCommit}
use Rattle.vss_model.specs.State.{State, SetRow, is_running, row_changed}

-- ## What a change of the course ends: an agenda, or the set that fails. (What fails a set is this project's own.)

pub data Ending : Type 0 where
  NothingEnds : Ending
  AgendaEnds : Ending
  SetFails : VssResult → Ending

-- what a change of the course ends: the set, where it had not failed before; or the agenda that ran or began in it
abbrev pub ending : SetOutcome → SetOutcome → Bool → Option Agenda → Ending
ending Running (Failed why) ran a = SetFails why
ending o n true None = AgendaEnds
ending o n ran a = NothingEnds

-- the row of the set in progress gets the outcome of the course
abbrev pub row_settled : SetOutcome → SetRow → SetRow
row_settled o r = if is_running r.result then record r { result = o } else r

abbrev pub runs : State → Bool
runs st = is_some st.course.agenda

-- ## What the provider's steps are: what the Cut step does to a set's row, and which step a device may fail. (This project's
-- own, after the SDK's sequence of a snapshot's creation.)

abbrev pub with_cut : ℕ → SetRow → SetRow
with_cut now r = record r { cut_at = Some now }

abbrev pub row_cut : ℕ → ℕ → SetRow → SetRow
row_cut n now r = row_changed n (with_cut now) r

abbrev pub is_flush : Option Group → Bool
is_flush None = false
is_flush (Some (Orders o)) = false
is_flush (Some PreCommit) = false
is_flush (Some Flush) = true
is_flush (Some Hold) = false
is_flush (Some Cut) = false
is_flush (Some Commit) = false
is_flush (Some Release) = false
is_flush (Some PostCommit) = false

-- a device may fail a flush, and no other step
abbrev pub is_failed_step : Bool → Mark → Bool
is_failed_step flushes Clean = false
is_failed_step flushes Fault = flushes
is_failed_step flushes (FaultAfter k) = false

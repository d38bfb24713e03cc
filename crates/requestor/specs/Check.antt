-- The checks of a session call, in their order: who calls, whether the session's set is in progress, whether an
-- agenda runs, and the table of the stages and contexts in which a call is allowed. The refusals of the call's own
-- come after these. (Which call answers which of the SDK's codes is this project's own.)
use Rattle.std.specs.Prelude.{ℕ, Bool, true, false, ◌==◌, ◌&&◌, ◌||◌, not, if◌then◌else◌, Option, Some, None}
use Rattle.vss_names.specs.declared.vss_result.VssResult.TheVariants.{BadState, SnapshotSetInProgress}
use Rattle.requestor.specs.declared.stage.Stage.{Stage}
use Rattle.requestor.specs.declared.stage.Stage.TheVariants.{Opened, Gathered, Started, Prepared, Done, Finished, Failed}
use Rattle.requestor.specs.declared.session_call.SessionCall.{SessionCall}
use Rattle.requestor.specs.declared.session_call.SessionCall.TheVariants.{Begin, Disable, Gather, Component, Document, Start, Add, Prepare, Snapshot, Await, Status, Complete, Abort, End}
use Rattle.requestor.specs.declared.verdict.Verdict.{Verdict}
use Rattle.requestor.specs.declared.verdict.Verdict.TheVariants.{Go, Blocked, Refused}
use Rattle.requestor.specs.Session.{Session, has_writers, makes_set}

abbrev pub stage_code : Stage → ℕ
stage_code Opened = 0
stage_code Gathered = 1
stage_code Started = 2
stage_code Prepared = 3
stage_code Done = 4
stage_code Finished = 5
stage_code Failed = 6

abbrev pub is_stage : Stage → Stage → Bool
is_stage s t = stage_code s == stage_code t

-- the table: in which stages a call is allowed, in a context with writers or in one without. `abort` wants the set in
-- progress, and `begin` no session.
abbrev pub allows : Stage → Bool → SessionCall → Bool
allows s writers (Begin c all) = false
allows s writers Disable = is_stage s Opened && writers
allows s writers Gather = is_stage s Opened && writers
allows s writers Component = (is_stage s Gathered || is_stage s Started) && writers
allows s writers Document = not (is_stage s Opened) && writers
allows s writers Start = if writers then is_stage s Gathered else is_stage s Opened
allows s writers Add = is_stage s Started
allows s writers Prepare = is_stage s Started && writers
allows s writers Snapshot = if writers then is_stage s Prepared else is_stage s Started
allows s writers Await = true
allows s writers Status = true
allows s writers Complete = is_stage s Done && writers
allows s writers Abort = makes_set s
allows s writers End = true

-- the calls that do not wait for the running agenda to end
abbrev pub goes_beside_agenda : SessionCall → Bool
goes_beside_agenda (Begin c all) = false
goes_beside_agenda Disable = false
goes_beside_agenda Gather = false
goes_beside_agenda Component = false
goes_beside_agenda Document = false
goes_beside_agenda Start = false
goes_beside_agenda Add = false
goes_beside_agenda Prepare = false
goes_beside_agenda Snapshot = false
goes_beside_agenda Await = true
goes_beside_agenda Status = true
goes_beside_agenda Complete = false
goes_beside_agenda Abort = true
goes_beside_agenda End = true

abbrev pub is_start : SessionCall → Bool
is_start (Begin c all) = false
is_start Disable = false
is_start Gather = false
is_start Component = false
is_start Document = false
is_start Start = true
is_start Add = false
is_start Prepare = false
is_start Snapshot = false
is_start Await = false
is_start Status = false
is_start Complete = false
is_start Abort = false
is_start End = false

abbrev pub is_await : SessionCall → Bool
is_await (Begin c all) = false
is_await Disable = false
is_await Gather = false
is_await Component = false
is_await Document = false
is_await Start = false
is_await Add = false
is_await Prepare = false
is_await Snapshot = false
is_await Await = true
is_await Status = false
is_await Complete = false
is_await Abort = false
is_await End = false

-- the checks in their order: the session's set is in progress where a set is to be started; the running agenda is
-- waited for; the table; the call waits itself
abbrev pub verdict_of : Bool → Bool → Bool → Bool → Verdict
verdict_of true busy allowed waits = Refused SnapshotSetInProgress
verdict_of false true allowed waits = Refused BadState
verdict_of false false false waits = Refused BadState
verdict_of false false true true = Blocked
verdict_of false false true false = Go

-- the owner's call, but for `begin`; `running` is whether an agenda runs
abbrev pub check_owner : Session → Bool → SessionCall → Verdict
check_owner q running call =
    verdict_of
    (is_start call && makes_set q.stage)
    (running && not (goes_beside_agenda call))
    (allows q.stage (has_writers q.context) call)
    (is_await call && running)

-- `begin` by the owner is refused, and by another lane it waits
abbrev pub begin_verdict : Bool → Verdict
begin_verdict true = Refused BadState
begin_verdict false = Blocked

abbrev pub check_begin : Option Session → ℕ → Verdict
check_begin None lane = Go
check_begin (Some q) lane = begin_verdict (q.owner == lane)

-- a call by a lane that is not the owner is refused
abbrev pub owner_only : Bool → Verdict → Verdict
owner_only true verdict = verdict
owner_only false verdict = Refused BadState

abbrev pub check_other : Option Session → Bool → ℕ → SessionCall → Verdict
check_other None running lane call = Refused BadState
check_other (Some q) running lane call = owner_only (q.owner == lane) (check_owner q running call)

-- a call by a lane
abbrev pub check : Option Session → Bool → ℕ → SessionCall → Verdict
check q running lane (Begin c all) = check_begin q lane
check q running lane Disable = check_other q running lane Disable
check q running lane Gather = check_other q running lane Gather
check q running lane Component = check_other q running lane Component
check q running lane Document = check_other q running lane Document
check q running lane Start = check_other q running lane Start
check q running lane Add = check_other q running lane Add
check q running lane Prepare = check_other q running lane Prepare
check q running lane Snapshot = check_other q running lane Snapshot
check q running lane Await = check_other q running lane Await
check q running lane Status = check_other q running lane Status
check q running lane Complete = check_other q running lane Complete
check q running lane Abort = check_other q running lane Abort
check q running lane End = check_other q running lane End

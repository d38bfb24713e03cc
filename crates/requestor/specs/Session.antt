-- The session of a requestor, and what its accepted calls and the ends of its agendas make of it. A session makes at
-- most one set. (The calls are those of the SDK's IVssBackupComponents; stages, and one session at a time, are this
-- project's own.)
use Rattle.std.specs.Prelude.{ℕ, Bool, true, false, Option, Some, None, option_and_then}
use Rattle.vss_names.specs.declared.context.Context.{Context}
use Rattle.vss_names.specs.declared.context.Context.TheVariants.{Backup, AppRollback, NasRollback}
use Rattle.vss_names.specs.Context.{context_of_number}
use Rattle.vss_names.specs.declared.vss_result.VssResult.{VssResult}
use Rattle.vss_names.specs.declared.vss_result.VssResult.TheVariants.{AsyncFinished}
use Rattle.requestor.specs.declared.session.Session.{Session as SessionParts}
use Rattle.requestor.specs.declared.mode.Mode.{Mode}
use Rattle.requestor.specs.declared.mode.Mode.TheVariants.{Components, All}
use Rattle.requestor.specs.declared.stage.Stage.{Stage}
use Rattle.requestor.specs.declared.stage.Stage.TheVariants.{Opened, Gathered, Started, Prepared, Done, Finished, Failed}

-- a session has an owner, the lane that opened it, a context, a mode and a stage; the number of its set, once that is
-- started; and a last result: what the last agenda, or the failure of the set, came to
abbrev pub Session : Type 0
Session = SessionParts

-- contexts 0 and 9 have writers
abbrev pub has_writers : Context → Bool
has_writers Backup = true
has_writers AppRollback = true
has_writers NasRollback = false

-- a set is in progress from its start until it completes or fails
abbrev pub makes_set : Stage → Bool
makes_set Opened = false
makes_set Gathered = false
makes_set Started = true
makes_set Prepared = true
makes_set Done = false
makes_set Finished = false
makes_set Failed = false

-- ## what becomes of it

abbrev pub mode_of : Bool → Mode
mode_of true = All
mode_of false = Components

-- the context of a `begin` line; none where its number is of no context, or of one that has no writers to take all of
abbrev pub context_if : Bool → Context → Option Context
context_if true c = Some c
context_if false c = None

abbrev pub without_all : Bool → Context → Option Context
without_all true c = context_if (has_writers c) c
without_all false c = Some c

abbrev pub context_of : ℕ → Bool → Option Context
context_of n all = option_and_then (without_all all) (context_of_number n)

abbrev pub opened : ℕ → Context → Bool → Session
opened lane c all = record { owner = lane; context = c; mode = mode_of all; stage = Opened; set = None; last = None }

abbrev pub started : ℕ → Session → Session
started n q = record q { stage = Started; set = Some n }

-- the stage after the agenda of `gather`, `prepare`, `snapshot` or `complete`
abbrev pub stage_after : Context → Stage → Stage
stage_after c Opened = Gathered
stage_after c Gathered = Gathered
stage_after Backup Started = Prepared
stage_after AppRollback Started = Prepared
stage_after NasRollback Started = Done
stage_after c Prepared = Done
stage_after c Done = Finished
stage_after c Finished = Finished
stage_after c Failed = Failed

-- the running agenda has ended without failing the set
abbrev pub agenda_ended : Session → Session
agenda_ended q = record q { stage = stage_after q.context q.stage; last = Some AsyncFinished }

-- the set has failed
abbrev pub set_failed : VssResult → Session → Session
set_failed why q = record q { stage = Failed; last = Some why }

-- What `await` tells, and which code a set fails with.
use Rattle.std.specs.Prelude.{ℕ, ◌≡◌, ◌&&◌, ◌||◌, not, if◌then◌else◌, Bool, true, false, List, [], ◌∷◌, Option, Some, None, ◌+◌}
use Rattle.vss_names.specs.declared.set_outcome.SetOutcome.{SetOutcome}
use Rattle.vss_names.specs.declared.set_outcome.SetOutcome.TheVariants.{Running, Complete, Failed}
use Rattle.vss_names.specs.declared.vss_result.VssResult.{VssResult}
use Rattle.vss_names.specs.declared.vss_result.VssResult.TheVariants.{AsyncFinished, BadState, Writer as WriterFault, AsyncCancelled, UnexpectedProviderError}
use Rattle.vss_names.specs.declared.vss_result.VssResult.TheVariants.{InsufficientStorage, HoldWritesTimeout, WriterNotResponding}
use Rattle.vss_names.specs.declared.writer_error.WriterError.TheVariants.{Timeout}
use Rattle.set_agenda.specs.Agenda.{Agenda, Open, groups_left}
use Rattle.set_agenda.specs.Course.{Course}
use Rattle.writer_calls.specs.declared.answer.Answer.{Answer}
use Rattle.writer_calls.specs.declared.answer.Answer.TheVariants.{Ok, Veto}
use Rattle.requestor.specs.Session.{Session}
use Rattle.scenario.specs.Bounds.{is_begin, begins_agenda}
use Rattle.scenario.specs.Plan.{Plan}
use Rattle.scenario.specs.declared.op.Op.{Op}
use Rattle.scenario.specs.declared.op.Op.TheVariants.{Await, WriteFill, WriteStamp, Tick, Abort, End}
use Rattle.vss_model.specs.Acts.{Act, enabled, reply, after, state, idle_now}
use Rattle.vss_model.specs.Causes.{held_too_long, frozen_too_long}
use Rattle.vss_model.specs.Steps.{runs}
use Rattle.vss_model.specs.Reply.{is_fine, is_pending, Reply, Coded}
use Rattle.vss_model.specs.State.{State, SetRow, start, in_progress, row_of}
use Rattle.vss_model.specs.declared.event.Event.{Event}
use Rattle.vss_model.specs.declared.event.Event.TheVariants.{Line, Answer as AnswerEvent, Provider, Idle}
use Rattle.promises.specs.Accepted.{Owns}

-- ## What `await` tells: the last result of the session. There is none after its `begin`; where an agenda ends without failing the set it is
-- AsyncFinished, and where the set fails it is the set's own result. (That an asynchronous call ends so is the SDK's; which result is the
-- last is this project's own.)

-- ## what an act makes of it

abbrev pub failure_of : SetOutcome → Option VssResult
failure_of Running = None
failure_of Complete = None
failure_of (Failed why) = Some why

abbrev pub failure_in : Option SetRow → Option VssResult
failure_in None = None
failure_in (Some r) = failure_of r.result

-- the result of the set that was in progress, where it has failed
abbrev pub set_failure : Option SetRow → State → Option VssResult
set_failure None next = None
set_failure (Some r) next = failure_in (row_of next r.number)

abbrev pub begins_session : Event → Reply → Bool
begins_session (Line lane op) told = is_begin op && is_fine told
begins_session _ told = false

-- a line that goes on as an agenda
abbrev pub begins : Event → Reply → Bool
begins (Line lane op) told = begins_agenda op && is_pending told
begins _ told = false

abbrev pub result_by : Option VssResult → Bool → Option VssResult → Option VssResult
result_by (Some why) ended last = Some why
result_by None true last = Some AsyncFinished
result_by None false last = last

-- an agenda ends in the act where one ran, or began in it, and none runs after it
abbrev pub result_after : State → Event → Reply → State → Option VssResult → Option VssResult
result_after st event told next last =
    if begins_session event told then None else result_by (set_failure (in_progress st) next) ((runs st || begins event told) && not (runs next)) last

abbrev pub result_if : Bool → Plan → State → Option VssResult → Act → Option VssResult
result_if true s st last act = result_after st act.event (reply s st act) (after s st act) last
result_if false s st last act = last

abbrev pub result_from : Plan → State → Option VssResult → List Act → Option VssResult
result_from s st last [] = last
result_from s st last (act ∷ acts) = result_from s (after s st act) (result_if (enabled s st act.event) s st last act) acts

-- the last result after these acts
abbrev pub last_result : Plan → List Act → Option VssResult
last_result s acts = result_from s (start s) None acts

-- ## what is told

abbrev pub result_told : Option VssResult → Reply
result_told None = Coded BadState
result_told (Some why) = Coded why

-- an `await` of the owner, which comes only where no agenda runs
abbrev pub AwaitTells : Plan → List Act → Act → Type 0
AwaitTells s so_far act = (lane : ℕ) (q : Session) → act.event ≡ Line lane Await → enabled s (state s so_far) act.event ≡ true → Owns (state s so_far) lane q
    → reply s (state s so_far) act ≡ result_told (last_result s so_far)

-- ## Which code a set fails with: AsyncCancelled where its owner gives it up, the code of the veto, UnexpectedProviderError where a device fails
-- a flush, InsufficientStorage where a write takes its image. Where the clock goes on it is HoldWritesTimeout if volumes were held too long; or
-- else a writer's time-out, if writers stood frozen too long; or else WriterNotResponding. (The codes are the SDK's; which of them stands for
-- which cause is this project's own.)

-- of what takes too long at the open group, as the clock stands then
abbrev pub late_code_at : ℕ → Course → Agenda → List Open → VssResult
late_code_at now c a [] = WriterNotResponding
late_code_at now c a (o ∷ os) =
    if held_too_long now o.place.group a then HoldWritesTimeout
    else if frozen_too_long now o.place.group c a then WriterFault Timeout
    else WriterNotResponding

abbrev pub late_code_in : ℕ → Course → Option Agenda → VssResult
late_code_in now c None = WriterNotResponding
late_code_in now c (Some a) = late_code_at now c a (groups_left a)

-- once the clock has gone on by so many ticks
abbrev pub late_code : State → ℕ → VssResult
late_code st ticks = late_code_in (st.clock + ticks) st.course st.course.agenda

abbrev pub IsAnswerCode : Answer → VssResult → Type 0
IsAnswerCode Ok why = ⊥
IsAnswerCode (Veto error) why = why ≡ WriterFault error

abbrev pub IsLineCode : State → Op → VssResult → Type 0
IsLineCode st (WriteFill v b x) why = why ≡ InsufficientStorage
IsLineCode st (WriteStamp v b x) why = why ≡ InsufficientStorage
IsLineCode st (Tick n) why = why ≡ late_code st n
IsLineCode st Abort why = why ≡ AsyncCancelled
IsLineCode st End why = why ≡ AsyncCancelled
IsLineCode st op why = ⊥

abbrev pub IsCode : State → Event → VssResult → Type 0
IsCode st (Line lane op) why = IsLineCode st op why
IsCode st (AnswerEvent w answer) why = IsAnswerCode answer why
IsCode st Provider why = why ≡ UnexpectedProviderError
IsCode st Idle why = why ≡ late_code st (idle_now st)

-- the set in progress that has failed in the act
abbrev pub FailsByCode : Plan → List Act → Act → Type 0
FailsByCode s so_far act = (why : VssResult) → enabled s (state s so_far) act.event ≡ true
    → set_failure (in_progress (state s so_far)) (after s (state s so_far) act) ≡ Some why → IsCode (state s so_far) act.event why

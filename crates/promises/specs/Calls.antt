-- Who may call and what waits, which marks may come, and that a refusal changes nothing.
use Rattle.std.specs.Prelude.{ℕ, ◌≡◌, ◌==◌, ◌||◌, not, Bool, true, false, List, Some, None, is_some}
use Rattle.vss_names.specs.declared.vss_result.VssResult.TheVariants.{BadState}
use Rattle.write_history.specs.declared.mark.Mark.TheVariants.{Clean, Fault, FaultAfter}
use Rattle.set_agenda.specs.Agenda.{open_group}
use Rattle.requestor.specs.Session.{Session}
use Rattle.scenario.specs.Bounds.{is_begin}
use Rattle.scenario.specs.Calls.{Target, call_of, target_of}
use Rattle.scenario.specs.Plan.{Plan, acts_as}
use Rattle.scenario.specs.declared.op.Op.{Op}
use Rattle.scenario.specs.declared.op.Op.TheVariants.{Begin, Await, WriteFill, WriteStamp, Read, ImageDigest, ImageBlock, Revert}
use Rattle.vss_model.specs.Acts.{Act, enabled, reply, after, state, event_allows}
use Rattle.vss_model.specs.Causes.{owns, is_flush_step}
use Rattle.vss_model.specs.Steps.{runs}
use Rattle.vss_model.specs.Reply.{leaves_all, Coded}
use Rattle.vss_model.specs.State.{is_frozen, is_held, State, left_now, kept_image}
use Rattle.vss_model.specs.declared.event.Event.{Event}
use Rattle.vss_model.specs.declared.event.Event.TheVariants.{Line, Answer, Provider, Idle}

-- ## Who may call, and what waits: a session call of a lane that does not own the session is refused and changes nothing; of all
-- lines only writes, `begin` and `await` wait; without a session no agenda runs; and while a writer stands frozen, no lane that
-- acts as it writes. (One session at a time is this project's own.)

-- the line is a session call, and begins no session
abbrev pub is_owners : Op → Bool
is_owners (Begin c all) = false
is_owners op = is_some (call_of op)

-- the call of a lane that does not own the session is answered BadState, and changes nothing
abbrev pub CallsAreOwned : Plan → List Act → Act → Type 0
CallsAreOwned s so_far act = (lane : ℕ) (op : Op) → act.event ≡ Line lane op → is_owners op ≡ true → owns (state s so_far).session lane ≡ false
    → (reply s (state s so_far) act ≡ Coded BadState) × (after s (state s so_far) act ≡ state s so_far)

abbrev pub is_await : Op → Bool
is_await Await = true
is_await _ = false

abbrev pub may_wait : Op → Bool
may_wait op = is_some (target_of op) || is_begin op || is_await op

-- a line that waits is one of these
abbrev pub WaitsAreFew : Plan → List Act → Type 0
WaitsAreFew s so_far = (lane : ℕ) (op : Op) → enabled s (state s so_far) (Line lane op) ≡ false → may_wait op ≡ true

-- without a session no agenda runs
abbrev pub StandsQuiet : Plan → List Act → Type 0
StandsQuiet s so_far = (state s so_far).session ≡ None → runs (state s so_far) ≡ false

-- Who waits, and who need not: a write exactly while its volume is held or its lane acts as a frozen writer; `begin` exactly while
-- another lane's session stands; and `await` of the owner exactly while an agenda runs.
pub record WaitsAreDue (s : Plan) (so_far : List Act) : Type 0 where
  pub held : (lane : ℕ) (op : Op) (t : Target) → target_of op ≡ Some t → is_held (state s so_far) t.volume ≡ true → enabled s (state s so_far) (Line lane op) ≡ false
  pub free : (lane : ℕ) (op : Op) (t : Target) → target_of op ≡ Some t → is_held (state s so_far) t.volume ≡ false
      → ((w : ℕ) → acts_as s lane ≡ Some w → is_frozen (state s so_far) w ≡ false) → enabled s (state s so_far) (Line lane op) ≡ true
  pub begins : (lane n : ℕ) (all : Bool) (q : Session) → (state s so_far).session ≡ Some q → (q.owner == lane) ≡ false → enabled s (state s so_far) (Line lane (Begin n all)) ≡ false
  pub first : (lane n : ℕ) (all : Bool) → (state s so_far).session ≡ None → enabled s (state s so_far) (Line lane (Begin n all)) ≡ true
  pub awaits : (lane : ℕ) → owns (state s so_far).session lane ≡ true → enabled s (state s so_far) (Line lane Await) ≡ not (runs (state s so_far))

-- a lane that acts as a frozen writer waits with its writes
abbrev pub FrozenDoNotWrite : Plan → List Act → Type 0
FrozenDoNotWrite s so_far = (lane w : ℕ) (op : Op) (t : Target) → acts_as s lane ≡ Some w → is_frozen (state s so_far) w ≡ true → target_of op ≡ Some t
    → enabled s (state s so_far) (Line lane op) ≡ false

-- ## Which marks may come: a device may fail in a write, in a read, in one of an image that is kept, and in a flush; and a revert of an image
-- that is kept may stop. (This project's own.)

-- a device may fail in this line
abbrev pub line_may_fail : State → Op → Bool
line_may_fail st (WriteFill v b x) = true
line_may_fail st (WriteStamp v b n) = true
line_may_fail st (Read v b) = true
line_may_fail st (ImageDigest n v) = is_some (kept_image st n v)
line_may_fail st (ImageBlock n v b) = is_some (kept_image st n v)
line_may_fail st _ = false

abbrev pub may_fail : State → Event → Bool
may_fail st (Line lane op) = line_may_fail st op
may_fail st (Answer w a) = false
may_fail st Provider = is_flush_step (open_group (left_now st))
may_fail st Idle = false

-- a device may stop this one
abbrev pub may_stop : State → Event → Bool
may_stop st (Line lane (Revert n v)) = is_some (kept_image st n v)
may_stop st _ = false

pub record MarksAreDue (s : Plan) (so_far : List Act) : Type 0 where
  pub clean : (event : Event) → event_allows s (state s so_far) event Clean ≡ true
  pub failed : (event : Event) → event_allows s (state s so_far) event Fault ≡ may_fail (state s so_far) event
  pub stopped : (event : Event) (k : ℕ) → event_allows s (state s so_far) event (FaultAfter k) ≡ true → may_stop (state s so_far) event ≡ true

-- ## A refusal changes nothing, and neither does a line that only looks. (This project's own.)

-- an act that is so answered leaves the whole state as it was
abbrev pub RefusalsChangeNothing : Plan → List Act → Act → Type 0
RefusalsChangeNothing s so_far act = leaves_all (reply s (state s so_far) act) ≡ true → after s (state s so_far) act ≡ state s so_far

-- What moves the clock, the limits of time and their lengths, and that none of them is outrun.
use Rattle.std.specs.Prelude.{ℕ, ◌≡◌, ◌+◌, Bool, true, false, List, unwrap_or, ◌<◌, is_some, ◌&&◌, [], ◌∷◌, Option, Some, None, slice_get}
use Rattle.vss_names.specs.declared.order.Order.TheVariants.{Identify, PrepareBackup, PrepareSnapshot, Freeze, Thaw, PostSnapshot, BackupComplete}
use Rattle.tick_limits.specs.Time.{answer_limit, hold_limit, default_freeze}
use Rattle.writer_state.specs.declared.writer_row.WriterRow.{WriterRow}
use Rattle.set_agenda.specs.Agenda.{is_asking, Agenda, Open, groups_left}
use Rattle.set_agenda.specs.Course.{limits_now}
use Rattle.set_agenda.specs.Limits.{spent_of}
use Rattle.set_agenda.specs.declared.group.Group.{Group}
use Rattle.set_agenda.specs.declared.group.Group.TheVariants.{Orders, PreCommit, Flush, Hold, Cut, Commit, Release, PostCommit}
use Rattle.scenario.specs.Plan.{Plan, WriterPlan}
use Rattle.vss_model.specs.Acts.{Act, enabled, after, state, idle_now}
use Rattle.vss_model.specs.Causes.{is_late, has_passed, last_of, is_elsewhere}
use Rattle.vss_model.specs.Effects.{ticks_of}
use Rattle.vss_model.specs.State.{State, left_now}
use Rattle.vss_model.specs.declared.event.Event.{Event}

-- ## What moves the clock: a `tick` line by its ticks, an idle stretch by its length, and nothing else. (This project's own.)

abbrev pub ticks_if : Bool → State → Event → ℕ
ticks_if true st event = unwrap_or (ticks_of st event) 0
ticks_if false st event = 0

abbrev pub ClockMoves : Plan → List Act → Act → Type 0
ClockMoves s so_far act = (after s (state s so_far) act).clock ≡ (state s so_far).clock + ticks_if (enabled s (state s so_far) act.event) (state s so_far) act.event

-- ## An idle stretch is the shortest that spends a limit that runs. (This project's own.)

pub record IdlesShortest (s : Plan) (so_far : List Act) : Type 0 where
  pub spends : is_asking (left_now (state s so_far)) ≡ true → is_some (spent_of ((state s so_far).clock + idle_now (state s so_far)) (limits_now (state s so_far).course)) ≡ true
  pub shorter : (n : ℕ) → n < idle_now (state s so_far) → is_some (spent_of ((state s so_far).clock + n) (limits_now (state s so_far).course)) ≡ false

-- ## After no act does anything stand late for which a set would fail: volumes are held for no more than 10,000 ticks since the first
-- one was; since PrepareSnapshot was answered no more have gone by than the least time-out of a participant, 60,000 at most, until
-- PostCommit; and no answer to PrepareBackup or PrepareSnapshot is missing for more than 300,000. (60 seconds of freeze and 10 of
-- hold are the SDK's; the answer limit is this project's own.)

-- nothing is late as the clock stands
abbrev pub StandsWithinLimits : Plan → List Act → Type 0
StandsWithinLimits s so_far = is_late (state s so_far) 0 ≡ false

-- ## After no act has an order of Identify, Thaw, PostSnapshot or BackupComplete been open for more than 300,000 ticks: whoever has not
-- answered by then is lost, and the set goes on without it. Since when an order is open is read off the log: since something was last
-- said to what came before it, or else since its agenda began. (The answer limit is this project's own.)

-- the orders to which the set does not need each writer's consent
abbrev pub informs_writers : Group → Bool
informs_writers (Orders Identify) = true
informs_writers (Orders PrepareBackup) = false
informs_writers (Orders PrepareSnapshot) = false
informs_writers (Orders Freeze) = false
informs_writers (Orders Thaw) = true
informs_writers (Orders PostSnapshot) = true
informs_writers (Orders BackupComplete) = true
informs_writers PreCommit = false
informs_writers Flush = false
informs_writers Hold = false
informs_writers Cut = false
informs_writers Commit = false
informs_writers Release = false
informs_writers PostCommit = false

-- such an order is open, and has been for more than 300,000 ticks
abbrev pub is_overdue_at : ℕ → Agenda → List Open → Bool
is_overdue_at now a [] = false
is_overdue_at now a (o ∷ os) = informs_writers o.place.group && has_passed answer_limit (last_of (is_elsewhere o.place) a) now

abbrev pub is_overdue_in : ℕ → Option Agenda → Bool
is_overdue_in now None = false
is_overdue_in now (Some a) = is_overdue_at now a (groups_left a)

abbrev pub OrdersEnd : Plan → List Act → Type 0
OrdersEnd s so_far = is_overdue_in (state s so_far).clock (state s so_far).course.agenda ≡ false

-- ## The lengths of the limits, in ticks of a millisecond, as numbers; and that each writer's row has the time-out that its own metadata
-- state. (60 seconds of freeze and 10 of hold are the SDK's; the answer limit is this project's own.)

abbrev pub timeout_in : Option WriterPlan → ℕ
timeout_in None = 60000
timeout_in (Some w) = w.meta.freeze_timeout

-- the freeze time-out that a writer's metadata state
abbrev pub timeout_of : Plan → ℕ → ℕ
timeout_of s w = timeout_in (slice_get s.writers w)

pub record HasItsNumbers (s : Plan) (so_far : List Act) : Type 0 where
  pub hold : hold_limit ≡ 10000
  pub freeze : default_freeze ≡ 60000
  pub answer : answer_limit ≡ 300000
  pub own : (w : ℕ) (r : WriterRow) (p : WriterPlan) → slice_get (state s so_far).course.rows w ≡ Some r → slice_get s.writers w ≡ Some p → r.limit ≡ p.meta.freeze_timeout

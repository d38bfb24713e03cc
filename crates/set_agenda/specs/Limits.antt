-- The limits of time that run while an agenda runs. At each open group the limits are a list, in the order in which
-- they are treated; the first of them that is spent decides. (60 seconds of freeze and 10 seconds of hold are the
-- SDK's, see the overview of shadow copy creation; the answer limit, and one freeze limit for the whole set, are this
-- project's own.)
use Rattle.std.specs.Prelude.{ℕ, min, Bool, true, false, List, [], ◌∷◌, ◌++◌, filter, find, fold, not, Option, Some, None}
use Rattle.vss_names.specs.declared.order.Order.TheVariants.{PrepareSnapshot, Freeze}
use Rattle.set_agenda.specs.declared.group.Group.{Group}
use Rattle.set_agenda.specs.declared.group.Group.TheVariants.{Orders, PreCommit, Flush, Hold, Cut, Commit, Release, PostCommit}
use Rattle.set_agenda.specs.declared.limit.Limit.{Limit}
use Rattle.set_agenda.specs.declared.limit.Limit.TheVariants.{Hold as HoldLimit, Freeze as FreezeLimit, Answer as AnswerLimit}
use Rattle.set_agenda.specs.Agenda.{Agenda, Entry, Open, groups_left, same_place}
use Rattle.tick_limits.specs.Time.{answer_limit, hold_limit, is_spent, ticks_until}

-- a limit of so many ticks that runs since a tick
pub record Running : Type 0 where
  pub limit : Limit
  pub since : ℕ
  pub ticks : ℕ

-- ## since when

abbrev pub last_time : ℕ → List Entry → ℕ
last_time t [] = t
last_time t (e ∷ es) = last_time e.time es

-- The open group opened with the entry that closed the group before it, which is the last entry of another place; or
-- when the agenda began.
abbrev pub opened_at : Agenda → Open → ℕ
opened_at a o = last_time a.begun (filter (λ e. not (same_place e.place o.place)) a.log)

abbrev pub is_prepare_snapshot : Group → Bool
is_prepare_snapshot (Orders PrepareSnapshot) = true
is_prepare_snapshot _ = false

-- the first Freeze group opened with the last entry of PrepareSnapshot, or when the agenda began
abbrev pub freeze_opened_at : Agenda → ℕ
freeze_opened_at a = last_time a.begun (filter (λ e. is_prepare_snapshot e.place.group) a.log)

abbrev pub is_hold : Group → Bool
is_hold Hold = true
is_hold _ = false

abbrev pub first_time : List Entry → Option ℕ
first_time [] = None
first_time (e ∷ es) = Some e.time

-- the first Hold step
abbrev pub first_hold : List Entry → Option ℕ
first_hold log = first_time (filter (λ e. is_hold e.place.group) log)

-- ## where

-- from the first Hold step until the last Release step
abbrev pub hold_runs : Group → Bool
hold_runs (Orders o) = false
hold_runs PreCommit = false
hold_runs Flush = false
hold_runs Hold = true
hold_runs Cut = true
hold_runs Commit = true
hold_runs Release = true
hold_runs PostCommit = false

-- from the first Freeze group until PostCommit is closed
abbrev pub freeze_runs : Group → Bool
freeze_runs (Orders Freeze) = true
freeze_runs (Orders _) = false
freeze_runs PreCommit = true
freeze_runs Flush = true
freeze_runs Hold = true
freeze_runs Cut = true
freeze_runs Commit = true
freeze_runs Release = true
freeze_runs PostCommit = true

-- while any other group of writers is open
abbrev pub answer_runs : Group → Bool
answer_runs (Orders Freeze) = false
answer_runs (Orders _) = true
answer_runs PreCommit = false
answer_runs Flush = false
answer_runs Hold = false
answer_runs Cut = false
answer_runs Commit = false
answer_runs Release = false
answer_runs PostCommit = false

-- ## the limits that run

abbrev pub runs_if : Bool → Limit → ℕ → ℕ → List Running
runs_if true l since ticks = record { limit = l; since = since; ticks = ticks } ∷ []
runs_if false l since ticks = []

abbrev pub hold_running : Group → Option ℕ → List Running
hold_running g None = []
hold_running g (Some since) = runs_if (hold_runs g) HoldLimit since hold_limit

-- at the open group, in the order in which they are treated; the freeze limit is the given one
abbrev pub running_at : ℕ → Agenda → List Open → List Running
running_at freeze a [] = []
running_at freeze a (o ∷ os) =
    hold_running o.place.group (first_hold a.log)
    ++ runs_if (freeze_runs o.place.group) FreezeLimit (freeze_opened_at a) freeze
    ++ runs_if (answer_runs o.place.group) AnswerLimit (opened_at a o) answer_limit

abbrev pub running_limits : ℕ → Option Agenda → List Running
running_limits freeze None = []
running_limits freeze (Some a) = running_at freeze a (groups_left a)

-- the limit that is spent, the first in the order of treatment
abbrev pub spent_of : ℕ → List Running → Option Running
spent_of now ls = find (λ l. is_spent now l.since l.ticks) ls

abbrev pub running_until : ℕ → Running → ℕ
running_until now l = ticks_until now l.since l.ticks

-- the least number of ticks that spends a running limit
abbrev pub ticks_to_spend : ℕ → List Running → ℕ
ticks_to_spend now [] = 0
ticks_to_spend now (l ∷ ls) = fold (λ t m. min t (running_until now m)) (running_until now l) ls

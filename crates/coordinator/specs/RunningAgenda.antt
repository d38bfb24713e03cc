-- What a coordinator keeps of an agenda that runs, in place of its log: the groups left, the writers that have frozen
-- and those that have thawed, when the open group opened, when the first Freeze group did, and the first Hold step.
-- (This project's own.)
use Rattle.std.specs.Option.{ForSome}
use Rattle.std.specs.Prelude.{ℕ, ◌≡◌, ◌||◌, Bool, true, false, not, List, [], filter, Option, Some, None, if◌then◌else◌, ◌≤◌, ◌∷◌, ◌++◌, min}
use Rattle.tick_limits.specs.Time.{answer_limit, hold_limit, is_spent, ticks_until}
use Rattle.set_agenda.specs.Agenda.{Agenda, HoldsOwn, groups_left, has_frozen, has_thawed, is_among, open_place, same_place, open_group}
use Rattle.set_agenda.specs.Limits.{first_hold, freeze_opened_at, is_hold, is_prepare_snapshot, last_time, Running, answer_runs, freeze_runs, hold_runs}
use Rattle.set_agenda.specs.WriterSet.{writers}
use Rattle.set_agenda.specs.declared.group.Group.{Group}
use Rattle.set_agenda.specs.declared.limit.Limit.{Limit}
use Rattle.set_agenda.specs.declared.limit.Limit.TheVariants.{Hold as HoldLimit, Freeze as FreezeLimit, Answer as AnswerLimit}
use Rattle.set_agenda.specs.declared.place.Place.{Place}
use Rattle.coordinator.specs.declared.running_agenda.RunningAgenda.{RunningAgenda}

-- when the place opened at which an agenda stands: with the last entry of another place, or when the agenda began
abbrev pub place_opened_at : Agenda → ℕ
place_opened_at a = last_time a.begun (filter (λ e. not (same_place e.place (open_place (groups_left a)))) a.log)

pub record Fits (r : RunningAgenda) (a : Agenda) : Type 0 where
  pub kind : r.kind ≡ a.kind
  pub left : r.agenda ≡ groups_left a
  pub froze : r.froze ≡ writers (has_frozen a.log)
  pub thawed : r.thawed ≡ writers (has_thawed a.log)
  pub opened : r.opened ≡ place_opened_at a
  pub freeze_opened : r.freeze_opened ≡ freeze_opened_at a
  pub held : r.held ≡ first_hold a.log
  pub own : HoldsOwn a

-- ## after something is said at a place

-- these writers, where it is so
abbrev pub taken_if : Bool → List ℕ → List ℕ
taken_if true ws = ws
taken_if false ws = []

-- a set of writers, and those that enter it
abbrev pub entered : List ℕ → List ℕ → List ℕ
entered ws old = writers (λ w. is_among w old || is_among w ws)

-- `before` is the time at which the place p opened, and q is open now
abbrev pub opened_after : Place → Place → ℕ → ℕ → ℕ
opened_after p q before now = if same_place p q then before else now

abbrev pub freeze_opened_after : Place → ℕ → ℕ → ℕ
freeze_opened_after p before now = if is_prepare_snapshot p.group then now else before

abbrev pub held_after : Place → Option ℕ → ℕ → Option ℕ
held_after p None now = if is_hold p.group then Some now else None
held_after p (Some t) now = Some t

-- ## The limits of time that run, from what a coordinator keeps of an agenda that runs. (This project's own; the limits
-- themselves are those of set_agenda's Limits.)

-- no time that is kept is after the tick `now`
pub record NoneAfter (now : ℕ) (r : RunningAgenda) : Type 0 where
  pub opened : r.opened ≤ now
  pub freeze_opened : r.freeze_opened ≤ now
  pub held : ForSome r.held (λ t. t ≤ now)

-- since when a limit runs where this group is open, and None where it does not
abbrev pub since_at : Limit → Option Group → RunningAgenda → Option ℕ
since_at l None r = None
since_at HoldLimit (Some g) r = if hold_runs g then r.held else None
since_at FreezeLimit (Some g) r = if freeze_runs g then Some r.freeze_opened else None
since_at AnswerLimit (Some g) r = if answer_runs g then Some r.opened else None

abbrev pub running_since : Limit → RunningAgenda → Option ℕ
running_since l r = since_at l (open_group r.agenda) r

-- a limit that runs since a tick is spent at `now`; one that does not run is not
abbrev pub spent_since : ℕ → Option ℕ → ℕ → Bool
spent_since now None ticks = false
spent_since now (Some since) ticks = is_spent now since ticks

-- the ticks that spend a limit, where it runs
abbrev pub until_since : ℕ → Option ℕ → ℕ → Option ℕ
until_since now None ticks = None
until_since now (Some since) ticks = Some (ticks_until now since ticks)

-- the sooner of two, where there are two
abbrev pub sooner : Option ℕ → Option ℕ → Option ℕ
sooner None u = u
sooner (Some t) None = Some t
sooner (Some t) (Some u) = Some (min t u)

-- ## all limits

abbrev pub runs_since : Limit → Option ℕ → ℕ → List Running
runs_since l None ticks = []
runs_since l (Some since) ticks = record { limit = l; since = since; ticks = ticks } ∷ []

-- the limits that run, in the order in which they are treated; the freeze limit is the given one
abbrev pub kept_limits : ℕ → RunningAgenda → List Running
kept_limits freeze r =
    runs_since HoldLimit (running_since HoldLimit r) hold_limit
    ++ runs_since FreezeLimit (running_since FreezeLimit r) freeze
    ++ runs_since AnswerLimit (running_since AnswerLimit r) answer_limit

-- A core that its caller drives: what contracts see of it, and what it keeps between calls. (This project's own.)
use Rattle.std.specs.Prelude.{ℕ, ◌≡◌, ◌≤◌, List, length, Option, option_map, slice_get}
use Rattle.write_history.specs.declared.actor.Actor.{Actor}
use Rattle.write_history.specs.declared.actor.Actor.TheVariants.{Lane, Writer, Advance, Idle as IdleActor}
use Rattle.scenario.specs.Plan.{Plan, LaneLine, lines_of}
use Rattle.vss_model.specs.declared.event.Event.{Event}
use Rattle.vss_model.specs.declared.event.Event.TheVariants.{Line, Answer, Provider, Idle}
use Rattle.vss_model.specs.Outcome.{mark_of}
use Rattle.vss_world.specs.declared.reply.Reply.{Reply}
use Rattle.vss_world.specs.declared.reply.Reply.TheVariants.{Blocked, Moved}
use Rattle.vss_world.specs.Stands.{WorldValue, IsOf, IsStanding}
use Rattle.vss_play.specs.declared.given.Given.{Given}
use Rattle.vss_play.specs.Running.{AreWritten}

pub record ServiceValue (D : Type 0) : Type 0 where
  pub plan : Plan
  pub world : WorldValue D
  pub moves : ℕ
  -- what each writer of the caller's was given
  pub given : List Given

-- it is of the scenario, and stands for some acts, no more than it made moves; these are 2,097,151 at most
pub record IsServing {D : Type 0} (told : D → Option (List (List ℕ))) (s : Plan) (w : WorldValue D) (moves : ℕ) (given : List Given) : Type 0 where
  pub of : IsOf w s
  pub standing : IsStanding told w s
  pub many : length standing.acts ≤ moves
  pub most : moves ≤ 2097151
  pub each : length given ≡ length s.writers

-- how many moves an event came to
abbrev pub moves_in : Reply → ℕ
moves_in Blocked = 0
moves_in (Moved o) = 1

-- the event of a line of a lane, with the line's number in the text
abbrev pub line_at : Plan → ℕ → ℕ → Option (Event × ℕ)
line_at s lane at = option_map (λ (l : LaneLine). (Line lane l.op, l.number)) (slice_get (lines_of s lane) at)

-- who makes an event
abbrev pub actor_by : Event → Actor
actor_by (Line lane op) = Lane lane
actor_by (Answer w answer) = Writer w
actor_by Provider = Advance
actor_by Idle = IdleActor

-- the lines of the move that an event came to were appended, and none where it had to wait
abbrev pub AreToldOf : {D : Type 0} → (D → Option (List (List ℕ))) → Plan → WorldValue D → (number line : ℕ) → Event → Reply → (before after : List ℕ) → Type 0
AreToldOf told s w number line event Blocked before after = after ≡ before
AreToldOf told s w number line event (Moved o) before after =
    AreWritten told s w number line (record { actor = actor_by event; mark = mark_of o.told }) o before after

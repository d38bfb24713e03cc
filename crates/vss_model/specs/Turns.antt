-- When a run can go on, and how many turns it has left at most. (This project's own.)
use Rattle.std.specs.Prelude.{ℕ, ◌≡◌, true, ◌+◌, Bool, false, List, [], ◌∷◌, length, drop}
use Rattle.write_history.specs.declared.actor.Actor.{Actor}
use Rattle.write_history.specs.declared.mark.Mark.TheVariants.{Clean}
use Rattle.write_history.specs.declared.move_item.Move.{Move}
use Rattle.set_agenda.specs.Agenda.{Open}
use Rattle.scenario.specs.Bounds.{ends_sessions, begins_agenda}
use Rattle.scenario.specs.Plan.{Plan, lines_of, LaneLine, LanePlan}
use Rattle.vss_model.specs.State.{left_now}
use Rattle.vss_model.specs.Trail.{Run, is_legal_move, cursor}

-- ## When a run can go on. A lane that begins a session ends it by a later line of its own: the scenario's text gives each
-- lane that would not a last line `end`. (This project's own.)

-- every lane ends its sessions
abbrev pub EndsSessions : Plan → Type 0
EndsSessions s = (i : ℕ) → ends_sessions (lines_of s i) ≡ true

-- some actor's move, without a fault, may come next
pub record CanGoOn (s : Plan) (r : Run) : Type 0 where
  pub actor : Actor
  pub legal : is_legal_move s r (record { actor = actor; mark = Clean }) ≡ true

-- the most moves that a legal trail of a scenario within the limits has
abbrev pub most_moves : ℕ
most_moves = 1142064

-- ## How many turns a run has left at most: one for each line that a lane has not made; for each of these lines that may begin an
-- agenda as many more as an agenda can take, and in the running agenda one for each that is waited for, in the open group or in
-- a later one. An agenda asks at most 64 writers in each of four orders, has four steps for each of at most 64 volumes and
-- three more, and lets time go by six times at most. (This project's own.)

-- how many are waited for, in all groups that are left
abbrev pub waiting : List Open → ℕ
waiting [] = 0
waiting (o ∷ os) = length o.waits + waiting os

abbrev pub turns_of_agenda : Bool → ℕ
turns_of_agenda true = 521
turns_of_agenda false = 0

abbrev pub turns_of_line : LaneLine → ℕ
turns_of_line l = 1 + turns_of_agenda (begins_agenda l.op)

abbrev pub turns_of_lines : List LaneLine → ℕ
turns_of_lines [] = 0
turns_of_lines (l ∷ ls) = turns_of_line l + turns_of_lines ls

-- of the lanes from number i on
abbrev pub turns_of_lanes : List Move → ℕ → List LanePlan → ℕ
turns_of_lanes moves i [] = 0
turns_of_lanes moves i (l ∷ ls) = turns_of_lines (drop (cursor moves i) l.lines) + turns_of_lanes moves (i + 1) ls

abbrev pub turns_left : Plan → Run → ℕ
turns_left s r = waiting (left_now r.state) + turns_of_lanes r.moves 0 s.lanes

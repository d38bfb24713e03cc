-- What writers say: a writer's move answers the order that it has open, by its script. For the nth time that a writer is asked the same,
-- in all sessions, the script's first row for that order and n has the answer; where there is no such row it is `ok`, and where the row
-- has none, the writer never answers. (Scripts are this project's own.)
use Rattle.std.specs.Prelude.{ℕ, ◌≡◌, ◌+◌, ◌==◌, ◌&&◌, not, if◌then◌else◌, Bool, false, List, [], ◌∷◌, ◌++◌, Option, Some, None}
use Rattle.vss_names.specs.declared.order.Order.{Order}
use Rattle.write_history.specs.declared.actor.Actor.TheVariants.{Writer}
use Rattle.write_history.specs.declared.move_item.Move.{Move}
use Rattle.writer_calls.specs.declared.answer.Answer.{Answer}
use Rattle.writer_calls.specs.declared.answer.Answer.TheVariants.{Ok}
use Rattle.writer_calls.specs.declared.scripted.Scripted.{Scripted}
use Rattle.set_agenda.specs.Agenda.{same_order, same_place, open_place}
use Rattle.scenario.specs.Plan.{Plan, script_of}
use Rattle.vss_model.specs.State.{State, start, left_now}
use Rattle.vss_model.specs.Acts.{Act, order_of_writer, after, state}
use Rattle.vss_model.specs.Trail.{acts, acts_if, answer_event}

-- ## how often a writer is asked

abbrev pub is_owed : Order → Option Order → Bool
is_owed o None = false
is_owed o (Some p) = same_order p o

-- writer w has order o to answer
abbrev pub owes : State → ℕ → Order → Bool
owes st w o = is_owed o (order_of_writer st w)

-- it has it after an act, and had not before, or had that of another group
abbrev pub is_asked_anew : State → State → ℕ → Order → Bool
is_asked_anew st next w o = owes next w o && not (owes st w o && same_place (open_place (left_now st)) (open_place (left_now next)))

abbrev pub asked_from : Plan → State → ℕ → Order → ℕ → List Act → ℕ
asked_from s st w o n [] = n
asked_from s st w o n (act ∷ acts) = asked_from s (after s st act) w o (if is_asked_anew st (after s st act) w o then n + 1 else n) acts

abbrev pub times_asked : Plan → ℕ → Order → List Act → ℕ
times_asked s w o acts = asked_from s (start s) w o 0 acts

-- ## what the script says

-- the answer to the nth time
abbrev pub written_in : List Scripted → Order → ℕ → Option Answer
written_in [] o n = Some Ok
written_in (r ∷ rows) o n = if same_order r.order o && (r.nth == n) then r.answer else written_in rows o n

-- The move of a writer with an open order is the scripted answer to it, and no act where there is none; without an open order a writer
-- has no act.
pub record AnswersByScript (s : Plan) (trail : List Move) : Type 0 where
  pub says : (before rest : List Move) (m : Move) (w : ℕ) (o : Order) → trail ≡ before ++ m ∷ rest → m.actor ≡ Writer w → order_of_writer (state s (acts s before)) w ≡ Some o
      → acts s (before ++ m ∷ []) ≡ acts s before ++ acts_if (answer_event w (written_in (script_of s w) o (times_asked s w o (acts s before)))) m.mark
  pub silent : (before rest : List Move) (m : Move) (w : ℕ) → trail ≡ before ++ m ∷ rest → m.actor ≡ Writer w → order_of_writer (state s (acts s before)) w ≡ None → acts s (before ++ m ∷ []) ≡ acts s before

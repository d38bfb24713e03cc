-- A trail: the moves of a run. Each move is one act: a lane's next line, a writer's scripted answer to its open order,
-- the provider's next step, or an idle stretch. A trail is legal where each move may be made when it comes, and
-- complete where each lane is used up and no agenda runs. (This project's own.)
use Rattle.std.specs.Prelude.{ℕ, Bool, true, false, List, [], ◌∷◌, ◌++◌, length, fold, count_by, ◌==◌, ◌&&◌, not, Option, Some, None, is_none, slice_get}
use Rattle.std.specs.List.{list_all, range_with_len}
use Rattle.vss_names.specs.declared.order.Order.{Order}
use Rattle.write_history.specs.declared.actor.Actor.{Actor}
use Rattle.write_history.specs.declared.actor.Actor.TheVariants.{Lane, Writer, Advance, Idle}
use Rattle.write_history.specs.declared.mark.Mark.{Mark}
use Rattle.write_history.specs.declared.mark.Mark.TheVariants.{Clean, Fault, FaultAfter}
use Rattle.write_history.specs.declared.move_item.Move.{Move}
use Rattle.writer_calls.specs.declared.answer.Answer.{Answer}
use Rattle.writer_calls.specs.Script.{scripted_answer}
use Rattle.set_agenda.specs.Course.{sent}
use Rattle.scenario.specs.Plan.{Plan, LaneLine, lines_of, script_of}
use Rattle.vss_model.specs.declared.event.Event.{Event}
use Rattle.vss_model.specs.declared.event.Event.TheVariants.{Line, Answer as AnswerEvent, Provider, Idle as IdleEvent}
use Rattle.vss_model.specs.State.{State, start}
use Rattle.vss_model.specs.Steps.{runs}
use Rattle.vss_model.specs.Acts.{Act, after, enabled, event_allows, order_of_writer}

-- where a run stands: its state, and the moves so far
pub record Run : Type 0 where
  pub state : State
  pub moves : List Move

abbrev pub begin : Plan → Run
begin s = record { state = start s; moves = [] }

-- ## the act of a move

abbrev pub is_lane : ℕ → Actor → Bool
is_lane i (Lane j) = j == i
is_lane i (Writer j) = false
is_lane i Advance = false
is_lane i Idle = false

-- how many moves a lane has made
abbrev pub cursor : List Move → ℕ → ℕ
cursor moves i = count_by (λ m. is_lane i m.actor) moves

-- the next line of a lane
abbrev pub next_line : Plan → Run → ℕ → Option LaneLine
next_line s r i = slice_get (lines_of s i) (cursor r.moves i)

abbrev pub line_event : ℕ → Option LaneLine → Option Event
line_event i None = None
line_event i (Some l) = Some (Line i l.op)

abbrev pub answer_event : ℕ → Option Answer → Option Event
answer_event w None = None
answer_event w (Some a) = Some (AnswerEvent w a)

-- the scripted answer of a writer to the order that it has open; none for a lost one
abbrev pub script_event : Plan → State → ℕ → Option Order → Option Event
script_event s st w None = None
script_event s st w (Some o) = answer_event w (scripted_answer (script_of s w) o (sent st.course w o))

-- the event that an actor's move is; none where a lane is used up, or a writer has nothing to answer or never answers
abbrev pub event_of : Plan → Run → Actor → Option Event
event_of s r (Lane i) = line_event i (next_line s r i)
event_of s r (Writer w) = script_event s r.state w (order_of_writer r.state w)
event_of s r Advance = Some Provider
event_of s r Idle = Some IdleEvent

abbrev pub act_of : Mark → Event → Act
act_of mark event = record { event = event; mark = mark }

abbrev pub acts_if : Option Event → Mark → List Act
acts_if None mark = []
acts_if (Some event) mark = act_of mark event ∷ []

abbrev pub after_event : Plan → State → Option Event → Mark → State
after_event s st None mark = st
after_event s st (Some event) mark = after s st (act_of mark event)

abbrev pub moved : Plan → Run → Move → Run
moved s r m = record { state = after_event s r.state (event_of s r m.actor) m.mark; moves = r.moves ++ m ∷ [] }

abbrev pub run_from : Plan → Run → List Move → Run
run_from s r ms = fold (moved s) r ms

-- after a whole trail
abbrev pub run : Plan → List Move → Run
run s trail = run_from s (begin s) trail

abbrev pub acts_from : Plan → Run → List Move → List Act
acts_from s r [] = []
acts_from s r (m ∷ ms) = acts_if (event_of s r m.actor) m.mark ++ acts_from s (moved s r m) ms

-- the acts of a trail
abbrev pub acts : Plan → List Move → List Act
acts s trail = acts_from s (begin s) trail

-- ## legal

abbrev pub event_enabled : Plan → Run → Option Event → Bool
event_enabled s r None = false
event_enabled s r (Some event) = enabled s r.state event

-- an actor has an act, and it is enabled
abbrev pub can_act : Plan → Run → Actor → Bool
can_act s r actor = event_enabled s r (event_of s r actor)

-- no lane, no writer and not the provider can act
abbrev pub none_can_act : Plan → Run → Bool
none_can_act s r =
    list_all (λ i. not (can_act s r (Lane i))) (range_with_len 0 (length s.lanes))
    && list_all (λ w. not (can_act s r (Writer w))) (range_with_len 0 (length s.writers))
    && not (can_act s r Advance)

-- the move of an actor may come: its act is enabled, and time passes idly only where nothing else can act
abbrev pub may_move : Plan → Run → Actor → Bool
may_move s r (Lane i) = can_act s r (Lane i)
may_move s r (Writer w) = can_act s r (Writer w)
may_move s r Advance = can_act s r Advance
may_move s r Idle = can_act s r Idle && none_can_act s r

abbrev pub allows : Plan → Run → Option Event → Mark → Bool
allows s r None mark = false
allows s r (Some event) mark = event_allows s r.state event mark

abbrev pub is_legal_move : Plan → Run → Move → Bool
is_legal_move s r m = may_move s r m.actor && allows s r (event_of s r m.actor) m.mark

abbrev pub is_legal_from : Plan → Run → List Move → Bool
is_legal_from s r [] = true
is_legal_from s r (m ∷ ms) = is_legal_move s r m && is_legal_from s (moved s r m) ms

abbrev pub is_legal : Plan → List Move → Bool
is_legal s trail = is_legal_from s (begin s) trail

-- ## complete

abbrev pub is_used_up : Plan → Run → ℕ → Bool
is_used_up s r i = is_none (next_line s r i)

-- each lane is used up, and no agenda runs
abbrev pub is_over : Plan → Run → Bool
is_over s r = list_all (is_used_up s r) (range_with_len 0 (length s.lanes)) && not (runs r.state)

abbrev pub is_complete : Plan → List Move → Bool
is_complete s trail = is_over s (run s trail)

-- ## faults

abbrev pub is_fault : Mark → Bool
is_fault Clean = false
is_fault Fault = true
is_fault (FaultAfter k) = true

-- how many moves have a fault mark
abbrev pub faults : List Move → ℕ
faults trail = count_by (λ m. is_fault m.mark) trail

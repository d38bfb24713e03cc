-- Acts: what may happen in a state, what an act is answered, and the state after it: that before it with the changes of
-- the act. (This project's own.)
use Rattle.std.specs.Prelude.{ℕ, Bool, true, false, List, [], fold, length, nat_lt, ◌&&◌, not, Option, Some, None, is_some, is_none, if◌then◌else◌}
use Rattle.vss_names.specs.declared.order.Order.{Order}
use Rattle.write_history.specs.declared.mark.Mark.{Mark}
use Rattle.write_history.specs.declared.mark.Mark.TheVariants.{Clean, Fault, FaultAfter}
use Rattle.write_history.specs.History.{to_restore}
use Rattle.writer_calls.specs.declared.answer.Answer.{Answer}
use Rattle.set_agenda.specs.declared.group.Group.{Group}
use Rattle.set_agenda.specs.Agenda.{open_group, next_volume, open_order, is_asking, is_working}
use Rattle.set_agenda.specs.Course.{idle_ticks}
use Rattle.requestor.specs.declared.verdict.Verdict.{Verdict}
use Rattle.requestor.specs.declared.verdict.Verdict.TheVariants.{Go, Blocked, Refused}
use Rattle.requestor.specs.declared.session_call.SessionCall.{SessionCall}
use Rattle.requestor.specs.Check.{check}
use Rattle.scenario.specs.declared.line.Line.{Line as Does}
use Rattle.scenario.specs.declared.line.Line.TheVariants.{Writes, Reads, ShowsImage, ShowsBlock, Reverts, Calls}
use Rattle.scenario.specs.declared.op.Op.{Op}
use Rattle.scenario.specs.Calls.{line_of}
use Rattle.scenario.specs.Plan.{Plan, acts_as, blocks_of}
use Rattle.vss_model.specs.declared.event.Event.{Event}
use Rattle.vss_model.specs.declared.event.Event.TheVariants.{Line, Answer as AnswerEvent, Provider, Idle}
use Rattle.vss_model.specs.Reply.{Reply, Fine, Answered, Stepped, Idled, leaves_all}
use Rattle.vss_model.specs.State.{State, Kept, start, left_now, is_held, is_frozen, history_of, kept_image}
use Rattle.vss_model.specs.Steps.{runs, is_flush, is_failed_step}
use Rattle.vss_model.specs.Images.{revert_refusal}
use Rattle.vss_model.specs.Lines.{line_reply}
use Rattle.vss_model.specs.Changes.{Change, after_changes, event_changes}

-- an event, and whether a device failed in it
pub record Act : Type 0 where
  pub event : Event
  pub mark : Mark

-- ## enabled

-- a write waits while its volume is held, or while the lane acts as a writer that stands frozen
abbrev pub is_free : State → Option ℕ → Bool
is_free st None = true
is_free st (Some w) = not (is_frozen st w)

abbrev pub may_write : Plan → State → ℕ → ℕ → Bool
may_write s st lane v = not (is_held st v) && is_free st (acts_as s lane)

abbrev pub is_blocked : Verdict → Bool
is_blocked Go = false
is_blocked Blocked = true
is_blocked (Refused why) = false

abbrev pub may_call : State → ℕ → Option SessionCall → Bool
may_call st lane None = true
may_call st lane (Some call) = not (is_blocked (check st.session (runs st) lane call))

abbrev pub may_do : Plan → State → ℕ → Does → Bool
may_do s st lane (Writes v b payload) = may_write s st lane v
may_do s st lane (Calls c) = may_call st lane (Some c)
may_do s st lane _ = true

abbrev pub line_enabled : Plan → State → ℕ → Op → Bool
line_enabled s st lane op = may_do s st lane (line_of op)

-- the order that a writer has to answer
abbrev pub order_of_writer : State → ℕ → Option Order
order_of_writer st w = open_order (left_now st) w

abbrev pub enabled : Plan → State → Event → Bool
enabled s st (Line lane op) = line_enabled s st lane op
enabled s st (AnswerEvent w answer) = is_some (order_of_writer st w)
enabled s st Provider = is_working (left_now st)
enabled s st Idle = is_asking (left_now st)

-- ## what an event comes to

abbrev pub answer_reply : Option Order → Answer → Reply
answer_reply None answer = Fine
answer_reply (Some o) answer = Answered o answer

abbrev pub step_reply : Option Group → Option ℕ → Mark → Reply
step_reply None v mark = Fine
step_reply (Some g) v mark = Stepped g v (is_failed_step (is_flush (Some g)) mark)

-- the ticks of an idle stretch
abbrev pub idle_now : State → ℕ
idle_now st = idle_ticks st.clock st.course

abbrev pub event_reply : Plan → State → Event → Mark → Reply
event_reply s st (Line lane op) mark = line_reply s lane op mark st
event_reply s st (AnswerEvent w answer) mark = answer_reply (order_of_writer st w) answer
event_reply s st Provider mark = step_reply (open_group (left_now st)) (next_volume (left_now st)) mark
event_reply s st Idle mark = Idled (idle_now st)

-- what an act is answered
abbrev pub reply : Plan → State → Act → Reply
reply s st act = event_reply s st act.event act.mark

-- an act that is not enabled, is refused, or only looks has no changes
abbrev pub changes : Plan → State → Act → List Change
changes s st act = if enabled s st act.event && not (leaves_all (reply s st act)) then event_changes s st act.event act.mark else []

-- the state after an act
unfoldable pub after : Plan → State → Act → State
after s st act = after_changes st (changes s st act)

-- the state after a list of acts, the oldest first
abbrev pub state : Plan → List Act → State
state s acts = fold (after s) (start s) acts

-- ## marks

abbrev pub restorable : Plan → State → ℕ → Option Kept → ℕ
restorable s st v None = 0
restorable s st v (Some k) = length (to_restore (blocks_of s v) (history_of st v).writes k.point)

-- a revert that is not refused may stop after fewer blocks than it has to restore
abbrev pub may_stop_after : Plan → State → ℕ → Option Kept → ℕ → Bool
may_stop_after s st v kept k = is_none (revert_refusal v kept st) && nat_lt k (restorable s st v kept)

-- of an enabled event
abbrev pub allows_by : Plan → State → Does → Mark → Bool
allows_by s st l Clean = true
allows_by s st (Writes v b payload) Fault = true
allows_by s st (Reads v b) Fault = true
allows_by s st (ShowsImage n v) Fault = is_some (kept_image st n v)
allows_by s st (ShowsBlock n v b) Fault = is_some (kept_image st n v)
allows_by s st l Fault = false
allows_by s st (Reverts n v) (FaultAfter k) = may_stop_after s st v (kept_image st n v) k
allows_by s st l (FaultAfter k) = false

abbrev pub line_allows : Plan → State → Op → Mark → Bool
line_allows s st op mark = allows_by s st (line_of op) mark

abbrev pub flush_allows : Bool → Mark → Bool
flush_allows flushes Clean = true
flush_allows flushes Fault = flushes
flush_allows flushes (FaultAfter k) = false

abbrev pub event_allows : Plan → State → Event → Mark → Bool
event_allows s st (Line lane op) mark = line_allows s st op mark
event_allows s st (AnswerEvent w answer) mark = flush_allows false mark
event_allows s st Provider mark = flush_allows (is_flush (open_group (left_now st))) mark
event_allows s st Idle mark = flush_allows false mark

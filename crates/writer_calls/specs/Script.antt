-- A writer's script: what it answers to the nth order of a kind. Where no row speaks of an order it answers ok; where
-- its row has no answer, the answer is lost. (This project's own.)
use Rattle.std.specs.Prelude.{ℕ, Bool, List, ◌==◌, ◌&&◌, find, Option, Some, None}
use Rattle.vss_names.specs.declared.order.Order.{Order}
use Rattle.writer_state.specs.declared.said.Said.{Said}
use Rattle.writer_state.specs.declared.said.Said.TheVariants.{Ok as SaidOk, Veto as SaidVeto}
use Rattle.set_agenda.specs.Agenda.{same_order}
use Rattle.writer_calls.specs.declared.answer.Answer.{Answer}
use Rattle.writer_calls.specs.declared.answer.Answer.TheVariants.{Ok, Veto}
use Rattle.writer_calls.specs.declared.scripted.Scripted.{Scripted}

-- an answer, as the log has it
abbrev pub said_of : Answer → Said
said_of Ok = SaidOk
said_of (Veto e) = SaidVeto e

abbrev pub answer_in : Option Scripted → Option Answer
answer_in None = Some Ok
answer_in (Some r) = r.answer

-- whether a row speaks of the nth order of a kind
abbrev pub is_row_for : Order → ℕ → Scripted → Bool
is_row_for o nth r = same_order r.order o && (r.nth == nth)

-- the first row of that order and nth decides
abbrev pub scripted_answer : List Scripted → Order → ℕ → Option Answer
scripted_answer rows o nth = answer_in (find (is_row_for o nth) rows)

-- a writer with a script, and the number of aborts that it was told of
pub record ScriptState : Type 0 where
  pub rows : List Scripted
  pub aborts : ℕ

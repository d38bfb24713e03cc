use Rattle.turn_cell.specs.Callers.{Calls}
use Rattle.trials.proofs.in_threads.turns.call_often.Given as goal

abbrev pub invariant-loop : goal.invariant-loop
invariant-loop g l = Calls l.caller l.turn

use Rattle.std.proofs.Common.{◌≡◌, ◌++◌, false, map, vec_len}
use Rattle.std.specs.List.{All}
use Rattle.turn_cell.specs.Rule.{knowns, tickets, is_out}
use Rattle.turn_cell.specs.Callers.{standing}
use Rattle.turn_cell.proofs.seating.gather.Given as goal

abbrev pub invariant-loop-caller : goal.invariant-loop-caller
invariant-loop-caller g l =
    (l.seat.table_id ≡ l.fn.table.shared.table_id) × (tickets l.seat.me.0 ≡ 0) × (is_out l.seat.me.0 ≡ false) × (map standing l.callers.items ++ knowns l.seat.me.0 ≡ map standing l.fn.callers.items)
    × All (λ caller. caller.seat.table_id ≡ l.fn.table.shared.table_id) l.callers.items

abbrev pub decreases-loop-caller : goal.decreases-loop-caller
decreases-loop-caller g l = vec_len l.callers

use Rattle.std.proofs.Common.{◌≡◌, [], vec_len, vec_capacity}
use Rattle.turn_cell.specs.declared.view.View.TheVariants.{Maker}
use Rattle.turn_cell.specs.Callers.{AreNew}
use Rattle.turn_cell.proofs.seating.fill.Given as goal

abbrev pub invariant-loop-number : goal.invariant-loop-number
invariant-loop-number g l =
    (l.maker.table_id ≡ l.initial.maker.table_id) × (l.maker.me ≡ (Maker l.number, [])) × (vec_len l.callers ≡ l.number) × (vec_capacity l.callers ≡ vec_capacity l.initial.callers)
    × AreNew (λ caller. caller.seat.table_id ≡ l.fn.table.shared.table_id) l.callers.items

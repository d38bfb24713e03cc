use Rattle.std.proofs.Common.{rules, arith, ◌∙◌, ap}
use Rattle.turn_cell.proofs.Callers.{makes_one}
use Rattle.turn_cell.proofs.seating.fill.Goals as goal

pub split_seat-seat-requires : goal.split_seat-seat-requires
split_seat-seat-requires g c =
    (c.loop-number.invariant.0 ∙ c.requires.table.0, search rules, makes_one _ _ _ _ c.loop-number.number _ (ap (λ (m : _). m.0) c.loop-number.invariant.1) (omega (arith, c.requires.table.2)))

use Rattle.std.proofs.Common.{rules, ap}
use Rattle.turn_cell.proofs.SeatSteps.{looks}
use Rattle.turn_cell.proofs.turn.Turn.front.Goals as goal

pub load-requires : goal.load-requires
load-requires g c = (c.requires, search rules, looks _ _ _ _ _ _ (ap (λ (m : _). m.0) c.args.caller.now.idle))

use Rattle.turn_cell.proofs.SeatSteps.{rings}
use Rattle.turn_cell.proofs.turn.Turn.ring.Goals as goal

pub fetch_add-requires : goal.fetch_add-requires
fetch_add-requires g c = (c.requires.turn, c.bell-bell.ensures.1, rings _ _ _ _ _ _ _ c.bell-bell.ensures.0 c.requires.idle)

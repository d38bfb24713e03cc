use Rattle.std.proofs.Common.{◌-◌, length}
use Rattle.vss_model.specs.Turns.{most_moves}
use Rattle.orders.specs.Drawn.{IsDrawing}
use Rattle.orders.proofs.drawing.play_drawn.Given as goal

abbrev pub invariant-moves : goal.invariant-moves
invariant-moves g l = IsDrawing g.D.Device l.fn.number l.generator l.fn.play l.play

abbrev pub decreases-moves : goal.decreases-moves
decreases-moves g l = most_moves - length l.play.trail

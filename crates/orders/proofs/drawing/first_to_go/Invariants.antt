use Rattle.std.proofs.Common.{take}
use Rattle.orders.proofs.Goers.{AreStaying}
use Rattle.orders.proofs.drawing.first_to_go.Given as goal

abbrev pub invariant-loop-actor : goal.invariant-loop-actor
invariant-loop-actor g l = AreStaying l.fn.play l.play (take l.actor-index l.actors)

use Rattle.std.proofs.Common.{take}
use Rattle.orders.specs.Again.{IsFollowedFar}
use Rattle.orders.proofs.following.follow_far.Given as goal

abbrev pub invariant-loop-item : goal.invariant-loop-item
invariant-loop-item g l = IsFollowedFar g.D.Device l.fn.play l.play (take l.item-index l.moves)

use Rattle.std.proofs.Common.{◌≡◌, take}
use Rattle.orders.specs.Again.{without_marks}
use Rattle.orders.proofs.telling.unmarked.Given as goal

abbrev pub invariant-loop-item : goal.invariant-loop-item
invariant-loop-item l = l.clean.items ≡ without_marks (take l.item-index l.moves)

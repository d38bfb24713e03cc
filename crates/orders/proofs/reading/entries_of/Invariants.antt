use Rattle.std.proofs.Common.{◌≡◌, take}
use Rattle.orders.specs.Order.{entries_from}
use Rattle.orders.proofs.reading.entries_of.Given as goal

abbrev pub invariant-loop-item : goal.invariant-loop-item
invariant-loop-item l = (l.entries.items ≡ entries_from 1 (take l.item-index l.moves)) × (l.place ≡ l.item-index)

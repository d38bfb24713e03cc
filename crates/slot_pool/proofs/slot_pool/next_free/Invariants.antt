use Rattle.std.proofs.Common.{◌-◌, length}
use Rattle.slot_pool.specs.Slots.{AllTakenBelow, MayBeFree}
use Rattle.slot_pool.proofs.slot_pool.next_free.Given as goal

abbrev pub invariant-places : goal.invariant-places
invariant-places l = AllTakenBelow l.is_free l.at × MayBeFree l.is_free l.runs.items

abbrev pub decreases-places : goal.decreases-places
decreases-places l = length l.is_free - l.at

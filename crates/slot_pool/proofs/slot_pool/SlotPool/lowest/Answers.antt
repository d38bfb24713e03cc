use Rattle.std.proofs.Common.{arith}
use Rattle.slot_pool.proofs.FreeSlots.{lowest_within, lowest_is}
use Rattle.slot_pool.proofs.slot_pool.SlotPool.lowest.Goals as goal

pub overflow_cast-result : goal.overflow_cast-result
overflow_cast-result c =
    let some = c.if-self-eq0.false in
    let inside = lowest_within _ _ _ _ c.self.invariant (omega arith) in
    let narrow = c.self.invariant.narrow in
    omega arith

pub returns-clause-lowest : goal.returns-clause-lowest
returns-clause-lowest c = let some = c.if-self-eq0.false in rw (← c.self.view_is) (lowest_is _ _ _ _ c.self.invariant (omega arith))

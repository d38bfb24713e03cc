use Rattle.std.proofs.Common.{arith}
use Rattle.slot_pool.proofs.FreeSlots.{lowest_within, lowest_is, KeepsPool-taken}
use Rattle.slot_pool.proofs.slot_pool.SlotPool.take.Goals as goal

pub index_mut-requires : goal.index_mut-requires
index_mut-requires c =
    let some = c.if-self-eq0.false in
    let inside = lowest_within c.self.inside.is_free.items c.self.inside.runs.items c.self.inside.lowest c.self.inside.free c.self.invariant (omega arith) in
    omega arith

pub overflow_cast-result : goal.overflow_cast-result
overflow_cast-result c =
    let some = c.if-self-eq0.false in
    let inside = lowest_within c.self.inside.is_free.items c.self.inside.runs.items c.self.inside.lowest c.self.inside.free c.self.invariant (omega arith) in
    let narrow = c.self.invariant.narrow in
    omega arith

pub invariant_of-self : goal.invariant_of-self
invariant_of-self c =
    let some = c.if-self-eq0.false in
    KeepsPool-taken _ _ _ _ _ _ c.self.invariant (omega arith) (rw c.deref.ensures.value at c.next_free-self-inside.ensures.first) (rw c.deref.ensures.value at c.next_free-self-inside.ensures.runs)

pub returns-clause-lowest : goal.returns-clause-lowest
returns-clause-lowest c = let some = c.if-self-eq0.false in rw (← c.self.view_is) (lowest_is _ _ _ _ c.self.invariant (omega arith))

use Rattle.std.proofs.Common.{inl, inr, arith}
use Rattle.std.proofs.lemmas.Bool.{cases_lt}
use Rattle.slot_pool.proofs.FreeSlots.{one_more_fits, KeepsPool-given}
use Rattle.slot_pool.proofs.slot_pool.SlotPool.give.Goals as goal

pub overflow_add-self : goal.overflow_add-self
overflow_add-self c =
    let fits = one_more_fits c.self.inside.is_free.items c.args.slot (rw (← c.self.view_is) at c.requires) in
    let count = c.self.invariant.count in
    let narrow = c.self.invariant.narrow in
    omega arith

pub invariant_of-self : goal.invariant_of-self
invariant_of-self c =
    let least = c.min-self-inside.ensures in
    KeepsPool-given _ _ _ _ _ _ c.self.invariant (rw (← c.self.view_is) at c.requires) (omega arith) (omega arith)
    (elim (cases_lt c.args.slot c.self.inside.lowest) [ inl less ↦ inr (omega arith) | inr more ↦ inl (omega arith) ])

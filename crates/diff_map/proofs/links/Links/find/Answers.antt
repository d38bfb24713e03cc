use Rattle.std.proofs.Common.{refl, arith}
use Rattle.diff_map.proofs.LinkedCopies.{found_from, none_from, absent_past}
use Rattle.diff_map.proofs.links.Links.find.Goals as goal

pub returns-then-block-len-clause-none : goal.returns-then-block-len-clause-none
returns-then-block-len-clause-none c =
    let len = c.len.ensures in
    let past = c.if-block-len.true in
    rw (← c.self.view_is) (λ _. absent_past c.self.inside.newest.items c.self.inside.rows.items c.args.set c.args.block c.self.invariant (omega arith), λ _. refl)

pub returns-clause-found : goal.returns-clause-found
returns-clause-found c =
    let next = rw c.deref-2.ensures.value at c.next_above.ensures in
    rw (← c.self.view_is) (found_from c.self.inside.rows.items c.args.set c.saturating_sub.result c.args.block c.next_above.result c.saturating_sub.ensures next)

pub returns-clause-none : goal.returns-clause-none
returns-clause-none c =
    let next = rw c.deref-2.ensures.value at c.next_above.ensures in
    rw (← c.self.view_is)
    (none_from c.self.inside.newest.items c.self.inside.rows.items c.args.set c.saturating_sub.result c.args.block c.next_above.result c.self.invariant c.saturating_sub.ensures next)

use Rattle.std.proofs.Common.{◌≡◌, ◌∙◌, arith, drop, false, rules, sym, true}
use Rattle.component_doc.specs.Over.{is_before_next}
use Rattle.component_doc.proofs.Order.{ascending-on, not-ascending}
use Rattle.component_doc.proofs.pairs.are_ascending.Goals as goal

pub returns-then-not-is_before_next : goal.returns-then-not-is_before_next
returns-then-not-is_before_next c =
    let l = c.loop-i in
    let apart : is_before_next (drop l.i c.args.pairs.now) ≡ false = search rules in
    sym (l.invariant ∙ not-ascending (drop l.i c.args.pairs.now) apart)

pub loop-i-preserved : goal.loop-i-preserved
loop-i-preserved c =
    let l = c.loop-i in
    let next : is_before_next (drop l.i c.args.pairs.now) ≡ true = search rules in
    l.invariant ∙ ascending-on c.args.pairs.now l.i (omega arith) next

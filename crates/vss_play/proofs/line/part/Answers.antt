use Rattle.std.proofs.Common.{◌∙◌}
use Rattle.std.proofs.lemmas.List.Sorted.{IsPermutation-trans}
use Rattle.vss_play.proofs.line.part.Goals as goal

pub loop-at-preserved : goal.loop-at-preserved
loop-at-preserved c =
    let i = c.loop-at.invariant in
    let p = c.put_before-first.ensures in
    (IsPermutation-trans _ _ _ i.0 p.all, p.space ∙ i.1, p.many ∙ i.2, p.next)

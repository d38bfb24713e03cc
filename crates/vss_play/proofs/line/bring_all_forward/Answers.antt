use Rattle.std.proofs.Common.{◌∙◌}
use Rattle.std.proofs.lemmas.List.Sorted.{IsPermutation-trans}
use Rattle.vss_play.proofs.line.bring_all_forward.Goals as goal

pub loop-one-preserved : goal.loop-one-preserved
loop-one-preserved c =
    let i = c.loop-one.invariant in
    let b = c.bring_forward.ensures in
    (IsPermutation-trans _ _ _ i.0 b.all, b.space ∙ i.1, b.many ∙ i.2)

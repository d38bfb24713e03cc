use Rattle.std.proofs.Common.{◌∙◌, Some, ap}
use Rattle.mirror_volume.proofs.Keeping.{at_place}
use Rattle.mirror_volume.proofs.Counts.{keeps_unmarked}
use Rattle.mirror_volume.proofs.stale_blocks.StaleBlocks.unmark.Goals as goal

pub invariant_of-self : goal.invariant_of-self
invariant_of-self c =
    let within = rw (← c.self.view_is) at c.requires in
    let at = at_place c.self.inside.stale.items c.args.block c.index.result.now within c.index.ensures ∙ ap Some c.if-not-index.false in
    keeps_unmarked c.self.inside.stale.items c.self.inside.queue c.self.inside.count c.args.block c.self.invariant at

use Rattle.std.proofs.Common.{◌<◌, ◌∙◌, Some, ap, arith, length}
use Rattle.std.proofs.lemmas.Grind.{common_steps}
use Rattle.mirror_volume.proofs.Keeping.{at_place}
use Rattle.mirror_volume.proofs.Counts.{count_few, keeps_marked, keeps_queued, is_taken_of, is_free_of}
use Rattle.mirror_volume.proofs.stale_blocks.StaleBlocks.mark.Goals as goal

pub overflow_add-self : goal.overflow_add-self
overflow_add-self c =
    let within = rw (← c.self.view_is) at c.requires in
    let at = at_place c.self.inside.stale.items c.args.block c.index.result.now within c.index.ensures ∙ ap Some c.if-index.false in
    let few = count_few c.self.inside.stale.items c.args.block at in let narrow = c.self.invariant.narrow in let is = c.self.invariant.is_count in
    grind (arith, common_steps)

pub invariant_of-self : goal.invariant_of-self
invariant_of-self c =
    let within = rw (← c.self.view_is) at c.requires in
    let at = at_place c.self.inside.stale.items c.args.block c.index.result.now within c.index.ensures ∙ ap Some c.if-index.false in
    rw c.give.ensures (keeps_queued c.self.inside.stale.items c.self.inside.queue c.self.inside.count c.args.block c.self.invariant at
    (is_taken_of c.is_taken.result c.self.inside.queue c.args.block c.is_taken.ensures c.if-is_taken.true))

pub invariant_of-self-else-is_taken : goal.invariant_of-self-else-is_taken
invariant_of-self-else-is_taken c =
    let within = rw (← c.self.view_is) at c.requires in
    let at = at_place c.self.inside.stale.items c.args.block c.index.result.now within c.index.ensures ∙ ap Some c.if-index.false in
    let low : c.args.block < length c.self.inside.queue = omega arith in
    keeps_marked c.self.inside.stale.items c.self.inside.queue c.self.inside.count c.args.block c.self.invariant at
    (is_free_of c.is_taken.result c.self.inside.queue c.args.block c.is_taken.ensures low c.if-is_taken.false)

use Rattle.std.proofs.Common.{◌+◌, refl, get_or, sym, subst, take}
use Rattle.diff_map.proofs.GroupBegun.{AreBegun, AreBegun-none, AreBegun-one, KeepsGroup-begun}
use Rattle.diff_map.proofs.group_map.GroupMap.new.Goals as goal

pub loop-count-init : goal.loop-count-init
loop-count-init c = subst (AreBegun 0 c.args.slots _) (sym c.in_ok-volumes.ensures.items) (AreBegun-none c.args.slots)

pub loop-count-preserved : goal.loop-count-preserved
loop-count-preserved c =
    let sum = c.in-Some.ensures in
    subst (λ b. AreBegun b c.args.slots (take (c.loop-count.count-index + 1) c.args.blocks.now) c.push.new.self.items) (sym sum.1)
    (AreBegun-one c.loop-count.base (get_or c.args.blocks.now c.loop-count.count-index 0) c.args.slots c.loop-count.count-index c.args.blocks.now c.loop-count.volumes.items c.push.new.self.items
    c.in_ok-volume.volume c.loop-count.invariant c.in_ok-volume.ensures sum.0 c.loop-count-test.true refl c.in_ok-push.ensures.items)

pub invariant_of-result : goal.invariant_of-result
invariant_of-result c = rw c.in_ok-new.ensures
    (KeepsGroup-begun c.loop-count.base c.args.slots _ c.loop-count.volumes.items c.in_ok-vec.field-0.items c.loop-count.invariant (c.in_ok-vec.ensures.items_if_clones_equal (λ y h. h)))

use Rattle.std.proofs.Common.{◌≡◌, replicate, rules}
use Rattle.mirror_volume.proofs.Counts.{keeps_of}
use Rattle.mirror_volume.proofs.stale_blocks.StaleBlocks.new.Goals as goal

pub invariant_of-result : goal.invariant_of-result
invariant_of-result c =
    let all : c.in_ok-marks.marks.items ≡ replicate c.args.blocks c.args.stale = search rules in
    rw all (rw (c.in_ok-queue.ensures, c.count_at_first-count.ensures) (keeps_of c.args.stale c.args.blocks c.ranges.blocks.fits))

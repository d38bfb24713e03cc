use Rattle.std.proofs.Common.{length}
use Rattle.cow_volume.specs.CopiesAfter.{images_on}
use Rattle.cow_volume.proofs.NewerMerged.{IsMerging}
use Rattle.cow_volume.proofs.reverts.drop_newer.Given as goal

-- some images that are newer than that of the set went
abbrev pub invariant-loop-newest : goal.invariant-loop-newest
invariant-loop-newest g l = IsMerging g.D.Device.told l.fn.copies l.copies l.v l.set

abbrev pub decreases-loop-newest : goal.decreases-loop-newest
decreases-loop-newest g l = length (images_on l.copies l.v)

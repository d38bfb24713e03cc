use Rattle.cow_volume.specs.Calls.{counted_as}
use Rattle.provider.proofs.Kept.{HasHashed}
use Rattle.provider.proofs.hashing.digest_of.Given as goal

abbrev pub invariant-loop-block : goal.invariant-loop-block
invariant-loop-block g l =
    HasHashed (counted_as g.D.Device g.R.Reads.shared) (g.R.Reads.group l.initial.reader) (g.R.Reads.group l.reader) l.volume l.set l.block l.hasher

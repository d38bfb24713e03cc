use Rattle.cow_volume.proofs.Listed.{IsNextBelow}
use Rattle.cow_volume.proofs.listing.next_set.Given as goal

-- the least of the volumes so far
abbrev pub invariant-loop-v : goal.invariant-loop-v
invariant-loop-v g l = IsNextBelow l.copies.images l.above l.up_to l.next l.v

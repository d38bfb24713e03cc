use Rattle.std.proofs.Common.{◌≡◌}
use Rattle.cow_volume.proofs.RecordCounts.{part_gone}
use Rattle.cow_volume.proofs.copies.Copies.drop_up_to.Given as goal

-- the images are gone from the volumes so far
abbrev pub invariant-loop-v : goal.invariant-loop-v
invariant-loop-v g l = l.self ≡ part_gone l.fn.self l.v l.set

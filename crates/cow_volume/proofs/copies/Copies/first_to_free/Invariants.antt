use Rattle.cow_volume.specs.CopiesAfter.{images_on}
use Rattle.cow_volume.proofs.MakingRoom.{IsLeastSoFar}
use Rattle.cow_volume.proofs.copies.Copies.first_to_free.Given as goal

-- the least set of the volumes so far
abbrev pub invariant-loop-u : goal.invariant-loop-u
invariant-loop-u g l = IsLeastSoFar l.self.area.records (images_on l.self l.v) l.least l.u

use Rattle.std.proofs.Common.{length}
use Rattle.cow_volume.specs.Resuming.{AreTakenUp, so_far}
use Rattle.cow_volume.proofs.resuming.maps_of.Given as goal

-- the volumes so far have their images
abbrev pub invariant-loop-v : goal.invariant-loop-v
invariant-loop-v g l = AreTakenUp l.area.volumes l.area.records (so_far l.v l.images) 0 (length l.area.volumes) l.maps

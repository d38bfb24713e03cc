use Rattle.std.proofs.Common.{◌≡◌, take}
use Rattle.std.specs.Prelude.{slice_set}
use Rattle.diff_map.specs.Groups.{map_at, with_images}
use Rattle.cow_volume.proofs.resuming.add_images.Given as goal

-- the volume has the images so far
abbrev pub invariant-loop-set : goal.invariant-loop-set
invariant-loop-set l = l.maps ≡ slice_set l.fn.maps l.v (with_images (take l.set-index l.sets) (map_at l.fn.maps l.v))

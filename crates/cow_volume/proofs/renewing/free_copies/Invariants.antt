use Rattle.diff_map.specs.Counts.{used_for}
use Rattle.diff_map.specs.Groups.{map_at}
use Rattle.cow_volume.proofs.Following.{FreesCopies}
use Rattle.cow_volume.proofs.renewing.free_copies.Given as goal

abbrev pub invariant-loop-i : goal.invariant-loop-i
invariant-loop-i g l = FreesCopies l.v l.going l.i l.fn.area l.area l.fn.maps l.maps l.fn.pool l.pool

abbrev pub invariant-copies : goal.invariant-copies
invariant-copies g l = FreesCopies l.v l.going l.i l.fn.area l.area l.fn.maps l.maps l.fn.pool l.pool

abbrev pub decreases-copies : goal.decreases-copies
decreases-copies g l = used_for (map_at l.maps l.v).copies l.image

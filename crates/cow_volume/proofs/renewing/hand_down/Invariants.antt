use Rattle.std.proofs.Common.{◌-◌, get_or}
use Rattle.diff_map.specs.Counts.{used_for}
use Rattle.diff_map.specs.Groups.{map_at}
use Rattle.cow_volume.proofs.Following.{HandsDown}
use Rattle.cow_volume.proofs.renewing.hand_down.Given as goal

abbrev pub invariant-copies : goal.invariant-copies
invariant-copies g l = HandsDown l.v (get_or (map_at l.fn.maps l.v).images (l.at - 1) 0) (get_or (map_at l.fn.maps l.v).images l.at 0) l.fn.area l.area l.fn.maps l.maps l.fn.pool l.pool

abbrev pub decreases-copies : goal.decreases-copies
decreases-copies g l = used_for (map_at l.maps l.v).copies (get_or (map_at l.fn.maps l.v).images l.at 0)

use Rattle.diff_map.specs.Counts.{used_for}
use Rattle.diff_map.proofs.Renewing.{FreesMapUpTo}
use Rattle.diff_map.proofs.diff_map.DiffMap.free.Given as goal

abbrev pub invariant-loop-i : goal.invariant-loop-i
invariant-loop-i l = FreesMapUpTo l.going l.i l.fn.self l.self l.fn.pool l.pool

abbrev pub invariant-copies : goal.invariant-copies
invariant-copies l = FreesMapUpTo l.going l.i l.fn.self l.self l.fn.pool l.pool

abbrev pub decreases-copies : goal.decreases-copies
decreases-copies l = used_for l.self.copies l.image

use Rattle.std.proofs.Common.{◌≡◌, take}
use Rattle.diff_map.specs.Rules.{next_older}
use Rattle.diff_map.proofs.index.next_older.Given as goal

abbrev pub invariant-loop-image : goal.invariant-loop-image
invariant-loop-image l = l.older ≡ next_older (take l.image-index l.images) l.set

use Rattle.std.proofs.Common.{◌≡◌, drop}
use Rattle.std.specs.Vec.{vec_capacity}
use Rattle.diff_map.proofs.counts.drop_first.Given as goal

abbrev pub invariant-loop-i : goal.invariant-loop-i
invariant-loop-i g l = (l.items.items ≡ drop l._i l.fn.items.items) × (vec_capacity l.items ≡ vec_capacity l.fn.items)

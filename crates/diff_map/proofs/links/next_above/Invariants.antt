use Rattle.std.proofs.Common.{◌^◌}
use Rattle.diff_map.specs.Links.{row_at, IsBetween}
use Rattle.diff_map.proofs.links.next_above.Given as goal

abbrev pub invariant-chain : goal.invariant-chain
invariant-chain l = IsBetween l.rows l.block l.low (2 ^ 32) l.at

abbrev pub decreases-chain : goal.decreases-chain
decreases-chain l = (row_at l.rows l.at).set

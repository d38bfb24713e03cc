use Rattle.std.proofs.Common.{ℕ, ◌<◌}
use Rattle.vss_shards.specs.OneMoment.{IsPart}
use Rattle.vss_shards.proofs.gathering.gather.Given as goal

-- each list so far is the journal's part of its volume
abbrev pub invariant-loop-shard : goal.invariant-loop-shard
invariant-loop-shard g l = (k : ℕ) → k < l.shard-index → IsPart l.shards l.journal.entries k

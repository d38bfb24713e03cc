use Rattle.std.proofs.Common.{ℕ, ◌<◌}
use Rattle.vss_shards.specs.OneMoment.{IsFree}
use Rattle.vss_shards.proofs.gathering.all_free.Given as goal

-- no shard so far is held
abbrev pub invariant-loop-shard : goal.invariant-loop-shard
invariant-loop-shard g l = (k : ℕ) → k < l.shard-index → IsFree l.shards k

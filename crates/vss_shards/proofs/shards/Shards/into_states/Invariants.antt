use Rattle.std.proofs.Common.{◌≡◌, ◌≤◌, ◌+◌, length, vec_len, vec_capacity}
use Rattle.vss_shards.proofs.shards.Shards.into_states.Given as goal

-- there is room for all that are left
abbrev pub invariant-loop-shard : goal.invariant-loop-shard
invariant-loop-shard g l = (vec_len l.states + length l.shard-iterator.rest.items ≡ l.fn.self) × (l.fn.self ≤ vec_capacity l.states)

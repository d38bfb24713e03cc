use Rattle.std.proofs.Common.{rules}
use Rattle.std.proofs.lemmas.List.Sorted.{IsNonDecreasingBy-from_sort_by_key}
use Rattle.vss_shards.specs.Shards.{ShardValue}
use Rattle.vss_shards.proofs.shards.Shards.into_states.Goals as goal

pub returns-clause-ordered : goal.returns-clause-ordered
returns-clause-ordered g c =
    IsNonDecreasingBy-from_sort_by_key (λ (s : ShardValue _). s.number) c.sort_unstable_by_key.new.self.items c.sort_unstable_by_key.ensures.sorted (λ a r later called. search rules)

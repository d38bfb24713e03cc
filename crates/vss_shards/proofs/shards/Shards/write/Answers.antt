use Rattle.std.proofs.Common.{◌∙◌, ap}
use Rattle.vss_shards.specs.Shards.{ShardValue}
use Rattle.vss_shards.proofs.shards.Shards.write.Goals as goal

pub returns : goal.returns
returns g c = record {
  found = c.deref_mut.result.now;
  left = c.write_locked.new.shard;
  is = c.write_locked.ensures.found;
  number = ap (λ (s : ShardValue _). s.number) c.deref_mut.ensures.value ∙ c.lock-shard.ensures;
  said = c.write_locked.ensures.said;
}

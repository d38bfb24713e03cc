use Rattle.std.proofs.Common.{refl, arith, inl, sym, ◌∙◌}
use Rattle.vss_shards.specs.Shards.{history_of}
use Rattle.vss_shards.proofs.Lists.{none_of}
use Rattle.vss_shards.proofs.Keeping.{sets_few}
use Rattle.vss_shards.proofs.cutting.collect.Goals as goal

pub returns-then-len-ge-MOST_IMAGES-clause-collect : goal.returns-then-len-ge-MOST_IMAGES-clause-collect
returns-then-len-ge-MOST_IMAGES-clause-collect g c =
    let few = sets_few g.D.Device.told c.shard.inside.volume (history_of c.shard.inside.entries.items c.shard.inside.images.items) c.shard.invariant.0.stands in
    let full = c.if-len-ge-MOST_IMAGES.true in
    let long = c.len.ensures in
    let whole = c.shard.inside.images.ok in
    rw (← c.shard.view_is) (none_of c.shard.inside.held (sym c.is_some.ensures ∙ c.if-is_some.false), inl (omega arith), refl, refl)

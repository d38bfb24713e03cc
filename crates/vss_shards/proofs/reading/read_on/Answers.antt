use Rattle.vss_shards.specs.Shards.{shard_value}
use Rattle.vss_shards.proofs.Keeping.{keeps_read, read_now, goes_on_read}
use Rattle.vss_shards.proofs.reading.read_on.Goals as goal
use Rattle.std.proofs.lemmas.Result.{on_ok_weaker}

pub invariant_of-shard : goal.invariant_of-shard
invariant_of-shard g c =
    let s = shard_value c.shard.inside.number c.shard.inside.volume c.shard.inside.entries.items c.shard.inside.images.items c.shard.inside.last c.shard.inside.held in
    (keeps_read g.D.Device.told s c.read_into.new.self c.shard.invariant.0 c.read_into.ensures.stands, c.shard.invariant.1)

pub returns-clause-now : goal.returns-clause-now
returns-clause-now g c =
    let s = shard_value c.shard.inside.number c.shard.inside.volume c.shard.inside.entries.items c.shard.inside.images.items c.shard.inside.last c.shard.inside.held in
    rw (← c.shard.view_is) (on_ok_weaker c.read_into.result (read_now g.D.Device.told s c.args.block c.read_into.new.out c.shard.invariant.0) c.read_into.ensures.now)

pub returns-clause-goes_on : goal.returns-clause-goes_on
returns-clause-goes_on g c = rw (← c.shard.view_is)
    (goes_on_read (shard_value c.shard.inside.number c.shard.inside.volume c.shard.inside.entries.items c.shard.inside.images.items c.shard.inside.last
    c.shard.inside.held) c.read_into.new.self)

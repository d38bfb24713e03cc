use Rattle.vss_shards.specs.Shards.{shard_value}
use Rattle.vss_shards.proofs.Keeping.{keeps_read, read_shown, goes_on_read}
use Rattle.vss_shards.proofs.reading.read_image_on.Goals as goal
use Rattle.std.proofs.lemmas.Result.{on_ok_weaker}

pub invariant_of-shard : goal.invariant_of-shard
invariant_of-shard g c =
    let s = shard_value c.shard.inside.number c.shard.inside.volume c.shard.inside.entries.items c.shard.inside.images.items c.shard.inside.last c.shard.inside.held in
    (keeps_read g.D.Device.told s c.read_image_into.new.self c.shard.invariant.0 c.read_image_into.ensures.stands, c.shard.invariant.1)

pub returns-clause-shown : goal.returns-clause-shown
returns-clause-shown g c =
    let s = shard_value c.shard.inside.number c.shard.inside.volume c.shard.inside.entries.items c.shard.inside.images.items c.shard.inside.last c.shard.inside.held in
    rw (← c.shard.view_is)
    (on_ok_weaker c.read_image_into.result
    (read_shown g.D.Device.told s c.args.image c.args.block c.read_image_into.new.out c.shard.invariant.0) c.read_image_into.ensures.shown)

pub returns-clause-goes_on : goal.returns-clause-goes_on
returns-clause-goes_on g c = rw (← c.shard.view_is)
    (goes_on_read (shard_value c.shard.inside.number c.shard.inside.volume c.shard.inside.entries.items c.shard.inside.images.items c.shard.inside.last
    c.shard.inside.held) c.read_image_into.new.self)

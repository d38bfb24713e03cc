use Rattle.std.proofs.Common.{arith, Some}
use Rattle.vss_shards.specs.Shards.{shard_value, history_of}
use Rattle.vss_shards.proofs.Keeping.{sets_length, held_for, newest_set, keeps_image, goes_on_given}
use Rattle.vss_shards.proofs.cutting.give_back.Goals as goal

pub cut-requires-clause-room : goal.cut-requires-clause-room
cut-requires-clause-room g c =
    let s = shard_value c.shard.inside.number c.shard.inside.volume c.shard.inside.entries.items c.shard.inside.images.items c.shard.inside.last c.shard.inside.held in
    let held = held_for g.D.Device.told s c.in-Some.part c.shard.invariant.0 c.in-Some.is in
    let long = sets_length g.D.Device.told c.shard.inside.volume (history_of c.shard.inside.entries.items c.shard.inside.images.items) c.shard.invariant.0.stands in
    let room = held.room in
    omega arith

pub cut-requires-clause-newest : goal.cut-requires-clause-newest
cut-requires-clause-newest g c =
    let s = shard_value c.shard.inside.number c.shard.inside.volume c.shard.inside.entries.items c.shard.inside.images.items c.shard.inside.last c.shard.inside.held in
    newest_set g.D.Device.told s c.in-Some.part c.shard.invariant.0 (held_for g.D.Device.told s c.in-Some.part c.shard.invariant.0 c.in-Some.is)

pub invariant_of-shard-2 : goal.invariant_of-shard-2
invariant_of-shard-2 g c =
    let s = shard_value c.shard.inside.number c.shard.inside.volume c.shard.inside.entries.items c.shard.inside.images.items c.shard.inside.last c.shard.inside.held in
    let is = keeps_image g.D.Device.told s c.cut.new.self c.in-Some.part c.shard.invariant.0 (held_for g.D.Device.told s c.in-Some.part c.shard.invariant.0 c.in-Some.is) c.cut.ensures.stands in
    let room = c.shard.invariant.1 in
    let same = c.push_reserved.ensures.capacity in
    (rw c.push_reserved.ensures.items is, omega arith)

pub returns-clause-goes_on : goal.returns-clause-goes_on
returns-clause-goes_on g c =
    let s = shard_value c.shard.inside.number c.shard.inside.volume c.shard.inside.entries.items c.shard.inside.images.items c.shard.inside.last c.shard.inside.held in
    rw (← c.shard.view_is, c.push_reserved.ensures.items) (goes_on_given s c.cut.new.self c.in-Some.part (Some 0) c.in-Some.is)

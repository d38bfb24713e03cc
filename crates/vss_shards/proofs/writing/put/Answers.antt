use Rattle.std.proofs.Common.{◌≡◌, ◌<◌, [], ◌∷◌, None, arith, length}
use Rattle.vss_shards.specs.declared.entry.Entry.{Entry}
use Rattle.vss_shards.specs.Journals.{most_entries}
use Rattle.vss_shards.specs.Shards.{shard_value, history_of}
use Rattle.vss_shards.proofs.Keeping.{images_stand, keeps_entry, keeps_gone, goes_on_written, goes_on_gone}
use Rattle.vss_shards.proofs.writing.put.Goals as goal

pub forget_up_to-requires : goal.forget_up_to-requires
forget_up_to-requires g c = (images_stand g.D.Device.told c.shard.inside.volume (history_of c.shard.inside.entries.items c.shard.inside.images.items) c.shard.invariant.0.stands).1.above_zero

pub forget_up_to-requires-in-Err : goal.forget_up_to-requires-in-Err
forget_up_to-requires-in-Err g c = (images_stand g.D.Device.told c.shard.inside.volume (history_of c.shard.inside.entries.items c.shard.inside.images.items) c.shard.invariant.0.stands).1.above_zero

pub invariant_of-shard-in-Err : goal.invariant_of-shard-in-Err
invariant_of-shard-in-Err g c =
    let s = shard_value c.shard.inside.number c.shard.inside.volume c.shard.inside.entries.items c.shard.inside.images.items c.shard.inside.last c.shard.inside.held in
    let free : c.shard.inside.held ≡ None = rw (← c.shard.view_is) at c.requires.may.free in
    let is = keeps_gone g.D.Device.told s c.write.new.self c.in-Err.fault.evicted_up_to c.shard.invariant.0 free c.in-Err.ensures.write.stands in
    let room = c.shard.invariant.1 in
    let same = c.forget_up_to-in-Err.ensures.capacity in
    (rw (c.reserve.ensures.items, c.forget_up_to-in-Err.ensures.images) is, omega arith)

pub returns-in-Err-clause-goes_on : goal.returns-in-Err-clause-goes_on
returns-in-Err-clause-goes_on g c =
    let s = shard_value c.shard.inside.number c.shard.inside.volume c.shard.inside.entries.items c.shard.inside.images.items c.shard.inside.last c.shard.inside.held in
    rw (← c.shard.view_is, c.reserve.ensures.items, c.forget_up_to-in-Err.ensures.images) (goes_on_gone g.D.Device.told s c.write.new.self c.in-Err.fault.evicted_up_to c.shard.invariant.0)

pub invariant_of-shard-2 : goal.invariant_of-shard-2
invariant_of-shard-2 g c =
    let s = shard_value c.shard.inside.number c.shard.inside.volume c.shard.inside.entries.items c.shard.inside.images.items c.shard.inside.last c.shard.inside.held in
    let e : Entry = record { volume = c.shard.inside.number; block = c.args.block; payload = c.args.payload } in
    let free : c.shard.inside.held ≡ None = rw (← c.shard.view_is) at c.requires.may.free in
    let room : length c.shard.inside.entries.items < most_entries = rw (← c.shard.view_is) at c.requires.room in
    let stands = rw c.payload.ensures at c.in-Ok.ensures.write.stands in
    let is = keeps_entry g.D.Device.told s c.write.new.self e c.in-Ok.done.evicted_up_to c.shard.invariant.0 free room stands in
    let space = c.shard.invariant.1 in
    let same = c.forget_up_to.ensures.capacity in
    (rw (c.push_reserved.ensures.items, c.reserve.ensures.items, c.forget_up_to.ensures.images) is, omega arith)

pub returns-clause-goes_on : goal.returns-clause-goes_on
returns-clause-goes_on g c =
    let s = shard_value c.shard.inside.number c.shard.inside.volume c.shard.inside.entries.items c.shard.inside.images.items c.shard.inside.last c.shard.inside.held in
    let e : Entry = record { volume = c.shard.inside.number; block = c.args.block; payload = c.args.payload } in
    rw (← c.shard.view_is, c.push_reserved.ensures.items, c.reserve.ensures.items, c.forget_up_to.ensures.images)
    (goes_on_written g.D.Device.told s c.write.new.self c.in-Ok.done.evicted_up_to (e ∷ []) c.shard.invariant.0)

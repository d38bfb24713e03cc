use Rattle.std.proofs.Common.{ℕ, ◌<◌, ap, sym, subst, length, arith, refl, inl}
use Rattle.block_data.specs.BlockBytes.{payload_bytes}
use Rattle.cow_volume.specs.Calls.{blocks_at}
use Rattle.cow_volume.proofs.GroupWrites.{once_of, once_with_room, is_written, is_unwritten, no_block}
use Rattle.cow_volume.proofs.DeviceCalls.{within_blocks, past_blocks}
use Rattle.cow_volume.proofs.cow_group.CowGroup.write.Goals as goal

pub returns-then-block-blocks-clause-write : goal.returns-then-block-blocks-clause-write
returns-then-block-blocks-clause-write g c =
    let past = past_blocks c.self.inside.devices.items c.self.inside.copies c.args.v c.args.block c.blocks-2.result c.blocks-2.ensures c.if-block-blocks.true in
    no_block g.D.Device c.args.self.now c.args.v c.args.block (rw (← c.self.view_is) past)

pub drop_for-evicted_up_to-requires-clause-in_range : goal.drop_for-evicted_up_to-requires-clause-in_range
drop_for-evicted_up_to-requires-clause-in_range g c =
    let low = within_blocks c.self.inside.devices.items c.self.inside.copies c.args.v c.args.block c.blocks-2.result c.blocks-2.ensures c.if-block-blocks.false in
    rw (← c.self.view_is) low

pub put-requires-clause-volume : goal.put-requires-clause-volume
put-requires-clause-volume g c =
    let same = ap (λ x. length x.area.volumes) c.drop_for-evicted_up_to.ensures.left in
    let within = c.requires in
    omega arith

pub put-requires-clause-in_range : goal.put-requires-clause-in_range
put-requires-clause-in_range g c =
    let low = within_blocks c.self.inside.devices.items c.self.inside.copies c.args.v c.args.block c.blocks-2.result c.blocks-2.ensures c.if-block-blocks.false in
    let now : c.args.block < blocks_at c.args.self.now c.args.v = rw (← c.self.view_is) low in
    subst (λ (n : ℕ). c.args.block < n) (sym (ap (λ x. blocks_at x c.args.v) c.drop_for-evicted_up_to.ensures.left)) now

pub put-requires-clause-room : goal.put-requires-clause-room
put-requires-clause-room g c = c.drop_for-evicted_up_to.ensures.enough

pub returns-in-Ok-clause-write : goal.returns-in-Ok-clause-write
returns-in-Ok-clause-write g c =
    let low = within_blocks c.self.inside.devices.items c.self.inside.copies c.args.v c.args.block c.blocks-2.result c.blocks-2.ensures c.if-block-blocks.false in
    let now : c.args.block < blocks_at c.args.self.now c.args.v = rw (← c.self.view_is) low in
    is_written g.D.Device c.args.self.now c.drop_for-evicted_up_to.new.self c.put.new.self c.args.v
    (record { block = c.args.block; bytes = payload_bytes c.args.payload.now }) c.drop_for-evicted_up_to.result now c.drop_for-evicted_up_to.ensures.left c.drop_for-evicted_up_to.ensures.evicted
    c.drop_for-evicted_up_to.ensures.stands c.in-Ok.ensures.put

pub returns-in-Err-clause-write : goal.returns-in-Err-clause-write
returns-in-Err-clause-write g c =
    let low = within_blocks c.self.inside.devices.items c.self.inside.copies c.args.v c.args.block c.blocks-2.result c.blocks-2.ensures c.if-block-blocks.false in
    let now : c.args.block < blocks_at c.args.self.now c.args.v = rw (← c.self.view_is) low in
    is_unwritten g.D.Device c.args.self.now c.drop_for-evicted_up_to.new.self c.put.new.self c.args.v
    (record { block = c.args.block; bytes = payload_bytes c.args.payload.now }) c.drop_for-evicted_up_to.result now c.drop_for-evicted_up_to.ensures.left c.drop_for-evicted_up_to.ensures.evicted
    c.drop_for-evicted_up_to.ensures.stands c.in-Err.cause c.in-Err.ensures.put

pub returns-then-block-blocks-clause-once : goal.returns-then-block-blocks-clause-once
returns-then-block-blocks-clause-once g c = inl refl

pub returns-in-Ok-clause-once : goal.returns-in-Ok-clause-once
returns-in-Ok-clause-once g c = once_with_room g.D.Device.told c.args.self.now c.drop_for-evicted_up_to.new.self c.put.new.self c.args.v c.args.block c.drop_for-evicted_up_to.result
    c.drop_for-evicted_up_to.ensures.left c.drop_for-evicted_up_to.ensures.lacked
    (once_of g.D.Device.told c.drop_for-evicted_up_to.new.self c.put.new.self c.args.v c.args.block c.put.result c.put.ensures.area)

pub returns-in-Err-clause-once : goal.returns-in-Err-clause-once
returns-in-Err-clause-once g c = once_with_room g.D.Device.told c.args.self.now c.drop_for-evicted_up_to.new.self c.put.new.self c.args.v c.args.block c.drop_for-evicted_up_to.result
    c.drop_for-evicted_up_to.ensures.left c.drop_for-evicted_up_to.ensures.lacked
    (once_of g.D.Device.told c.drop_for-evicted_up_to.new.self c.put.new.self c.args.v c.args.block c.put.result c.put.ensures.area)

use Rattle.std.proofs.Common.{◌<◌, length, arith, vec_capacity}
use Rattle.provider.proofs.Flat.{moving_room}
use Rattle.provider.proofs.ending.add_all.Goals as goal

pub push_reserved-requires : goal.push_reserved-requires
push_reserved-requires g c =
    let room : length c.loop-device.list.items < vec_capacity c.loop-device.list =
    moving_room c.args.list.now.items c.args.devices.items c.loop-device.list.items c.loop-device.device-iterator.rest.items c.next.new.self.rest.items c.in-Some.device _
    (vec_capacity c.loop-device.list) c.in-Some.ensures.steps.0 c.loop-device.invariant in
    let long = c.loop-device.list.ok.0 in
    omega (arith, room, long)

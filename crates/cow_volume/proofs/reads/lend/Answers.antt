use Rattle.cow_volume.proofs.Reading.{group_seen_copy, group_seen_there}
use Rattle.cow_volume.proofs.DeviceCalls.{some_weaker, if_some, is_none, device_with}
use Rattle.cow_volume.specs.Parts.{group_of}
use Rattle.cow_volume.proofs.reads.lend.Goals as goal

pub returns-in-Some-clause-seen : goal.returns-in-Some-clause-seen
returns-in-Some-clause-seen g c =
    some_weaker c.lend_slot.result _ _ c.lend_slot.ensures.block (λ lent held.
    group_seen_copy g.D.Device.told (group_of c.args.devices.now.items c.args.copies.now) c.args.v c.args.set c.args.block c.in-Some.slot lent.now c.in_ok-slot.ensures.in_range
    (if_some c.in_ok-slot.field-0 _ c.in-Some.slot c.in-Some.is c.in_ok-slot.ensures.found) held)

pub returns-in-None-clause-seen : goal.returns-in-None-clause-seen
returns-in-None-clause-seen g c =
    let g_now = group_of c.args.devices.now.items c.args.copies.now in
    let in_range = c.in_ok-slot.ensures.in_range in
    let d = device_with g.D.Device.size c.args.devices.now.items c.args.copies.now.area.volumes c.args.v c.args.block c.requires.devices in_range in
    some_weaker c.lend_device.result _ _ (c.lend_device.ensures.block d.0 d.1) (λ lent held.
    group_seen_there g.D.Device.told g_now c.args.v c.args.set c.args.block d.0 lent.now in_range d.1 held
    (c.in_ok-slot.ensures.none (is_none c.in_ok-slot.field-0 c.in-None.is)))

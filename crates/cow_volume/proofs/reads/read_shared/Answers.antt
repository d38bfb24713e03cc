use Rattle.cow_volume.proofs.Reading.{group_seen_copy, group_seen_there}
use Rattle.cow_volume.proofs.DeviceCalls.{if_some, is_none, device_with}
use Rattle.cow_volume.specs.Parts.{group_of}
use Rattle.cow_volume.proofs.reads.read_shared.Goals as goal

pub returns-in-Ok-Some : goal.returns-in-Ok-Some
returns-in-Ok-Some g c = λ read.
    group_seen_copy g.D.Device.told (group_of c.args.devices.now.items c.args.copies.now) c.args.v c.args.set c.args.block c.in-Ok-Some.slot c.read_slot_shared.new.out c.requires.in_range
    (if_some c.in-Ok-Some.field-0 _ c.in-Ok-Some.slot c.in-Ok-Some.field-0-is c.in-Ok-Some.ensures.found) (c.read_slot_shared.ensures read)

pub returns-in-Ok-None : goal.returns-in-Ok-None
returns-in-Ok-None g c = λ read.
    let in_range = c.requires.in_range in
    let d = device_with g.D.Device.size c.args.devices.now.items c.args.copies.now.area.volumes c.args.v c.args.block c.requires.devices in_range in
    group_seen_there g.D.Device.told (group_of c.args.devices.now.items c.args.copies.now) c.args.v c.args.set c.args.block d.0 c.read_device_shared.new.out in_range d.1
    (c.read_device_shared.ensures read d.0 d.1) (c.in-Ok-None.ensures.none (is_none c.in-Ok-None.field-0 c.in-Ok-None.field-0-is))

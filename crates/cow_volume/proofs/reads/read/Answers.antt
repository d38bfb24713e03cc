use Rattle.std.proofs.Common.{true, false, refl}
use Rattle.cow_volume.specs.Parts.{group_of}
use Rattle.cow_volume.proofs.Reading.{group_seen_copy}
use Rattle.cow_volume.proofs.DeviceCalls.{if_some, is_none, read_is_seen}
use Rattle.cow_volume.proofs.Kept.{quiet_called, volume_rose, unfailed_called}
use Rattle.cow_volume.proofs.reads.read.Goals as goal

pub returns-in-Ok-clause-seen : goal.returns-in-Ok-clause-seen
returns-in-Ok-clause-seen g c =
    group_seen_copy g.D.Device.told (group_of c.args.devices.now.items c.args.copies.now) c.args.v c.args.set c.args.block c.in-Some.slot c.read_slot.new.out c.in_ok-slot.ensures.in_range
    (if_some c.in_ok-slot.field-0 _ c.in-Some.slot c.in-Some.is c.in_ok-slot.ensures.found) c.in-Ok.ensures.block

pub returns-in-Ok-read_device-clause-seen : goal.returns-in-Ok-read_device-clause-seen
returns-in-Ok-read_device-clause-seen g c =
    read_is_seen g.D.Device c.args.devices.now.items c.read_device.new.devices.items c.args.copies.now c.args.v c.args.set c.args.block
    c.read_device.new.out c.in_ok-slot.ensures.in_range
    c.in-Ok-read_device.ensures (c.in_ok-slot.ensures.none (is_none c.in_ok-slot.field-0 c.in-None.is))

pub returns-in-Ok-read_device-clause-quiet : goal.returns-in-Ok-read_device-clause-quiet
returns-in-Ok-read_device-clause-quiet g c =
    quiet_called g.D.Device c.args.v c.args.devices.now.items c.read_device.new.devices.items false c.args.copies.now
    c.in-Ok-read_device.ensures.call c.in-Ok-read_device.ensures.told_is c.in-Ok-read_device.ensures.still

pub returns-in-Err-read_device-clause-cause : goal.returns-in-Err-read_device-clause-cause
returns-in-Err-read_device-clause-cause g c = (
  c.in_ok-slot.ensures.there,
  c.in_ok-slot.ensures.in_range,
  volume_rose g.D.Device c.args.v c.args.devices.now.items c.read_device.new.devices.items c.args.copies.now c.args.copies.now
      c.in-Err-read_device.ensures.call refl,
)

pub returns-in-Err-read_device-clause-quiet : goal.returns-in-Err-read_device-clause-quiet
returns-in-Err-read_device-clause-quiet g c =
    quiet_called g.D.Device c.args.v c.args.devices.now.items c.read_device.new.devices.items true c.args.copies.now
    c.in-Err-read_device.ensures.call c.in-Err-read_device.ensures.told_is c.in-Err-read_device.ensures.still

pub returns-in-Ok-clause-same : goal.returns-in-Ok-clause-same
returns-in-Ok-clause-same g c = record { devices = refl; area = c.in-Ok.ensures.cause.same }

pub returns-in-Ok-read_device-clause-same : goal.returns-in-Ok-read_device-clause-same
returns-in-Ok-read_device-clause-same g c =
    unfailed_called g.D.Device c.args.v c.args.devices.now.items c.read_device.new.devices.items false c.args.copies.now c.args.copies.now
    c.in-Ok-read_device.ensures.call refl refl

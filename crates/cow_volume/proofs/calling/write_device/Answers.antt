use Rattle.cow_volume.proofs.DeviceCalls.{size_within, device_read, device_put}
use Rattle.cow_volume.proofs.calling.write_device.Goals as goal

pub returns : goal.returns
returns g c =
    device_put g.D.Device c.args.v c.args.block c.args.bytes.now c.args.devices.now.items c.index_mut.result.now c.write.new.self
    c.write.result
    (device_read c.args.devices.now.items c.args.v c.index_mut.result.now (size_within g.D.Device.size c.args.devices.now.items c.args.v c.args.block c.requires.in_range) c.index_mut.ensures.value)
    c.write.ensures.written c.write.ensures.kept c.write.ensures.size c.write.ensures.lending c.write.ensures.lasting c.write.ensures.cause

use Rattle.std.proofs.Common.{ap}
use Rattle.std.specs.Prelude.{is_some}
use Rattle.cow_volume.proofs.DeviceCalls.{on_ok, size_within, device_read, called, still_lasts}
use Rattle.cow_volume.proofs.calling.read_device.Goals as goal

pub returns : goal.returns
returns g c = record {
  call = called g.D.Device c.args.v c.args.devices.now.items c.index_mut.result.now c.read_into.new.self c.read_into.result
      (device_read c.args.devices.now.items c.args.v c.index_mut.result.now (size_within g.D.Device.size c.args.devices.now.items c.args.v c.args.block c.requires.in_range) c.index_mut.ensures.value)
      (ap is_some c.read_into.ensures.told) c.read_into.ensures.size c.read_into.ensures.lending c.read_into.ensures.cause;
  told_is = c.read_into.ensures.told;
  still = still_lasts g.D.Device c.index_mut.result.now c.read_into.new.self c.read_into.ensures.told c.read_into.ensures.lasting;
  block = on_ok c.read_into.result _ c.read_into.ensures.block;
}

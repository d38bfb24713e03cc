use Rattle.std.proofs.Common.{ap}
use Rattle.std.specs.Prelude.{is_some}
use Rattle.cow_volume.proofs.DeviceCalls.{on_ok, device_read, called, flush_lasts}
use Rattle.cow_volume.proofs.calling.flush_device.Goals as goal

pub returns : goal.returns
returns g c = record {
  call = called g.D.Device c.args.v c.args.devices.now.items c.index_mut.result.now c.flush.new.self c.flush.result
      (device_read c.args.devices.now.items c.args.v c.index_mut.result.now c.requires c.index_mut.ensures.value)
      (ap is_some c.flush.ensures.told) c.flush.ensures.size c.flush.ensures.lending c.flush.ensures.cause;
  told_is = c.flush.ensures.told;
  still = flush_lasts g.D.Device c.index_mut.result.now c.flush.new.self c.flush.result c.flush.ensures.told c.flush.ensures.lasts c.flush.ensures.lasting;
  lasts = on_ok c.flush.result _ c.flush.ensures.lasts;
}

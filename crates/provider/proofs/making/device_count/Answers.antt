use Rattle.std.proofs.Common.{arith}
use Rattle.cow_volume.proofs.DeviceCalls.{device_read}
use Rattle.std.proofs.lemmas.Option.{slice_get_within}
use Rattle.provider.proofs.Flat.{counted_more, fit_more}
use Rattle.provider.proofs.making.device_count.Goals as goal

pub loop-group-preserved : goal.loop-group-preserved
loop-group-preserved g c =
    let at = device_read c.args.groups.now c.loop-group.group-index c.group-item.result c.loop-group-test.true c.group-item.is in (
      counted_more c.args.groups.now c.loop-group.group-index c.loop-group.count c.volumes.result c.group-item.result at
          c.volumes.ensures.volumes c.volumes.ensures.devices c.volumes.type_inv c.loop-group.invariant.0,
      fit_more g.D.Device.size c.args.groups.now c.loop-group.group-index c.group-item.result at
          (record { devices = c.volumes.ensures.fits; area = c.volumes.ensures.slots }) c.loop-group.invariant.1,
    )

pub returns-clause-fit : goal.returns-clause-fit
returns-clause-fit g c = λ k x at.
    let inside = slice_get_within c.args.groups.now k x at in
    let past = c.loop-group-test.false in
    c.loop-group.invariant.1 k x (omega (arith, inside, past)) at

use Rattle.std.proofs.Common.{◌<◌, arith, length, refl}
use Rattle.std.proofs.lemmas.Option.{slice_get-get_or}
use Rattle.image_store.proofs.Keeping.{still_told, one_failed, one_lasted, all_lasted}
use Rattle.image_store.proofs.flushing.flush_each.Goals as goal

pub returns-in_default-clause-told : goal.returns-in_default-clause-told
returns-in_default-clause-told g c =
    let within : c.loop-device.device-index < length c.loop-device.devices = (let test = c.loop-device-test.true in omega arith) in
    let at = slice_get-get_or c.loop-device.devices c.loop-device.device-index c.device-item.result within in
    still_told g.D.Device.told c.loop-device.device-index c.args.devices.now c.loop-device.devices _ c.flush.new.self c.loop-device.invariant.told_is at c.in_default.ensures.told

pub returns-in_default-clause-rose : goal.returns-in_default-clause-rose
returns-in_default-clause-rose g c =
    let within : c.loop-device.device-index < length c.loop-device.devices = (let test = c.loop-device-test.true in omega arith) in
    let at = slice_get-get_or c.loop-device.devices c.loop-device.device-index c.device-item.result within in
    one_failed g.D.Device.count c.loop-device.device-index c.args.devices.now c.loop-device.devices _ c.flush.new.self c.loop-device.invariant.counts at (c.in_default.ensures.cause.rose refl)

pub loop-device-preserved : goal.loop-device-preserved
loop-device-preserved g c =
    let within : c.loop-device.device-index < length c.loop-device.devices = (let test = c.loop-device-test.true in omega arith) in
    let at = slice_get-get_or c.loop-device.devices c.loop-device.device-index c.device-item.result within in
    one_lasted g.D.Device c.loop-device.device-index c.args.devices.now c.loop-device.devices _ c.flush.new.self
    c.loop-device.invariant at c.in-Ok.ensures.told c.in-Ok.ensures.cause.same c.in-Ok.ensures.lasts

pub returns-clause-lasts : goal.returns-clause-lasts
returns-clause-lasts g c =
    all_lasted g.D.Device c.loop-device.device-index c.args.devices.now c.loop-device.devices c.loop-device.invariant
    (let test = c.loop-device-test.false in omega arith)

use Rattle.std.proofs.Common.{◌≡◌, ℕ, List, true, false, refl, sym, ap, ◌∙◌, subst, arith, length, Some}
use Rattle.std.specs.Prelude.{IfSome, is_err, slice_get}
use Rattle.diff_area.specs.Format.{place_of_slot}
use Rattle.cow_volume.proofs.DeviceCalls.{on_ok, filled}
use Rattle.cow_volume.proofs.RestoringSteps.{put_back, not_put_back}
use Rattle.cow_volume.proofs.reverts.restore_block.Goals as goal

pub returns-then-is_err-2 : goal.returns-then-is_err-2
returns-then-is_err-2 g c =
    let read : is_err c.read_slot.result ≡ false = cc (c.is_err.ensures.value, c.if-is_err.false) in
    let failed : is_err c.write_device-2.result ≡ true = cc (c.is_err-2.ensures.value, c.if-is_err-2.true) in
    not_put_back g.D.Device c.args.devices.now.items c.write_device-2.new.devices.items c.args.copies.now c.read_slot.new.self c.args.v
    c.args.set c.args.block c.in-Some.slot c.bytes.result.now (is_err c.write_device-2.result)
    c.in-Some.ensures.found c.read_slot.ensures.table c.read_slot.ensures.images c.read_slot.ensures.told c.read_slot.ensures.cause.later
    (on_ok c.read_slot.result _ c.read_slot.ensures.cause.same read) c.read_slot.ensures.lasting c.write_device-2.ensures failed

pub returns : goal.returns
returns g c =
    let read : is_err c.read_slot.result ≡ false = cc (c.is_err.ensures.value, c.if-is_err.false) in
    let written : is_err c.write_device-2.result ≡ false = cc (c.is_err-2.ensures.value, c.if-is_err-2.false) in
    let same = ap length c.bytes_mut.ensures.bytes in
    let long : length c.read_slot.new.out ≡ length c.args.buffer.now = omega arith in
    let held = on_ok c.read_slot.result _ c.read_slot.ensures.block read in
    put_back g.D.Device c.args.devices.now.items c.write_device-2.new.devices.items c.args.copies.now c.read_slot.new.self c.args.v c.args.set
    c.args.block c.in-Some.slot c.bytes.result.now (is_err c.write_device-2.result)
    c.in-Some.ensures.found c.read_slot.ensures.table c.read_slot.ensures.images c.read_slot.ensures.told c.read_slot.ensures.cause.later
    (on_ok c.read_slot.result _ c.read_slot.ensures.cause.same read)
    (subst (λ (bytes : List ℕ). IfSome (g.D.Device.told c.args.copies.now.area.device)
    (λ blocks. slice_get blocks (place_of_slot (length c.args.copies.now.area.records) c.in-Some.slot) ≡ Some bytes))
    (sym (c.bytes.ensures.bytes ∙ filled c.read_slot.new.out c.args.buffer.now long)) held)
    c.write_device-2.ensures written

pub returns-in-Ok : goal.returns-in-Ok
returns-in-Ok g c =
    put_back g.D.Device c.args.devices.now.items c.write_device.new.devices.items c.args.copies.now c.args.copies.now c.args.v c.args.set
    c.args.block c.in-Some.slot c.in-Some-lend_slot.bytes.now false c.in-Some.ensures.found
    (record { volumes = refl; records = refl; size_is = refl; lends = refl }) refl refl (omega arith) refl c.in-Some-lend_slot.ensures.block c.in-Ok.ensures refl

pub returns-in-Err : goal.returns-in-Err
returns-in-Err g c =
    not_put_back g.D.Device c.args.devices.now.items c.write_device.new.devices.items c.args.copies.now c.args.copies.now c.args.v c.args.set
    c.args.block c.in-Some.slot c.in-Some-lend_slot.bytes.now true c.in-Some.ensures.found
    (record { volumes = refl; records = refl; size_is = refl; lends = refl }) refl refl (omega arith) refl refl c.in-Err.ensures refl

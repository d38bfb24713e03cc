use Rattle.std.proofs.Common.{◌≡◌, ◌∙◌, ℕ, List, Some, ap, sym, subst, refl, length, slice_get}
use Rattle.std.specs.Prelude.{IfSome}
use Rattle.cow_volume.proofs.DeviceCalls.{on_itself, area_itself, slot_copied, whole_written}
use Rattle.cow_volume.proofs.copying.copy_block.Goals as goal

pub returns-in-Some : goal.returns-in-Some
returns-in-Some g c = slot_copied g.D.Device c.args.device.now c.args.device.now c.args.copies.now c.copy_bytes.new.copies c.args.block
    c.args.slot c.in-Some.bytes.now c.copy_bytes.result
    (on_itself g.D.Device c.args.device.now) refl c.in-Some.ensures.block c.copy_bytes.ensures

pub returns-in-Ok : goal.returns-in-Ok
returns-in-Ok g c =
    let same : c.bytes.result.now ≡ c.read_into.new.out = c.bytes.ensures.bytes ∙ whole_written c.args.scratch.now c.read_into.new.out (c.read_into.auto.out ∙ ap length c.bytes_mut.ensures.bytes) in
    slot_copied g.D.Device c.args.device.now c.read_into.new.self c.args.copies.now c.copy_bytes-in-Ok.new.copies c.args.block c.args.slot
    c.bytes.result.now c.copy_bytes-in-Ok.result
    (record { tells = c.in-Ok.ensures.told; size_is = c.in-Ok.ensures.size; lends = c.in-Ok.ensures.lending; later = c.in-Ok.ensures.cause.later }) c.in-Ok.ensures.cause.same
    (subst (λ (bytes : List ℕ). IfSome (g.D.Device.told c.args.device.now) (λ blocks. slice_get blocks c.args.block ≡ Some bytes)) (sym same) c.in-Ok.ensures.block) c.copy_bytes-in-Ok.ensures

pub returns-in-Err : goal.returns-in-Err
returns-in-Err g c = record {
  device_on = record { tells = c.in-Err.ensures.told; size_is = c.in-Err.ensures.size; lends = c.in-Err.ensures.lending; later = c.in-Err.ensures.cause.later };
  area_on = area_itself g.D.Device c.args.copies.now;
  rose = (c.in-Err.ensures.cause.rose refl, refl);
}

use Rattle.std.proofs.Common.{◌≡◌, ◌∙◌, ℕ, List, Some, ap, sym, subst, refl, length, slice_get}
use Rattle.std.specs.Prelude.{IfSome}
use Rattle.cow_volume.proofs.DeviceCalls.{whole_written}
use Rattle.mirror_volume.proofs.Keeping.{copy_or, quiet_device}
use Rattle.mirror_volume.proofs.resync.copy_block.Goals as goal

pub returns-in-Some : goal.returns-in-Some
returns-in-Some g c =
    copy_or g.D.Device c.args.from.now c.args.from.now c.args.to.now c.write.new.self c.args.block c.in-Some.bytes.now c.write.result
    (quiet_device g.D.Device c.args.from.now) refl c.in-Some.ensures.block c.blocks-blocks.ensures.whole c.write.ensures.written c.write.ensures.kept c.write.ensures.size c.write.ensures.cause

pub returns : goal.returns
returns g c =
    let same : c.bytes.result.now ≡ c.read_into.new.out = c.bytes.ensures.bytes ∙ whole_written c.args.scratch.now c.read_into.new.out (c.read_into.auto.out ∙ ap length c.bytes_mut.ensures.bytes) in
    copy_or g.D.Device c.args.from.now c.read_into.new.self c.args.to.now c.write-2.new.self c.args.block c.bytes.result.now c.write-2.result
    (record { told_is = c.in_ok-read_into.ensures.told; size_is = c.in_ok-read_into.ensures.size; later = c.in_ok-read_into.ensures.cause.later }) c.in_ok-read_into.ensures.cause.same
    (subst (λ (bytes : List ℕ). IfSome (g.D.Device.told c.args.from.now) (λ blocks. slice_get blocks c.args.block ≡ Some bytes)) (sym same) c.in_ok-read_into.ensures.block)
    c.blocks-blocks.ensures.whole c.write-2.ensures.written c.write-2.ensures.kept c.write-2.ensures.size c.write-2.ensures.cause

use Rattle.std.proofs.Common.{◌≡◌, ◌<◌, ◌∙◌, List, ℕ, true, false, subst, refl, arith}
use Rattle.std.specs.Prelude.{is_err}
use Rattle.block_data.specs.BlockBytes.{payload_bytes}
use Rattle.mirror_volume.specs.declared.mirror.Mirror.{Mirror}
use Rattle.mirror_volume.specs.MirrorCalls.{AreFollowed, IsWritten}
use Rattle.mirror_volume.proofs.Standing.{quiet_stands, written_stands}
use Rattle.mirror_volume.proofs.Keeping.{value_of, quiet_parts, keeps_written, on_ok, on_err, all_over}
use Rattle.mirror_volume.proofs.mirror_volume.MirrorVolume.write.Goals as goal

pub returns-then-is_err-clause-stands : goal.returns-then-is_err-clause-stands
returns-then-is_err-clause-stands g c =
    let failed : is_err c.put_block.result ≡ true = cc (c.is_err.ensures.value, c.if-is_err.true) in
    let kept = on_err c.put_block.result _ failed c.put_block.ensures.kept in
    let quiet = quiet_parts g.D.Device c.self.inside.primary c.put_block.new.device c.self.inside.mirrors.items c.self.inside.images.items kept c.put_block.ensures.size
    c.put_block.ensures.cause.later in
    rw (← c.self.view_is)
    (λ h stood. quiet_stands g.D.Device (value_of c.self.inside.primary c.self.inside.mirrors.items c.self.inside.images.items)
    (value_of c.put_block.new.device c.self.inside.mirrors.items c.self.inside.images.items) h quiet stood)

pub invariant_of-self-2 : goal.invariant_of-self-2
invariant_of-self-2 g c =
    let all = all_over c.self.inside.mirrors.len c.follow_all.new.mirrors c.self.inside.mirrors.items (omega arith) in
    let are = subst (λ (ms : List (Mirror _)). AreFollowed g.D.Device c.args.block c.bytes.result.now ms c.follow_all.new.mirrors) c.deref_mut.ensures.value c.follow_all.ensures in
    rw all (keeps_written g.D.Device c.args.block c.bytes.result.now c.self.inside.primary c.put_block.new.device c.self.inside.mirrors.items c.follow_all.new.mirrors c.self.inside.images
    c.put_block.ensures.size are c.self.invariant)

pub returns-clause-stands : goal.returns-clause-stands
returns-clause-stands g c =
    let all = all_over c.self.inside.mirrors.len c.follow_all.new.mirrors c.self.inside.mirrors.items (omega arith) in
    let are = subst (λ (ms : List (Mirror _)). AreFollowed g.D.Device c.args.block c.bytes.result.now ms c.follow_all.new.mirrors) c.deref_mut.ensures.value c.follow_all.ensures in
    let bytes : c.bytes.result.now ≡ payload_bytes c.args.payload.now = c.bytes.ensures.bytes ∙ c.put_block.ensures.scratch in
    let done : is_err c.put_block.result ≡ false = cc (c.is_err.ensures.value, c.if-is_err.false) in
    let low : c.args.block < g.D.Device.size c.self.inside.primary = (let blocks = c.blocks-2.ensures.size in let l = c.if-block-blocks.false in omega arith) in
    let is : IsWritten g.D.Device (value_of c.self.inside.primary c.self.inside.mirrors.items c.self.inside.images.items)
    (value_of c.put_block.new.device c.follow_all.new.mirrors c.self.inside.images.items) (record { block = c.args.block; bytes = payload_bytes c.args.payload.now }) = record {
      in_range = low;
      told_is = on_ok c.put_block.result _ done c.put_block.ensures.written;
      size_is = c.put_block.ensures.size;
      unfailed = on_ok c.put_block.result _ done c.put_block.ensures.cause.same;
      mirrors = subst (λ (bs : List ℕ). AreFollowed g.D.Device c.args.block bs c.self.inside.mirrors.items c.follow_all.new.mirrors) bytes are;
      images = refl;
    } in
    rw all (rw (← c.self.view_is)
    (λ h stood. written_stands g.D.Device (value_of c.self.inside.primary c.self.inside.mirrors.items c.self.inside.images.items)
    (value_of c.put_block.new.device c.follow_all.new.mirrors c.self.inside.images.items)
    (record { block = c.args.block; bytes = payload_bytes c.args.payload.now }) h c.self.invariant.are_mirrors is stood))

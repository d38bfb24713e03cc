use Rattle.std.proofs.Common.{List, subst, refl, arith}
use Rattle.std.proofs.lemmas.Result.{err_from_is_err_and}
use Rattle.std.proofs.lemmas.Grind.{common_steps}
use Rattle.mirror_volume.specs.declared.mirror.Mirror.{Mirror}
use Rattle.mirror_volume.specs.MirrorCalls.{AreCalled}
use Rattle.mirror_volume.proofs.Flushing.{none_called, keeps_called, called_stands, cause_first}
use Rattle.mirror_volume.proofs.Keeping.{value_of, quiet_parts, all_over}
use Rattle.mirror_volume.proofs.Standing.{quiet_stands}
use Rattle.mirror_volume.proofs.mirror_volume.MirrorVolume.sync.Goals as goal

pub returns-in_err-flush-clause-flushed : goal.returns-in_err-flush-clause-flushed
returns-in_err-flush-clause-flushed g c =
    let told = c.in_err-flush.ensures.told in
    let size = c.in_err-flush.ensures.size in
    let later = c.in_err-flush.ensures.cause.later in
    let cause = cause_first g.D.Device (g.D.Device.count c.self.inside.primary) (g.D.Device.count c.flush.new.self) c.self.inside.mirrors.items c.in_err-flush.field-0.0 later
    (c.in_err-flush.ensures.cause.rose refl) in
    let p = err_from_is_err_and c.from_residual.result c.from_residual.ensures.1 in
    rw (p.1, p.2, ← c.self.view_is) (record {
      primary = record { told_is = told; size_is = size; later = later };
      mirrors = none_called g.D.Device c.self.inside.mirrors.items;
      images = refl;
      lasts = tt;
      mirrors_last = tt;
      cause = cause;
    })

pub returns-in_err-flush-clause-stands : goal.returns-in_err-flush-clause-stands
returns-in_err-flush-clause-stands g c =
    let told = c.in_err-flush.ensures.told in let size = c.in_err-flush.ensures.size in let later = c.in_err-flush.ensures.cause.later in
    grind (arith, common_steps, quiet_stands, quiet_parts, c.self.view_is)

pub invariant_of-self-2 : goal.invariant_of-self-2
invariant_of-self-2 g c =
    let all = all_over c.self.inside.mirrors.len c.flush_all.new.mirrors c.self.inside.mirrors.items (omega arith) in
    let are = subst (λ (ms : List (Mirror _)). AreCalled g.D.Device ms c.flush_all.new.mirrors) c.deref_mut.ensures.value c.flush_all.ensures.called in
    rw all (keeps_called g.D.Device c.self.inside.primary c.flush.new.self c.self.inside.mirrors.items c.flush_all.new.mirrors c.self.inside.images
    c.in_ok-flush.ensures.size are c.self.invariant)

pub returns-clause-stands : goal.returns-clause-stands
returns-clause-stands g c =
    let all = all_over c.self.inside.mirrors.len c.flush_all.new.mirrors c.self.inside.mirrors.items (omega arith) in
    let are = subst (λ (ms : List (Mirror _)). AreCalled g.D.Device ms c.flush_all.new.mirrors) c.deref_mut.ensures.value c.flush_all.ensures.called in
    let told = c.in_ok-flush.ensures.told in
    let size = c.in_ok-flush.ensures.size in
    let later = c.in_ok-flush.ensures.cause.later in
    rw all (rw (← c.self.view_is) (λ h stood. called_stands g.D.Device
    (value_of c.self.inside.primary c.self.inside.mirrors.items c.self.inside.images.items)
    (value_of c.flush.new.self c.flush_all.new.mirrors c.self.inside.images.items) h (record { told_is = told; size_is = size; later = later }) are refl stood))

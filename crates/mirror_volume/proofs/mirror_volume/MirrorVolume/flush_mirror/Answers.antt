use Rattle.std.proofs.Common.{refl}
use Rattle.std.specs.Prelude.{slice_set}
use Rattle.mirror_volume.specs.declared.mirror.Mirror.{Mirror}
use Rattle.mirror_volume.proofs.Keeping.{at_place, value_of, keeps_one}
use Rattle.mirror_volume.proofs.Standing.{quiet_on_stands}
use Rattle.mirror_volume.proofs.mirror_volume.MirrorVolume.flush_mirror.Goals as goal

pub invariant_of-self : goal.invariant_of-self
invariant_of-self g c =
    let within = rw (← c.self.view_is) at c.requires in
    let before = c.index_mut-mirror.result.now in
    let at = at_place c.self.inside.mirrors.items c.args.mirror before within c.index_mut-mirror.ensures.value in
    let after : Mirror _ = record { device = c.flush.new.self; holds = before.holds; stale = before.stale } in
    let primary = c.self.inside.primary in
    keeps_one g.D.Device.size primary primary c.self.inside.mirrors.items c.self.inside.images c.args.mirror before after refl at c.flush.ensures.size refl refl c.self.invariant

pub returns-clause-flushed : goal.returns-clause-flushed
returns-clause-flushed g c =
    let within = rw (← c.self.view_is) at c.requires in
    let before = c.index_mut-mirror.result.now in
    let at = at_place c.self.inside.mirrors.items c.args.mirror before within c.index_mut-mirror.ensures.value in
    let told = c.flush.ensures.told in
    let size = c.flush.ensures.size in
    let later = c.flush.ensures.cause.later in
    rw (← c.self.view_is) (record {
      mirror = before;
      quiet = record { was = at; after = c.flush.new.self; device = record { told_is = told; size_is = size; later = later }; mirrors = refl; primary = refl; images = refl };
      lasts = c.flush.ensures.lasts;
      cause = c.flush.ensures.cause;
    })

pub returns-clause-stands : goal.returns-clause-stands
returns-clause-stands g c =
    let within = rw (← c.self.view_is) at c.requires in
    let before = c.index_mut-mirror.result.now in
    let at = at_place c.self.inside.mirrors.items c.args.mirror before within c.index_mut-mirror.ensures.value in
    let after : Mirror _ = record { device = c.flush.new.self; holds = before.holds; stale = before.stale } in
    let told = c.flush.ensures.told in
    let size = c.flush.ensures.size in
    let later = c.flush.ensures.cause.later in
    rw (← c.self.view_is) (λ h stood. quiet_on_stands g.D.Device (value_of c.self.inside.primary c.self.inside.mirrors.items c.self.inside.images.items)
    (value_of c.self.inside.primary (slice_set c.self.inside.mirrors.items c.args.mirror after) c.self.inside.images.items) c.args.mirror before h
    (record { was = at; after = c.flush.new.self; device = record { told_is = told; size_is = size; later = later }; mirrors = refl; primary = refl; images = refl }) stood)

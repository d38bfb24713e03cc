use Rattle.std.proofs.Common.{refl}
use Rattle.std.specs.Prelude.{slice_set}
use Rattle.mirror_volume.proofs.Keeping.{at_place, value_of, keeps_synced}
use Rattle.mirror_volume.proofs.Standing.{synced_stands}
use Rattle.mirror_volume.proofs.mirror_volume.MirrorVolume.resync_step.Goals as goal

pub invariant_of-self : goal.invariant_of-self
invariant_of-self g c =
    let within = rw (← c.self.view_is) at c.requires in
    let at = at_place c.self.inside.mirrors.items c.args.mirror c.index_mut-mirror.result.now within c.index_mut-mirror.ensures.value in
    keeps_synced g.D.Device c.self.inside.primary c.step.new.primary c.self.inside.mirrors.items c.self.inside.images c.args.mirror c.index_mut-mirror.result.now c.step.new.mirror
    c.step.result at c.step.ensures c.self.invariant

pub returns-clause-synced : goal.returns-clause-synced
returns-clause-synced g c =
    let within = rw (← c.self.view_is) at c.requires in
    let at = at_place c.self.inside.mirrors.items c.args.mirror c.index_mut-mirror.result.now within c.index_mut-mirror.ensures.value in
    rw (← c.self.view_is) (record { before = c.index_mut-mirror.result.now; after = c.step.new.mirror; was = at; mirrors = refl; images = refl; step = c.step.ensures })

pub returns-clause-stands : goal.returns-clause-stands
returns-clause-stands g c =
    let within = rw (← c.self.view_is) at c.requires in
    let at = at_place c.self.inside.mirrors.items c.args.mirror c.index_mut-mirror.result.now within c.index_mut-mirror.ensures.value in
    rw (← c.self.view_is) (λ h stood. synced_stands g.D.Device (value_of c.self.inside.primary c.self.inside.mirrors.items c.self.inside.images.items)
    (value_of c.step.new.primary (slice_set c.self.inside.mirrors.items c.args.mirror c.step.new.mirror) c.self.inside.images.items) c.args.mirror c.step.result h c.self.invariant.are_mirrors
    (record { before = c.index_mut-mirror.result.now; after = c.step.new.mirror; was = at; mirrors = refl; images = refl; step = c.step.ensures }) stood)

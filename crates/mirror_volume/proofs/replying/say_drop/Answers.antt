use Rattle.std.proofs.Common.{subst, sym}
use Rattle.mirror_volume.proofs.HavingSaid.{drop_step, no_drop_step}
use Rattle.mirror_volume.proofs.replying.say_drop.Goals as goal

pub returns-in-Ok-clause-step : goal.returns-in-Ok-clause-step
returns-in-Ok-clause-step g c = λ h stood. drop_step g.V.ImageVolume.stands g.V.ImageVolume.tells g.V.ImageVolume.size g.V.ImageVolume.slots g.V.ImageVolume.ready_for g.V.ImageVolume.count
    g.V.ImageVolume.sets g.V.ImageVolume.per_cut c.args.volume.now c.drop_image.new.self h c.args.set
    (g.met.V.ImageVolume.sets_are c.args.volume.now h stood) c.in-Ok.ensures.dropped.0 c.in-Ok.ensures.same c.in-Ok.ensures.ready

pub returns-in-Err-clause-step : goal.returns-in-Err-clause-step
returns-in-Err-clause-step g c = λ h stood. no_drop_step g.V.ImageVolume.stands g.V.ImageVolume.tells g.V.ImageVolume.size g.V.ImageVolume.slots g.V.ImageVolume.ready_for g.V.ImageVolume.count
    g.V.ImageVolume.sets g.V.ImageVolume.per_cut c.args.volume.now c.drop_image.new.self h c.args.set
    (g.met.V.ImageVolume.sets_are c.args.volume.now h stood) c.in-Err.ensures.dropped.1 c.in-Err.ensures.same c.in-Err.ensures.ready

pub returns-in-Err-clause-stands : goal.returns-in-Err-clause-stands
returns-in-Err-clause-stands g c = λ h stood. subst (λ v. g.V.ImageVolume.stands v h) (sym c.in-Err.ensures.dropped.2) stood

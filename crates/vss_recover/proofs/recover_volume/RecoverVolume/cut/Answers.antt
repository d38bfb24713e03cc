use Rattle.std.proofs.Common.{refl}
use Rattle.vss_recover.proofs.InParts.{value_of}
use Rattle.vss_recover.proofs.Taken.{cut_step}
use Rattle.vss_recover.proofs.recover_volume.RecoverVolume.cut.Goals as goal

pub returns-clause-step : goal.returns-clause-step
returns-clause-step g c =
    let newest = rw (← c.self.view_is) at c.requires.newest in
    let closed = rw (← c.self.view_is) at c.requires.closed in
    rw (← c.self.view_is) (λ h stood. cut_step g.D.Device.told (value_of c.self.inside.volume c.self.inside.overlay c.self.inside.window c.self.inside.claims.items c.self.inside.finals.items)
    (value_of c.cut.new.self c.self.inside.overlay c.self.inside.window c.self.inside.claims.items c.self.inside.finals.items) c.args.set c.cut.ensures.area c.cut.ensures.images
    (record { overlay = refl; window = refl; claims = refl; final = refl }) c.cut.ensures.stands newest closed h stood)

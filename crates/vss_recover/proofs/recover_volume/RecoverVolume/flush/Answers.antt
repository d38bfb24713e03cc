use Rattle.std.proofs.Common.{refl}
use Rattle.vss_recover.proofs.InParts.{value_of, blocks_kept}
use Rattle.vss_recover.proofs.Standing.{quiet_stands}
use Rattle.vss_recover.proofs.recover_volume.RecoverVolume.flush.Goals as goal

pub returns-clause-stands : goal.returns-clause-stands
returns-clause-stands g c =
    rw (← c.self.view_is) (λ h stood. quiet_stands g.D.Device.told (value_of c.self.inside.volume c.self.inside.overlay c.self.inside.window c.self.inside.claims.items c.self.inside.finals.items)
    (value_of c.flush.new.self c.self.inside.overlay c.self.inside.window c.self.inside.claims.items c.self.inside.finals.items) h stood (c.flush.ensures.stands h.volume stood.volume)
    (blocks_kept c.self.inside.volume c.flush.new.self c.flush.ensures.quiet.kept.volumes) refl refl refl refl refl)

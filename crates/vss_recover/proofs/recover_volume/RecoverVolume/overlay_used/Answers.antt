use Rattle.std.proofs.Common.{◌∙◌}
use Rattle.vss_recover.proofs.InParts.{value_of}
use Rattle.vss_recover.proofs.Taken.{used_pairs}
use Rattle.vss_recover.proofs.recover_volume.RecoverVolume.overlay_used.Goals as goal

pub returns-clause-pairs : goal.returns-clause-pairs
returns-clause-pairs g c =
    rw (← c.self.view_is)
    (λ h stood. c.used.ensures
    ∙ used_pairs g.D.Device.told
    (value_of c.self.inside.volume c.self.inside.overlay c.self.inside.window c.self.inside.claims.items c.self.inside.finals.items) h stood c.self.invariant.fits c.slots-valid.ensures.valid)

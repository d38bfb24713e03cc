use Rattle.std.proofs.Common.{refl}
use Rattle.vss_recover.proofs.InParts.{value_of, synced_stands, synced_of, same_slots}
use Rattle.vss_recover.proofs.recover_volume.RecoverVolume.sync.Goals as goal

pub returns-in_err-sync-clause-stands : goal.returns-in_err-sync-clause-stands
returns-in_err-sync-clause-stands g c =
    rw (← c.self.view_is) (λ h stood. synced_stands g.D.Device
    (value_of c.self.inside.volume c.self.inside.overlay c.self.inside.window c.self.inside.claims.items c.self.inside.finals.items)
    (value_of c.sync.new.self c.self.inside.overlay c.self.inside.window c.self.inside.claims.items c.self.inside.finals.items) h
    (synced_of g.D.Device c.self.inside.volume c.sync.new.self c.sync.result c.sync.ensures.sync)
    (same_slots g.D.Device c.self.inside.overlay) (record { window = refl; claims = refl; final = refl }) stood)

pub returns-clause-stands : goal.returns-clause-stands
returns-clause-stands g c =
    rw (← c.self.view_is) (λ h stood. synced_stands g.D.Device
    (value_of c.self.inside.volume c.self.inside.overlay c.self.inside.window c.self.inside.claims.items c.self.inside.finals.items)
    (value_of c.sync.new.self c.sync-2.new.self c.self.inside.window c.self.inside.claims.items c.self.inside.finals.items) h
    (synced_of g.D.Device c.self.inside.volume c.sync.new.self c.sync.result c.sync.ensures.sync)
    c.sync-2.ensures.kept (record { window = refl; claims = refl; final = refl }) stood)

use Rattle.std.proofs.Common.{sym, subst}
use Rattle.std.specs.Prelude.{Ok}
use Rattle.cow_volume.specs.StandsFor.{GroupValue}
use Rattle.cow_volume.specs.OneVolume.{IsOneDropped}
use Rattle.vss_recover.proofs.InParts.{value_of, settled_in_all}
use Rattle.vss_recover.proofs.Taken.{dropped_step}
use Rattle.vss_recover.proofs.recover_volume.RecoverVolume.drop_image.Goals as goal

pub returns-clause-step : goal.returns-clause-step
returns-clause-step g c =
    rw (← c.self.view_is)
    (dropped_step g.D.Device
    (value_of c.self.inside.volume c.self.inside.overlay c.self.inside.window c.self.inside.claims.items c.self.inside.finals.items) c.settle.new.self c.args.set
    (subst (λ (v : GroupValue _). IsOneDropped g.D.Device c.self.inside.volume v c.args.set (Ok tt))
    (sym c.settle.ensures.volume) c.in_ok-drop_image.ensures)
    (settled_in_all c.self.inside.volume c.drop_image.new.self c.self.inside.overlay c.self.inside.window c.self.inside.claims.items c.self.inside.finals.items c.settle.new.self
    c.settle.ensures.settled))

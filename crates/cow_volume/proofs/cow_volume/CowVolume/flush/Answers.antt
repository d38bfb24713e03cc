use Rattle.cow_volume.proofs.OneVolume.{one_quiet}
use Rattle.cow_volume.proofs.cow_volume.CowVolume.flush.Goals as goal

pub returns-clause-stands : goal.returns-clause-stands
returns-clause-stands g c =
    let is = one_quiet g.D.Device c.self.inside.group c.flush.new.self c.flush.ensures.quiet in
    rw (← c.self.view_is) is

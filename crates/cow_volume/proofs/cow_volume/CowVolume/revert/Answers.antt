use Rattle.std.proofs.Common.{◌∙◌, ap, length}
use Rattle.cow_volume.proofs.OneVolume.{one_revert, revert_volumes}
use Rattle.cow_volume.proofs.cow_volume.CowVolume.revert.Goals as goal

pub invariant_of-self : goal.invariant_of-self
invariant_of-self g c = ap length
    (revert_volumes g.D.Device c.self.inside.group c.revert.new.self c.args.set c.revert.result c.revert.ensures) ∙ c.self.invariant

pub returns : goal.returns
returns g c =
    let is = one_revert g.D.Device c.self.inside.group c.revert.new.self c.args.set c.revert.result c.revert.ensures in
    rw (← c.self.view_is) is

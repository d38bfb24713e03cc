use Rattle.std.proofs.Common.{◌∙◌, ap, length}
use Rattle.cow_volume.proofs.OneVolume.{one_dropped, dropped_volumes}
use Rattle.cow_volume.proofs.cow_volume.CowVolume.drop_image.Goals as goal

pub invariant_of-self : goal.invariant_of-self
invariant_of-self g c = ap length
    (dropped_volumes g.D.Device c.self.inside.group c.drop_image.new.self c.args.set c.drop_image.result c.drop_image.ensures)
    ∙ c.self.invariant

pub returns : goal.returns
returns g c =
    let is = one_dropped g.D.Device c.self.inside.group c.drop_image.new.self c.args.set c.drop_image.result c.drop_image.ensures in
    rw (← c.self.view_is) is

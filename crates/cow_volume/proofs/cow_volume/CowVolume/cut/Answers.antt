use Rattle.std.proofs.Common.{[], ◌∷◌}
use Rattle.write_history.specs.History.{History, cut as cut_at}
use Rattle.cow_volume.specs.OneVolume.{StandsForOne}
use Rattle.cow_volume.proofs.cow_volume.CowVolume.cut.Goals as goal

pub returns-clause-stands : goal.returns-clause-stands
returns-clause-stands g c =
    let is : (h : History) → StandsForOne g.D.Device.told c.self.inside.group h → StandsForOne g.D.Device.told c.cut.new.self (cut_at c.args.set h) = λ h stood. c.cut.ensures.stands (h ∷ []) stood in
    rw (← c.self.view_is) is

use Rattle.std.proofs.Common.{◌≡◌, [], ◌∷◌}
use Rattle.write_history.specs.History.{History}
use Rattle.write_history.specs.Slots.{used_by}
use Rattle.cow_volume.specs.OneVolume.{StandsForOne, blocks_of}
use Rattle.cow_volume.proofs.cow_volume.CowVolume.used_by.Goals as goal

pub returns : goal.returns
returns g c =
    let is : (h : History) → StandsForOne g.D.Device.told c.self.inside.group h
    → c.used_by.result ≡ used_by (blocks_of c.self.inside.group) h.writes h.images c.args.set = λ h stood. c.used_by.ensures (h ∷ []) stood in
    rw (← c.self.view_is) is

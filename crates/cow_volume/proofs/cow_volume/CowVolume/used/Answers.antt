use Rattle.std.proofs.Common.{◌≡◌, [], ◌∷◌}
use Rattle.write_history.specs.History.{History}
use Rattle.write_history.specs.Slots.{used}
use Rattle.cow_volume.specs.OneVolume.{StandsForOne, blocks_of}
use Rattle.cow_volume.proofs.cow_volume.CowVolume.used.Goals as goal

pub returns : goal.returns
returns g c =
    let is : (h : History) → StandsForOne g.D.Device.told c.self.inside.group h → c.used.result ≡ used (blocks_of c.self.inside.group) h.writes h.images = λ h stood. c.used.ensures (h ∷ []) stood in
    rw (← c.self.view_is) is

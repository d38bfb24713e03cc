use Rattle.provider.proofs.Found.{found_by, inside, used_of}
use Rattle.provider.proofs.provider.Provider.used.Goals as goal

pub used-requires : goal.used-requires
used-requires g c = inside (found_by c.self.view_is c.requires.has c.place-place.ensures c.index.ensures)

pub returns : goal.returns
returns g c =
    rw (← c.self.view_is) (used_of g.D.Device.told (found_by c.self.view_is c.requires.has c.place-place.ensures c.index.ensures)
    c.used.result c.used.ensures)

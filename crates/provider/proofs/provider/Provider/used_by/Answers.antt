use Rattle.provider.proofs.Found.{found_by, inside, used_by_of}
use Rattle.provider.proofs.provider.Provider.used_by.Goals as goal

pub used_by-requires : goal.used_by-requires
used_by-requires g c = inside (found_by c.self.view_is c.requires.has c.place-place.ensures c.index.ensures)

pub returns : goal.returns
returns g c =
    rw (← c.self.view_is) (used_by_of g.D.Device.told (found_by c.self.view_is c.requires.has c.place-place.ensures c.index.ensures)
    c.args.set c.used_by.result c.used_by.ensures)

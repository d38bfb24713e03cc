use Rattle.provider.proofs.Found.{found_by, inside, sets_here}
use Rattle.std.proofs.Common.{◌∙◌}
use Rattle.provider.proofs.provider.Provider.images.Goals as goal

pub images-requires : goal.images-requires
images-requires g c = inside (found_by c.self.view_is c.requires.has c.place-place.ensures c.index.ensures)

pub returns-clause-sets : goal.returns-clause-sets
returns-clause-sets g c =
    rw (← c.self.view_is) (λ hs are. c.images.ensures.images ∙ sets_here g.D.Device.told
    (found_by c.self.view_is c.requires.has c.place-place.ensures c.index.ensures) hs are)

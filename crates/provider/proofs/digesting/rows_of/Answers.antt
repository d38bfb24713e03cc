use Rattle.provider.proofs.Found.{found_in, inside}
use Rattle.provider.proofs.digesting.rows_of.Goals as goal

pub images-set-items-requires : goal.images-set-items-requires
images-set-items-requires g c = inside (found_in c.requires c.place-place.ensures c.index.ensures)

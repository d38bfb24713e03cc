use Rattle.image_store.proofs.Lasting.{images_of_cuts}
use Rattle.image_store.proofs.laws.images_are_of_their_cut.Goals as goal

pub returns : goal.returns
returns c = images_of_cuts

use Rattle.image_store.proofs.Origins.{shown_of_cut}
use Rattle.image_store.proofs.laws.shown_is_of_its_cut.Goals as goal

pub returns : goal.returns
returns c = shown_of_cut

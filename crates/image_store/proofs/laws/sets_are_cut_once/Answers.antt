use Rattle.image_store.proofs.Origins.{cut_once}
use Rattle.image_store.proofs.laws.sets_are_cut_once.Goals as goal

pub returns : goal.returns
returns c = cut_once

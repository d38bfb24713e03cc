use Rattle.image_store.proofs.Origins.{images_come}
use Rattle.image_store.proofs.laws.images_come_of_cuts.Goals as goal

pub returns : goal.returns
returns c = images_come

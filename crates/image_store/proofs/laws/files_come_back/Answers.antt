use Rattle.image_store.proofs.Origins.{files_back}
use Rattle.image_store.proofs.laws.files_come_back.Goals as goal

pub returns : goal.returns
returns c = files_back

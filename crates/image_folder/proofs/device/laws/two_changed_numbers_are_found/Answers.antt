use Rattle.image_folder.proofs.BlockSums.{other_sum}
use Rattle.image_folder.proofs.device.laws.two_changed_numbers_are_found.Goals as goal

pub returns : goal.returns
returns c = other_sum

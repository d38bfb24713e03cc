use Rattle.promises.proofs.Levels.{has_its_numbers}
use Rattle.promises.proofs.laws.limits_are_these_numbers.Goals as goal

pub returns : goal.returns
returns c = has_its_numbers

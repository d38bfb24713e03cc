use Rattle.promises.proofs.Promises.{as_promised}
use Rattle.promises.proofs.laws.every_run_is_as_promised.Goals as goal

pub returns : goal.returns
returns c = as_promised

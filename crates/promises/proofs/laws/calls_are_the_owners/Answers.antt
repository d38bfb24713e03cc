use Rattle.promises.proofs.Moves.{calls_are_owned}
use Rattle.promises.proofs.laws.calls_are_the_owners.Goals as goal

pub returns : goal.returns
returns c = calls_are_owned

use Rattle.vss_model.proofs.Appending.{state-run, moves-run}
use Rattle.promises.proofs.facts.run_of_acts.Goals as goal

pub returns : goal.returns
returns c = record { state = state-run; moves = moves-run }

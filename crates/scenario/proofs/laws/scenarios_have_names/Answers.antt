use Rattle.scenario.proofs.Named.{has_names}
use Rattle.scenario.proofs.laws.scenarios_have_names.Goals as goal

pub returns : goal.returns
returns c = has_names

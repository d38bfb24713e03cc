use Rattle.vss_model.proofs.GoesOn.{can_go_on}
use Rattle.promises.proofs.facts.legal_trail_goes_on.Goals as goal

pub returns : goal.returns
returns c = can_go_on

use Rattle.vss_model.proofs.OrderlyActs.{orderly}
use Rattle.promises.proofs.facts.state_in_order.Goals as goal

pub returns : goal.returns
returns c = orderly

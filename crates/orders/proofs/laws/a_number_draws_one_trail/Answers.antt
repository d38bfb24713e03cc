use Rattle.std.proofs.Common.{[]}
use Rattle.orders.proofs.Replay.{one_drawn}
use Rattle.orders.proofs.laws.a_number_draws_one_trail.Goals as goal

pub returns : goal.returns
returns c = λ s number one other h k clean unmarked complete ended. one_drawn s number [] one other h k clean unmarked complete ended

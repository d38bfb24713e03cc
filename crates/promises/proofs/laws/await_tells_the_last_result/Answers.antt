use Rattle.promises.proofs.LastResult.{await_tells}
use Rattle.promises.proofs.laws.await_tells_the_last_result.Goals as goal

pub returns : goal.returns
returns c = await_tells

use Rattle.promises.proofs.Evicted.{tells_evicted}
use Rattle.promises.proofs.laws.writes_tell_the_evicted.Goals as goal

pub returns : goal.returns
returns c = tells_evicted

use Rattle.image_store.proofs.Origins.{calls_follow}
use Rattle.image_store.proofs.laws.calls_follow_one_another.Goals as goal

pub returns : goal.returns
returns g c = calls_follow g.D.Device.told

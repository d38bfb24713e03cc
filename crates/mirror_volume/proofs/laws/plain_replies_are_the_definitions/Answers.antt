use Rattle.mirror_volume.proofs.HavingSaid.{plain_replies}
use Rattle.mirror_volume.proofs.laws.plain_replies_are_the_definitions.Goals as goal

pub returns : goal.returns
returns c = λ kind ready count now_ready now_count h commands said run plain. plain_replies kind h ready count now_ready now_count commands said run plain

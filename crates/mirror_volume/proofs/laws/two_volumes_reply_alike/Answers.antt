use Rattle.std.proofs.Common.{arith}
use Rattle.std.proofs.lemmas.Grind.{common_steps}
use Rattle.mirror_volume.proofs.HavingSaid.{plain_replies}
use Rattle.mirror_volume.proofs.laws.two_volumes_reply_alike.Goals as goal

pub returns : goal.returns
returns c = grind (arith, common_steps, plain_replies)

use Rattle.mirror_volume.proofs.Keeping.{quiet_parts}
use Rattle.mirror_volume.proofs.Standing.{quiet_stands}
use Rattle.mirror_volume.proofs.mirror_volume.MirrorVolume.read_into.Goals as goal
use Rattle.std.proofs.Common.{arith}
use Rattle.std.proofs.lemmas.Grind.{common_steps}

pub returns-clause-stands : goal.returns-clause-stands
returns-clause-stands g c =
    grind (arith, common_steps, quiet_parts, quiet_stands, c.read_into.ensures.told, c.read_into.ensures.size, c.read_into.ensures.cause.later, c.self.view_is)

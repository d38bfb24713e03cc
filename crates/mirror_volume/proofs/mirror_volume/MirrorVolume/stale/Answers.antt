use Rattle.mirror_volume.proofs.Standing.{equals_primary}
use Rattle.mirror_volume.proofs.mirror_volume.MirrorVolume.stale.Goals as goal
use Rattle.std.proofs.Common.{arith}
use Rattle.std.proofs.lemmas.Bool.Decides.{nat_tests}
use Rattle.std.proofs.lemmas.Grind.{common_steps}

pub returns-clause-others : goal.returns-clause-others
returns-clause-others g c = grind (arith, common_steps, nat_tests, equals_primary)

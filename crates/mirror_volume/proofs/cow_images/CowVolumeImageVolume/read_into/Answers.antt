use Rattle.mirror_volume.proofs.Flushing.{read_is, kept_same}
use Rattle.mirror_volume.proofs.cow_images.CowVolumeImageVolume.read_into.Goals as goal
use Rattle.std.proofs.Common.{arith}
use Rattle.std.proofs.lemmas.Bool.Decides.{nat_tests}
use Rattle.std.proofs.lemmas.Grind.{common_steps}

pub returns-clause-read : goal.returns-clause-read
returns-clause-read g c = grind (arith, common_steps, nat_tests, read_is)

pub returns-clause-same : goal.returns-clause-same
returns-clause-same g c = kept_same g.D.Device c.args.self.now c.read_into.new.self c.read_into.ensures.quiet.kept

use Rattle.mirror_volume.proofs.Flushing.{image_is, kept_same}
use Rattle.mirror_volume.proofs.cow_images.CowVolumeImageVolume.read_image_into.Goals as goal
use Rattle.std.proofs.Common.{arith}
use Rattle.std.proofs.lemmas.Bool.Decides.{nat_tests}
use Rattle.std.proofs.lemmas.Grind.{common_steps}

pub returns-clause-read : goal.returns-clause-read
returns-clause-read g c = grind (arith, common_steps, nat_tests, image_is)

pub returns-clause-same : goal.returns-clause-same
returns-clause-same g c = kept_same g.D.Device c.args.self.now c.read_image_into.new.self c.read_image_into.ensures.quiet.kept

use Rattle.mirror_volume.proofs.Flushing.{write_is, write_same}
use Rattle.mirror_volume.proofs.cow_images.CowVolumeImageVolume.write.Goals as goal
use Rattle.std.proofs.Common.{arith}
use Rattle.std.proofs.lemmas.Bool.Decides.{nat_tests}
use Rattle.std.proofs.lemmas.Grind.{common_steps}

pub returns-clause-write : goal.returns-clause-write
returns-clause-write g c = grind (arith, common_steps, nat_tests, write_is g.D.Device c.args.self.now c.write.new.self, c.write.ensures.write)

pub returns-clause-same : goal.returns-clause-same
returns-clause-same g c = grind (arith, common_steps, nat_tests, write_same)

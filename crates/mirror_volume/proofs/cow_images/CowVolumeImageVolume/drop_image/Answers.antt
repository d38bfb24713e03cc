use Rattle.mirror_volume.proofs.Flushing.{drop_is, drop_same}
use Rattle.mirror_volume.proofs.cow_images.CowVolumeImageVolume.drop_image.Goals as goal

pub returns-clause-dropped : goal.returns-clause-dropped
returns-clause-dropped g c = drop_is g.D.Device c.args.self.now c.drop_image.new.self c.args.set c.drop_image.result c.drop_image.ensures

pub returns-clause-same : goal.returns-clause-same
returns-clause-same g c = drop_same g.D.Device c.args.self.now c.drop_image.new.self c.args.set c.drop_image.result c.drop_image.ensures

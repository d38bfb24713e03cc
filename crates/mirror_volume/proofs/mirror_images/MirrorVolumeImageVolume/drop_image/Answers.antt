use Rattle.mirror_volume.proofs.Contracts.{drop_is, drop_same, drop_ready}
use Rattle.mirror_volume.proofs.mirror_images.MirrorVolumeImageVolume.drop_image.Goals as goal

pub returns-clause-dropped : goal.returns-clause-dropped
returns-clause-dropped g c = drop_is g.D.Device c.args.self.now c.drop_image.new.self c.args.set c.drop_image.result c.drop_image.ensures.dropped c.drop_image.ensures.stands

pub returns-clause-same : goal.returns-clause-same
returns-clause-same g c = drop_same g.D.Device c.args.self.now c.drop_image.new.self c.args.set c.drop_image.result c.drop_image.ensures.dropped

pub returns-clause-ready : goal.returns-clause-ready
returns-clause-ready g c = drop_ready g.D.Device c.args.self.now c.drop_image.new.self c.args.set c.drop_image.result c.drop_image.ensures.dropped

use Rattle.mirror_volume.proofs.Contracts.{cut_is, cut_same}
use Rattle.mirror_volume.proofs.mirror_images.MirrorVolumeImageVolume.cut.Goals as goal

pub returns-clause-cut : goal.returns-clause-cut
returns-clause-cut g c = cut_is g.D.Device c.args.self.now c.cut.new.self c.args.set c.cut.result c.cut.ensures.cut c.cut.ensures.stands

pub returns-clause-same : goal.returns-clause-same
returns-clause-same g c = cut_same g.D.Device c.args.self.now c.cut.new.self c.args.set c.cut.result c.cut.ensures.cut

use Rattle.mirror_volume.proofs.Contracts.{image_is, image_same, image_ready}
use Rattle.mirror_volume.proofs.mirror_images.MirrorVolumeImageVolume.read_image_into.Goals as goal

pub returns-clause-read : goal.returns-clause-read
returns-clause-read g c = image_is g.D.Device c.args.self.now c.read_image_into.new.self c.args.set c.args.block c.read_image_into.new.out c.read_image_into.result c.read_image_into.ensures.read

pub returns-clause-same : goal.returns-clause-same
returns-clause-same g c = image_same g.D.Device c.args.self.now c.read_image_into.new.self c.args.set c.args.block c.read_image_into.new.out c.read_image_into.result c.read_image_into.ensures.read

pub returns-clause-ready : goal.returns-clause-ready
returns-clause-ready g c = image_ready g.D.Device c.args.self.now c.read_image_into.new.self c.args.set c.args.block c.read_image_into.new.out c.read_image_into.result c.read_image_into.ensures.read

use Rattle.mirror_volume.proofs.Contracts.{read_is, read_same, read_ready}
use Rattle.mirror_volume.proofs.mirror_images.MirrorVolumeImageVolume.read_into.Goals as goal

pub returns-clause-read : goal.returns-clause-read
returns-clause-read g c = read_is g.D.Device c.args.self.now c.read_into.new.self c.args.block c.read_into.new.out c.read_into.result c.read_into.ensures.read

pub returns-clause-same : goal.returns-clause-same
returns-clause-same g c = read_same g.D.Device c.args.self.now c.read_into.new.self c.args.block c.read_into.new.out c.read_into.result c.read_into.ensures.read

pub returns-clause-ready : goal.returns-clause-ready
returns-clause-ready g c = read_ready g.D.Device c.args.self.now c.read_into.new.self c.args.block c.read_into.new.out c.read_into.result c.read_into.ensures.read

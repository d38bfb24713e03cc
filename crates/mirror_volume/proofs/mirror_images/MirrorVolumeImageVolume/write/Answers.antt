use Rattle.block_data.specs.BlockBytes.{payload_bytes}
use Rattle.mirror_volume.proofs.Contracts.{write_is, write_same, write_ready}
use Rattle.mirror_volume.proofs.mirror_images.MirrorVolumeImageVolume.write.Goals as goal

pub returns-clause-write : goal.returns-clause-write
returns-clause-write g c = write_is g.D.Device c.args.self.now c.write.new.self
    (record { block = c.args.block; bytes = payload_bytes c.args.payload.now }) c.write.result c.write.ensures.write c.write.ensures.stands

pub returns-clause-same : goal.returns-clause-same
returns-clause-same g c = write_same g.D.Device c.args.self.now c.write.new.self (record { block = c.args.block; bytes = payload_bytes c.args.payload.now }) c.write.result c.write.ensures.write

pub returns-clause-ready : goal.returns-clause-ready
returns-clause-ready g c = write_ready g.D.Device c.args.self.now c.write.new.self (record { block = c.args.block; bytes = payload_bytes c.args.payload.now }) c.write.result c.write.ensures.write

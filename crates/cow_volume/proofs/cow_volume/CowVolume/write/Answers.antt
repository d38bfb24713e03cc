use Rattle.std.proofs.Common.{◌∙◌, ap, length}
use Rattle.block_data.specs.BlockBytes.{payload_bytes}
use Rattle.cow_volume.proofs.OneVolume.{one_write, write_volumes}
use Rattle.cow_volume.proofs.cow_volume.CowVolume.write.Goals as goal

pub invariant_of-self : goal.invariant_of-self
invariant_of-self g c =
    ap length (write_volumes g.D.Device c.self.inside.group c.write.new.self
    (record { block = c.args.block; bytes = payload_bytes c.args.payload.now }) c.write.result c.write.ensures.write) ∙ c.self.invariant

pub returns-clause-write : goal.returns-clause-write
returns-clause-write g c =
    let is = one_write g.D.Device c.self.inside.group c.write.new.self
    (record { block = c.args.block; bytes = payload_bytes c.args.payload.now }) c.write.result c.self.invariant c.write.ensures.write in
    rw (← c.self.view_is) is

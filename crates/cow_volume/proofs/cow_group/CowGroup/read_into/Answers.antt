use Rattle.cow_volume.specs.Parts.{group_of}
use Rattle.cow_volume.proofs.Kept.{sizes_kept}
use Rattle.cow_volume.proofs.cow_group.CowGroup.read_into.Goals as goal

pub invariant_of-self : goal.invariant_of-self
invariant_of-self g c =
    sizes_kept g.D.Device (group_of c.self.inside.devices.items c.self.inside.copies)
    (group_of c.read.new.devices.items c.read.new.copies) c.read.ensures.quiet.kept c.self.invariant

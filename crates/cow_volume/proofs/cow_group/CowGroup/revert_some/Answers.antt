use Rattle.std.specs.Prelude.{is_some}
use Rattle.cow_volume.specs.Calls.{counted_as}
use Rattle.cow_volume.specs.Parts.{group_of}
use Rattle.cow_volume.proofs.RestoringSteps.{sizes_reverted}
use Rattle.cow_volume.proofs.cow_group.CowGroup.revert_some.Goals as goal

pub invariant_of-self : goal.invariant_of-self
invariant_of-self g c =
    sizes_reverted (counted_as g.D.Device (is_some c.args.most)) (group_of c.self.inside.devices.items c.self.inside.copies)
    (group_of c.revert.new.devices.items c.revert.new.copies) c.args.v c.args.set c.revert.result c.revert.ensures.revert c.self.invariant

use Rattle.cow_volume.specs.Parts.{group_of}
use Rattle.cow_volume.proofs.Kept.{sizes_kept}
use Rattle.cow_volume.proofs.cow_group.CowGroup.flush.Goals as goal

pub invariant_of-self : goal.invariant_of-self
invariant_of-self g c =
    sizes_kept g.D.Device (group_of c.self.inside.devices.items c.self.inside.copies)
    (group_of c.flush_one.new.devices.items c.self.inside.copies) (c.flush_one.ensures.quiet c.self.inside.copies).kept c.self.invariant

pub returns-clause-quiet : goal.returns-clause-quiet
returns-clause-quiet g c = (let quiet = c.flush_one.ensures.quiet c.self.inside.copies in rw (← c.self.view_is) quiet)

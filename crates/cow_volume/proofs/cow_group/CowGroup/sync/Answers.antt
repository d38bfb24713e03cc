use Rattle.cow_volume.specs.Parts.{group_of}
use Rattle.cow_volume.proofs.Synced.{sizes_synced}
use Rattle.cow_volume.proofs.cow_group.CowGroup.sync.Goals as goal

pub invariant_of-self : goal.invariant_of-self
invariant_of-self g c =
    sizes_synced g.D.Device (group_of c.self.inside.devices.items c.self.inside.copies)
    (group_of c.self.inside.devices.items c.sync_all.new.copies) c.sync_all.result (c.sync_all.ensures.sync c.self.inside.devices.items) c.self.invariant

pub returns-clause-sync : goal.returns-clause-sync
returns-clause-sync g c = (let synced = c.sync_all.ensures.sync c.self.inside.devices.items in rw (← c.self.view_is) synced)

pub returns-clause-table : goal.returns-clause-table
returns-clause-table g c = (let written = c.sync_all.ensures.table c.self.inside.devices.items in rw (← c.self.view_is) written)

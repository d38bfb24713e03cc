use Rattle.std.proofs.Common.{◌∙◌, ap, length}
use Rattle.cow_volume.proofs.OneVolume.{one_sync, sync_volumes}
use Rattle.cow_volume.proofs.cow_volume.CowVolume.sync.Goals as goal

pub invariant_of-self : goal.invariant_of-self
invariant_of-self g c = ap length (sync_volumes g.D.Device c.self.inside.group c.sync.new.self c.sync.result c.sync.ensures.sync)
    ∙ c.self.invariant

pub returns-clause-sync : goal.returns-clause-sync
returns-clause-sync g c =
    let is = one_sync g.D.Device c.self.inside.group c.sync.new.self c.sync.result c.self.invariant c.sync.ensures.sync in
    rw (← c.self.view_is) is

pub returns-clause-of_group : goal.returns-clause-of_group
returns-clause-of_group g c = rw (← c.self.view_is) c.sync.ensures.sync

pub returns-clause-table : goal.returns-clause-table
returns-clause-table g c = rw (← c.self.view_is) c.sync.ensures.table

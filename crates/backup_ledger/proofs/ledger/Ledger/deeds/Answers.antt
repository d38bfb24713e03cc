use Rattle.backup_ledger.proofs.RightDeeds.{are_of_one_moment}
use Rattle.backup_ledger.proofs.ledger.Ledger.deeds.Goals as goal

pub returns-clause-moment : goal.returns-clause-moment
returns-clause-moment g c =
    let inside = c.self.inside in
    let is = are_of_one_moment (record { writers = inside.writers.items; volumes = inside.volumes.items; deeds = inside.deeds.items }) c.self.invariant.0 in
    rw (← c.self.view_is) is

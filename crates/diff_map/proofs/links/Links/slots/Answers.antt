use Rattle.diff_map.proofs.LinkedCopies.{AreLinked-from}
use Rattle.diff_map.proofs.links.Links.slots.Goals as goal

pub returns-clause-valid : goal.returns-clause-valid
returns-clause-valid c = rw (← c.self.view_is) (AreLinked-from c.self.inside.newest.items c.self.inside.rows.items c.self.invariant)

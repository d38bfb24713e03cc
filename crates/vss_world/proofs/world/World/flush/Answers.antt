use Rattle.vss_world.proofs.Digesting.{quiet_is}
use Rattle.vss_world.proofs.world.World.flush.Goals as goal

pub returns-clause-quiet : goal.returns-clause-quiet
returns-clause-quiet g c = rw (← c.self.view_is) (quiet_is g.D.Device (rw (← c.self.view_is) at c.requires.of) c.flush.ensures.set c.flush.ensures.quiet)

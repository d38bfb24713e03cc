use Rattle.vss_world.proofs.Following.{at_of, standing_of, session_waits, idle_moves}
use Rattle.vss_world.proofs.world.World.idle.Goals as goal

pub idle-requires : goal.idle-requires
idle-requires g c = record { standing = standing_of (rw (← c.self.view_is) at c.requires.of) (rw (← c.self.view_is) at c.requires.standing) }

pub returns-in-Waits : goal.returns-in-Waits
returns-in-Waits g c = rw (← c.self.view_is) (session_waits (rw c.in-Waits.is at c.idle.ensures.called c.args.scenario.now) (at_of (rw (← c.self.view_is) at c.requires.of)))

pub returns-in-Moves : goal.returns-in-Moves
returns-in-Moves g c =
    rw (← c.self.view_is) (idle_moves g.D.Device c.args.scenario.now (rw (← c.self.view_is) at c.requires.of) (rw (← c.self.view_is) at c.requires.standing) c.clear.ensures c.settle.ensures
    (rw c.in-Moves.is at c.idle.ensures.called c.args.scenario.now) c.idle.ensures.leaves)

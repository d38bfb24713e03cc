use Rattle.vss_world.proofs.Following.{standing_of, tick_moves}
use Rattle.vss_world.proofs.world.World.tick.Goals as goal

pub time-item-requires : goal.time-item-requires
time-item-requires g c = record { standing = standing_of (rw (← c.self.view_is) at c.requires.of) (rw (← c.self.view_is) at c.requires.standing) }

pub returns : goal.returns
returns g c =
    rw (← c.self.view_is) (tick_moves g.D.Device c.args.scenario.now (rw (← c.self.view_is) at c.requires.of) (rw (← c.self.view_is) at c.requires.standing) c.clear.ensures c.settle.ensures
    c.args.lane c.args.ticks c.requires.in_range (c.time-item.ensures.moves c.args.scenario.now c.args.lane) c.time-item.ensures.leaves)

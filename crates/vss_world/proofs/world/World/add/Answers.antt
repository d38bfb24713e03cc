use Rattle.std.proofs.Common.{refl}
use Rattle.vss_world.proofs.Called.{joined, not_joined, check_refuses}
use Rattle.vss_world.proofs.world.World.add.Goals as goal

pub returns-in-Refused : goal.returns-in-Refused
returns-in-Refused g c =
    rw c.coded.ensures (rw (← c.self.view_is)
    (check_refuses g.D.Device c.args.scenario.now (rw (← c.self.view_is) at c.requires.of) c.clear.ensures c.requires.in_range c.check.ensures.kept c.check.ensures.adds
    c.in-Refused.why c.in-Refused.is refl))

pub returns-in-Ok : goal.returns-in-Ok
returns-in-Ok g c =
    rw c.told.ensures (rw (← c.self.view_is)
    (joined g.D.Device c.args.scenario.now (rw (← c.self.view_is) at c.requires.of) c.clear-2.ensures c.requires.in_range c.check.ensures.kept c.check.ensures.adds
    c.in-Go.is c.begin_prepare-joined.result c.begin_prepare-joined.ensures.refused c.in-Ok.is c.in-Ok.ensures.joined))

pub returns-in-Err : goal.returns-in-Err
returns-in-Err g c =
    rw c.coded-in-Err.ensures
    (rw (← c.self.view_is) (not_joined g.D.Device c.args.scenario.now (rw (← c.self.view_is) at c.requires.of) c.clear-2.ensures c.requires.in_range c.check.ensures.kept c.check.ensures.adds
    c.in-Go.is c.begin_prepare-joined.result c.begin_prepare-joined.ensures.refused c.in-Err.why c.in-Err.is c.in-Err.ensures.joined))

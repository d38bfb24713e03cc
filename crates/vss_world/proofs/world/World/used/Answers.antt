use Rattle.vss_world.proofs.Words.{state}
use Rattle.vss_world.proofs.world.World.used.Goals as goal

pub returns : goal.returns
returns g c acts stands =
    let s = c.args.scenario.now in
    let groups = (rw (← c.self.view_is) at stands).at.groups in
    c.used.ensures (state s acts).volumes groups

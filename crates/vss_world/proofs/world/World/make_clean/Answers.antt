use Rattle.vss_world.proofs.Unsaid.{told_clean}
use Rattle.vss_world.proofs.world.World.make_clean.Goals as goal

pub returns : goal.returns
returns g c = told_clean g.D.Device c.args.self.now c.make.new.self c.args.scenario.now c.args.event c.make.result
    c.make.ensures.memory c.make.ensures.takes c.make.ensures.stepped c.make.ensures.lasts

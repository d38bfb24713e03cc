use Rattle.vss_world.proofs.Unsaid.{listed_so}
use Rattle.vss_world.proofs.world.World.step.Goals as goal

pub returns-clause-stepped : goal.returns-clause-stepped
returns-clause-stepped g c = rw c.end_listing.ensures
    (listed_so g.D.Device c.args.scenario.now c.args.event c.in_ok-reply.reply c.args.self.now c.make.new.self c.in_ok-reply.ensures.stepped)

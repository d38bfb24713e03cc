use Rattle.vss_world.proofs.Unsaid.{told_listed}
use Rattle.vss_world.proofs.world.World.step_marked.Goals as goal

pub returns-clause-stepped : goal.returns-clause-stepped
returns-clause-stepped g c = rw c.end_listing.ensures
    (told_listed g.D.Device c.args.self.now c.make_marked.new.self c.args.scenario.now c.args.event c.args.mark c.in_ok-reply.reply c.in_ok-reply.ensures)

use Rattle.vss_model.specs.Trail.{acts}
use Rattle.vss_play.proofs.end_digests.ready_digests.Goals as goal

pub returns-in-Ok : goal.returns-in-Ok
returns-in-Ok g c = c.in-Ok.ensures (acts c.args.scenario.now c.args.trail.now.moves) c.requires.stands.stands

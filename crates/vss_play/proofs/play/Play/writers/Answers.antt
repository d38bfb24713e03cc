use Rattle.vss_play.proofs.Finishing.{play_kept}
use Rattle.vss_play.proofs.play.Play.writers.Goals as goal

pub returns-clause-kept : goal.returns-clause-kept
returns-clause-kept g c = play_kept g.D.Device.told c.self.inside.scenario c.self.inside.world c.self.inside.cursors.items c.self.inside.trail.moves
    c.self.inside.lines.bytes c.args.self.now c.self.view_is c.self.invariant.play

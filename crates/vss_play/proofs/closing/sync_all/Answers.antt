use Rattle.vss_play.proofs.Areas.{areas_quiet, both_lasted}
use Rattle.vss_play.proofs.closing.sync_all.Goals as goal

pub returns-clause-areas : goal.returns-clause-areas
returns-clause-areas g c = areas_quiet g.D.Device c.sync_groups.new.world c.flush_volumes.new.world c.args.scenario.now c.args.trail.now.moves
    c.flush_volumes.ensures.quiet c.in_ok-sync_groups.ensures.areas

pub returns-clause-lasted : goal.returns-clause-lasted
returns-clause-lasted g c = both_lasted g.D.Device c.args.scenario.now c.sync_groups.new.world c.flush_volumes.new.world
    c.flush_volumes.ensures.quiet c.in_ok-flush_volumes.ensures.lasted c.in_ok-sync_groups.ensures.lasted

use Rattle.std.proofs.Common.{refl}
use Rattle.vss_play.proofs.Areas.{areas_quiet, still_ending, left_quiet}
use Rattle.vss_play.proofs.ClosingLines.{still_ready, still_stands}
use Rattle.vss_play.proofs.digests.digest_all.Goals as goal

pub returns-clause-areas : goal.returns-clause-areas
returns-clause-areas g c =
    areas_quiet g.D.Device c.sync_all.new.world c.digest_volumes.new.world c.args.scenario.now c.args.trail.now.moves c.digest_volumes.ensures.closes.quiet
    c.in_ok-sync_all.ensures.areas

pub digest_volumes-requires-clause-ready : goal.digest_volumes-requires-clause-ready
digest_volumes-requires-clause-ready g c = still_ready _ _ c.args.scenario.now c.args.trail.now.moves c.args.ready.now.rows c.args.ready.now.rows
    c.in_ok-sync_all.ensures.ending.tells refl c.requires.ready

pub returns-clause-left : goal.returns-clause-left
returns-clause-left g c = left_quiet g.D.Device c.args.scenario.now c.sync_all.new.world c.digest_volumes.new.world c.digest_volumes.ensures.closes.quiet c.in_ok-sync_all.ensures.lasted
    c.devices-facts.ensures.sized c.args.trail.now.moves
    (still_stands g.D.Device c.sync_all.new.world c.digest_volumes.new.world c.args.scenario.now c.args.trail.now.moves
    (still_ending g.D.Device c.args.world.now c.sync_all.new.world c.args.scenario.now c.args.trail.now.moves c.requires.stands c.in_ok-sync_all.ensures.ending) c.digest_volumes.ensures.closes.quiet)

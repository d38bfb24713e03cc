use Rattle.std.proofs.Common.{subst, ◌<◌}
use Rattle.vss_play.proofs.ClosingLines.{closes_none, closes_then, no_volume, one_volume, still_ready, still_stands}
use Rattle.vss_play.proofs.closing.close_volumes.Goals as goal

pub returns-in-Err-clause-closes : goal.returns-in-Err-clause-closes
returns-in-Err-clause-closes g c = closes_none g.D.Device c.args.scenario.now c.args.world.now c.args.ready.now.rows c.requires.stands.of

pub loop-volume-init : goal.loop-volume-init
loop-volume-init g c = (
  closes_none g.D.Device c.args.scenario.now c.args.world.now c.args.ready.now.rows c.requires.stands.of,
  no_volume g.D.Device.told c.args.world.now c.args.scenario.now c.args.trail.now.moves c.len.result c.now.result c.args.out.now.bytes
      c.closing_line.new.out.bytes c.requires.stands c.len.ensures.len c.now.ensures c.in-Ok.ensures.ok,
)

pub close_volume-requires-clause-stands : goal.close_volume-requires-clause-stands
close_volume-requires-clause-stands g c = still_stands g.D.Device c.args.world.now c.loop-volume.world c.args.scenario.now c.args.trail.now.moves c.requires.stands c.loop-volume.invariant.0.quiet

pub close_volume-requires-clause-ready : goal.close_volume-requires-clause-ready
close_volume-requires-clause-ready g c = still_ready _ _ c.args.scenario.now c.args.trail.now.moves c.args.ready.now.rows c.loop-volume.ready.rows
    c.loop-volume.invariant.0.quiet.tells c.loop-volume.invariant.0.rows c.requires.ready

pub returns-in-Err-close_volume-clause-closes : goal.returns-in-Err-close_volume-clause-closes
returns-in-Err-close_volume-clause-closes g c = closes_then g.D.Device c.args.scenario.now _ _ _ _ _ _ _ c.loop-volume.invariant.0 c.in-Err-close_volume.ensures.closes

pub loop-volume-preserved : goal.loop-volume-preserved
loop-volume-preserved g c = (
  closes_then g.D.Device c.args.scenario.now _ _ _ _ _ _ _ c.loop-volume.invariant.0 c.in-Ok-close_volume.ensures.closes,
  one_volume g.D.Device c.args.world.now c.loop-volume.world c.args.scenario.now c.args.trail.now.moves c.loop-volume.volume c.args.out.now.bytes c.loop-volume.out.bytes c.close_volume.new.out.bytes
      (subst (λ n. c.loop-volume.volume < n) c.volumes-volume-end.ensures.count c.loop-volume-test.true) c.requires.stands c.loop-volume.invariant.0.quiet
      c.loop-volume.invariant.1 c.in-Ok-close_volume.ensures.volume,
)

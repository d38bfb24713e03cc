use Rattle.vss_world.specs.Stands.{tells_of}
use Rattle.vss_play.proofs.ClosingLines.{closes_none, closes_then, still_ready, still_stands}
use Rattle.vss_play.proofs.Areas.{no_digest, one_digest, all_digests}
use Rattle.vss_play.proofs.digests.digest_volumes.Goals as goal

pub loop-volume-init : goal.loop-volume-init
loop-volume-init g c = (
  closes_none g.D.Device c.args.scenario.now c.args.world.now c.args.ready.now.rows c.requires.stands.of,
  no_digest (tells_of g.D.Device.told c.args.scenario.now c.args.world.now.devices) c.args.scenario.now c.args.trail.now.moves c.args.out.now,
)

pub digest_of-requires-clause-stands : goal.digest_of-requires-clause-stands
digest_of-requires-clause-stands g c = still_stands g.D.Device c.args.world.now c.loop-volume.world c.args.scenario.now c.args.trail.now.moves c.requires.stands c.loop-volume.invariant.0.quiet

pub digest_of-requires-clause-ready : goal.digest_of-requires-clause-ready
digest_of-requires-clause-ready g c = still_ready _ _ c.args.scenario.now c.args.trail.now.moves c.args.ready.now.rows c.loop-volume.ready.rows
    c.loop-volume.invariant.0.quiet.tells c.loop-volume.invariant.0.rows c.requires.ready

pub loop-volume-preserved : goal.loop-volume-preserved
loop-volume-preserved g c = (
  closes_then g.D.Device c.args.scenario.now _ _ _ _ _ _ _ c.loop-volume.invariant.0 c.in-Ok.ensures.closes,
  one_digest (tells_of g.D.Device.told c.args.scenario.now c.args.world.now.devices)
      (tells_of g.D.Device.told c.args.scenario.now c.loop-volume.world.devices) c.args.scenario.now c.args.trail.now.moves c.loop-volume.volume
      c.loop-volume.out c.in-Ok.digest
      c.loop-volume.invariant.0.quiet.tells c.loop-volume.invariant.1 c.in-Ok.ensures.digest,
)

pub returns-in-Err-clause-closes : goal.returns-in-Err-clause-closes
returns-in-Err-clause-closes g c = closes_then g.D.Device c.args.scenario.now _ _ _ _ _ _ _ c.loop-volume.invariant.0 c.in-Err.ensures.closes

pub returns-clause-digests : goal.returns-clause-digests
returns-clause-digests g c = all_digests
    (tells_of g.D.Device.told c.args.scenario.now c.args.world.now.devices) c.args.scenario.now c.args.trail.now.moves c.loop-volume.volume
    c.volumes-volume-end.result c.loop-volume.out c.volumes-volume-end.ensures.count c.loop-volume-test.false c.loop-volume.invariant.1

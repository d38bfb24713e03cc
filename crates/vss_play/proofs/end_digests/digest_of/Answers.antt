use Rattle.std.proofs.Common.{refl}
use Rattle.vss_model.specs.Trail.{acts}
use Rattle.vss_world.specs.Stands.{tells_of}
use Rattle.vss_play.proofs.ClosingLines.{quiet_same, ready_is, rose_failed, standing_if}
use Rattle.vss_play.proofs.end_digests.digest_of.Goals as goal

pub returns-in-Some-clause-digest : goal.returns-in-Some-clause-digest
returns-in-Some-clause-digest g c =
    ready_is (tells_of g.D.Device.told c.args.scenario.now c.args.world.now.devices) c.args.scenario.now c.args.trail.now.moves c.args.ready.now.rows.items
    c.args.volume c.args.set c.in-Some.digest c.requires.in_range c.requires.ready c.in-Some.ensures.stands

pub returns-in-Some-clause-closes : goal.returns-in-Some-clause-closes
returns-in-Some-clause-closes g c =
    record { quiet = quiet_same g.D.Device c.args.world.now c.args.scenario.now c.requires.stands.of; counts = refl; rows = c.in-Some.ensures.rows }

pub digest-requires-clause-standing : goal.digest-requires-clause-standing
digest-requires-clause-standing g c = standing_if g.D.Device.told c.args.world.now c.args.scenario.now c.args.trail.now.moves c.args.set c.requires.stands

pub returns-in-Ok-clause-digest : goal.returns-in-Ok-clause-digest
returns-in-Ok-clause-digest g c = c.in-Ok.ensures.digest (acts c.args.scenario.now c.args.trail.now.moves) c.requires.stands.stands

pub returns-in-Err-clause-closes : goal.returns-in-Err-clause-closes
returns-in-Err-clause-closes g c = record {
  quiet = c.digest.ensures.quiet;
  counts = rose_failed c.args.scenario.now c.args.volume c.in-Err._fault _ _ c.in-Err.ensures.cause;
  rows = c.take.ensures.rows;
}

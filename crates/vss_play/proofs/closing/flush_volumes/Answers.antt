use Rattle.std.proofs.Common.{refl, ◌∙◌}
use Rattle.vss_play.proofs.ClosingLines.{any_earlier, quiet_same, quiet_trans, rose_failed}
use Rattle.vss_play.proofs.Areas.{each_volume, no_volume, volume_flushed}
use Rattle.vss_play.proofs.closing.flush_volumes.Goals as goal

pub loop-volume-init : goal.loop-volume-init
loop-volume-init g c = (
  quiet_same g.D.Device c.args.world.now c.args.scenario.now c.requires.of,
  no_volume g.D.Device c.args.scenario.now c.args.world.now.devices,
  refl,
)

pub flush-requires-clause-of : goal.flush-requires-clause-of
flush-requires-clause-of g c = c.loop-volume.invariant.0.is_of

pub loop-volume-preserved : goal.loop-volume-preserved
loop-volume-preserved g c = (
  quiet_trans g.D.Device c.args.world.now c.loop-volume.world c.flush.new.self c.args.scenario.now c.loop-volume.invariant.0 c.in-Ok.ensures.quiet,
  volume_flushed g.D.Device c.args.scenario.now c.loop-volume.world c.flush.new.self c.loop-volume.volume
      c.in-Ok.ensures.quiet c.in-Ok.ensures.lasts c.loop-volume.invariant.1,
  c.in-Ok.ensures.same ∙ c.loop-volume.invariant.2,
)

pub returns-in-Err-clause-quiet : goal.returns-in-Err-clause-quiet
returns-in-Err-clause-quiet g c =
    quiet_trans g.D.Device c.args.world.now c.loop-volume.world c.flush.new.self c.args.scenario.now c.loop-volume.invariant.0 c.in-Err.ensures.quiet

pub returns-in-Err-clause-counts : goal.returns-in-Err-clause-counts
returns-in-Err-clause-counts g c = any_earlier _ _ _ c.loop-volume.invariant.0.later (rose_failed c.args.scenario.now c.loop-volume.volume c.in-Err._fault _ _ c.in-Err.ensures.cause)

pub returns-clause-lasted : goal.returns-clause-lasted
returns-clause-lasted g c = each_volume g.D.Device c.args.scenario.now c.loop-volume.world.devices c.loop-volume.volume
    c.volumes-volume-end.result c.volumes-volume-end.ensures.count c.loop-volume-test.false c.loop-volume.invariant.1

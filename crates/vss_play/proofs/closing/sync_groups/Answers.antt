use Rattle.std.proofs.Common.{refl, ◌∙◌}
use Rattle.vss_play.proofs.Areas.{ending_same, ending_synced, ending_trans, still_ending, none_hold, one_holds, all_hold, area_synced, each_area, no_area}
use Rattle.vss_play.proofs.ClosingLines.{any_earlier, rose_at}
use Rattle.vss_play.proofs.closing.sync_groups.Goals as goal

pub loop-group-init : goal.loop-group-init
loop-group-init g c = (
  ending_same g.D.Device c.args.world.now c.args.scenario.now c.requires.stands.of,
  none_hold g.D.Device.told c.args.scenario.now c.args.trail.now.moves c.args.world.now.devices,
  refl,
  no_area g.D.Device c.args.scenario.now c.args.world.now.devices,
)

pub sync-requires-clause-of : goal.sync-requires-clause-of
sync-requires-clause-of g c = c.loop-group.invariant.0.is_of

pub loop-group-preserved : goal.loop-group-preserved
loop-group-preserved g c = (
  ending_trans g.D.Device c.args.world.now c.loop-group.world c.sync.new.self c.args.scenario.now c.loop-group.invariant.0
      (ending_synced g.D.Device c.loop-group.world c.sync.new.self c.args.scenario.now c.loop-group.group c.in-Ok.ensures.synced),
  one_holds g.D.Device c.loop-group.world c.sync.new.self c.args.scenario.now c.args.trail.now.moves c.loop-group.group
      (still_ending g.D.Device c.args.world.now c.loop-group.world c.args.scenario.now c.args.trail.now.moves c.requires.stands c.loop-group.invariant.0)
      c.in-Ok.ensures.synced c.in-Ok.ensures.held c.loop-group.invariant.1,
  c.in-Ok.ensures.same ∙ c.loop-group.invariant.2,
  area_synced g.D.Device c.args.scenario.now c.loop-group.world c.sync.new.self c.loop-group.group
      c.in-Ok.ensures.synced c.in-Ok.ensures.lasts c.loop-group.invariant.3,
)

pub returns-in-Err-clause-ending : goal.returns-in-Err-clause-ending
returns-in-Err-clause-ending g c =
    ending_trans g.D.Device c.args.world.now c.loop-group.world c.sync.new.self c.args.scenario.now c.loop-group.invariant.0
    (ending_synced g.D.Device c.loop-group.world c.sync.new.self c.args.scenario.now c.loop-group.group c.in-Err.ensures.synced)

pub returns-in-Err-clause-counts : goal.returns-in-Err-clause-counts
returns-in-Err-clause-counts g c = any_earlier _ _ _ c.loop-group.invariant.0.later (rose_at _ _ _ (c.in-Err.ensures.cause refl))

pub returns-clause-areas : goal.returns-clause-areas
returns-clause-areas g c = all_hold g.D.Device.told c.args.scenario.now c.args.trail.now.moves c.loop-group.world.devices c.loop-group.group
    c.groups-group-end.result c.groups-group-end.ensures c.loop-group-test.false c.loop-group.invariant.1

pub returns-clause-lasted : goal.returns-clause-lasted
returns-clause-lasted g c = each_area g.D.Device c.args.scenario.now c.loop-group.world.devices c.loop-group.group
    c.groups-group-end.result c.groups-group-end.ensures c.loop-group-test.false c.loop-group.invariant.3

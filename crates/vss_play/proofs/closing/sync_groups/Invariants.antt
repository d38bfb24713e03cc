use Rattle.std.proofs.Common.{◌≡◌}
use Rattle.std.specs.Prelude.{map}
use Rattle.vss_play.specs.Closing.{IsEnding}
use Rattle.vss_play.specs.Made.{FirstAreasLasted}
use Rattle.vss_play.proofs.Areas.{FirstHold}
use Rattle.vss_play.proofs.closing.sync_groups.Given as goal

abbrev pub invariant-loop-group : goal.invariant-loop-group
invariant-loop-group g l =
    IsEnding g.D.Device l.initial.world l.world l.scenario × FirstHold g.D.Device.told l.scenario l.trail.moves l.world.devices l.group
    × (map g.D.Device.count l.world.devices ≡ map g.D.Device.count l.initial.world.devices)
    × FirstAreasLasted g.D.Device l.scenario l.world.devices l.group

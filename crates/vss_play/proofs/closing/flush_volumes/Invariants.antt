use Rattle.std.proofs.Common.{◌≡◌}
use Rattle.std.specs.Prelude.{map}
use Rattle.vss_world.specs.Quiet.{IsQuiet}
use Rattle.vss_play.specs.Made.{FirstVolumesLasted}
use Rattle.vss_play.proofs.closing.flush_volumes.Given as goal

abbrev pub invariant-loop-volume : goal.invariant-loop-volume
invariant-loop-volume g l =
    IsQuiet g.D.Device l.initial.world l.world l.scenario × FirstVolumesLasted g.D.Device l.scenario l.world.devices l.volume
    × (map g.D.Device.count l.world.devices ≡ map g.D.Device.count l.initial.world.devices)

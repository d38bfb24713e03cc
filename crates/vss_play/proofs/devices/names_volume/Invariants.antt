use Rattle.std.proofs.Common.{◌≡◌, false, take}
use Rattle.vss_play.specs.Played.{names_volume}
use Rattle.vss_play.proofs.devices.names_volume.Given as goal

abbrev pub invariant-loop-volume : goal.invariant-loop-volume
invariant-loop-volume l = names_volume (take l.volume l.scenario.volumes) l.start ≡ false

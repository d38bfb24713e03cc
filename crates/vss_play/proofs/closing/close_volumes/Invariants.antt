use Rattle.std.proofs.Common.{false}
use Rattle.vss_world.specs.Stands.{tells_of}
use Rattle.vss_play.specs.Closing.{Closes, HasVolumes}
use Rattle.vss_play.proofs.closing.close_volumes.Given as goal

abbrev pub invariant-loop-volume : goal.invariant-loop-volume
invariant-loop-volume g l =
    Closes g.D.Device l.scenario l.initial.world l.world l.initial.ready.rows l.ready.rows false
    × HasVolumes (tells_of g.D.Device.told l.scenario l.initial.world.devices) l.scenario l.trail.moves l.volume l.fn.out.bytes l.out.bytes

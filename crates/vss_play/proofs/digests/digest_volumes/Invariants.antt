use Rattle.std.proofs.Common.{false}
use Rattle.vss_world.specs.Stands.{tells_of}
use Rattle.vss_play.specs.Closing.{Closes, FirstDigests}
use Rattle.vss_play.proofs.digests.digest_volumes.Given as goal

abbrev pub invariant-loop-volume : goal.invariant-loop-volume
invariant-loop-volume g l =
    Closes g.D.Device l.scenario l.initial.world l.world l.initial.ready.rows l.ready.rows false
    × FirstDigests (tells_of g.D.Device.told l.scenario l.initial.world.devices) l.scenario l.trail.moves l.volume l.out

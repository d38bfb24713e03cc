use Rattle.std.proofs.Common.{◌≡◌, true}
use Rattle.std.specs.List.{list_all, range_with_len}
use Rattle.vss_world.specs.Stands.{IfStands}
use Rattle.vss_play.specs.Running.{lane_rests}
use Rattle.vss_play.proofs.idle.lanes_rest.Given as goal

abbrev pub invariant-loop-lane : goal.invariant-loop-lane
invariant-loop-lane g l = IfStands g.D.Device.told l.world l.scenario (λ st. list_all (lane_rests l.scenario l.cursors st) (range_with_len 0 l.lane) ≡ true)

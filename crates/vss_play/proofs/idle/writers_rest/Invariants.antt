use Rattle.std.proofs.Common.{◌≡◌, true}
use Rattle.std.specs.List.{list_all, range_with_len}
use Rattle.vss_world.specs.Stands.{IfStands}
use Rattle.vss_play.specs.Running.{writer_rests}
use Rattle.vss_play.proofs.idle.writers_rest.Given as goal

abbrev pub invariant-loop-writer : goal.invariant-loop-writer
invariant-loop-writer g l = IfStands g.D.Device.told l.world l.scenario (λ st. list_all (writer_rests l.scenario st) (range_with_len 0 l.writer) ≡ true)

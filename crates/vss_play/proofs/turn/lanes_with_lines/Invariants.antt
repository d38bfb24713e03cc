use Rattle.std.proofs.Common.{◌≡◌, replicate}
use Rattle.vss_play.specs.Running.{going_from}
use Rattle.vss_play.proofs.turn.lanes_with_lines.Given as goal

abbrev pub invariant-loop-lane : goal.invariant-loop-lane
invariant-loop-lane l = l.going ≡ going_from l.scenario 0 (replicate l.lane 0)

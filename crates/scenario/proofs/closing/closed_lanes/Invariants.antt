use Rattle.std.proofs.Common.{◌≡◌, map}
use Rattle.scenario.specs.Rows.{lane_plan}
use Rattle.scenario.specs.SoFar.{closed_lane}
use Rattle.scenario.proofs.closing.closed_lanes.Given as goal

-- the lanes so far are closed
abbrev pub invariant-loop-lane : goal.invariant-loop-lane
invariant-loop-lane l = map lane_plan l.all.items ≡ map closed_lane (map lane_plan l.yielded)

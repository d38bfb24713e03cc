use Rattle.std.proofs.Common.{◌≡◌, ◌-◌, ◌++◌}
use Rattle.generated.proofs.Terms.{flat_map, range_with_len, lane_text, lanes_text}
use Rattle.generated.proofs.scenario_text.add_lanes.Given as goal

-- what is written and what is still to come
abbrev pub invariant-loop-lane : goal.invariant-loop-lane
invariant-loop-lane l = l.out.bytes ++ flat_map (lane_text l.number) (range_with_len l.lane (16 - l.lane)) ≡ l.initial.out.bytes ++ lanes_text l.number

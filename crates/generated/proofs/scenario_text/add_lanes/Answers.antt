use Rattle.std.proofs.Common.{arith}
use Rattle.generated.specs.ScenarioText.{lane_text}
use Rattle.generated.proofs.Ranges.{next_piece, no_piece}
use Rattle.generated.proofs.scenario_text.add_lanes.Goals as goal

pub loop-lane-preserved : goal.loop-lane-preserved
loop-lane-preserved c = next_piece (lane_text c.args.number) c.loop-lane.lane 16 c.loop-lane.out.bytes c.add_lane.new.out.bytes _ c.loop-lane-test.true c.in_ok-add_lane.ensures c.loop-lane.invariant

pub returns : goal.returns
returns c = no_piece (lane_text c.args.number) c.loop-lane.lane 16 c.loop-lane.out.bytes _ (omega (arith, c.loop-lane-test.false)) c.loop-lane.invariant

pub returns-in_err-add_lane : goal.returns-in_err-add_lane
returns-in_err-add_lane c = grind (arith, c.from_residual.ensures, c.in_err-add_lane.is)

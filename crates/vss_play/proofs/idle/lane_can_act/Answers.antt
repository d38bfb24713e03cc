use Rattle.std.proofs.Common.{sym}
use Rattle.vss_play.proofs.Sorting.{lane_in, line_is_op}
use Rattle.vss_play.proofs.idle.lane_can_act.Goals as goal

pub is_enabled-requires-clause-in_range : goal.is_enabled-requires-clause-in_range
is_enabled-requires-clause-in_range g c = (
  lane_in c.args.scenario.now c.args.lane _ c.in-Some.line (sym c.in-Some.ensures),
  line_is_op c.args.scenario.now c.args.lane _ c.in-Some.line c.lanes-facts.ensures.plan (sym c.in-Some.ensures),
)

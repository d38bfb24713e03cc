use Rattle.std.proofs.Common.{◌∙◌, length, sym, arith}
use Rattle.vss_report.specs.Words.{lane_text}
use Rattle.vss_report.proofs.ReadReplies.{next_named}
use Rattle.vss_report.proofs.shapes.lane_named.Goals as goal

pub loop-lane-preserved : goal.loop-lane-preserved
loop-lane-preserved c =
    next_named (lane_text c.args.scenario.now) c.args.name.now c.lane_name.result.now c.loop-lane.lane (length c.args.scenario.now.lanes) _
    (omega (arith, c.loop-lane-test.true, c.lanes-lane-end.ensures.count)) c.lane_name.ensures.text (sym c.eq.ensures ∙ c.if-eq.false) c.loop-lane.invariant

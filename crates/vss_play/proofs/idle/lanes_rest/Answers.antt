use Rattle.std.proofs.Common.{◌∙◌, ◌<◌, length, ap, sym, subst}
use Rattle.std.specs.Prelude.{not}
use Rattle.vss_model.specs.Acts.{state}
use Rattle.vss_play.specs.Running.{lane_rests}
use Rattle.vss_play.proofs.Answering.{all_more, one_not}
use Rattle.vss_play.proofs.idle.lanes_rest.Goals as goal

pub returns-then-lane_can_act : goal.returns-then-lane_can_act
returns-then-lane_can_act g c = λ xs stands.
    let s = c.args.scenario.now in
    sym (one_not (lane_rests s c.args.cursors.now (state s xs)) (length s.lanes) c.loop-lane.lane (subst (λ n. c.loop-lane.lane < n) c.lanes-lane-end.ensures.count c.loop-lane-test.true)
    (ap not (sym (c.lane_can_act.ensures xs stands) ∙ c.if-lane_can_act.true)))

pub loop-lane-preserved : goal.loop-lane-preserved
loop-lane-preserved g c = λ xs stands.
    let s = c.args.scenario.now in
    all_more (lane_rests s c.args.cursors.now (state s xs)) c.loop-lane.lane (c.loop-lane.invariant xs stands) (ap not (sym (c.lane_can_act.ensures xs stands) ∙ c.if-lane_can_act.false))

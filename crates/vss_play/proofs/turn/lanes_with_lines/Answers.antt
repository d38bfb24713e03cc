use Rattle.std.proofs.Common.{true, false, sym, ◌∙◌, arith, add-zero}
use Rattle.vss_play.proofs.Finishing.{with_lane, few_going}
use Rattle.vss_play.proofs.turn.lanes_with_lines.Goals as goal
use Rattle.vss_play.proofs.turn.lanes_with_lines.Goals.{then-is_some, else-is_some}

pub overflow_add-going : goal.overflow_add-going
overflow_add-going c =
    let few = few_going c.args.scenario.now c.loop-lane.lane c.loop-lane.going c.loop-lane.invariant in
    let test = c.loop-lane-test.true in
    let fits = c.lanes-lane-end.type_inv in
    omega arith

pub loop-lane-preserved : goal.loop-lane-preserved
loop-lane-preserved c = elim c.if-is_some.branch [
  | then-is_some w ↦ with_lane c.args.scenario.now c.loop-lane.lane c.line.result true c.loop-lane.going _ c.line.ensures (sym c.is_some.ensures ∙ w.if-is_some.true) c.loop-lane.invariant w.going-is
  | else-is_some w ↦ with_lane c.args.scenario.now c.loop-lane.lane c.line.result false c.loop-lane.going _ c.line.ensures
      (sym c.is_some.ensures ∙ w.if-is_some.false) c.loop-lane.invariant (w.going-is ∙ sym (add-zero c.loop-lane.going))
]

use Rattle.std.proofs.Common.{◌∙◌, ap, sym, subst}
use Rattle.scenario.specs.Plan.{Plan}
use Rattle.vss_play.specs.Running.{AreInPlan, bytes_for}
use Rattle.vss_play.specs.Serving.{ServiceValue, actor_by}
use Rattle.vss_play.proofs.Serving.{room_for, numbers_of}
use Rattle.vss_play.proofs.service.Service.step_into.Goals as goal

pub add_lines-requires-clause-numbers : goal.add_lines-requires-clause-numbers
add_lines-requires-clause-numbers g c =
    let moves = rw c.in-Moved.is at c.in_ok-outcome.ensures.stepped in
    subst (λ (s : Plan). AreInPlan s (actor_by c.args.event) c.in-Moved.outcome c.step.new.self.world.evicted) (sym c.step.ensures.plan)
    (numbers_of g.D.Device _ _ _ c.args.event c.in-Moved.outcome c.requires c.world-kept.ensures.standing moves)

pub add_lines-requires-clause-room : goal.add_lines-requires-clause-room
add_lines-requires-clause-room g c =
    let moves = rw c.in-Moved.is at c.in_ok-outcome.ensures.stepped in
    let stands = c.world-kept.ensures.standing in
    room_for g.D.Device _ _ _ stands.acts c.args.event c.in-Moved.outcome c.bytes_for.result c.reserve.new.self.spare c.reserve.result c.world-kept.ensures.of stands.stands moves
    (c.bytes_for.ensures ∙ ap (λ (v : ServiceValue g.row.D.Denot). bytes_for v.plan c.args.event) c.self.view_is) (cc (c.is_err.ensures.value, c.if-is_err.false)) c.reserve.ensures.ok

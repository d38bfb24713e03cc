use Rattle.std.proofs.Common.{◌∙◌, true, ap, sym, subst}
use Rattle.cow_volume.specs.Calls.{counted_as}
use Rattle.scenario.specs.Plan.{Plan}
use Rattle.vss_model.specs.declared.event.Event.TheVariants.{Provider}
use Rattle.vss_play.specs.Running.{AreInPlan, bytes_for}
use Rattle.vss_play.specs.Serving.{ServiceValue, actor_by}
use Rattle.vss_play.proofs.Serving.{room_for, numbers_of}
use Rattle.vss_play.proofs.service.Service.fail_into.Goals as goal

pub add_lines-requires-clause-numbers : goal.add_lines-requires-clause-numbers
add_lines-requires-clause-numbers g c =
    let made = rw c.in-Moved.is at c.in_ok-outcome.ensures.stepped in
    subst (λ (s : Plan). AreInPlan s (actor_by Provider) c.in-Moved.outcome c.fail.new.self.world.evicted) (sym c.fail.ensures.plan)
    (numbers_of (counted_as g.D.Device true) _ _ _ Provider c.in-Moved.outcome tt c.world-kept.ensures.standing made.stepped)

pub add_lines-requires-clause-room : goal.add_lines-requires-clause-room
add_lines-requires-clause-room g c =
    let made = rw c.in-Moved.is at c.in_ok-outcome.ensures.stepped in
    let stands = c.world-kept.ensures.standing in
    room_for (counted_as g.D.Device true) _ _ _ stands.acts Provider c.in-Moved.outcome c.bytes_for.result c.reserve.new.self.spare c.reserve.result c.world-kept.ensures.of stands.stands made.stepped
    (c.bytes_for.ensures ∙ ap (λ (v : ServiceValue g.row.D.Denot). bytes_for v.plan Provider) c.self.view_is) (cc (c.is_err.ensures.value, c.if-is_err.false)) c.reserve.ensures.ok

use Rattle.std.proofs.Common.{get_or, subst}
use Rattle.std.specs.Prelude.{Ok}
use Rattle.write_history.specs.declared.actor.Actor.TheVariants.{Lane}
use Rattle.vss_play.specs.Played.{IsTurnOf}
use Rattle.orders.proofs.Goers.{staying_next, next_goes}
use Rattle.orders.proofs.drawing.first_to_go.Goals as goal

pub returns-then-branch : goal.returns-then-branch
returns-then-branch g c =
    let i = c.loop-actor.actor-index in
    next_goes g.D.Device c.args.play.now c.loop-actor.play c.turn.new.play c.args.actors.now i (Lane 0) c.loop-actor-test.true c.loop-actor.invariant
    (subst (λ b. IsTurnOf g.D.Device c.loop-actor.play c.turn.new.play (get_or c.args.actors.now i (Lane 0)) (Ok b)) c.if-branch.true c.in_ok-turn.ensures)

pub loop-actor-preserved : goal.loop-actor-preserved
loop-actor-preserved g c =
    let i = c.loop-actor.actor-index in
    staying_next c.args.play.now c.loop-actor.play c.turn.new.play c.args.actors.now i (Lane 0) c.loop-actor-test.true c.loop-actor.invariant
    (subst (λ b. IsTurnOf g.D.Device c.loop-actor.play c.turn.new.play (get_or c.args.actors.now i (Lane 0)) (Ok b)) c.if-branch.false c.in_ok-turn.ensures)

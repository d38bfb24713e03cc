use Rattle.std.proofs.Common.{get_or, subst}
use Rattle.std.specs.Prelude.{Ok}
use Rattle.write_history.specs.declared.actor.Actor.TheVariants.{Lane}
use Rattle.write_history.specs.declared.mark.Mark.TheVariants.{Clean}
use Rattle.write_history.specs.declared.move_item.Move.{Move}
use Rattle.orders.specs.Again.{IsMade}
use Rattle.orders.proofs.Far.{far_none, far_next, far_all, far_stopped}
use Rattle.orders.proofs.following.follow_far.Goals as goal

pub loop-item-init : goal.loop-item-init
loop-item-init g c = far_none g.D.Device c.args.play.now

pub returns-then-not-has_moved : goal.returns-then-not-has_moved
returns-then-not-has_moved g c =
    let here : Move = get_or c.args.moves.now c.loop-item.item-index (record { actor = Lane 0; mark = Clean }) in
    far_stopped g.D.Device c.args.play.now c.loop-item.play c.make.new.play c.args.moves.now c.loop-item.item-index (record { actor = Lane 0; mark = Clean })
    c.loop-item-test.true
    c.lanes-facts.ensures.kept c.loop-item.invariant
    (subst (λ b. IsMade g.D.Device c.loop-item.play c.make.new.play here (Ok b)) c.if-not-has_moved.true c.in_ok-has_moved.ensures)

pub loop-item-preserved : goal.loop-item-preserved
loop-item-preserved g c =
    let here : Move = get_or c.args.moves.now c.loop-item.item-index (record { actor = Lane 0; mark = Clean }) in
    let made = subst (λ b. IsMade g.D.Device c.loop-item.play c.make.new.play here (Ok b)) c.if-not-has_moved.false c.in_ok-has_moved.ensures in
    far_next g.D.Device c.args.play.now c.loop-item.play c.make.new.play c.args.moves.now c.loop-item.item-index (record { actor = Lane 0; mark = Clean })
    c.loop-item-test.true c.loop-item.invariant made.0 made.1

pub returns : goal.returns
returns g c = far_all g.D.Device c.args.play.now c.loop-item.play c.args.moves.now c.loop-item.item-index c.loop-item-test.false c.loop-item.invariant

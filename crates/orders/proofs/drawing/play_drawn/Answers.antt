use Rattle.std.proofs.Common.{Ok, sym, subst}
use Rattle.orders.specs.Drawn.{IsDrawing, IsDrawnMove}
use Rattle.orders.proofs.Goers.{drawing_none, drawing_more, drawing_ends}
use Rattle.orders.proofs.drawing.play_drawn.Goals as goal

pub moves-init : goal.moves-init
moves-init g c =
    subst (λ x. IsDrawing g.D.Device c.args.number x c.args.play c.args.play) (sym c.seed_from_u64-generator.ensures.same)
    (drawing_none g.D.Device c.args.number c.args.play)

pub moves-preserved : goal.moves-preserved
moves-preserved g c =
    let one = subst (λ b. IsDrawnMove g.D.Device c.moves.generator c.moves.play c.drawn_move.new.play (Ok b)) c.if-branch.true c.in_ok-drawn_move.ensures.moved in
    subst (λ x. IsDrawing g.D.Device c.args.number x c.args.play c.drawn_move.new.play) (sym c.in_ok-drawn_move.ensures.after)
    (drawing_more g.D.Device c.args.number c.moves.generator c.args.play c.moves.play c.drawn_move.new.play c.moves.invariant one)

pub returns : goal.returns
returns g c =
    let last = subst (λ b. IsDrawnMove g.D.Device c.moves.generator c.moves.play c.drawn_move.new.play (Ok b)) c.if-branch.false c.in_ok-drawn_move.ensures.moved in
    drawing_ends g.D.Device c.args.number c.moves.generator c.args.play c.moves.play c.drawn_move.new.play c.lanes-facts.ensures.kept c.moves.invariant last

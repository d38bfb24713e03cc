use Rattle.orders.proofs.Beside.{ordered, unplayed_so}
use Rattle.orders.proofs.playing.report_of_order.Goals as goal

pub returns-in-Err-follow-clause-unplayed : goal.returns-in-Err-follow-clause-unplayed
returns-in-Err-follow-clause-unplayed g c =
    rw c.let_go.ensures.why
    (unplayed_so g.M.Made.Device _ c.args.scenario c.args.entries.now c.in-Ok.play c.follow.new.play _ _ c.in-Err-follow.halted c.in-Ok.ensures.fresh
    c.in-Err-follow.ensures c.let_go.ensures.kept)

pub returns-in-Ok-report_in_turn-clause-ran : goal.returns-in-Ok-report_in_turn-clause-ran
returns-in-Ok-report_in_turn-clause-ran g c =
    ordered g.M.Made.Device _ c.args.scenario c.args.entries.now c.in-Ok.play c.follow.new.play c.in-Ok-report_in_turn.report c.in-Ok.ensures.fresh
    c.in-Ok-follow.ensures c.in-Ok-report_in_turn.ensures.ended

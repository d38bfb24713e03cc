use Rattle.orders.proofs.Beside.{replayed_if}
use Rattle.orders.proofs.playing.report_of_replay.Goals as goal

pub returns-clause-ran : goal.returns-clause-ran
returns-clause-ran g c =
    replayed_if g.M.Made.Device _ c.args.scenario c.args.moves.now c.in_ok-play.play c.follow_far.new.play c.report_in_turn.result
    c.in_ok-play.ensures.fresh
    c.in-Ok.ensures c.report_in_turn.ensures.ended

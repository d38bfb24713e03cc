use Rattle.std.proofs.Common.{arith}
use Rattle.vss_play.proofs.FaultMarks.{fault-of}
use Rattle.orders.proofs.Beside.{ended_in_turn}
use Rattle.orders.proofs.playing.report_in_turn.Goals as goal

pub returns-clause-ended : goal.returns-clause-ended
returns-clause-ended g c =
    ended_in_turn g.M.Made.Device c.args.play c.in-Ok.played _ _ _ _ _ c.finish.result c.in-Ok.ensures c.finish.ensures.ended

pub returns-clause-rose : goal.returns-clause-rose
returns-clause-rose g c = λ e. fault-of g.M.Made.Device c.in-Ok.played _ _ _ _ _ _ c.finish.result (omega arith) c.finish.ensures.ended e

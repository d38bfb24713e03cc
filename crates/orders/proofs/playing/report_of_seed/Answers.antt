use Rattle.vss_play.proofs.FaultMarks.{fault-of}
use Rattle.orders.proofs.Beside.{of_seed_if}
use Rattle.orders.proofs.playing.report_of_seed.Goals as goal

pub returns-clause-ran : goal.returns-clause-ran
returns-clause-ran g c = of_seed_if g.M.Made.Device _ c.args.scenario c.args.number c.in_ok-play.play c.in-Ok.played _ _ _ _ _ c.finish.result c.in_ok-play.ensures.fresh
    c.in-Ok.ensures c.finish.ensures.ended

pub returns-clause-rose : goal.returns-clause-rose
returns-clause-rose g c = λ e. fault-of g.M.Made.Device c.in-Ok.played _ _ _ _ _ _ c.finish.result c.new.ensures.later c.finish.ensures.ended e

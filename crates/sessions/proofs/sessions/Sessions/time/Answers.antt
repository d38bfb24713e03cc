use Rattle.sessions.proofs.Words.{Tick, Line, IsAt}
use Rattle.sessions.proofs.CourseSteps.{happens_moves, tick_happens}
use Rattle.sessions.proofs.sessions.Sessions.time.Goals as goal

pub returns-clause-moves : goal.returns-clause-moves
returns-clause-moves c s lane = happens_moves (IsAt c.args.self.now s) s c.go_on.new.self (Line lane (Tick c.args.ticks)) c.go_on.result
    (λ st found. tick_happens s c.go_on.new.self st lane c.args.ticks c.go_on.result (c.go_on.ensures.gone st found.order found.keeps))

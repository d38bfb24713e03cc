use Rattle.sessions.proofs.Lines.{awaits}
use Rattle.sessions.proofs.sessions.Sessions.await_last.Goals as goal
use Rattle.sessions.proofs.CourseSteps.{owner_at}
use Rattle.sessions.specs.Keeps.{IsAt, value_of}

pub returns-clause-gone : goal.returns-clause-gone
returns-clause-gone c s st found =
    let at : IsAt (value_of c.self.inside) s st = rw (← c.self.view_is) at found in
    rw (← c.self.view_is) (awaits c.last.result c.unwrap_or-why.result (owner_at c.args.lane found.keeps c.requires.goes) at c.last.ensures c.unwrap_or-why.ensures c.alone.ensures)

use Rattle.sessions.proofs.Lines.{disables}
use Rattle.sessions.proofs.sessions.Sessions.disable.Goals as goal
use Rattle.sessions.proofs.CourseSteps.{owner_at}
use Rattle.sessions.specs.Keeps.{IsAt, value_of}

pub returns-clause-gone : goal.returns-clause-gone
returns-clause-gone c s st found =
    let at : IsAt (value_of c.self.inside) s st = rw (← c.self.view_is) at found in
    disables c.disable.new.self (owner_at c.args.lane found.keeps c.requires.goes) at (rw (← c.self.view_is) at c.requires.known)
    (c.disable.ensures.stands st.course at.keeps.course) c.disable.ensures.writers
    (c.disable.ensures.times c.self.inside.clock at.keeps.on_time) c.alone.ensures

use Rattle.sessions.proofs.Lines.{shows}
use Rattle.sessions.proofs.sessions.Sessions.status.Goals as goal
use Rattle.sessions.proofs.CourseSteps.{owner_at}

pub returns-clause-gone : goal.returns-clause-gone
returns-clause-gone c s st at = shows (owner_at c.args.lane at.keeps c.requires.goes) at c.alone.ensures

use Rattle.sessions.proofs.Knowing.{documents}
use Rattle.sessions.proofs.sessions.Sessions.document.Goals as goal
use Rattle.sessions.proofs.CourseSteps.{owner_at}

pub returns-clause-gone : goal.returns-clause-gone
returns-clause-gone c st at = documents c.in_ok-told_of.field-0 c.in_ok-text.text.bytes (owner_at c.args.lane at.keeps c.requires.goes) at c.in_ok-text.ensures c.in_ok-told_of.ensures c.alone.ensures

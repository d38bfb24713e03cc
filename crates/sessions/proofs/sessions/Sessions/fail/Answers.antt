use Rattle.sessions.proofs.sessions.Sessions.fail.Goals as goal

pub returns-clause-failed : goal.returns-clause-failed
returns-clause-failed c st order kept = (c.fail_so-move.ensures.failed st order kept).keeps

use Rattle.sessions.proofs.Words.{CameTo, AsyncCancelled}
use Rattle.std.proofs.Common.{subst}
use Rattle.vss_model.specs.declared.told.Told.TheVariants as told
use Rattle.vss_model.proofs.Changes.{fails_now}
use Rattle.sessions.proofs.Lines.{aborts}
use Rattle.sessions.proofs.sessions.Sessions.abort.Goals as goal
use Rattle.sessions.proofs.CourseSteps.{owner_at}

pub returns-clause-gone : goal.returns-clause-gone
returns-clause-gone c s st at = aborts (owner_at c.args.lane at.keeps c.requires.goes) (subst (λ x. CameTo told.Ok st x c.fail_so.new.self c.fail_so.result) (fails_now AsyncCancelled st) (c.fail_so.ensures.failed st at.order at.keeps))

use Rattle.sessions.proofs.Words.{Session, Keeps, value_of, CameTo, Context, AsyncCancelled, released_by}
use Rattle.std.proofs.Common.{ap, subst, ◌∙◌, Option}
use Rattle.vss_model.specs.declared.told.Told.TheVariants as told
use Rattle.vss_model.proofs.Changes.{fails_now}
use Rattle.std.specs.Prelude.{option_map}
use Rattle.coordinator.specs.Coordinator.{runs}
use Rattle.vss_model.proofs.StateForm.{failed}
use Rattle.sessions.proofs.Lines.{ends, may_end}
use Rattle.sessions.proofs.sessions.Sessions.end.Goals as goal
use Rattle.sessions.proofs.CourseSteps.{owner_at}

pub close-requires : goal.close-requires
close-requires c = may_end c.args.self.now.requestor.session c.fail_so-moved.new.self.requestor.session (runs c.args.self.now.coordinator) c.args.lane c.requires.goes c.fail_so-moved.ensures.owner

pub returns-clause-gone : goal.returns-clause-gone
returns-clause-gone c s st at =
    let kept : Keeps (value_of c.self.inside) st = rw (← c.self.view_is) at at.keeps in
    let released = c.released_by-released.ensures ∙ ap (λ (o : Option Context). released_by o c.set.result) c.context.ensures
    ∙ ap (released_by (option_map (λ (q : Session). q.context) c.self.inside.requestor.session)) c.set.ensures in
    let came = subst (λ x. CameTo told.Ok st x c.fail_so-moved.new.self c.fail_so-moved.result) (fails_now AsyncCancelled st) (c.fail_so-moved.ensures.failed st at.order at.keeps) in
    ends c.fail_so-moved.result c.released_by-released.result (owner_at c.args.lane at.keeps c.requires.goes) kept came c.fail_so-moved.ensures.kept released
    (λ hs. c.close.ensures.closed (failed AsyncCancelled st) hs came.keeps)

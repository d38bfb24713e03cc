use Rattle.std.proofs.Common.{sym, ap, ◌∙◌}
use Rattle.std.specs.Prelude.{not}
use Rattle.vss_model.specs.Acts.{is_blocked}
use Rattle.sessions.proofs.CourseSteps.{checked_same, not_blocked}
use Rattle.sessions.proofs.sessions.Sessions.may_call.Goals as goal

pub returns-in-Go : goal.returns-in-Go
returns-in-Go c st kept = sym (ap (λ v. not (is_blocked v)) (sym (checked_same c.args.self.now st c.args.lane c.args.call kept) ∙ sym c.check.ensures.verdict) ∙ not_blocked c.check.result c.in-Go.is)

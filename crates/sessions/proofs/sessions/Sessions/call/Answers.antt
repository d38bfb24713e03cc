use Rattle.sessions.proofs.Words.{Line, SessionMove, IsAtOver, told_alone}
use Rattle.std.proofs.Common.{sym, ◌∙◌, subst, refl}
use Rattle.vss_model.specs.declared.told.Told.TheVariants as told
use Rattle.sessions.proofs.CourseSteps.{Happens, checked_same, happens_moves, line_happens, line_waits, refused_happens}
use Rattle.sessions.proofs.sessions.Sessions.call.Goals as goal

pub returns-in-Blocked-clause-called : goal.returns-in-Blocked-clause-called
returns-in-Blocked-clause-called c = record {
  same = refl;
  not_enabled = λ st p. line_waits c.args.scenario.now st c.args.lane c.args.op c.in-Some.call (sym c.session_call.ensures ∙ c.in-Some.is) c.args.self.now (told_alone told.Ok)
      (sym (checked_same c.args.self.now st c.args.lane c.in-Some.call p.at.keeps) ∙ sym c.check.ensures.verdict ∙ c.in-Blocked.is);
}

pub returns-in-Refused-clause-called : goal.returns-in-Refused-clause-called
returns-in-Refused-clause-called c =
    happens_moves (IsAtOver c.args.volumes.now c.args.self.now c.args.scenario.now) c.args.scenario.now c.args.self.now (Line c.args.lane c.args.op) c.alone.result
    (λ st p. subst (λ (m : SessionMove). Happens c.args.scenario.now st (Line c.args.lane c.args.op) c.args.self.now m) (sym c.alone.ensures)
    (refused_happens c.args.scenario.now st c.args.lane c.args.op c.in-Some.call (sym c.session_call.ensures ∙ c.in-Some.is) c.args.self.now c.in-Refused.why
    (sym (checked_same c.args.self.now st c.args.lane c.in-Some.call p.at.keeps) ∙ sym c.check.ensures.verdict ∙ c.in-Refused.is) p.at.order p.at.keeps))

pub returns-in_ok-moved-in-Go-clause-called : goal.returns-in_ok-moved-in-Go-clause-called
returns-in_ok-moved-in-Go-clause-called c =
    happens_moves (IsAtOver c.args.volumes.now c.args.self.now c.args.scenario.now) c.args.scenario.now c.go.new.self (Line c.args.lane c.args.op) c.in_ok-moved-in-Go.moved
    (λ st p. line_happens c.args.scenario.now st c.args.lane c.args.op c.in-Some.call (sym c.session_call.ensures ∙ c.in-Some.is) c.go.new.self c.in_ok-moved-in-Go.moved
    (sym (checked_same c.args.self.now st c.args.lane c.in-Some.call p.at.keeps) ∙ sym c.check.ensures.verdict ∙ c.in-Go.is) (c.in_ok-moved-in-Go.ensures.gone st p))

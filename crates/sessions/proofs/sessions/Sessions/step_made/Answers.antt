use Rattle.sessions.proofs.Words.{stepped as course_stepped, runs, Keeps, value_of}
use Rattle.std.proofs.Common.{◌≡◌, sym, ◌∙◌, subst, true, Some, None, []}
use Rattle.vss_model.proofs.Changes.{made_are}
use Rattle.sessions.proofs.Concluding.{disabled_stepped}
use Rattle.sessions.proofs.sessions.Sessions.step_made.Goals as goal
use Rattle.sessions.proofs.CourseSteps.{goes_on, step_goes}

pub returns-clause-stepped : goal.returns-clause-stepped
returns-clause-stepped c st order kept0 opens = step_goes st c.args.group c.args.volume c.conclude.new.self c.conclude.result order (λ x is x_order.
    let cut : Keeps c.cut_at.new.self x = subst (Keeps c.cut_at.new.self) (made_are (Some c.args.group) c.args.volume st ∙ sym is) (c.cut_at.ensures.cut st c.args.volume order kept0) in
    let kept : Keeps (value_of c.self-2.inside) x = rw (← c.self-2.view_is) at cut in
    let tick : c.now-now.result ≡ c.self-2.inside.clock = c.now-now.ensures.ticks ∙ sym (rw (← c.self.view_is, ← c.self-2.view_is) at c.cut_at.ensures.clock) in
    goes_on (value_of c.self-2.inside) c.conclude.new.self c.stepped-effects.new.self x (λ n. course_stepped true n x.course) (λ n. []) (λ n. None) c.now-now.result (runs x) _ _ c.conclude.result
    tick x_order kept (c.stepped-effects.ensures.stands x.course kept.course) c.stepped-effects.ensures.writers c.stepped-effects.ensures.times (disabled_stepped true c.now-now.result x.course)
    (c.stepped-effects.ensures.tells x.course kept.course) c.conclude.ensures.concludes)

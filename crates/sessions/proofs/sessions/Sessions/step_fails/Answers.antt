use Rattle.sessions.proofs.Words.{stepped as course_stepped, in_progress, runs, HasCome, Keeps, value_of}
use Rattle.std.proofs.Common.{subst, sym, true, false, Some, None, []}
use Rattle.vss_model.specs.declared.told.Told.TheVariants as told
use Rattle.vss_model.proofs.Changes.{steps_are}
use Rattle.sessions.proofs.Concluding.{disabled_stepped}
use Rattle.sessions.proofs.sessions.Sessions.step_fails.Goals as goal
use Rattle.sessions.proofs.CourseSteps.{goes_on}

pub returns-clause-stepped : goal.returns-clause-stepped
returns-clause-stepped c st order kept0 opens =
    let kept : Keeps (value_of c.self.inside) st = rw (← c.self.view_is) at kept0 in
    subst (λ x. HasCome (told.Step c.args.group c.args.volume true) [] None (in_progress st) st.volumes x c.conclude.new.self c.conclude.result)
    (sym (steps_are true (Some c.args.group) c.args.volume st)) (goes_on (value_of c.self.inside) c.conclude.new.self c.stepped-effects.new.self st (λ n. course_stepped false n st.course) (λ n. []) (λ n. None) c.now-now.result (runs st) _ _ c.conclude.result
    c.now-now.ensures.ticks order kept (c.stepped-effects.ensures.stands st.course kept.course) c.stepped-effects.ensures.writers c.stepped-effects.ensures.times
    (disabled_stepped false c.now-now.result st.course)
    (c.stepped-effects.ensures.tells st.course kept.course) c.conclude.ensures.concludes)

use Rattle.sessions.proofs.Words.{Course, Held, begun_as, CameTo, HasBegun, AsyncPending, value_of}
use Rattle.std.proofs.Common.{sym, subst, true, [], None}
use Rattle.vss_model.specs.declared.told.Told.TheVariants as told
use Rattle.sessions.proofs.Concluding.{disabled_begun_as}
use Rattle.sessions.proofs.sessions.Sessions.begin_agenda.Goals as goal
use Rattle.sessions.proofs.CourseSteps.{goes_on}
use Rattle.vss_model.specs.Changes.{after_changes, goes_on as goes_on_changes}
use Rattle.vss_model.proofs.Changes.{goes_on_own}

pub returns-clause-begun : goal.returns-clause-begun
returns-clause-begun c =
    let x = value_of c.self.inside in
    let h : Held = c.selected-selection.result.now in
    let has : HasBegun c.args.kind h c.args.volumes.now x c.conclude.new.self c.conclude.result = λ st d order kept is.
    subst (λ (y : Course). CameTo (told.Result AsyncPending) st (after_changes st (goes_on_changes true y st)) c.conclude.new.self c.conclude.result) (sym is)
    (subst (λ z. CameTo (told.Result AsyncPending) st z c.conclude.new.self c.conclude.result) (sym (goes_on_own true _ st)) (goes_on x c.conclude.new.self c.begin_agenda.new.self st (λ n. begun_as c.args.kind x.coordinator.writers h c.args.volumes.now n st.course) (λ n. [])
    (λ n. None) c.now-now.result true _ _ c.conclude.result
    c.now-now.ensures.ticks order kept (c.in_ok-effects.ensures.stands st.course kept.course) c.begin_agenda.ensures.writers (λ l. c.in_ok-effects.ensures.times)
    (disabled_begun_as c.args.kind x.coordinator.writers h c.args.volumes.now c.now-now.result st.course) (c.in_ok-effects.ensures.tells st.course kept.course) c.conclude.ensures.concludes)) in
    rw (← c.self.view_is) (subst (λ (k : Held). HasBegun c.args.kind k c.args.volumes.now x c.conclude.new.self c.conclude.result) c.selected-selection.ensures has)

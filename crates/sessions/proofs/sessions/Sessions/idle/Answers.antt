use Rattle.sessions.proofs.Words.{idle_ticks, Idle, Keeps, IsAt, value_of}
use Rattle.std.proofs.Common.{◌≡◌, ℕ, sym, ap, ◌∙◌}
use Rattle.std.specs.Prelude.{is_some}
use Rattle.sessions.proofs.CourseSteps.{happens_moves, idle_happens, ticks_are}
use Rattle.sessions.proofs.sessions.Sessions.idle.Goals as goal

pub returns-in-Some-clause-called : goal.returns-in-Some-clause-called
returns-in-Some-clause-called c s =
    let x = value_of c.self.inside in
    happens_moves (IsAt c.args.self.now s) s c.go_on.new.self Idle c.go_on.result (λ st found.
    let kept : Keeps x st = rw (← c.self.view_is) at found.keeps in
    let at : c.now-now.result ≡ st.clock = c.now-now.ensures.ticks ∙ kept.clock in
    let is = ticks_are (is_some st.course.agenda) c.in-Some.ticks (idle_ticks c.now-now.result st.course) (sym c.in-Some.is ∙ c.until_limit.ensures.ticks st.course kept.course)
    ∙ ap (λ (k : ℕ). idle_ticks k st.course) at in
    idle_happens s c.go_on.new.self st c.in-Some.ticks c.go_on.result (sym (c.is_asking.ensures st found.keeps) ∙ c.if-not-is_asking.false) is (c.go_on.ensures.gone st found.order found.keeps))

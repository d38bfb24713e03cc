use Rattle.sessions.proofs.Words.{timed as course_timed, lost_writers, later, runs, Keeps, value_of, lost_order_if as lost_order_kept, left, order_now}
use Rattle.sessions.proofs.Concluding.{disabled_timed}
use Rattle.sessions.proofs.sessions.Sessions.go_on.Goals as goal
use Rattle.sessions.proofs.CourseSteps.{later_keeps, later_order, goes_on, time_goes}

pub returns-clause-gone : goal.returns-clause-gone
returns-clause-gone c st order kept0 =
    let kept : Keeps (value_of c.self.inside) st = rw (← c.self.view_is) at kept0 in
    let on = later_keeps (value_of c.self.inside) st c.args.ticks c.go_on_by.new.clock c.go_on_by.ensures kept in
    time_goes c.conclude.new.self st c.args.told c.args.ticks c.conclude.result
    (goes_on (record (value_of c.self.inside) { clock = c.go_on_by.new.clock }) c.conclude.new.self c.time-effects.new.self (later c.args.ticks st) (λ n. course_timed n st.course)
    (λ n. lost_writers n st.course) (λ n. lost_order_kept (lost_writers n st.course) (order_now (left st.course.agenda))) c.now-now.result (runs st) _ _ c.conclude.result
    c.now-now.ensures.ticks (later_order c.args.ticks st order) on (c.time-effects.ensures.stands st.course kept.course) c.time-effects.ensures.writers (λ l. c.time-effects.ensures.times)
    (disabled_timed c.now-now.result st.course) (c.time-effects.ensures.tells st.course kept.course) c.conclude.ensures.concludes)

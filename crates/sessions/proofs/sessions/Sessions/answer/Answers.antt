use Rattle.sessions.proofs.Words.{said_of, answered as course_answered, Answer as AnswerEvent, runs, Keeps, IsAt, value_of}
use Rattle.std.proofs.Common.{sym, ◌∙◌, None, []}
use Rattle.sessions.proofs.Concluding.{disabled_answered}
use Rattle.sessions.proofs.CourseSteps.{happens_moves, answer_happens, goes_on}
use Rattle.sessions.proofs.sessions.Sessions.answer.Goals as goal

pub returns-in-Ok-clause-called : goal.returns-in-Ok-clause-called
returns-in-Ok-clause-called c s = happens_moves (IsAt c.args.self.now s) s c.conclude.new.self (AnswerEvent c.args.writer c.args.answer) c.conclude.result (λ st found.
    let kept : Keeps (value_of c.self.inside) st = rw (← c.self.view_is) at found.keeps in
    answer_happens s c.conclude.new.self c.args.writer c.args.answer c.in-Some.standing c.conclude.result st (sym c.in-Some.is ∙ c.poll.ensures st.course kept.course)
    (goes_on (value_of c.self.inside) c.conclude.new.self c.answered.new.self st (λ n. course_answered c.args.writer (said_of c.args.answer) n st.course) (λ n. []) (λ n. None) c.now-now.result
    (runs st) _ _ c.conclude.result
    c.now-now.ensures.ticks found.order kept (c.in-Ok.ensures.stands st.course kept.course) c.in-Ok.ensures.writers c.in-Ok.ensures.times
    (disabled_answered c.args.writer (said_of c.args.answer) c.now-now.result st.course)
    (c.in-Ok.ensures.tells st.course kept.course) c.conclude.ensures.concludes))

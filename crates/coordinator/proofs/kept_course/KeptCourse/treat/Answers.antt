use Rattle.std.proofs.Common.{ap, rules, ◌∙◌}
use Rattle.set_agenda.specs.Course.{fails_set, lost}
use Rattle.coordinator.proofs.Following.{follows-answer}
use Rattle.coordinator.proofs.kept_course.KeptCourse.treat.Goals as goal

pub returns-in-Some-Hold-clause-times : goal.returns-in-Some-Hold-clause-times
returns-in-Some-Hold-clause-times c = λ h. c.fail_set.ensures.times c.args.now

pub returns-in-Some-Freeze-clause-times : goal.returns-in-Some-Freeze-clause-times
returns-in-Some-Freeze-clause-times c = λ h. c.fail_set-in-Some-Freeze.ensures.times c.args.now

pub returns-in-Some-Answer-clause-follows : goal.returns-in-Some-Answer-clause-follows
returns-in-Some-Answer-clause-follows c = λ d h. follows-answer c.args.self.now _ d c.args.now c.args.limit c.fails_set-fails.result (search rules) (c.fails_set-fails.ensures ∙ ap fails_set c.open_order.ensures) h
    (c.decide_lost.ensures.follows (lost c.args.now d) (c.lose_open-in-Some-Answer.ensures.follows d h))

pub returns-in-Some-Answer-clause-times : goal.returns-in-Some-Answer-clause-times
returns-in-Some-Answer-clause-times c = λ h. c.decide_lost.ensures.times c.args.now (c.lose_open-in-Some-Answer.ensures.times h)

use Rattle.coordinator.proofs.kept_course.KeptCourse.step.Goals as goal

pub returns-then-ok-clause-times : goal.returns-then-ok-clause-times
returns-then-ok-clause-times c = λ h. c.settle.ensures.times c.args.now (c.work.ensures.times h)

pub returns-else-ok-clause-times : goal.returns-else-ok-clause-times
returns-else-ok-clause-times c = λ h. c.fail_set.ensures.times c.args.now

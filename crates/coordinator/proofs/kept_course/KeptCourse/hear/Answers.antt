use Rattle.coordinator.proofs.kept_course.KeptCourse.hear.Goals as goal

pub returns-clause-times : goal.returns-clause-times
returns-clause-times c = λ h. c.decide.ensures.times c.args.now (c.tell.ensures.times h)

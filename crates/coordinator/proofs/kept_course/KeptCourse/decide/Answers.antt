use Rattle.coordinator.proofs.kept_course.KeptCourse.decide.Goals as goal

pub returns-then-fails-clause-times : goal.returns-then-fails-clause-times
returns-then-fails-clause-times c = λ now h. c.fail_set.ensures.times now

use Rattle.std.proofs.Common.{refl}
use Rattle.coordinator.proofs.Following.{follows-failed}
use Rattle.coordinator.proofs.kept_course.KeptCourse.fail_set.Goals as goal

pub returns-clause-follows : goal.returns-clause-follows
returns-clause-follows c = λ d h. follows-failed c.args.self.now _ d c.args.why c.change_each.ensures.rows refl refl refl refl h

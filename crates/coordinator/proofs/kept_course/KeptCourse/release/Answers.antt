use Rattle.std.proofs.Common.{refl}
use Rattle.coordinator.proofs.Calls.{follows-released}
use Rattle.coordinator.proofs.kept_course.KeptCourse.release.Goals as goal

pub returns-clause-follows : goal.returns-clause-follows
returns-clause-follows c = λ d h. follows-released c.args.self.now _ d c.change_all.ensures.rows c.new-self.ensures c.new-self-2.ensures refl refl h

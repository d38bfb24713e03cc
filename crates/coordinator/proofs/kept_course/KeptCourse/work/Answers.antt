use Rattle.std.proofs.Common.{refl}
use Rattle.coordinator.proofs.Following.{follows-worked}
use Rattle.coordinator.proofs.kept_course.KeptCourse.work.Goals as goal

pub returns-in-Some-clause-follows : goal.returns-in-Some-clause-follows
returns-in-Some-clause-follows c = λ d h. follows-worked c.args.self.now _ d c.in-Some.running c.work.new.self c.args.now c.in-Some.is refl refl (record { members = refl; disabled = refl; outcome = refl }) c.work.ensures.fits h

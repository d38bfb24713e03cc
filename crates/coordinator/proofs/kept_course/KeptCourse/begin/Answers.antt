use Rattle.std.proofs.Common.{Some}
use Rattle.coordinator.proofs.Begun.{follows-running}
use Rattle.coordinator.proofs.kept_course.KeptCourse.begin.Goals as goal

pub returns-clause-follows : goal.returns-clause-follows
returns-clause-follows c = λ d a h f. c.settle.ensures.follows (record d { agenda = Some a }) (follows-running c.args.self.now c.args.running d a f h)

use Rattle.coordinator.proofs.Calls.{post-stands}
use Rattle.coordinator.proofs.kept_course.KeptCourse.post.Goals as goal

pub returns-clause-stands : goal.returns-clause-stands
returns-clause-stands c = λ b d e h o r. post-stands c.args.self.now c.post.new.mailboxes c.args.before b d c.post.ensures.fit e h o r

use Rattle.coordinator.proofs.Calls.{close-stands}
use Rattle.coordinator.proofs.kept_course.KeptCourse.close_orders.Goals as goal

pub returns-clause-stands : goal.returns-clause-stands
returns-clause-stands c = λ b d f l o h. close-stands c.args.self.now c.close_all.new.mailboxes b d c.close_all.ensures.closed f l o h

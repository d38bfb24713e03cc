use Rattle.std.proofs.Common.{refl}
use Rattle.coordinator.proofs.Calls.{sent-new, stands-new}
use Rattle.coordinator.proofs.kept_course.KeptCourse.new.Goals as goal

pub returns-clause-stands : goal.returns-clause-stands
returns-clause-stands c = stands-new _ 64 c.new-2.ensures c.in_ok-mailboxes.ensures c.new-3.ensures c.new-4.ensures refl refl

pub returns-clause-sent : goal.returns-clause-sent
returns-clause-sent c = sent-new 64 c.in_ok-mailboxes.mailboxes c.in_ok-mailboxes.ensures

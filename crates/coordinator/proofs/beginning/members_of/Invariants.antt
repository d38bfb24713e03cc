use Rattle.std.proofs.Common.{◌≡◌, ◌-◌, ◌++◌, drop, length}
use Rattle.set_agenda.specs.Agenda.{is_among}
use Rattle.set_agenda.specs.Course.{members_from}
use Rattle.coordinator.proofs.beginning.members_of.Given as goal

abbrev pub invariant-loop-number : goal.invariant-loop-number
invariant-loop-number l = l.members.items ++ members_from (λ w. is_among w l.asked) l.number (drop l.number l.rows) ≡ members_from (λ w. is_among w l.asked) 0 l.rows

abbrev pub decreases-loop-number : goal.decreases-loop-number
decreases-loop-number l = length l.rows - l.number

use Rattle.std.proofs.Common.{◌≡◌, ◌-◌, drop, length}
use Rattle.set_agenda.specs.Agenda.{is_among}
use Rattle.coordinator.specs.Coordinator.{any_class, class_at}
use Rattle.coordinator.proofs.writer_names.has_class_of.Given as goal

abbrev pub invariant-loop-number : goal.invariant-loop-number
invariant-loop-number l = any_class (λ x. is_among x l.writers) l.number (class_at l.names l.writer) (drop l.number l.names) ≡ any_class (λ x. is_among x l.writers) 0 (class_at l.names l.writer) l.names

abbrev pub decreases-loop-number : goal.decreases-loop-number
decreases-loop-number l = length l.names - l.number

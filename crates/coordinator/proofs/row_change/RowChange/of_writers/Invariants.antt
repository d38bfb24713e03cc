use Rattle.std.proofs.Common.{length, ◌-◌, ◌≡◌}
use Rattle.set_agenda.specs.Agenda.{is_among}
use Rattle.set_agenda.specs.Course.{rows_where}
use Rattle.coordinator.specs.KeptCourse.{changed}
use Rattle.coordinator.proofs.Following.{where_from}
use Rattle.coordinator.proofs.row_change.RowChange.of_writers.Given as goal

abbrev pub invariant-loop-number : goal.invariant-loop-number
invariant-loop-number l = (where_from (changed l.self) (λ w. is_among w l.writers) 0 l.number l.rows.items ≡ rows_where (changed l.self) (λ w. is_among w l.writers) 0 l.initial.rows.items) × (length l.rows.items ≡ length l.initial.rows.items)

abbrev pub decreases-loop-number : goal.decreases-loop-number
decreases-loop-number l = length l.rows.items - l.number

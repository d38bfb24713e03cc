use Rattle.std.proofs.Common.{length, ◌-◌, ◌≡◌, map, true}
use Rattle.coordinator.specs.KeptCourse.{changed}
use Rattle.coordinator.proofs.Following.{where_from}
use Rattle.coordinator.proofs.row_change.RowChange.of_all.Given as goal

abbrev pub invariant-loop-number : goal.invariant-loop-number
invariant-loop-number l = (where_from (changed l.self) (λ w. true) 0 l.number l.rows.items ≡ map (changed l.self) l.initial.rows.items) × (length l.rows.items ≡ length l.initial.rows.items)

abbrev pub decreases-loop-number : goal.decreases-loop-number
decreases-loop-number l = length l.rows.items - l.number

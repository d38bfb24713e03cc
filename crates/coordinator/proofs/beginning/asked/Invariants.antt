use Rattle.std.proofs.Common.{◌≡◌, ◌≤◌, ◌-◌, length}
use Rattle.std.specs.Prelude.{◌&&◌, nat_lt}
use Rattle.set_agenda.specs.WriterSet.{writers}
use Rattle.component_doc.specs.Selection.{takers}
use Rattle.coordinator.specs.Beginning.{asks}
use Rattle.coordinator.proofs.beginning.asked.Given as goal

-- of the writers before this one those are in that are asked
abbrev pub invariant-loop-number : goal.invariant-loop-number
invariant-loop-number l = (l.asked ≡ writers (λ w. nat_lt w l.number && asks l.kind l.names l.kept (takers l.selection.writers l.selection.selected) w)) × (l.number ≤ length l.kept.rows)

abbrev pub decreases-loop-number : goal.decreases-loop-number
decreases-loop-number l = length l.kept.rows - l.number

use Rattle.std.proofs.Common.{◌-◌, ◌≡◌, ◌≤◌, drop}
use Rattle.set_agenda.specs.Agenda.{places}
use Rattle.set_agenda.specs.Cursor.{left_fresh}
use Rattle.set_agenda.proofs.cursor.first_open.Given as goal

-- the groups passed by are empty
abbrev pub invariant-loop-number : goal.invariant-loop-number
invariant-loop-number l = (l.number ≤ 16) × (left_fresh l.rows l.volumes (drop l.number (places l.kind)) ≡ left_fresh l.rows l.volumes (drop l.from (places l.kind)))

abbrev pub decreases-loop-number : goal.decreases-loop-number
decreases-loop-number l = 16 - l.number

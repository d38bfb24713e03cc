use Rattle.std.proofs.Common.{take}
use Rattle.set_agenda.specs.Cursor.{HasRows}
use Rattle.set_agenda.proofs.rows.Rows.of.Given as goal

abbrev pub invariant-loop-member : goal.invariant-loop-member
invariant-loop-member l = HasRows l.rows (take l.member-index l.members)

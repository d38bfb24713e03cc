use Rattle.diff_area.specs.ReadRows.{AreGood, IsSeen}
use Rattle.diff_area.proofs.rows.check_rows.Given as goal

abbrev pub invariant-loop-slot : goal.invariant-loop-slot
invariant-loop-slot l = record { good : AreGood l.header l.table l.slot l.rows.items; seen : IsSeen l.seen l.rows.items }

use Rattle.std.proofs.Common.{◌≤◌, take}
use Rattle.component_doc.specs.Selection.{HaveSame}
use Rattle.component_doc.proofs.pairs.up_to_last.Given as goal

-- of those that were passed, none behind the end is of the writer
abbrev pub invariant-loop-i : goal.invariant-loop-i
invariant-loop-i l = (l.end ≤ l.i) × HaveSame l.writer (take l.end l.pairs) (take l.i l.pairs)

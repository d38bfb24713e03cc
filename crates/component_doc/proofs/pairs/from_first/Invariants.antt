use Rattle.std.proofs.Common.{drop}
use Rattle.component_doc.specs.Selection.{HaveSame}
use Rattle.component_doc.proofs.pairs.from_first.Given as goal

-- none that was passed is of the writer
abbrev pub invariant-loop-i : goal.invariant-loop-i
invariant-loop-i l = HaveSame l.writer (drop l.i l.pairs) l.pairs

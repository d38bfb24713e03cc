use Rattle.std.proofs.Common.{◌≡◌, drop}
use Rattle.component_doc.specs.Over.{is_ascending}
use Rattle.component_doc.proofs.pairs.are_ascending.Given as goal

-- each pair that was passed comes before the next one
abbrev pub invariant-loop-i : goal.invariant-loop-i
invariant-loop-i l = is_ascending l.pairs ≡ is_ascending (drop l.i l.pairs)

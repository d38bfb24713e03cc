use Rattle.std.proofs.Common.{◌≡◌, ◌++◌, take, drop}
use Rattle.component_doc.specs.Selection.{with_pair}
use Rattle.component_doc.proofs.pairs.place_of.Given as goal

-- the pair stands behind those that were passed
abbrev pub invariant-loop-i : goal.invariant-loop-i
invariant-loop-i l = with_pair l.pair l.pairs ≡ take l.i l.pairs ++ with_pair l.pair (drop l.i l.pairs)

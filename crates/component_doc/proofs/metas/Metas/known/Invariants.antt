use Rattle.std.proofs.Common.{◌≡◌, ◌++◌, drop}
use Rattle.component_doc.specs.Over.{metas_of}
use Rattle.component_doc.specs.Selection.{known_from}
use Rattle.component_doc.proofs.metas.Metas.known.Given as goal

-- the writers so far, and then those that are left
abbrev pub invariant-loop-writer : goal.invariant-loop-writer
invariant-loop-writer l = l.writers.items ++ known_from l.writer (drop l.writer (metas_of l.self)) ≡ known_from 0 (metas_of l.self)

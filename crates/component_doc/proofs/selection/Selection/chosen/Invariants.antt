use Rattle.std.proofs.Common.{◌≡◌, ◌++◌, drop}
use Rattle.component_doc.specs.Over.{metas_of}
use Rattle.component_doc.specs.Selection.{chosen, chosen_from}
use Rattle.component_doc.proofs.selection.Selection.chosen.Given as goal

-- the choices so far, and then those of the writers that are left
abbrev pub invariant-loop-writer : goal.invariant-loop-writer
invariant-loop-writer l = l.choices.items ++ chosen_from l.self.selected l.writer (drop l.writer (metas_of l.metas)) ≡ chosen l.self.selected (metas_of l.metas)

use Rattle.std.proofs.Common.{◌≡◌, drop}
use Rattle.component_doc.specs.Over.{metas_of}
use Rattle.component_doc.specs.Document.{choices_data}
use Rattle.writer_meta.proofs.Laws.{with_items}
use Rattle.component_doc.proofs.written.values_of.Given as goal

-- the values so far, and then those of the choices that are left
abbrev pub invariant-loop-choice : goal.invariant-loop-choice
invariant-loop-choice l =
    with_items l.values.items (choices_data (metas_of l.metas) (drop l.choice-index l.choices)) ≡ choices_data (metas_of l.metas) l.choices

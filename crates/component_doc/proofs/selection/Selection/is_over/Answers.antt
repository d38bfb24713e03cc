use Rattle.std.proofs.Common.{◌∙◌, ◌==◌, ◌&&◌, ap}
use Rattle.component_doc.specs.Over.{selected_of}
use Rattle.component_doc.proofs.Known.{over-both}
use Rattle.component_doc.proofs.selection.Selection.is_over.Goals as goal

pub returns : goal.returns
returns c = rw (← c.self.view_is)
    (over-both c.args.metas.now c.self.inside.writers (selected_of c.self.inside.taken) c.in_ok-is_over.is_over c.are_both.result
    (c.are_both.ensures ∙ ap (λ k. (c.self.inside.writers == k) && c.in_ok-is_over.is_over) c.len.ensures) c.in_ok-is_over.ensures)

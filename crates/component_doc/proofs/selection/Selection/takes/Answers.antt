use Rattle.std.proofs.Common.{◌∙◌, ◌&&◌, ap, nat_lt}
use Rattle.component_doc.specs.Over.{selected_of}
use Rattle.component_doc.proofs.Known.{takes-is}
use Rattle.component_doc.proofs.selection.Selection.takes.Goals as goal

pub returns : goal.returns
returns c =
    rw (← c.self.view_is)
    (c.are_both.ensures ∙ ap (λ b. nat_lt c.args.writer c.self.inside.writers && b) c.takes.ensures
    ∙ takes-is c.self.inside.writers (selected_of c.self.inside.taken) c.args.writer)

use Rattle.std.proofs.Common.{◌∙◌, sym}
use Rattle.component_doc.proofs.Named.{not_below, below_all, below_at}
use Rattle.component_doc.proofs.ancestors.is_ancestor.Goals as goal

pub returns-in_default : goal.returns-in_default
returns-in_default c = rw (← c.bytes.ensures) (sym (not_below _ _ c.in_default.ensures))

pub returns-then-is_empty : goal.returns-then-is_empty
returns-then-is_empty c = rw (c.if-is_empty.true, ← c.bytes.ensures) (sym (below_all _ _ _ c.in-Some.ensures (sym c.is_empty.ensures ∙ c.if-is_empty.true)))

pub returns-else-is_empty : goal.returns-else-is_empty
returns-else-is_empty c = rw (← c.bytes.ensures) (sym (below_at _ _ _ c.in-Some.ensures (sym c.is_empty.ensures ∙ c.if-is_empty.false)))

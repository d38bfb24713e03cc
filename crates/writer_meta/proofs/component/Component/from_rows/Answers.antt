use Rattle.std.proofs.Common.{refl}
use Rattle.writer_meta.specs.Document.{rows_of_part}
use Rattle.writer_meta.proofs.Lists.{Tells-then_on, Tells-handed_on}
use Rattle.writer_meta.proofs.component.Component.from_rows.Goals as goal

pub returns-in_err-kind-clause-refused : goal.returns-in_err-kind-clause-refused
unfolding rows_of_part
returns-in_err-kind-clause-refused c = Tells-handed_on _ _ _ c.from_residual.ensures.1 (Tells-then_on _ _ _ c.in_err-kind.ensures.refused)

pub returns-in_err-path-clause-refused : goal.returns-in_err-path-clause-refused
unfolding rows_of_part
returns-in_err-path-clause-refused c = Tells-handed_on _ _ _ c.from_residual-in_err-path.ensures.1 (rw (c.in_ok-kind.ensures.ok) (Tells-then_on _ _ _ c.in_err-path.ensures.refused))

pub returns-in_err-name-clause-refused : goal.returns-in_err-name-clause-refused
unfolding rows_of_part
returns-in_err-name-clause-refused c = Tells-handed_on _ _ _ c.from_residual-in_err-name.ensures.1 (rw (c.in_ok-kind.ensures.ok, c.in_ok-path.ensures.ok) (Tells-then_on _ _ _ c.in_err-name.ensures.refused))

pub returns-in_err-selectable-clause-refused : goal.returns-in_err-selectable-clause-refused
unfolding rows_of_part
returns-in_err-selectable-clause-refused c = Tells-handed_on _ _ _ c.from_residual-in_err-selectable.ensures.1 (rw (c.in_ok-kind.ensures.ok, c.in_ok-path.ensures.ok, c.in_ok-name.ensures.ok) (Tells-then_on _ _ _ c.in_err-selectable.ensures.refused))

pub returns-clause-ok : goal.returns-clause-ok
unfolding rows_of_part
returns-clause-ok c = rw (c.in_ok-kind.ensures.ok, c.in_ok-path.ensures.ok, c.in_ok-name.ensures.ok, c.in_ok-selectable.ensures.ok) refl

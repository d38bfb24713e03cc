use Rattle.std.proofs.Common.{refl, rules}
use Rattle.writer_meta.specs.Document.{rows_of_meta}
use Rattle.writer_meta.proofs.Inversions.{name_in-allowed, freeze_timeout_in-allowed, list_of_parts-allowed}
use Rattle.writer_meta.proofs.Lists.{Tells-then_on, Tells-handed_on}
use Rattle.writer_meta.proofs.metadata.Metadata.from_rows.Goals as goal

pub returns-in_err-class-clause-refused : goal.returns-in_err-class-clause-refused
unfolding rows_of_meta
returns-in_err-class-clause-refused c = Tells-handed_on _ _ _ c.from_residual.ensures.1 (Tells-then_on _ _ _ c.in_err-class.ensures.refused)

pub returns-in_err-name-clause-refused : goal.returns-in_err-name-clause-refused
unfolding rows_of_meta
returns-in_err-name-clause-refused c = Tells-handed_on _ _ _ c.from_residual-in_err-name.ensures.1 (rw (c.in_ok-class.ensures.ok) (Tells-then_on _ _ _ c.in_err-name.ensures.refused))

pub returns-in_err-level-clause-refused : goal.returns-in_err-level-clause-refused
unfolding rows_of_meta
returns-in_err-level-clause-refused c = Tells-handed_on _ _ _ c.from_residual-in_err-level.ensures.1 (rw (c.in_ok-class.ensures.ok, c.in_ok-name.ensures.ok) (Tells-then_on _ _ _ c.in_err-level.ensures.refused))

pub returns-in_err-usage-clause-refused : goal.returns-in_err-usage-clause-refused
unfolding rows_of_meta
returns-in_err-usage-clause-refused c = Tells-handed_on _ _ _ c.from_residual-in_err-usage.ensures.1 (rw (c.in_ok-class.ensures.ok, c.in_ok-name.ensures.ok, c.in_ok-level.ensures.ok) (Tells-then_on _ _ _ c.in_err-usage.ensures.refused))

pub returns-in_err-source-clause-refused : goal.returns-in_err-source-clause-refused
unfolding rows_of_meta
returns-in_err-source-clause-refused c = Tells-handed_on _ _ _ c.from_residual-in_err-source.ensures.1 (rw (c.in_ok-class.ensures.ok, c.in_ok-name.ensures.ok, c.in_ok-level.ensures.ok, c.in_ok-usage.ensures.ok) (Tells-then_on _ _ _ c.in_err-source.ensures.refused))

pub returns-in_err-freeze_timeout-clause-refused : goal.returns-in_err-freeze_timeout-clause-refused
unfolding rows_of_meta
returns-in_err-freeze_timeout-clause-refused c = Tells-handed_on _ _ _ c.from_residual-in_err-freeze_timeout.ensures.1 (rw (c.in_ok-class.ensures.ok, c.in_ok-name.ensures.ok, c.in_ok-level.ensures.ok, c.in_ok-usage.ensures.ok, c.in_ok-source.ensures.ok) (Tells-then_on _ _ _ c.in_err-freeze_timeout.ensures.refused))

pub returns-in_err-values-clause-refused : goal.returns-in_err-values-clause-refused
unfolding rows_of_meta
returns-in_err-values-clause-refused c = Tells-handed_on _ _ _ c.from_residual-in_err-values.ensures.1 (rw (c.in_ok-class.ensures.ok, c.in_ok-name.ensures.ok, c.in_ok-level.ensures.ok, c.in_ok-usage.ensures.ok, c.in_ok-source.ensures.ok, c.in_ok-freeze_timeout.ensures.ok) (Tells-then_on _ _ _ c.in_err-values.ensures.refused))

pub returns-in_err-components-clause-refused : goal.returns-in_err-components-clause-refused
unfolding rows_of_meta
returns-in_err-components-clause-refused c = Tells-handed_on _ _ _ c.from_residual-in_err-components.ensures.1 (rw (c.in_ok-class.ensures.ok, c.in_ok-name.ensures.ok, c.in_ok-level.ensures.ok, c.in_ok-usage.ensures.ok, c.in_ok-source.ensures.ok, c.in_ok-freeze_timeout.ensures.ok, c.in_ok-values.ensures.ok) (Tells-then_on _ _ _ c.in_err-components.ensures.refused))

pub returns-clause-ok : goal.returns-clause-ok
unfolding rows_of_meta
returns-clause-ok c = rw (c.in_ok-class.ensures.ok, c.in_ok-name.ensures.ok, c.in_ok-level.ensures.ok, c.in_ok-usage.ensures.ok, c.in_ok-source.ensures.ok, c.in_ok-freeze_timeout.ensures.ok, c.in_ok-values.ensures.ok, c.in_ok-components.ensures.ok) refl

pub returns-clause-allowed : goal.returns-clause-allowed
returns-clause-allowed c =
    let parts = list_of_parts-allowed _ _ c.in_ok-components.ensures.ok in
    record {
      class = search rules;
      name = name_in-allowed _ _ c.in_ok-name.ensures.ok;
      freeze_timeout = freeze_timeout_in-allowed _ _ c.in_ok-freeze_timeout.ensures.ok;
      few = parts.0;
      parts = parts.1;
      distinct = parts.2;
    }

use Rattle.writer_meta.specs.Document.{metadata_in}
use Rattle.writer_meta.proofs.Lists.{Tells-then_on, Tells-handed_on}
use Rattle.writer_meta.proofs.metadata.Metadata.from_json.Goals as goal

pub returns-in_err-value-clause-refused : goal.returns-in_err-value-clause-refused
unfolding metadata_in
returns-in_err-value-clause-refused c = Tells-handed_on _ _ _ c.from_residual.ensures.1 (Tells-then_on _ _ _ c.in_err-value.ensures.refused)

pub returns-clause-ok : goal.returns-clause-ok
unfolding metadata_in
returns-clause-ok c = rw c.in_ok-value.ensures.ok c.from_value.ensures.ok

pub returns-clause-refused : goal.returns-clause-refused
unfolding metadata_in
returns-clause-refused c = rw c.in_ok-value.ensures.ok c.from_value.ensures.refused

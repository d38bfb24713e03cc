use Rattle.std.proofs.Common.{ap, ok_or}
use Rattle.writer_meta.specs.Refusal.{IsNotJson}
use Rattle.writer_meta.proofs.Lists.{no_value, has_value}
use Rattle.writer_meta.proofs.metadata.value_of.Goals as goal

pub returns-in-Ok-clause-ok : goal.returns-in-Ok-clause-ok
returns-in-Ok-clause-ok c = has_value c.args.text.now _ c.in-Ok.ensures.ok.0 c.in-Ok.ensures.ok.1

pub returns-else-is_memory-clause-refused : goal.returns-else-is_memory-clause-refused
returns-else-is_memory-clause-refused c =
    ap (λ found. ok_or found IsNotJson) (no_value c.args.text.now c.is_memory.result c.if-is_memory.false c.is_memory.ensures c.in-Err.ensures.err)

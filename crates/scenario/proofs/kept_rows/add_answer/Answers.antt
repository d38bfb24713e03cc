use Rattle.std.proofs.Common.{refl, arith}
use Rattle.scenario.proofs.Whole.{answer_stored}
use Rattle.scenario.proofs.kept_rows.add_answer.Goals as goal

pub returns : goal.returns
returns c =
    answer_stored c.args.writers.now.items c.args.w c.index_mut.result.now _ c.args.row (omega arith) c.index_mut.ensures.value
    (rw c.in_ok-add.ensures.added refl)

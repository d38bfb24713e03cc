use Rattle.std.proofs.Common.{◌-◌, refl, arith}
use Rattle.scenario.proofs.Whole.{line_stored}
use Rattle.scenario.proofs.kept_rows.add_line.Goals as goal

pub returns : goal.returns
returns c =
    line_stored c.args.lanes.now.items (c.len-last.result - 1) c.index_mut.result.now _ c.args.line (omega arith) c.index_mut.ensures.value
    (rw c.in_ok-push.ensures.items refl)

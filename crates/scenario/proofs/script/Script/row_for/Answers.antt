use Rattle.std.proofs.Common.{ap, ◌∙◌, arith}
use Rattle.std.specs.Prelude.{find, nat_eq}
use Rattle.std.specs.Map.{lookup}
use Rattle.writer_calls.specs.Script.{is_row_for}
use Rattle.scenario.proofs.TextParts.{found}
use Rattle.scenario.proofs.script.Script.row_for.Goals as goal

pub returns : goal.returns
returns c =
    c.copied.ensures
    ∙ c.get.ensures.value
    ∙ ap (λ k. lookup (nat_eq k) c.self.inside.rows.entries) c.key_of.ensures
    ∙ found c.args.order c.args.nth c.self.inside.rows.entries (omega arith) c.self.invariant
    ∙ ap (find (is_row_for c.args.order c.args.nth)) c.self.view_is

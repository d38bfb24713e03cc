use Rattle.std.proofs.Common.{rules, tests, ◌∙◌}
use Rattle.std.proofs.lemmas.Iterator.{YieldsList-from_slice}
use Rattle.std.proofs.lemmas.Iterator.Search.{find_from_yields_List}
use Rattle.writer_calls.specs.Script.{is_row_for}
use Rattle.writer_calls.proofs.scripted.Scripted.first_for.Goals as goal

pub returns : goal.returns
returns c =
    c.copied.ensures
    ∙ find_from_yields_List (is_row_for c.args.order c.args.nth) _ _ c.find.result c.find.ensures.ran (YieldsList-from_slice c.args.script.now cc) (λ x b q k. search (rules, tests))

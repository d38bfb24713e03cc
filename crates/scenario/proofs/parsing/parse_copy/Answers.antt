use Rattle.std.proofs.Common.{List, ℕ, subst, sym}
use Rattle.scenario.specs.Grammar.{reading_of, takes_memory}
use Rattle.scenario.specs.Named.{HasNames}
use Rattle.scenario.specs.SoFar.{plan_in}
use Rattle.scenario.proofs.Named.{has_names}
use Rattle.scenario.proofs.parsing.parse_copy.Goals as goal

pub returns-in-Err-clause-refused : goal.returns-in-Err-clause-refused
returns-in-Err-clause-refused c = c.at.ensures (reading_of c.args.text.now) (takes_memory c.args.text.now) c.in-Err.ensures.refused

pub finish-requires-clause-names : goal.finish-requires-clause-names
finish-requires-clause-names c =
    subst (λ (text : List ℕ). HasNames (plan_in text c.read.new.draft.said)) (sym c.in-Ok.ensures)
    (has_names c.args.text.now (plan_in c.args.text.now c.read.new.draft.said) c.in_default.ensures.read)

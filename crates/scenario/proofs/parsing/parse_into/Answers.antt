use Rattle.std.proofs.Common.{◌≡◌, List, ℕ, subst}
use Rattle.scenario.specs.SoFar.{plan_in}
use Rattle.scenario.specs.Grammar.{reading_of, takes_memory, IsScenario, IsUnreadAt}
use Rattle.scenario.proofs.Named.{has_names}
use Rattle.scenario.proofs.parsing.parse_into.Goals as goal

pub finish-requires-clause-names : goal.finish-requires-clause-names
finish-requires-clause-names c =
    let read = subst (λ (text : List ℕ). reading_of text ≡ IsScenario (plan_in text c.read.new.draft.said)) c.bytes.ensures c.in-Ok.ensures.read in
    has_names c.args.text.bytes (plan_in c.args.text.bytes c.read.new.draft.said) read

pub returns-in-Err-clause-refused : goal.returns-in-Err-clause-refused
returns-in-Err-clause-refused c =
    c.at.ensures (reading_of c.args.text.bytes) (takes_memory c.args.text.bytes)
    (subst (λ (text : List ℕ). IsUnreadAt c.in-Err.stopped.line (reading_of text) (takes_memory text) c.in-Err.stopped.unread) c.bytes.ensures c.in-Err.ensures.refused)

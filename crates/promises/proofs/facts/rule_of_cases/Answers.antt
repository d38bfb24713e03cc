use Rattle.promises.proofs.Words.{Passes, on_after, of_changes, of_writes}
use Rattle.promises.proofs.facts.rule_of_cases.Goals as goal

pub returns : goal.returns
returns c = λ test changes writes s st act h. on_after (Passes test) (of_changes (Passes test) s changes) s st act (of_writes (Passes test) st (writes st)) h

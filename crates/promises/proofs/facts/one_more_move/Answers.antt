use Rattle.vss_model.proofs.Appending.{state-append, run-append, acts-append, is_legal-append, faults-append}
use Rattle.promises.proofs.facts.one_more_move.Goals as goal

pub returns : goal.returns
returns c = record { state = state-append; run = run-append; acts = acts-append; legal = is_legal-append; faults = faults-append }

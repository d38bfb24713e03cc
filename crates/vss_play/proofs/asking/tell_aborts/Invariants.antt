use Rattle.vss_play.specs.Asking.{AreTold}
use Rattle.vss_play.proofs.asking.tell_aborts.Given as goal

abbrev pub invariant-loop-at : goal.invariant-loop-at
invariant-loop-at g l = AreTold g.W.VssWriter l.rows l.at l.fn.given l.given l.fn.writers l.writers

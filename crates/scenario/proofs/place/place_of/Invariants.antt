use Rattle.scenario.proofs.Places.{IsCounted}
use Rattle.scenario.proofs.place.place_of.Given as goal

abbrev pub invariant-loop-other : goal.invariant-loop-other
invariant-loop-other l = IsCounted l.group l.rows l.other l.volume

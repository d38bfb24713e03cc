use Rattle.provider.proofs.Dropped.{IsDroppedTo}
use Rattle.provider.proofs.dropping.drop_within.Given as goal

abbrev pub invariant-loop-volume : goal.invariant-loop-volume
invariant-loop-volume g l = IsDroppedTo g.D.Device l.initial.group l.group l.volume l.set l.stood

use Rattle.provider.proofs.Dropped.{AreWithoutTo}
use Rattle.provider.proofs.dropping.drop_set_in.Given as goal

abbrev pub invariant-loop-group : goal.invariant-loop-group
invariant-loop-group g l = AreWithoutTo g.D.Device l.initial.groups.items l.groups.items l.group l.set l.stood

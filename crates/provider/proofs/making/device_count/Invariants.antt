use Rattle.provider.proofs.Flat.{AreCounted, FirstFit}
use Rattle.provider.proofs.making.device_count.Given as goal

abbrev pub invariant-loop-group : goal.invariant-loop-group
invariant-loop-group g l = AreCounted l.groups l.group-index l.count × FirstFit g.D.Device.size l.groups l.group-index

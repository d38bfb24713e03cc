use Rattle.image_store.proofs.Calls.{NoneFailed}
use Rattle.image_store.proofs.Passes.{IsMarkedTo}
use Rattle.image_store.proofs.updating.compare_blocks.Given as goal

abbrev pub invariant-loop-b : goal.invariant-loop-b
invariant-loop-b g l = record {
  marked : IsMarkedTo g.D.Device.told g.I.Device l.fn.group l.group l.fn.input l.input l.v l.fn.differs l.differs l.b;
  unfailed : NoneFailed g.D.Device.count g.I.Device.count l.fn.group l.group l.fn.input l.input;
}

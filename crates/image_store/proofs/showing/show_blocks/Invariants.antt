use Rattle.cow_volume.specs.Calls.{IsUnfailed}
use Rattle.image_store.specs.Showing.{IsSeen}
use Rattle.image_store.proofs.Shown.{IsShownTo}
use Rattle.image_store.proofs.showing.show_blocks.Given as goal

abbrev pub invariant-loop-b : goal.invariant-loop-b
invariant-loop-b g l = record {
  shown : IsShownTo g.D.Device.told l.fn.group l.group l.v l.which (g.K.Sink.taken l.fn.sink) (g.K.Sink.taken l.sink) (g.K.Sink.count l.fn.sink) (g.K.Sink.count l.sink) l.left l.b;
  seen : IsSeen l.fn.group l.v l.which;
  unfailed : IsUnfailed g.D.Device.count l.fn.group l.group;
}

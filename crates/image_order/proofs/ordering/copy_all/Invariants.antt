use Rattle.image_order.specs.Found.{AreAmong}
use Rattle.image_order.specs.Order.{IsGoneOn, StaysSettled, WritesNone}
use Rattle.image_order.specs.declared.name.Name.TheVariants.{Marker}
use Rattle.image_order.proofs.ordering.copy_all.Given as goal

-- each round leaves what the next one needs
abbrev pub invariant-rounds : goal.invariant-rounds
invariant-rounds g l = record {
  settled : StaysSettled g.F.StateFolder g.P.Passes l.fn.jobs l.fn.folder l.fn.passes l.jobs l.folder l.passes;
  on : IsGoneOn g.P.Passes l.fn.jobs l.fn.passes l.jobs l.passes;
  before : WritesNone g.P.Passes l.fn.passes l.passes;
  marker : AreAmong (g.F.StateFolder.found l.fn.folder Marker) (g.F.StateFolder.found l.folder Marker);
}

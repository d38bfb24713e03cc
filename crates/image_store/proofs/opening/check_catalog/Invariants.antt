use Rattle.image_store.specs.Opening.{AreWell}
use Rattle.image_store.proofs.opening.check_catalog.Given as goal

abbrev pub invariant-loop-volume : goal.invariant-loop-volume
invariant-loop-volume l = AreWell l.last l.catalog l.volume

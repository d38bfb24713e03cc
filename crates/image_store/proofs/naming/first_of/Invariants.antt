use Rattle.image_store.specs.StoreValue.{AreOthers}
use Rattle.image_store.proofs.naming.first_of.Given as goal

abbrev pub invariant-loop-place : goal.invariant-loop-place
invariant-loop-place l = AreOthers l.names l.name l.place

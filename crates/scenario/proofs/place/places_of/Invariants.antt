use Rattle.scenario.specs.Places.{ArePlaces}
use Rattle.scenario.proofs.place.places_of.Given as goal

abbrev pub invariant-loop-v : goal.invariant-loop-v
invariant-loop-v l = ArePlaces l.rows l.v l.places.items

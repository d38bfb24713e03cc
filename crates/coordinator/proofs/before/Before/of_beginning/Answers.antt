use Rattle.std.proofs.Common.{refl}
use Rattle.coordinator.proofs.before.Before.of_beginning.Goals as goal

pub returns : goal.returns
returns c = λ d h. let b = c.of.ensures d h in record { place = b.place; frozen = b.frozen; outcome = b.outcome; runs = refl }

use Rattle.vss_model.proofs.Gathered.{named_known_components, known_stay, participants_are_fit}
use Rattle.promises.proofs.facts.named_components_are_known.Goals as goal

pub returns : goal.returns
returns c = record { named = named_known_components; known = known_stay; fit = participants_are_fit }

use Rattle.std.proofs.Common.{ap, ◌∙◌}
use Rattle.coordinator.specs.Coordinator.{place_of}
use Rattle.coordinator.proofs.Registering.{place-is}
use Rattle.coordinator.proofs.writer_names.WriterNames.place_of.Goals as goal

pub returns-clause-place : goal.returns-clause-place
returns-clause-place c = c.get_index_of.ensures.index ∙ place-is c.args.name.now c.self.inside.classes.entries ∙ ap (place_of c.args.name.now) c.self.view_is

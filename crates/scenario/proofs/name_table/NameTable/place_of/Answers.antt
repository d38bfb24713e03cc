use Rattle.std.proofs.Common.{ap, ◌∙◌}
use Rattle.scenario.specs.Names.{place_of}
use Rattle.scenario.proofs.Growing.{place_is}
use Rattle.scenario.proofs.name_table.NameTable.place_of.Goals as goal

pub returns-clause-place : goal.returns-clause-place
returns-clause-place c = c.get_index_of.ensures.index ∙ place_is c.args.name.now c.self.inside.names.keys ∙ ap (place_of c.args.name.now) c.self.view_is

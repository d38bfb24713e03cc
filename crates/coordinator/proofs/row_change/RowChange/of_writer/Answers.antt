use Rattle.std.proofs.Common.{ap, ◌∙◌}
use Rattle.coordinator.specs.KeptCourse.{changed}
use Rattle.coordinator.proofs.Following.{where-at}
use Rattle.coordinator.proofs.row_change.RowChange.of_writer.Goals as goal

pub returns-clause-rows : goal.returns-clause-rows
returns-clause-rows c = where-at (changed c.args.self) c.args.writer c.args.rows.now.items _ c.of-row.result c.requires (c.of-row.ensures ∙ ap (changed c.args.self) c.index.ensures)

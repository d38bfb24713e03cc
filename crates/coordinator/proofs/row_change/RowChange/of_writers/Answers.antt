use Rattle.std.proofs.lemmas.Grind.{common_steps}
use Rattle.std.proofs.Common.{rules, arith, sym, ap, ◌∙◌}
use Rattle.set_agenda.specs.Agenda.{is_among}
use Rattle.set_agenda.specs.Course.{row_if}
use Rattle.coordinator.specs.KeptCourse.{changed}
use Rattle.coordinator.proofs.Following.{where-end, where-next}
use Rattle.coordinator.proofs.row_change.RowChange.of_writers.Goals as goal

pub loop-number-preserved : goal.loop-number-preserved
loop-number-preserved c = (where-next (changed c.args.self) (λ w. is_among w c.args.writers.now) c.loop-number.number c.loop-number.rows.items _ c.of_if-row.result (search rules) (c.of_if-row.ensures ∙ ap (λ b. row_if b (changed c.args.self) c.index.result.now) c.contains.ensures ∙ ap (row_if (is_among c.loop-number.number c.args.writers.now) (changed c.args.self)) c.index.ensures) ∙ c.loop-number.invariant.0, grind (arith, common_steps, c.loop-number.invariant.1))

pub returns-clause-rows : goal.returns-clause-rows
returns-clause-rows c = sym (where-end (changed c.args.self) (λ w. is_among w c.args.writers.now) 0 c.loop-number.number c.loop-number.rows.items (search rules)) ∙ c.loop-number.invariant.0

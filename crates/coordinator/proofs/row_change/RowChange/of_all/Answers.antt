use Rattle.std.proofs.lemmas.Grind.{common_steps}
use Rattle.std.proofs.Common.{rules, arith, refl, sym, ap, ◌∙◌, true}
use Rattle.coordinator.specs.KeptCourse.{changed}
use Rattle.coordinator.proofs.Following.{where-all, where-end, where-next}
use Rattle.coordinator.proofs.row_change.RowChange.of_all.Goals as goal

pub loop-number-init : goal.loop-number-init
loop-number-init c = (where-all (changed c.args.self) 0 c.args.rows.now.items, refl)

pub loop-number-preserved : goal.loop-number-preserved
loop-number-preserved c = (where-next (changed c.args.self) (λ w. true) c.loop-number.number c.loop-number.rows.items _ c.of-row.result (search rules) (c.of-row.ensures ∙ ap (changed c.args.self) c.index.ensures) ∙ c.loop-number.invariant.0, grind (arith, common_steps, c.loop-number.invariant.1))

pub returns-clause-rows : goal.returns-clause-rows
returns-clause-rows c = sym (where-end (changed c.args.self) (λ w. true) 0 c.loop-number.number c.loop-number.rows.items (search rules)) ∙ c.loop-number.invariant.0

use Rattle.std.proofs.Common.{arith, rules, ap, length, ◌≡◌, ◌==◌, ◌||◌, ◌∙◌}
use Rattle.std.specs.Prelude.{◌&&◌, nat_lt}
use Rattle.set_agenda.specs.WriterSet.{writers}
use Rattle.component_doc.specs.Selection.{takers}
use Rattle.coordinator.specs.Beginning.{asks}
use Rattle.coordinator.proofs.Begun.{below-next, below-none}
use Rattle.coordinator.proofs.beginning.asked.Goals as goal

pub loop-number-init : goal.loop-number-init
loop-number-init c = (c.new-asked.ensures ∙ below-none (asks c.args.kind c.args.names.now c.args.kept.now (takers c.args.selection.now.writers c.args.selection.now.selected)), omega arith)

pub loop-number-preserved : goal.loop-number-preserved
loop-number-preserved c = (
  c.insert_if.ensures (λ w. nat_lt w c.loop-number.number && asks c.args.kind c.args.names.now c.args.kept.now (takers c.args.selection.now.writers c.args.selection.now.selected) w) c.loop-number.invariant.0
      ∙ ap (λ b. writers (λ w. (nat_lt w c.loop-number.number && asks c.args.kind c.args.names.now c.args.kept.now (takers c.args.selection.now.writers c.args.selection.now.selected) w) || (b && (c.loop-number.number == w)))) c.asks.ensures
      ∙ below-next (asks c.args.kind c.args.names.now c.args.kept.now (takers c.args.selection.now.writers c.args.selection.now.selected)) c.loop-number.number,
  search rules,
)

pub returns : goal.returns
returns c =
    let all : c.loop-number.number ≡ length c.args.kept.now.rows = search rules in
    c.loop-number.invariant.0 ∙ ap (λ n. writers (λ w. nat_lt w n && asks c.args.kind c.args.names.now c.args.kept.now (takers c.args.selection.now.writers c.args.selection.now.selected) w)) all

use Rattle.std.proofs.Common.{rules, ap, sym, drop, true, false, ◌≡◌, ◌+◌, ◌∙◌}
use Rattle.std.specs.Prelude.{◌==◌, ◌&&◌, ◌||◌}
use Rattle.set_agenda.specs.Agenda.{is_among}
use Rattle.coordinator.specs.Coordinator.{any_class, class_at}
use Rattle.coordinator.proofs.Registering.{class-found}
use Rattle.coordinator.proofs.writer_names.has_class_of.Goals as goal

pub returns-then-is_one : goal.returns-then-is_one
returns-then-is_one c =
    let hit : (is_among c.loop-number.number c.args.writers.now && (c.class.result == c.class-class.result)) ≡ true = sym (c.is_one.ensures ∙ ap (λ b. b && (c.class.result == c.class-class.result)) c.contains.ensures) ∙ c.if-is_one.true in
    ap (λ b. b || any_class (λ x. is_among x c.args.writers.now) (c.loop-number.number + 1) (class_at c.args.names.now c.args.writer) (drop (c.loop-number.number + 1) c.args.names.now)) (sym hit)
    ∙ sym (class-found c.args.names.now c.loop-number.number c.class.result c.class-class.result (λ x. is_among x c.args.writers.now) (class_at c.args.names.now c.args.writer) (search rules) c.class.ensures c.class-class.ensures)
    ∙ c.loop-number.invariant

pub loop-number-preserved : goal.loop-number-preserved
loop-number-preserved c =
    let miss : (is_among c.loop-number.number c.args.writers.now && (c.class.result == c.class-class.result)) ≡ false = sym (c.is_one.ensures ∙ ap (λ b. b && (c.class.result == c.class-class.result)) c.contains.ensures) ∙ c.if-is_one.false in
    ap (λ b. b || any_class (λ x. is_among x c.args.writers.now) (c.loop-number.number + 1) (class_at c.args.names.now c.args.writer) (drop (c.loop-number.number + 1) c.args.names.now)) (sym miss)
    ∙ sym (class-found c.args.names.now c.loop-number.number c.class.result c.class-class.result (λ x. is_among x c.args.writers.now) (class_at c.args.names.now c.args.writer) (search rules) c.class.ensures c.class-class.ensures)
    ∙ c.loop-number.invariant

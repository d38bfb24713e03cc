use Rattle.std.proofs.Common.{◌≡◌, ℕ, Some, None, sym, subst}
use Rattle.vss_report.specs.Shapes as shapes
use Rattle.vss_report.proofs.Joined.{number_within, number_past}
use Rattle.vss_report.proofs.shapes.number_up_to.Goals as goal

pub returns-in-Ok : goal.returns-in-Ok
returns-in-Ok c = sym (subst (λ (m : ℕ). shapes.number_up_to m c.args.word.now ≡ Some c.in-Ok.number) c.from.ensures
    (number_within c.args.word.now c.from.result c.in-Ok.number c.in-Ok.ensures.value))

pub returns-in-Err : goal.returns-in-Err
returns-in-Err c = sym (subst (λ (m : ℕ). shapes.number_up_to m c.args.word.now ≡ None) c.from.ensures
    (number_past c.args.word.now c.from.result c.in-Err.field-0 c.in-Err.ensures.value))

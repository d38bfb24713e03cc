use Rattle.std.proofs.Common.{arith, rules, ap, min, drop, ◌+◌, ◌∙◌}
use Rattle.std.specs.Prelude.{fold, slice_get}
use Rattle.set_agenda.specs.declared.member.Member.{Member}
use Rattle.set_agenda.specs.Agenda.{is_among}
use Rattle.set_agenda.specs.Course.{limit_of, members_from}
use Rattle.coordinator.specs.KeptCourse.{least_if}
use Rattle.coordinator.proofs.Calls.{least-next}
use Rattle.coordinator.proofs.kept_course.least_limit.Goals as goal

pub loop-number-preserved : goal.loop-number-preserved
loop-number-preserved c = (
  ap (λ n. fold (λ l (m : Member). min l (limit_of (slice_get c.args.rows.now m.writer))) n (members_from (λ w. is_among w c.args.members.now) (c.loop-number.number + 1) (drop (c.loop-number.number + 1) c.args.rows.now)))
      (c.least_if-limit.ensures.value ∙ ap (λ b. least_if b c.loop-number.limit c.row.result.limit) c.contains.ensures)
      ∙ least-next c.args.rows.now (λ w. is_among w c.args.members.now) c.loop-number.limit c.loop-number.number c.row.result (search rules) c.row.ensures
      ∙ c.loop-number.invariant.0,
  omega (arith, c.least_if-limit.ensures.most, c.loop-number.invariant.1),
)

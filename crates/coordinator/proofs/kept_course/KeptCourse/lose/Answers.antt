use Rattle.std.proofs.Common.{Some, ap, refl, sym, subst, ◌∙◌}
use Rattle.writer_state.specs.declared.said.Said.TheVariants.{Lost}
use Rattle.writer_state.specs.WriterState.{row_after}
use Rattle.set_agenda.specs.Agenda.{is_among, waits_now}
use Rattle.set_agenda.specs.Course.{rows_where, told}
use Rattle.coordinator.specs.KeptCourse.{Follows, left_now}
use Rattle.coordinator.proofs.Following.{follows-told}
use Rattle.coordinator.proofs.kept_course.KeptCourse.lose.Goals as goal

pub returns-in-Some-clause-follows : goal.returns-in-Some-clause-follows
returns-in-Some-clause-follows c = λ d h. subst (λ r. Follows (record c.args.self.now { rows = c.change_each.new.self; running = Some c.lose.new.self }) (told c.args.order Lost c.args.now (waits_now (left_now r)) d)) (sym c.in-Some.is)
    (follows-told c.args.self.now _ d c.in-Some.running c.lose.new.self c.args.order Lost c.args.now (waits_now c.in-Some.running.agenda) c.in-Some.is refl (record { members = refl; disabled = refl; outcome = refl })
    (c.change_each.ensures.rows ∙ ap (λ ws. rows_where (row_after c.args.order Lost) (λ w. is_among w ws) 0 c.args.self.now.rows) c.waited-writers.ensures) c.lose.ensures.fits h)

use Rattle.std.proofs.Common.{refl, [], ◌∷◌, ◌∙◌}
use Rattle.writer_state.specs.WriterState.{row_after}
use Rattle.coordinator.proofs.Following.{follows-told, one-where}
use Rattle.coordinator.proofs.kept_course.KeptCourse.tell.Goals as goal

pub returns-in-Some-clause-follows : goal.returns-in-Some-clause-follows
returns-in-Some-clause-follows c = λ d h. follows-told c.args.self.now _ d c.in-Some.running c.hear.new.self c.args.order c.args.said c.args.now (c.args.writer ∷ []) c.in-Some.is refl (record { members = refl; disabled = refl; outcome = refl })
    (c.change.ensures.rows ∙ one-where (row_after c.args.order c.args.said) c.args.writer c.args.self.now.rows) c.hear.ensures.fits h

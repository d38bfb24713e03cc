use Rattle.sessions.proofs.Words.{Provider, is_flush, IsAt, and_parts}
use Rattle.std.proofs.Common.{sym, ◌∙◌, true, false, Some}
use Rattle.std.specs.Prelude.{not}
use Rattle.sessions.proofs.CourseSteps.{happens_moves, works_same, step_happens}
use Rattle.sessions.proofs.sessions.Sessions.step.Goals as goal

pub returns-then-fails_at-clause-moves : goal.returns-then-fails_at-clause-moves
returns-then-fails_at-clause-moves c s =
    happens_moves (IsAt c.args.self.now s) s c.step_fails.new.self Provider c.step_fails.result (λ st found.
    let opens = c.requires.next.group st found.keeps in
    step_happens s c.step_fails.new.self st c.args.group c.args.volume true c.step_fails.result (sym (works_same c.args.self.now.coordinator st found.keeps.course) ∙ c.requires.next.working) opens
    (c.requires.next.volume st found.keeps)
    (λ e. (and_parts (not c.args.ok) (is_flush (Some c.args.group)) (sym c.fails_at.ensures ∙ c.if-fails_at.true)).1) (c.step_fails.ensures.stepped st found.order found.keeps opens))

pub returns-else-fails_at-clause-moves : goal.returns-else-fails_at-clause-moves
returns-else-fails_at-clause-moves c s =
    happens_moves (IsAt c.args.self.now s) s c.step_made.new.self Provider c.step_made.result (λ st found.
    let opens = c.requires.next.group st found.keeps in
    step_happens s c.step_made.new.self st c.args.group c.args.volume false c.step_made.result (sym (works_same c.args.self.now.coordinator st found.keeps.course) ∙ c.requires.next.working) opens
    (c.requires.next.volume st found.keeps)
    (λ e. cc) (c.step_made.ensures.stepped st found.order found.keeps opens))

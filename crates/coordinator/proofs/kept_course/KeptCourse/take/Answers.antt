use Rattle.std.proofs.Common.{rules, ap, arith, None, ◌≡◌, ◌∙◌}
use Rattle.std.specs.Prelude.{Ok}
use Rattle.writer_calls.specs.Mailbox.{answer_to, mailbox_at, standing}
use Rattle.coordinator.specs.OpenOrders.{refusal}
use Rattle.coordinator.proofs.Calls.{follows-boxes, order-answered, ready-answered, sent-answered, standing-is}
use Rattle.coordinator.proofs.kept_course.KeptCourse.take.Goals as goal

pub returns-in_err-standing-clause-refused : goal.returns-in_err-standing-clause-refused
returns-in_err-standing-clause-refused c = λ d h.
    let same : refusal c.from_residual.result ≡ refusal c.answer.result = search rules in
    same ∙ ap refusal c.answer.ensures.value ∙ ap (λ x. refusal (answer_to c.args.number x)) (standing-is c.args.self.now.mailboxes d c.args.writer h.mailboxes (omega (arith, c.requires.known, c.requires.sound.few)))

pub returns-clause-refused : goal.returns-clause-refused
returns-clause-refused c = λ d h.
    let same : None ≡ refusal c.answer.result = search rules in
    same ∙ ap refusal c.answer.ensures.value ∙ ap (λ x. refusal (answer_to c.args.number x)) (standing-is c.args.self.now.mailboxes d c.args.writer h.mailboxes (omega (arith, c.requires.known, c.requires.sound.few)))

pub returns-clause-taken : goal.returns-clause-taken
returns-clause-taken c = λ d h.
    let answered : Ok c.in_ok-standing.standing ≡ answer_to c.args.number (standing (mailbox_at c.args.self.now.mailboxes c.args.writer)) = search rules in
    record {
      order = order-answered c.args.self.now.mailboxes _ d.opened c.args.writer c.args.number c.in_ok-standing.standing h.mailboxes (omega (arith, c.requires.known, c.requires.sound.few)) answered;
      follows = follows-boxes c.args.self.now c.answer.new.self d h.follows;
      ready = ready-answered c.args.self.now.mailboxes c.answer.new.self d c.args.writer c.in_ok-standing.standing.order (search rules) h.mailboxes (omega (arith, c.requires.known, c.requires.sound.few, c.requires.sound.boxes));
    }

pub returns-clause-sent : goal.returns-clause-sent
returns-clause-sent c = sent-answered c.args.self.now.mailboxes c.answer.new.self c.args.writer (search rules) (omega (arith, c.requires.known, c.requires.sound.few, c.requires.sound.boxes))

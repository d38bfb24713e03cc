use Rattle.coordinator.specs.OpenOrders.{SentAtMost}
use Rattle.std.proofs.Common.{subst, rules, ap, sym, length, ◌∙◌}
use Rattle.std.specs.Prelude.{is_some}
use Rattle.writer_calls.specs.Script.{said_of}
use Rattle.set_agenda.specs.Course.{answered}
use Rattle.coordinator.specs.KeptCourse.{kind_if_done}
use Rattle.coordinator.proofs.Calls.{room-of, answered-stands, held, sound-after}
use Rattle.coordinator.proofs.coordinator.Coordinator.answered.Goals as goal

pub invariant_of-self-2 : goal.invariant_of-self-2
invariant_of-self-2 c =
    let sound = c.self.invariant.0 in (
      sound-after c.self.inside.kept c.post.new.self (answered c.args.writer (said_of c.args.answer) c.args.now sound.course) (ap length c.post.ensures.keeps.rows ∙ c.hear.ensures.keeps.len ∙ ap length c.take.ensures.keeps.rows) c.post.ensures.boxes (ap kind_if_done c.post.ensures.keeps.running ∙ c.hear.ensures.live)
          (answered-stands c.take.new.self c.hear.new.self c.post.new.self c.of-before.result.place sound.course c.args.writer c.in_ok-order.order (said_of c.args.answer) c.said.result c.args.now c.said.ensures (c.in_ok-order.ensures.taken sound.course sound.stands) c.hear.ensures.keeps.mailboxes (c.hear.ensures.follows sound.course (c.in_ok-order.ensures.taken sound.course sound.stands).follows) c.post.ensures.stands (c.of-before.ensures sound.course sound.stands.follows).place) sound,
      c.self.invariant.1 ∙ sym (ap length c.post.ensures.keeps.rows ∙ c.hear.ensures.keeps.len ∙ ap length c.take.ensures.keeps.rows),
      c.post.ensures.sent c.self.inside.posts (subst (SentAtMost c.self.inside.posts) (sym c.hear.ensures.keeps.mailboxes) (c.take.ensures.sent c.self.inside.posts c.self.invariant.2)),
    )

pub returns-clause-stands : goal.returns-clause-stands
returns-clause-stands c = λ d h. let g = held _ c.args.self.now d c.self.view_is h in answered-stands c.take.new.self c.hear.new.self c.post.new.self c.of-before.result.place d c.args.writer c.in_ok-order.order (said_of c.args.answer) c.said.result c.args.now c.said.ensures (c.in_ok-order.ensures.taken d g) c.hear.ensures.keeps.mailboxes (c.hear.ensures.follows d (c.in_ok-order.ensures.taken d g).follows) c.post.ensures.stands (c.of-before.ensures d g.follows).place

pub returns-clause-tells : goal.returns-clause-tells
returns-clause-tells c = λ d h.
    let g = held _ c.args.self.now d c.self.view_is h in
    c.effects.ensures (is_some d.agenda) d (answered c.args.writer (said_of c.args.answer) c.args.now d) (c.of-before.ensures d g.follows) (answered-stands c.take.new.self c.hear.new.self c.post.new.self c.of-before.result.place d c.args.writer c.in_ok-order.order (said_of c.args.answer) c.said.result c.args.now c.said.ensures (c.in_ok-order.ensures.taken d g) c.hear.ensures.keeps.mailboxes (c.hear.ensures.follows d (c.in_ok-order.ensures.taken d g).follows) c.post.ensures.stands (c.of-before.ensures d g.follows).place).follows

pub post-requires-clause-room : goal.post-requires-clause-room
post-requires-clause-room c = room-of c.take.new.self.mailboxes _ c.self.inside.posts (c.hear.ensures.keeps.mailboxes) (search rules) (c.take.ensures.sent c.self.inside.posts c.self.invariant.2)

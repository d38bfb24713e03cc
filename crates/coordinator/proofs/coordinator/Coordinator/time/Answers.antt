use Rattle.coordinator.specs.OpenOrders.{SentAtMost}
use Rattle.std.proofs.Common.{subst, rules, ap, sym, length, ◌∙◌}
use Rattle.std.specs.Prelude.{is_some}
use Rattle.set_agenda.specs.Agenda.{order_now}
use Rattle.set_agenda.specs.Course.{lost_writers, timed}
use Rattle.coordinator.specs.Effects.{lost_order_if}
use Rattle.coordinator.specs.KeptCourse.{kind_if_done}
use Rattle.coordinator.proofs.Following.{left-is}
use Rattle.coordinator.proofs.Calls.{room-of, held, lost-told, sound-after, timed-stands}
use Rattle.coordinator.proofs.coordinator.Coordinator.time.Goals as goal

pub invariant_of-self : goal.invariant_of-self
invariant_of-self c =
    let sound = c.self.invariant.0 in (
      sound-after c.self.inside.kept c.post.new.self (timed c.args.now sound.course) (ap length c.post.ensures.keeps.rows ∙ c.treat.ensures.keeps.len) c.post.ensures.boxes (ap kind_if_done c.post.ensures.keeps.running ∙ c.treat.ensures.live sound.live)
          (timed-stands c.self.inside.kept c.treat.new.self c.post.new.self c.of-before.result.place sound.course c.spent-spent.result c.args.now (c.spent-spent.ensures sound.course sound.stands.follows) c.treat.ensures.keeps.mailboxes (c.treat.ensures.follows sound.course sound.stands.follows) c.post.ensures.stands (c.of-before.ensures sound.course sound.stands.follows).place sound.stands) sound,
      c.self.invariant.1 ∙ sym (ap length c.post.ensures.keeps.rows ∙ c.treat.ensures.keeps.len),
      c.post.ensures.sent c.self.inside.posts (subst (SentAtMost c.self.inside.posts) (sym c.treat.ensures.keeps.mailboxes) c.self.invariant.2),
    )

pub returns-clause-stands : goal.returns-clause-stands
returns-clause-stands c = λ d h. let g = held _ c.args.self.now d c.self.view_is h in timed-stands c.self.inside.kept c.treat.new.self c.post.new.self c.of-before.result.place d c.spent-spent.result c.args.now (c.spent-spent.ensures d g.follows) c.treat.ensures.keeps.mailboxes (c.treat.ensures.follows d g.follows) c.post.ensures.stands (c.of-before.ensures d g.follows).place g

pub returns-clause-tells : goal.returns-clause-tells
returns-clause-tells c = λ d h.
    let g = held _ c.args.self.now d c.self.view_is h in
    let t = c.effects.ensures (is_some d.agenda) d (timed c.args.now d) (c.of-before.ensures d g.follows) (timed-stands c.self.inside.kept c.treat.new.self c.post.new.self c.of-before.result.place d c.spent-spent.result c.args.now (c.spent-spent.ensures d g.follows) c.treat.ensures.keeps.mailboxes (c.treat.ensures.follows d g.follows) c.post.ensures.stands (c.of-before.ensures d g.follows).place g).follows in
    let lost = c.lost_by-lost.ensures ∙ lost-told c.self.inside.kept d c.spent-spent.result c.args.now (c.spent-spent.ensures d g.follows) g.follows in
    record {
      frozen = t.frozen;
      thawed = t.thawed;
      lost = c.bits.ensures.writers ∙ lost;
      lost_order = c.lost_order_if-lost_order.ensures ∙ ap (λ ws. lost_order_if ws c.open_order.result) lost ∙ ap (lost_order_if (lost_writers c.args.now d)) (c.open_order.ensures ∙ ap order_now (left-is c.self.inside.kept d g.follows));
      outcome = t.outcome;
      agenda_ended = t.agenda_ended;
    }

pub post-requires-clause-room : goal.post-requires-clause-room
post-requires-clause-room c = room-of c.self.inside.kept.mailboxes _ c.self.inside.posts (c.treat.ensures.keeps.mailboxes) (search rules) c.self.invariant.2

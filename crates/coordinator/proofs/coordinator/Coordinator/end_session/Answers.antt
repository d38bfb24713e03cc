use Rattle.coordinator.specs.OpenOrders.{SentAtMost}
use Rattle.std.proofs.Common.{subst, ap, sym, length, ◌∙◌}
use Rattle.set_agenda.specs.Course.{released}
use Rattle.coordinator.specs.KeptCourse.{kind_if_done}
use Rattle.coordinator.proofs.Calls.{held, released-stands, sound-after}
use Rattle.coordinator.proofs.coordinator.Coordinator.end_session.Goals as goal

pub invariant_of-self : goal.invariant_of-self
invariant_of-self c =
    let sound = c.self.invariant.0 in (
      sound-after c.self.inside.kept c.close_orders.new.self (released sound.course) (ap length c.close_orders.ensures.keeps.rows ∙ c.release.ensures.keeps.len) c.close_orders.ensures.boxes (ap kind_if_done (c.close_orders.ensures.keeps.running ∙ c.release.ensures.rests))
          (released-stands c.self.inside.kept c.release.new.self c.close_orders.new.self sound.course c.release.ensures.keeps.mailboxes (c.release.ensures.follows sound.course sound.stands.follows) c.close_orders.ensures.stands sound.stands) sound,
      c.self.invariant.1 ∙ sym (ap length c.close_orders.ensures.keeps.rows ∙ c.release.ensures.keeps.len),
      c.close_orders.ensures.sent c.self.inside.posts (subst (SentAtMost c.self.inside.posts) (sym c.release.ensures.keeps.mailboxes) c.self.invariant.2),
    )

pub returns-clause-stands : goal.returns-clause-stands
returns-clause-stands c = λ d h. let g = held _ c.args.self.now d c.self.view_is h in released-stands c.self.inside.kept c.release.new.self c.close_orders.new.self d c.release.ensures.keeps.mailboxes (c.release.ensures.follows d g.follows) c.close_orders.ensures.stands g

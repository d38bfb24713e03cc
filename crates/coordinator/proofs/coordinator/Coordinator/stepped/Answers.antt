use Rattle.coordinator.specs.OpenOrders.{SentAtMost}
use Rattle.std.proofs.Common.{subst, rules, ap, sym, length, ◌∙◌}
use Rattle.std.specs.Prelude.{is_some}
use Rattle.set_agenda.specs.Course.{stepped, stepped_as}
use Rattle.coordinator.specs.KeptCourse.{kind_if_done}
use Rattle.coordinator.proofs.GroupsAfter.{goes-stepped, opened-stepped}
use Rattle.coordinator.proofs.Calls.{room-of, act-stands, held, sound-after}
use Rattle.coordinator.proofs.coordinator.Coordinator.stepped.Goals as goal

pub invariant_of-self : goal.invariant_of-self
invariant_of-self c =
    let sound = c.self.invariant.0 in (
      sound-after c.self.inside.kept c.post.new.self (stepped c.args.ok c.args.now sound.course) (ap length c.post.ensures.keeps.rows ∙ c.step.ensures.keeps.len) c.post.ensures.boxes (ap kind_if_done c.post.ensures.keeps.running ∙ c.step.ensures.live)
          (act-stands c.self.inside.kept c.step.new.self c.post.new.self c.of-before.result.place sound.course (stepped_as c.args.ok c.args.now sound.course) c.step.ensures.keeps.mailboxes (c.step.ensures.follows sound.course sound.stands.follows) c.post.ensures.stands (c.of-before.ensures sound.course sound.stands.follows).place (opened-stepped c.args.ok c.args.now sound.course) (goes-stepped c.args.ok c.args.now sound.course) sound.stands) sound,
      c.self.invariant.1 ∙ sym (ap length c.post.ensures.keeps.rows ∙ c.step.ensures.keeps.len),
      c.post.ensures.sent c.self.inside.posts (subst (SentAtMost c.self.inside.posts) (sym c.step.ensures.keeps.mailboxes) c.self.invariant.2),
    )

pub returns-clause-stands : goal.returns-clause-stands
returns-clause-stands c = λ d h. let g = held _ c.args.self.now d c.self.view_is h in act-stands c.self.inside.kept c.step.new.self c.post.new.self c.of-before.result.place d (stepped_as c.args.ok c.args.now d) c.step.ensures.keeps.mailboxes (c.step.ensures.follows d g.follows) c.post.ensures.stands (c.of-before.ensures d g.follows).place (opened-stepped c.args.ok c.args.now d) (goes-stepped c.args.ok c.args.now d) g

pub returns-clause-tells : goal.returns-clause-tells
returns-clause-tells c = λ d h.
    let g = held _ c.args.self.now d c.self.view_is h in
    c.effects.ensures (is_some d.agenda) d (stepped c.args.ok c.args.now d) (c.of-before.ensures d g.follows) (act-stands c.self.inside.kept c.step.new.self c.post.new.self c.of-before.result.place d (stepped_as c.args.ok c.args.now d) c.step.ensures.keeps.mailboxes (c.step.ensures.follows d g.follows) c.post.ensures.stands (c.of-before.ensures d g.follows).place (opened-stepped c.args.ok c.args.now d) (goes-stepped c.args.ok c.args.now d) g).follows

pub post-requires-clause-room : goal.post-requires-clause-room
post-requires-clause-room c = room-of c.self.inside.kept.mailboxes _ c.self.inside.posts (c.step.ensures.keeps.mailboxes) (search rules) c.self.invariant.2

use Rattle.coordinator.specs.OpenOrders.{SentAtMost}
use Rattle.std.proofs.Common.{ap, refl, rules, subst, sym, length, false, true, ◌≡◌, ◌∙◌}
use Rattle.std.specs.Prelude.{is_some}
use Rattle.component_doc.specs.Selection.{takers as takers_of}
use Rattle.set_agenda.specs.Advance.{by_writer}
use Rattle.coordinator.specs.Beginning.{begun_as}
use Rattle.coordinator.specs.KeptCourse.{IsBy, StandsFor, kind_if_done}
use Rattle.coordinator.proofs.Begun.{begun-call}
use Rattle.coordinator.proofs.Calls.{room-of, held, sound-after}
use Rattle.coordinator.proofs.coordinator.Coordinator.begin_agenda.Goals as goal

pub invariant_of-self : goal.invariant_of-self
invariant_of-self c =
    let sound = c.self.invariant.0 in
    let len = ap length c.post.ensures.keeps.rows ∙ c.begin.ensures.keeps.len ∙ c.prepare_for.ensures.keeps.len in
    let idle : is_some c.self.inside.kept.running ≡ false = search rules in
    let ordered : by_writer c.deref.result.now ≡ c.deref.result.now = ap by_writer c.deref.ensures.value ∙ c.in_ok-members.ensures.ordered ∙ sym c.deref.ensures.value in (
      sound-after c.self.inside.kept c.post.new.self (begun_as c.args.kind c.self.inside.names c.args.selection.now c.args.volumes.now c.args.now sound.course) len c.post.ensures.boxes (ap kind_if_done c.post.ensures.keeps.running ∙ c.begin.ensures.live)
          (begun-call c.args.kind c.self.inside.names c.args.selection.now c.self.inside.kept c.prepare_for.new.self c.begin.new.self c.post.new.self c.of_beginning-before.result.place (takers_of c.args.selection.now.writers c.args.selection.now.selected) c.args.volumes.now c.asked-asked.result c.volumes_if-volumes.result.now c.args.now c.in_ok-running.running c.deref.result.now sound.course
          (search rules) c.self.invariant.0.few refl idle c.asked-asked.ensures (c.deref.ensures.value ∙ c.in_ok-members.ensures.members) ordered c.volumes_if-volumes.ensures c.in_ok-running.ensures.fits
          c.prepare_for.ensures.follows c.begin.ensures.follows (c.begin.ensures.keeps.mailboxes ∙ c.prepare_for.ensures.keeps.mailboxes) c.post.ensures.stands (c.of_beginning-before.ensures sound.course sound.stands.follows).place sound.stands) sound,
      c.self.invariant.1 ∙ sym len,
      c.post.ensures.sent c.self.inside.posts (subst (SentAtMost c.self.inside.posts) (sym (c.begin.ensures.keeps.mailboxes ∙ c.prepare_for.ensures.keeps.mailboxes)) c.self.invariant.2),
    )

pub returns-clause-stands : goal.returns-clause-stands
returns-clause-stands c = λ d h.
    let g = held _ c.args.self.now d c.self.view_is h in
    let idle : is_some c.self.inside.kept.running ≡ false = search rules in
    let ordered : by_writer c.deref.result.now ≡ c.deref.result.now = ap by_writer c.deref.ensures.value ∙ c.in_ok-members.ensures.ordered ∙ sym c.deref.ensures.value in
    subst (λ ws. StandsFor c.post.new.self (begun_as c.args.kind ws c.args.selection.now c.args.volumes.now c.args.now d)) (ap (λ s. s.writers) c.self.view_is)
    (begun-call c.args.kind c.self.inside.names c.args.selection.now c.self.inside.kept c.prepare_for.new.self c.begin.new.self c.post.new.self c.of_beginning-before.result.place (takers_of c.args.selection.now.writers c.args.selection.now.selected) c.args.volumes.now c.asked-asked.result c.volumes_if-volumes.result.now c.args.now c.in_ok-running.running c.deref.result.now d
    (search rules) c.self.invariant.0.few refl idle c.asked-asked.ensures (c.deref.ensures.value ∙ c.in_ok-members.ensures.members) ordered c.volumes_if-volumes.ensures c.in_ok-running.ensures.fits
    c.prepare_for.ensures.follows c.begin.ensures.follows (c.begin.ensures.keeps.mailboxes ∙ c.prepare_for.ensures.keeps.mailboxes) c.post.ensures.stands (c.of_beginning-before.ensures d g.follows).place g)

pub returns-clause-tells : goal.returns-clause-tells
returns-clause-tells c = λ d h.
    let g = held _ c.args.self.now d c.self.view_is h in
    let idle : is_some c.self.inside.kept.running ≡ false = search rules in
    let ordered : by_writer c.deref.result.now ≡ c.deref.result.now = ap by_writer c.deref.ensures.value ∙ c.in_ok-members.ensures.ordered ∙ sym c.deref.ensures.value in
    c.effects.ensures true d (begun_as c.args.kind c.args.self.now.writers c.args.selection.now c.args.volumes.now c.args.now d) (c.of_beginning-before.ensures d g.follows)
    (subst (λ ws. StandsFor c.post.new.self (begun_as c.args.kind ws c.args.selection.now c.args.volumes.now c.args.now d)) (ap (λ s. s.writers) c.self.view_is)
    (begun-call c.args.kind c.self.inside.names c.args.selection.now c.self.inside.kept c.prepare_for.new.self c.begin.new.self c.post.new.self c.of_beginning-before.result.place (takers_of c.args.selection.now.writers c.args.selection.now.selected) c.args.volumes.now c.asked-asked.result c.volumes_if-volumes.result.now c.args.now c.in_ok-running.running c.deref.result.now d
    (search rules) c.self.invariant.0.few refl idle c.asked-asked.ensures (c.deref.ensures.value ∙ c.in_ok-members.ensures.members) ordered c.volumes_if-volumes.ensures c.in_ok-running.ensures.fits
    c.prepare_for.ensures.follows c.begin.ensures.follows (c.begin.ensures.keeps.mailboxes ∙ c.prepare_for.ensures.keeps.mailboxes) c.post.ensures.stands (c.of_beginning-before.ensures d g.follows).place g)).follows

pub returns-clause-times : goal.returns-clause-times
returns-clause-times c = subst (IsBy c.args.now) (sym c.post.ensures.keeps.running) (c.begin.ensures.times c.args.now c.in_ok-running.ensures.times)

pub post-requires-clause-room : goal.post-requires-clause-room
post-requires-clause-room c = room-of c.self.inside.kept.mailboxes _ c.self.inside.posts (c.begin.ensures.keeps.mailboxes ∙ c.prepare_for.ensures.keeps.mailboxes) (search rules) c.self.invariant.2

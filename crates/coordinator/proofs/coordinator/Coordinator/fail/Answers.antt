use Rattle.std.proofs.Common.{subst, sym, ◌∙◌}
use Rattle.std.specs.Prelude.{is_some}
use Rattle.coordinator.specs.Coordinator.{CoordinatorState, IsOnTime, failed_if_running}
use Rattle.coordinator.proofs.Calls.{held, sound-after}
use Rattle.coordinator.proofs.coordinator.Coordinator.fail.Goals as goal

pub invariant_of-self : goal.invariant_of-self
invariant_of-self c =
    let sound = c.self.invariant.0 in
    let done = c.fail_if_running.ensures in (
      sound-after c.self.inside.kept c.fail_if_running.new.self (failed_if_running sound.course.outcome c.args.why sound.course) done.len done.boxes done.live (done.stands sound.course sound.stands) sound,
      c.self.invariant.1 ∙ sym done.len,
      done.sent c.self.inside.posts c.self.invariant.2,
    )

pub returns-clause-stands : goal.returns-clause-stands
returns-clause-stands c = λ d h. c.fail_if_running.ensures.stands d (held _ c.args.self.now d c.self.view_is h)

pub returns-clause-tells : goal.returns-clause-tells
returns-clause-tells c = λ d h.
    let g = held _ c.args.self.now d c.self.view_is h in
    c.effects.ensures (is_some d.agenda) d (failed_if_running d.outcome c.args.why d) (c.of-before.ensures d g.follows) (c.fail_if_running.ensures.stands d g).follows

pub returns-clause-times : goal.returns-clause-times
returns-clause-times c = λ now h. c.fail_if_running.ensures.times now (subst (λ (s : CoordinatorState). IsOnTime now s) (sym c.self.view_is) h)

use Rattle.std.proofs.Common.{Some, refl, ap, sym, subst, ◌∙◌, false}
use Rattle.std.specs.Prelude.{not, ◌&&◌}
use Rattle.set_agenda.specs.declared.group.Group.{Group}
use Rattle.sessions.specs.Moves.{IsNextStep}
use Rattle.vss_model.specs.Acts.{state}
use Rattle.vss_model.specs.State.{left_now}
use Rattle.vss_model.specs.Steps.{is_flush}
use Rattle.vss_model.specs.Outcome.{mark_of}
use Rattle.vss_model.specs.declared.event.Event.TheVariants.{Provider as ProviderEvent}
use Rattle.vss_model.specs.declared.told.Told.TheVariants as told
use Rattle.vss_world.proofs.Following.{standing_of}
use Rattle.vss_world.proofs.Step.{volume_within}
use Rattle.vss_world.proofs.ToldMarks.{flush_fails, flush_is, flush_volume}
use Rattle.vss_world.proofs.Unsaid.{step_unsaid}
use Rattle.vss_world.proofs.world.World.fail_step.Goals as goal

pub step-item-requires-clause-standing : goal.step-item-requires-clause-standing
step-item-requires-clause-standing g c = standing_of (rw (← c.self.view_is) at c.requires.of) (rw (← c.self.view_is) at c.requires.standing)

pub returns : goal.returns
returns g c =
    let standing = (rw (← c.self.view_is) at c.requires.standing) in
    let st = state c.args.scenario.now standing.acts in
    let keeps = standing.stands.at.sessions in
    let step = c.in-Some.ensures.step in
    let next = subst (λ (w : Group). IsNextStep c.self.inside.sessions w c.in-Some.next.1) c.in-Flush.is step in
    let within = volume_within c.args.scenario.now st c.in-Some.next.1 _ standing.stands.at.plan refl (step.volume st keeps) in
    let said = c.step-item.ensures.told ∙ ap (λ (w : Group). told.Step w c.in-Some.next.1 (not false && is_flush (Some w))) c.in-Flush.is in
    record {
      stepped = rw (← c.self.view_is) (flush_fails g.D.Device c.args.scenario.now (rw (← c.self.view_is) at c.requires.of) c.clear.ensures c.settle.ensures
          (c.step-item.ensures.moves c.args.scenario.now) c.step-item.ensures.leaves c.in-Some.next.1 (flush_volume (left_now st) c.in-Some.next.1 (next.group st keeps) (next.volume st keeps))
          within next said);
      marked = λ needs acts stands allowed. ap mark_of said;
      lasts = λ e v d clean here. cc;
    }

pub returns-in_default-0₀ : goal.returns-in_default-0₀
returns-in_default-0₀ g c = record {
  stepped = step_unsaid g.D.Device c.args.self.now c.make_step.new.self c.args.scenario.now ProviderEvent c.make_step.result c.make_step.ensures.stepped;
  marked = λ needs acts stands flush.
      let keeps = (rw (← c.self.view_is) at stands).at.sessions in
      absurd (c.in_default-0₀.not-Flush (flush_is c.in-Some.next.0 (sym (ap is_flush (c.in-Some.ensures.step.group (state c.args.scenario.now acts) keeps)) ∙ flush)));
  lasts = λ e. c.make_step.ensures.lasts;
}

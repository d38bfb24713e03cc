use Rattle.std.proofs.Common.{ap, refl, ◌∙◌}
use Rattle.std.specs.Prelude.{◌&&◌, is_none}
use Rattle.set_agenda.specs.Agenda.{is_frozen}
use Rattle.set_agenda.proofs.WriterSets.{new-is}
use Rattle.coordinator.specs.Effects.{outcome_told}
use Rattle.coordinator.proofs.Fitting.{newly-others, rests-is}
use Rattle.coordinator.proofs.before.Before.effects.Goals as goal

pub returns : goal.returns
returns c = λ ran d e b h. record {
  thawed = c.bits.ensures.writers ∙ c.minus.ensures ∙ newly-others (is_frozen e.agenda) (is_frozen d.agenda) c.frozen_now-frozen.result c.args.self.now.frozen (c.frozen_now-frozen.ensures e.agenda h.agenda) b.frozen;
  frozen = c.bits-2.ensures.writers ∙ c.minus-2.ensures ∙ newly-others (is_frozen d.agenda) (is_frozen e.agenda) c.args.self.now.frozen c.frozen_now-frozen.result b.frozen (c.frozen_now-frozen.ensures e.agenda h.agenda);
  lost = new-is;
  lost_order = refl;
  outcome = c.outcome_told.ensures ∙ ap (λ o. outcome_told o c.args.after.now.outcome) b.outcome ∙ ap (outcome_told d.outcome) h.outcome;
  agenda_ended = c.has_ended.ensures ∙ ap (λ b. b && is_none c.args.after.now.running) b.runs ∙ ap (λ x. ran && x) (rests-is c.args.after.now.running e.agenda h.agenda);
}

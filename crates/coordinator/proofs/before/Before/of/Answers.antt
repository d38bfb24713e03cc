use Rattle.std.proofs.Common.{ap, ◌∙◌}
use Rattle.set_agenda.specs.Agenda.{open_place}
use Rattle.coordinator.proofs.Following.{left-is}
use Rattle.coordinator.proofs.Fitting.{runs-is}
use Rattle.coordinator.proofs.before.Before.of.Goals as goal

pub returns : goal.returns
returns c = λ d h. record {
  place = c.place_now.ensures ∙ ap open_place (left-is c.args.kept.now d h);
  frozen = c.frozen_now.ensures d.agenda h.agenda;
  outcome = h.outcome;
  runs = c.is_some.ensures ∙ runs-is c.args.kept.now.running d.agenda h.agenda;
}

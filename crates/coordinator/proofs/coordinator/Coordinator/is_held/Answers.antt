use Rattle.std.proofs.Common.{◌∙◌}
use Rattle.coordinator.proofs.Calls.{held}
use Rattle.coordinator.proofs.Fitting.{held-none, held-some}
use Rattle.coordinator.proofs.coordinator.Coordinator.is_held.Goals as goal

pub returns-in-None : goal.returns-in-None
returns-in-None c = λ d h. held-none c.self.inside.kept.running d.agenda c.args.volume c.in-None.is (held _ c.args.self.now d c.self.view_is h).follows.agenda

pub returns-in-Some : goal.returns-in-Some
returns-in-Some c = λ d h. c.is_held.ensures ∙ held-some c.self.inside.kept.running c.in-Some.running d.agenda c.args.volume c.in-Some.is (held _ c.args.self.now d c.self.view_is h).follows.agenda

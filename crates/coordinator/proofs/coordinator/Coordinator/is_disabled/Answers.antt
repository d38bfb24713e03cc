use Rattle.std.proofs.Common.{ap, rules, ◌∙◌}
use Rattle.coordinator.specs.Coordinator.{is_disabled}
use Rattle.coordinator.proofs.Calls.{held}
use Rattle.coordinator.proofs.Registering.{disabled-is}
use Rattle.coordinator.proofs.coordinator.Coordinator.is_disabled.Goals as goal

pub returns : goal.returns
returns c = λ d h. c.has_class_of.ensures ∙ disabled-is c.self.inside.kept d c.self.inside.names c.args.writer (search rules) (held _ c.args.self.now d c.self.view_is h).follows
    ∙ ap (λ s. is_disabled s.writers d.disabled c.args.writer) c.self.view_is

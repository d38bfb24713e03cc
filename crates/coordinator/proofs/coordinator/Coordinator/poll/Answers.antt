use Rattle.std.proofs.Common.{rules, ◌∙◌}
use Rattle.coordinator.proofs.Calls.{held, standing-is}
use Rattle.coordinator.proofs.coordinator.Coordinator.poll.Goals as goal

pub returns : goal.returns
returns c = λ d h. c.poll.ensures ∙ standing-is c.self.inside.kept.mailboxes d c.args.writer (held _ c.args.self.now d c.self.view_is h).mailboxes (search rules)

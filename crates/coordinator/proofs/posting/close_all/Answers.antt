use Rattle.std.proofs.Common.{rules}
use Rattle.coordinator.proofs.Calls.{sent-closed}
use Rattle.coordinator.proofs.posting.close_all.Goals as goal

pub returns-clause-sent : goal.returns-clause-sent
returns-clause-sent c = sent-closed c.args.mailboxes.now c.loop-writer.mailboxes (λ w l. c.loop-writer.invariant.0 w (search rules))

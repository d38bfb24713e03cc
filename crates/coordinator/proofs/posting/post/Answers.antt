use Rattle.coordinator.proofs.Calls.{sent-posted}
use Rattle.std.proofs.Common.{ap, rules, ◌∙◌}
use Rattle.std.specs.Prelude.{not}
use Rattle.set_agenda.specs.Agenda.{same_place}
use Rattle.coordinator.specs.KeptCourse.{left_now}
use Rattle.coordinator.proofs.OpenOrders.{fit-posted}
use Rattle.coordinator.proofs.posting.post.Goals as goal

pub returns-clause-fit : goal.returns-clause-fit
returns-clause-fit c = fit-posted c.args.mailboxes.now c.loop-writer.mailboxes (not c.is_same_place-elsewhere.result) c.args.before (left_now c.args.running.now)
    (ap not (c.is_same_place-elsewhere.ensures ∙ ap (same_place c.args.before) c.place_now.ensures)) (λ w l. c.loop-writer.invariant.0 w (search rules))

pub returns-clause-sent : goal.returns-clause-sent
returns-clause-sent c = sent-posted c.args.mailboxes.now c.loop-writer.mailboxes (not c.is_same_place-elsewhere.result) (left_now c.args.running.now) (λ w l. c.loop-writer.invariant.0 w (search rules))

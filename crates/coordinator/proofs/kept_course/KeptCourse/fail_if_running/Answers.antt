use Rattle.std.proofs.Common.{ap, false, length, rules, subst, sym, true, ◌≡◌, ◌∙◌}
use Rattle.coordinator.specs.Coordinator.{is_running}
use Rattle.coordinator.specs.KeptCourse.{IsBy, StandsFor, kind_if_done}
use Rattle.coordinator.specs.OpenOrders.{SentAtMost}
use Rattle.coordinator.proofs.Calls.{failed-stands, fails-running, stays-ended}
use Rattle.coordinator.proofs.kept_course.KeptCourse.fail_if_running.Goals as goal

pub returns-then-not-is_running-clause-stands : goal.returns-then-not-is_running-clause-stands
returns-then-not-is_running-clause-stands c = λ d h.
    let over : is_running c.args.self.now.outcome ≡ false = search rules in
    subst (StandsFor c.args.self.now) (stays-ended c.args.self.now.outcome c.args.why d over h.follows.outcome) h

pub returns-clause-stands : goal.returns-clause-stands
returns-clause-stands c = λ d h.
    let runs : is_running c.args.self.now.outcome ≡ true = search rules in
    subst (StandsFor c.close_orders.new.self) (fails-running c.args.self.now.outcome c.args.why d runs h.follows.outcome)
    (failed-stands c.args.self.now c.fail_set.new.self c.close_orders.new.self d c.args.why c.fail_set.ensures.keeps.mailboxes (c.fail_set.ensures.follows d h.follows) c.close_orders.ensures.stands h)

pub returns-clause-times : goal.returns-clause-times
returns-clause-times c = λ now h. subst (IsBy now) (sym c.close_orders.ensures.keeps.running) (c.fail_set.ensures.times now)

pub returns-clause-live : goal.returns-clause-live
returns-clause-live c = ap kind_if_done c.close_orders.ensures.keeps.running ∙ c.fail_set.ensures.live

pub returns-clause-sent : goal.returns-clause-sent
returns-clause-sent c = λ n h. c.close_orders.ensures.sent n (subst (SentAtMost n) (sym c.fail_set.ensures.keeps.mailboxes) h)

pub returns-clause-len : goal.returns-clause-len
returns-clause-len c = ap length c.close_orders.ensures.keeps.rows ∙ c.fail_set.ensures.keeps.len

use Rattle.std.proofs.Common.{true, false}
use Rattle.coordinator.proofs.Fitting.{spent-kept}
use Rattle.coordinator.proofs.running_agenda.RunningAgenda.spent.Goals as goal

pub returns-then-is_spent_since-3 : goal.returns-then-is_spent_since-3
returns-then-is_spent_since-3 c = spent-kept c.args.freeze_limit c.args.now c.args.self.now false false true
    (cc (c.since.ensures, c.is_spent_since.ensures, c.if-is_spent_since.false))
    (cc (c.since-else-is_spent_since.ensures, c.from.ensures, c.is_spent_since-else-is_spent_since.ensures, c.if-is_spent_since-2.false))
    (cc (c.since-else-is_spent_since-2.ensures, c.is_spent_since-else-is_spent_since-2.ensures, c.if-is_spent_since-3.true))

pub returns-else-is_spent_since-3 : goal.returns-else-is_spent_since-3
returns-else-is_spent_since-3 c = spent-kept c.args.freeze_limit c.args.now c.args.self.now false false false
    (cc (c.since.ensures, c.is_spent_since.ensures, c.if-is_spent_since.false))
    (cc (c.since-else-is_spent_since.ensures, c.from.ensures, c.is_spent_since-else-is_spent_since.ensures, c.if-is_spent_since-2.false))
    (cc (c.since-else-is_spent_since-2.ensures, c.is_spent_since-else-is_spent_since-2.ensures, c.if-is_spent_since-3.false))

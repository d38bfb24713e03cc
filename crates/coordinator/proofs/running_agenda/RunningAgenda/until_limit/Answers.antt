use Rattle.std.proofs.Common.{arith, ◌≤◌, ◌∙◌}
use Rattle.tick_limits.specs.Time.{answer_limit}
use Rattle.coordinator.proofs.Fitting.{most-or, until-kept}
use Rattle.coordinator.proofs.running_agenda.RunningAgenda.until_limit.Goals as goal

pub returns-clause-ticks : goal.returns-clause-ticks
returns-clause-ticks c = λ a f. cc (c.unwrap_or.ensures, c.sooner-2.ensures.value, c.sooner.ensures.value, c.until_since-hold.ensures.ticks, c.until_since-freeze.ensures.ticks, c.until_since-answer.ensures.ticks, c.since.ensures, c.since-2.ensures, c.since-3.ensures, c.from.ensures)
    ∙ until-kept c.args.freeze_limit c.args.now c.args.self.now a f

pub returns-clause-most : goal.returns-clause-most
returns-clause-most c = λ small.
    let freeze : c.from.result ≤ answer_limit = omega (arith, c.from.ensures) in
    most-or c.sooner-2.result _ _ c.unwrap_or.ensures
    (c.sooner-2.ensures.most _ (c.sooner.ensures.most _ (c.until_since-hold.ensures.most (omega arith)) (c.until_since-freeze.ensures.most freeze)) (c.until_since-answer.ensures.most (omega arith)))

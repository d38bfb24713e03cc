use Rattle.std.proofs.Common.{sym, subst}
use Rattle.scenario.specs.Drafts.{IsDraft}
use Rattle.scenario.specs.SoFar.{plan_in}
use Rattle.scenario.specs.Named.{HasNames}
use Rattle.scenario.proofs.Growing.{as_is, plan_has_names}
use Rattle.scenario.proofs.scenario_builder.ScenarioBuilder.finish.Goals as goal

pub finish-requires-clause-draft : goal.finish-requires-clause-draft
finish-requires-clause-draft c =
    let given = c.self.inside.given in
    subst (λ text. IsDraft text given.draft) (sym c.of.ensures.bytes) (as_is given.source.items given.number given.draft c.self.invariant)

pub finish-requires-clause-names : goal.finish-requires-clause-names
finish-requires-clause-names c =
    let given = c.self.inside.given in
    subst (λ text. HasNames (plan_in text given.draft.said)) (sym c.of.ensures.bytes) (plan_has_names given.source.items given.number given.draft c.self.invariant)

use Rattle.scenario.proofs.Whole.{plan_is}
use Rattle.scenario.proofs.parsing.finish.Goals as goal

pub of-requires-clause-plan : goal.of-requires-clause-plan
of-requires-clause-plan c =
    rw (c.take_parts.ensures.volumes, c.take_parts.ensures.groups, c.take_parts.ensures.writers, c.take_parts.ensures.lanes, c.in_ok-close_lanes.ensures)
    (plan_is c.args.source.bytes c.args.draft.now.said c.requires.short c.requires.draft.within)

pub of-requires-clause-names : goal.of-requires-clause-names
of-requires-clause-names c =
    rw (c.take_parts.ensures.volumes, c.take_parts.ensures.groups, c.take_parts.ensures.writers, c.take_parts.ensures.lanes, c.in_ok-close_lanes.ensures)
    c.requires.names

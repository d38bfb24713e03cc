use Rattle.std.proofs.Common.{◌<◌, ◌∙◌, nat_eq, length, sym, ap}
use Rattle.vss_report.proofs.Telling.{bit_is, holds_for}
use Rattle.vss_report.proofs.effects.add_lost_if.Goals as goal

pub add_lost-requires-clause-range : goal.add_lost-requires-clause-range
add_lost-requires-clause-range c =
    holds_for (λ w. w < length c.args.scenario.now.writers) c.args.lost c.args.writer c.requires.range c.requires.below
    (sym (bit_is c.args.lost c.args.writer) ∙ ap (λ n. nat_eq n 1) c.if-lost-writer-eq1.true)

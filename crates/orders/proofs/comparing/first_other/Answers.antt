use Rattle.std.proofs.Common.{◌∙◌}
use Rattle.vss_report.specs.Pieces.{pieces_at}
use Rattle.vss_report.proofs.Joined.{no_piece}
use Rattle.orders.proofs.Replay.{past_end}
use Rattle.orders.proofs.comparing.first_other.Goals as goal

pub returns-then-at-report-clause-none : goal.returns-then-at-report-clause-none
returns-then-at-report-clause-none c =
    c.lines.invariant.0 ∙ past_end c.lines.number (pieces_at 10 c.args.text.now c.lines.at) (pieces_at 10 c.args.report.now c.lines.at) (no_piece 10 c.args.report.now c.lines.at c.if-at-report.true)

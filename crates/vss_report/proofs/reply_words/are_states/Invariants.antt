use Rattle.std.proofs.Common.{◌≡◌, drop}
use Rattle.vss_report.specs.Pieces.{pieces_at}
use Rattle.vss_report.specs.Shapes.{are_states}
use Rattle.vss_report.proofs.reply_words.are_states.Given as goal

-- the states that were passed are of the writers before this one
abbrev pub invariant-loop-writer : goal.invariant-loop-writer
invariant-loop-writer l =
    are_states l.scenario l.scenario.writers (pieces_at 32 l.line l.initial.at) ≡ are_states l.scenario (drop l.writer l.scenario.writers) (pieces_at 32 l.line l.at)

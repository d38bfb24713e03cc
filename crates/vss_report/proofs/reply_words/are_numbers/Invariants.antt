use Rattle.std.proofs.Common.{◌≡◌, ◌-◌, ◌+◌, length}
use Rattle.std.specs.List.{list_all}
use Rattle.vss_report.specs.Pieces.{pieces_at}
use Rattle.vss_report.specs.Shapes.{is_number}
use Rattle.vss_report.proofs.reply_words.are_numbers.Given as goal

-- the words that were passed are numbers
abbrev pub invariant-words : goal.invariant-words
invariant-words l = list_all is_number (pieces_at 32 l.line l.initial.at) ≡ list_all is_number (pieces_at 32 l.line l.at)

abbrev pub decreases-words : goal.decreases-words
decreases-words l = length l.line + 1 - l.at

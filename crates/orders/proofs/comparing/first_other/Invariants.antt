use Rattle.std.proofs.Common.{◌≡◌, ◌≤◌, ◌-◌, ◌+◌, length}
use Rattle.vss_report.specs.Pieces.{pieces_at}
use Rattle.orders.specs.Again.{first_other, other_from}
use Rattle.orders.proofs.comparing.first_other.Given as goal

-- the lines that were passed are the same
abbrev pub invariant-lines : goal.invariant-lines
invariant-lines l = (first_other l.text l.report ≡ other_from l.number (pieces_at 10 l.text l.at) (pieces_at 10 l.report l.at)) × (l.number ≤ l.at + 1)

abbrev pub decreases-lines : goal.decreases-lines
decreases-lines l = length l.text + 1 - l.at

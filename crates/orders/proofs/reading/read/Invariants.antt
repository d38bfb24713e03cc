use Rattle.std.proofs.Common.{◌≡◌, ◌≤◌, ◌-◌, ◌+◌, [], length}
use Rattle.write_history.specs.declared.trail.TheConstants.{MOST_MOVES}
use Rattle.vss_report.specs.Pieces.{pieces_at}
use Rattle.orders.specs.Order.{read_from}
use Rattle.orders.proofs.reading.read.Given as goal

-- the lines that are left go on with what was asked for so far
abbrev pub invariant-lines : goal.invariant-lines
invariant-lines l =
    (read_from l.scenario 1 [] (pieces_at 10 l.text 0) ≡ read_from l.scenario l.number l.entries.items (pieces_at 10 l.text l.at))
    × (l.number ≤ l.at + 1) × (length l.entries.items ≤ MOST_MOVES)

abbrev pub decreases-lines : goal.decreases-lines
decreases-lines l = length l.text + 1 - l.at

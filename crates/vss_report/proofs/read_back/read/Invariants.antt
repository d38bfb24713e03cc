use Rattle.std.proofs.Common.{◌≡◌, ◌≤◌, ◌-◌, ◌+◌, [], length}
use Rattle.vss_report.specs.Pieces.{pieces_at}
use Rattle.vss_report.specs.ReadBack.{read_from, moves_from}
use Rattle.vss_report.proofs.read_back.read.Given as goal

-- the lines that are left go on with the moves so far
abbrev pub invariant-lines : goal.invariant-lines
invariant-lines l =
    (read_from l.scenario 2 [] (pieces_at 10 l.report l.start) ≡ read_from l.scenario l.number l.trail.moves (pieces_at 10 l.report l.at))
    × (moves_from l.scenario [] (pieces_at 10 l.report l.start) ≡ moves_from l.scenario l.trail.moves (pieces_at 10 l.report l.at))
    × (l.number ≤ l.at + 1) × (l.at ≤ length l.report)

abbrev pub decreases-lines : goal.decreases-lines
decreases-lines l = length l.report + 1 - l.at

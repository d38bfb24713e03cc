use Rattle.std.proofs.Common.{◌≡◌, drop}
use Rattle.std.specs.Prelude.{slice_range}
use Rattle.vss_report.specs.Pieces.{pieces}
use Rattle.vss_report.proofs.Joined.{all_before}
use Rattle.vss_report.proofs.pieces.piece_at.Given as goal

-- the bytes that were passed are of the piece at hand
abbrev pub invariant-loop-end : goal.invariant-loop-end
invariant-loop-end l = pieces l.mark (drop l.at l.text) ≡ all_before (slice_range l.text l.at l.end) (pieces l.mark (drop l.end l.text))

use Rattle.std.proofs.Common.{◌≡◌, drop}
use Rattle.scenario.specs.Lines.{lines_at, lines_from}
use Rattle.scenario.proofs.text_line.line_at.Given as goal

-- what is left goes on with the line at hand
abbrev pub invariant-loop-at : goal.invariant-loop-at
invariant-loop-at l = lines_at l.text l.start ≡ lines_from l.start l.at (drop l.at l.text)

use Rattle.std.proofs.Common.{◌≡◌, ◌+◌, ◌≤◌, drop}
use Rattle.vss_tools.specs.Refused.{refusal_from}
use Rattle.vss_tools.proofs.TextLines.{texts}
use Rattle.vss_tools.proofs.timeline.picture.take_lines.Given as goal

-- the first refusal is still to come
abbrev pub invariant-loop-at : goal.invariant-loop-at
invariant-loop-at l = record {
  refused : refusal_from l.script (l.at + 1) (texts (drop l.at l.lines)) ≡ refusal_from l.script 1 (texts l.lines);
  few : l.moves ≤ l.at;
}

use Rattle.std.proofs.Common.{◌≡◌, ◌++◌, drop}
use Rattle.vss_tools.specs.Drawn.{escaped}
use Rattle.vss_tools.proofs.timeline.escaping.add_escaped.Given as goal

-- what is written and what is still to come
abbrev pub invariant-loop-byte : goal.invariant-loop-byte
invariant-loop-byte l = l.out.bytes ++ escaped (drop l.byte-index l.text) ≡ l.initial.out.bytes ++ escaped l.text

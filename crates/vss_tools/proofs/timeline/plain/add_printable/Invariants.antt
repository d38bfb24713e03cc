use Rattle.std.proofs.Common.{◌≡◌, ◌++◌, drop}
use Rattle.vss_tools.specs.Drawn.{printable}
use Rattle.vss_tools.proofs.timeline.plain.add_printable.Given as goal

-- what is written and what is still to come
abbrev pub invariant-loop-byte : goal.invariant-loop-byte
invariant-loop-byte l = l.out.bytes ++ printable (drop l.byte-index l.text) ≡ l.initial.out.bytes ++ printable l.text

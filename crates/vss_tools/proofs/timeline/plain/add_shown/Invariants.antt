use Rattle.vss_tools.specs.Drawn.{IsLines}
use Rattle.vss_tools.proofs.timeline.plain.add_shown.Given as goal

-- the text stays one of lines
abbrev pub invariant-loop-row : goal.invariant-loop-row
invariant-loop-row l = IsLines l.initial.out.bytes → IsLines l.out.bytes

use Rattle.vss_tools.specs.Drawn.{IsLines}
use Rattle.vss_tools.proofs.timeline.plain.add_marks.Given as goal

-- the text stays one of lines
abbrev pub invariant-loop-mark : goal.invariant-loop-mark
invariant-loop-mark l = IsLines l.initial.out.bytes → IsLines l.out.bytes

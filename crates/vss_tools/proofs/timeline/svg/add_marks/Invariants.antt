use Rattle.vss_tools.specs.Drawn.{IsDrawn}
use Rattle.vss_tools.proofs.timeline.svg.add_marks.Given as goal

-- the text stays a drawing
abbrev pub invariant-loop-mark : goal.invariant-loop-mark
invariant-loop-mark l = IsDrawn l.initial.out.bytes → IsDrawn l.out.bytes

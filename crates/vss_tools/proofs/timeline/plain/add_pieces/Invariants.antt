use Rattle.std.proofs.Common.{◌*◌, take}
use Rattle.vss_tools.specs.Drawn.{AddsLines}
use Rattle.vss_tools.proofs.timeline.plain.add_pieces.Given as goal

-- so many full lines are written
abbrev pub invariant-loop-at : goal.invariant-loop-at
invariant-loop-at l = AddsLines l.initial.out.bytes l.out.bytes (take (l.at * 100) l.line)

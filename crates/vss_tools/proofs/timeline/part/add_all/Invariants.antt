use Rattle.std.proofs.Common.{◌≡◌, ◌++◌, drop}
use Rattle.vss_tools.specs.Drawn.{parts_text}
use Rattle.vss_tools.proofs.timeline.part.add_all.Given as goal

-- what is written and what is still to come
abbrev pub invariant-loop-part : goal.invariant-loop-part
invariant-loop-part l = l.out.bytes ++ parts_text (drop l.part-index l.parts) ≡ l.initial.out.bytes ++ parts_text l.parts

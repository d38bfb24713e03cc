use Rattle.std.proofs.Common.{take}
use Rattle.vss_report.specs.Legible.{AreShortSets}
use Rattle.vss_report.proofs.short.are_short_sets.Given as goal

-- of those that were passed
abbrev pub invariant-loop-image : goal.invariant-loop-image
invariant-loop-image l = AreShortSets (take l.image-index l.evicted)

use Rattle.std.proofs.Common.{◌≡◌, drop}
use Rattle.vss_tools.specs.Lines.{number_from, number_of}
use Rattle.vss_tools.proofs.timeline.words.number.Given as goal

-- the digits that are still to come make of the value so far the number of the word
abbrev pub invariant-loop-byte : goal.invariant-loop-byte
invariant-loop-byte l = number_from l.value (drop l.byte-index l.word) ≡ number_of l.word

use Rattle.std.proofs.Common.{◌≡◌, ◌++◌, take}
use Rattle.std.specs.List.{flat_map}
use Rattle.vss_catalog.specs.Written.{number_bytes}
use Rattle.vss_catalog.proofs.writing.push_numbers.Given as goal

-- the numbers so far stand there
abbrev pub invariant-loop-number : goal.invariant-loop-number
invariant-loop-number l = l.text.bytes ≡ l.initial.text.bytes ++ flat_map number_bytes (take l.number-index l.numbers)

use Rattle.std.proofs.Common.{◌≡◌, drop}
use Rattle.set_agenda.specs.Advance.{are_distinct}
use Rattle.set_agenda.proofs.distinct.are_distinct.Given as goal

-- none of those that were passed comes again
abbrev pub invariant-loop-i : goal.invariant-loop-i
invariant-loop-i l = are_distinct l.numbers ≡ are_distinct (drop l.i l.numbers)

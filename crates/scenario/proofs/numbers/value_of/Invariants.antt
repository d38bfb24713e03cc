use Rattle.std.proofs.Common.{◌≡◌, ◌≤◌, ◌+◌, drop}
use Rattle.scenario.specs.Numbers.{value_from, in_range}
use Rattle.scenario.proofs.numbers.value_of.Given as goal

-- the digits that are left go on with the value so far, or with the least one past the bound
abbrev pub invariant-loop-byte : goal.invariant-loop-byte
invariant-loop-byte l = (in_range l.low l.high (value_from 0 l.digits) ≡ in_range l.low l.high (value_from l.value (drop l.byte-index l.digits))) × (l.value ≤ l.high + 1)

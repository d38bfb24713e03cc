use Rattle.std.proofs.Common.{◌≡◌, ◌≤◌, ◌+◌, ◌*◌, ◌++◌, take, vec_len, vec_capacity}
use Rattle.std.specs.List.{flat_map}
use Rattle.diff_area.specs.AreaValue.{number_bytes}
use Rattle.diff_area.proofs.encode.push_numbers.Given as goal

abbrev pub invariant-loop-number : goal.invariant-loop-number
invariant-loop-number l = (l.page.items ≡ l.initial.page.items ++ flat_map number_bytes (take l.number-index l.numbers)) × (vec_len l.page ≡ vec_len l.initial.page + 4 * l.number-index) × (vec_capacity l.initial.page ≤ vec_capacity l.page)

use Rattle.std.proofs.Common.{◌≡◌, ◌+◌, ◌*◌, map, vec_len}
use Rattle.std.specs.List.{range_with_len}
use Rattle.diff_area.specs.Format.{number_at}
use Rattle.diff_area.proofs.header.numbers_from.Given as goal

abbrev pub invariant-loop-v : goal.invariant-loop-v
invariant-loop-v l = record {
  numbers : l.numbers.items ≡ map (λ v. number_at l.header (l.from + 4 * v)) (range_with_len 0 l.v);
  len : vec_len l.numbers ≡ l.v;
}

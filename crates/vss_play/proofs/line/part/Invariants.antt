use Rattle.std.proofs.Common.{◌≡◌, ◌≤◌, vec_capacity, vec_len}
use Rattle.std.specs.List.Sorted.{IsPermutation}
use Rattle.vss_play.proofs.line.part.Given as goal

-- the first ones are in front, among those that were looked at
abbrev pub invariant-loop-at : goal.invariant-loop-at
invariant-loop-at l =
    IsPermutation l.initial.line.items l.line.items × (vec_capacity l.line ≡ vec_capacity l.initial.line)
    × (vec_len l.line ≡ vec_len l.initial.line) × (l.first ≤ l.at)

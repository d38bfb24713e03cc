use Rattle.std.proofs.Common.{◌≡◌, vec_capacity, vec_len}
use Rattle.std.specs.List.Sorted.{IsPermutation}
use Rattle.vss_play.proofs.line.bring_all_forward.Given as goal

abbrev pub invariant-loop-one : goal.invariant-loop-one
invariant-loop-one l =
    IsPermutation l.initial.line.items l.line.items × (vec_capacity l.line ≡ vec_capacity l.initial.line) × (vec_len l.line ≡ vec_len l.initial.line)

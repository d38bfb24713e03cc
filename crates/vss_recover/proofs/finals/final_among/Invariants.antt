use Rattle.std.proofs.Common.{◌≡◌, ◌≤◌, take, length, vec_capacity}
use Rattle.vss_recover.specs.Recoveries.{with_final}
use Rattle.vss_recover.proofs.finals.final_among.Given as goal

-- those of the first images are gathered
abbrev pub invariant-loop-image : goal.invariant-loop-image
invariant-loop-image l = record {
  gathered : l.out.items ≡ with_final l.set (take l.image-index l.images) l.finals;
  few : length l.out.items ≤ l.image-index;
  room : vec_capacity l.initial.out ≤ vec_capacity l.out;
}

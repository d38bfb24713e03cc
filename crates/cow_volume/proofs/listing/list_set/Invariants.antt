use Rattle.std.proofs.Common.{◌≡◌}
use Rattle.std.specs.Prelude.{vec_capacity}
use Rattle.cow_volume.proofs.Listed.{IsSoFar}
use Rattle.cow_volume.proofs.listing.list_set.Given as goal

-- the image on each volume so far is listed
abbrev pub invariant-loop-v : goal.invariant-loop-v
invariant-loop-v g l = record {
  so_far : IsSoFar l.copies.images l.set l.initial.gone.items l.gone.items l.v;
  space : vec_capacity l.gone ≡ vec_capacity l.initial.gone;
}

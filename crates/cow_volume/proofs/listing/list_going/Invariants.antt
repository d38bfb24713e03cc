use Rattle.std.proofs.Common.{◌≡◌, ◌≤◌, ◌-◌}
use Rattle.std.specs.Prelude.{vec_capacity}
use Rattle.cow_volume.specs.Room.{images_going}
use Rattle.cow_volume.proofs.listing.list_going.Given as goal

-- the images of the sets so far are listed
abbrev pub invariant-loop-set : goal.invariant-loop-set
invariant-loop-set g l = record {
  within : l.set ≤ l.up_to;
  listed : l.gone.items ≡ images_going l.set l.copies.images;
  space : vec_capacity l.gone ≡ vec_capacity l.fn.gone;
}

abbrev pub decreases-loop-set : goal.decreases-loop-set
decreases-loop-set g l = l.up_to - l.set

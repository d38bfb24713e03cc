use Rattle.std.proofs.Common.{◌++◌, ◌∷◌, [], refl}
use Rattle.diff_map.specs.Groups.{map_at, with_images}
use Rattle.cow_volume.proofs.Following.{valid_now}
use Rattle.cow_volume.proofs.Ties.{has_map, tied_at, tied_added}
use Rattle.cow_volume.proofs.MakingRoom.{cut_is}
use Rattle.cow_volume.proofs.copies.Copies.add_image.Goals as goal

pub returns : goal.returns
returns g c =
    let within = rw (← c.self.view_is) at c.requires.volume in
    let m = map_at c.self.inside.maps c.args.v in
    let at = tied_at _ _ _ _ c.args.v c.self.invariant within in
    rw (← c.self.view_is, c.add_image.ensures) (cut_is c.self.inside.area c.self.inside.maps c.args.v c.args.set m (with_images (m.images ++ c.args.set ∷ []) m) at refl)

pub invariant_of-self : goal.invariant_of-self
invariant_of-self g c =
    let within = rw (← c.self.view_is) at c.requires.volume in
    let m = map_at c.self.inside.maps c.args.v in
    let at = tied_at _ _ _ _ c.args.v c.self.invariant within in
    let valid = valid_now c.self.inside.maps c.add_image.new.self c.args.v _ (has_map _ _ _ _ c.args.v c.self.invariant within) c.add_image.ensures c.images-facts.ensures.valid in
    rw c.add_image.ensures (tied_added _ _ _ _ c.args.v m (with_images (m.images ++ c.args.set ∷ []) m) c.self.invariant at refl refl valid)

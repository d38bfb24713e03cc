use Rattle.std.proofs.Common.{◌≡◌, ◌∙◌, ℕ, ap, sym, Some, slice_get}
use Rattle.diff_map.specs.Groups.{map_at}
use Rattle.cow_volume.proofs.Ties.{tied_at}
use Rattle.cow_volume.proofs.copies.Copies.blocks.Goals as goal

pub returns : goal.returns
returns g c =
    let within = rw (← c.self.view_is) at c.requires in
    let at = tied_at _ _ _ _ c.args.v c.self.invariant within in
    let is : slice_get c.self.inside.area.volumes c.args.v ≡ Some c.blocks-2.result =
    (c.self.invariant.each c.args.v (map_at c.self.inside.maps c.args.v) at).blocks ∙ ap (λ (n : ℕ). Some n) (sym c.blocks-2.ensures) in
    rw (← c.self.view_is) is

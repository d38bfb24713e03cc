use Rattle.cow_volume.proofs.Ties.{of_images}
use Rattle.cow_volume.proofs.copies.Copies.volumes.Goals as goal

pub returns-clause-of_images : goal.returns-clause-of_images
returns-clause-of_images g c =
    let of = of_images _ _ _ _ c.self.invariant in
    rw (← c.self.view_is) of

use Rattle.cow_volume.proofs.MakingRoom.{oldest_on}
use Rattle.diff_map.specs.Groups.{map_at}
use Rattle.cow_volume.proofs.Ties.{tied_at}
use Rattle.cow_volume.proofs.copies.Copies.oldest_used.Goals as goal

pub returns : goal.returns
returns g c =
    let within = rw (← c.self.view_is) at c.requires in
    let m = map_at c.self.inside.maps c.args.v in
    let at = tied_at _ _ _ _ c.args.v c.self.invariant within in
    rw (← c.self.view_is)
    (oldest_on c.oldest_used.result m.copies c.self.inside.area.records c.args.v (c.self.invariant.each c.args.v m at).copies c.oldest_used.ensures.found c.oldest_used.ensures.none)

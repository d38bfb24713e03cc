use Rattle.std.proofs.Common.{◌∙◌, ap}
use Rattle.diff_map.specs.Copies.{noted_in}
use Rattle.diff_map.specs.Groups.{map_at}
use Rattle.cow_volume.proofs.Ties.{tied_at}
use Rattle.cow_volume.proofs.Rows.{noted_on}
use Rattle.cow_volume.proofs.copies.Copies.used_on.Goals as goal

pub returns : goal.returns
returns g c =
    let within = rw (← c.self.view_is) at c.requires in
    let m = map_at c.self.inside.maps c.args.v in
    let at = tied_at _ _ _ _ c.args.v c.self.invariant within in
    rw (← c.self.view_is) (c.used.ensures ∙ ap noted_in (c.self.invariant.each c.args.v m at).copies ∙ noted_on c.args.v c.self.inside.area.records)

use Rattle.diff_map.specs.Groups.{map_at}
use Rattle.cow_volume.proofs.Ties.{tied_at, found_if, within_if, none_if}
use Rattle.cow_volume.proofs.copies.Copies.find.Goals as goal

pub returns-clause-found : goal.returns-clause-found
returns-clause-found g c =
    let within = rw (← c.self.view_is) at c.requires.volume in
    let at = tied_at _ _ _ _ c.args.v c.self.invariant within in
    let found = found_if c.find.result _ c.self.inside.area.records c.args.v c.args.set c.args.block
    (c.self.invariant.each c.args.v (map_at c.self.inside.maps c.args.v) at).copies c.requires.set c.find.ensures.found in
    rw (← c.self.view_is) found

pub returns-clause-within : goal.returns-clause-within
returns-clause-within g c =
    let within = rw (← c.self.view_is) at c.requires.volume in
    let at = tied_at _ _ _ _ c.args.v c.self.invariant within in
    let found = found_if c.find.result _ c.self.inside.area.records c.args.v c.args.set c.args.block
    (c.self.invariant.each c.args.v (map_at c.self.inside.maps c.args.v) at).copies c.requires.set c.find.ensures.found in
    let inside = within_if c.find.result c.self.inside.area.records c.args.v c.args.set c.args.block found in
    rw (← c.self.view_is) inside

pub returns-clause-none : goal.returns-clause-none
returns-clause-none g c =
    let within = rw (← c.self.view_is) at c.requires.volume in
    let at = tied_at _ _ _ _ c.args.v c.self.invariant within in
    let none = none_if c.find.result _ c.self.inside.area.records c.args.v c.args.set c.args.block
    (c.self.invariant.each c.args.v (map_at c.self.inside.maps c.args.v) at).copies c.requires.set c.find.ensures.none in
    rw (← c.self.view_is) none

use Rattle.std.proofs.Common.{◌∙◌, sym, ap, arith}
use Rattle.diff_map.specs.Groups.{part_of, own}
use Rattle.diff_map.proofs.Grouped.{long_at, own_at}
use Rattle.diff_map.proofs.GroupChanges.{is_at, here}
use Rattle.diff_map.proofs.group_map.GroupMap.held_by.Goals as goal

pub held_by-requires : goal.held_by-requires
held_by-requires c =
    let long = long_at c.self.inside.links.copies c.self.inside.volumes.items c.args.self.now c.args.v c.self.view_is c.requires.volume in
    let low = c.requires.slot in
    omega arith

pub returns-in-None : goal.returns-in-None
returns-in-None c =
    let at = is_at c.self.invariant c.self.view_is c.requires.volume c.index-volume.ensures in
    rw (here at) (sym (own_at (part_of c.index-volume.result.now) c.self.inside.links.copies c.args.slot ∙ ap (own (part_of c.index-volume.result.now)) (sym c.held_by.ensures ∙ c.in-None.is)))

pub returns-in-Some : goal.returns-in-Some
returns-in-Some c =
    let at = is_at c.self.invariant c.self.view_is c.requires.volume c.index-volume.ensures in
    rw (here at)
    (c.own.ensures ∙ sym (own_at (part_of c.index-volume.result.now) c.self.inside.links.copies c.args.slot ∙ ap (own (part_of c.index-volume.result.now)) (sym c.held_by.ensures ∙ c.in-Some.is)))

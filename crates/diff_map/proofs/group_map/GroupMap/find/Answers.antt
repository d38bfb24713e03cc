use Rattle.std.proofs.Common.{refl, arith}
use Rattle.diff_map.specs.Groups.{part_of}
use Rattle.diff_map.proofs.GroupChanges.{is_at, here, fits}
use Rattle.diff_map.proofs.Grouped.{absent_outside, found_if, none_if}
use Rattle.diff_map.proofs.group_map.GroupMap.find.Goals as goal

pub returns-then-block-volume-clause-none : goal.returns-then-block-volume-clause-none
returns-then-block-volume-clause-none c =
    let volume = c.index-volume.result.now in
    let at = is_at c.self.invariant c.self.view_is c.requires c.index-volume.ensures in
    rw (here at) (λ none. absent_outside (part_of volume) c.self.inside.links.copies c.args.set c.args.block c.if-block-volume.true, λ absent. refl)

pub overflow_add-volume : goal.overflow_add-volume
overflow_add-volume c =
    let volume = c.index-volume.result.now in
    let at = is_at c.self.invariant c.self.view_is c.requires c.index-volume.ensures in
    let room = fits at in
    let narrow = c.self.invariant.parts.narrow in
    let low = c.if-block-volume.false in
    omega arith

pub returns-clause-found : goal.returns-clause-found
returns-clause-found c =
    let volume = c.index-volume.result.now in
    let at = is_at c.self.invariant c.self.view_is c.requires c.index-volume.ensures in
    let low = c.if-block-volume.false in
    rw (here at) (found_if c.find.result (part_of volume) c.self.inside.links.copies c.args.set c.args.block (omega arith) c.find.ensures.found)

pub returns-clause-none : goal.returns-clause-none
returns-clause-none c =
    let volume = c.index-volume.result.now in
    let at = is_at c.self.invariant c.self.view_is c.requires c.index-volume.ensures in
    let low = c.if-block-volume.false in
    rw (here at) (none_if c.find.result (part_of volume) c.self.inside.links.copies c.args.set c.args.block (omega arith) c.find.ensures.none)

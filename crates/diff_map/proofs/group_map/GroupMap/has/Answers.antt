use Rattle.std.proofs.Common.{arith}
use Rattle.std.proofs.lemmas.Bool.{false≢true}
use Rattle.diff_map.specs.Groups.{part_of}
use Rattle.diff_map.proofs.GroupChanges.{is_at, here, fits}
use Rattle.diff_map.proofs.Grouped.{has_if, has_outside}
use Rattle.diff_map.proofs.group_map.GroupMap.has.Goals as goal

pub returns-then-block-volume : goal.returns-then-block-volume
returns-then-block-volume c =
    let volume = c.index-volume.result.now in
    let at = is_at c.self.invariant c.self.view_is c.requires c.index-volume.ensures in
    rw (here at) (λ is. absurd (false≢true is), λ had. absurd (has_outside (part_of volume) c.self.inside.links.copies c.args.set c.args.block c.if-block-volume.true had))

pub overflow_add-volume : goal.overflow_add-volume
overflow_add-volume c =
    let volume = c.index-volume.result.now in
    let at = is_at c.self.invariant c.self.view_is c.requires c.index-volume.ensures in
    let room = fits at in
    let narrow = c.self.invariant.parts.narrow in
    let low = c.if-block-volume.false in
    omega arith

pub returns : goal.returns
returns c =
    let volume = c.index-volume.result.now in
    let at = is_at c.self.invariant c.self.view_is c.requires c.index-volume.ensures in
    let low = c.if-block-volume.false in
    rw (here at) (has_if c.has.result (part_of volume) c.self.inside.links.copies c.args.set c.args.block (omega arith) c.has.ensures)

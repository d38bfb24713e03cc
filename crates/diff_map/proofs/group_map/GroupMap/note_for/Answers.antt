use Rattle.std.proofs.Common.{◌<◌, None, Contains, refl, subst, arith}
use Rattle.std.proofs.lemmas.List.{length-map}
use Rattle.std.proofs.lemmas.Option.{slice_get_within}
use Rattle.diff_map.specs.Copies.{copy_of, HasCopy, MapValue}
use Rattle.diff_map.specs.Groups.{own_copies, part_of, own}
use Rattle.diff_map.proofs.Counted.{used_is, one_more_fits}
use Rattle.diff_map.proofs.Counting.{noted_fits}
use Rattle.diff_map.proofs.Images.{place_is}
use Rattle.diff_map.proofs.Grouped.{unnoted_own}
use Rattle.diff_map.proofs.GroupChanges.{is_at, here, kept, fits, unnoted_row, lacks_row, KeepsGroup-noted, maps_noted}
use Rattle.diff_map.proofs.group_map.GroupMap.note_for.Goals as goal

pub overflow_add-volume : goal.overflow_add-volume
overflow_add-volume c =
    let volume = c.index_mut-volume.result.now in
    let at = is_at c.self.invariant c.self.view_is c.requires.volume c.index_mut-volume.ensures.value in
    let low = subst (λ (m : MapValue). c.args.block < m.blocks) (here at) c.requires.in_range in
    let room = fits at in
    let narrow = c.self.invariant.parts.narrow in
    omega arith

pub note-requires-clause-in_range : goal.note-requires-clause-in_range
note-requires-clause-in_range c =
    let volume = c.index_mut-volume.result.now in
    let at = is_at c.self.invariant c.self.view_is c.requires.volume c.index_mut-volume.ensures.value in
    let low = subst (λ (m : MapValue). c.args.block < m.blocks) (here at) c.requires.in_range in
    let room = fits at in
    omega arith

pub note-requires-clause-lacks : goal.note-requires-clause-lacks
note-requires-clause-lacks c =
    let volume = c.index_mut-volume.result.now in
    let at = is_at c.self.invariant c.self.view_is c.requires.volume c.index_mut-volume.ensures.value in
    let low = subst (λ (m : MapValue). c.args.block < m.blocks) (here at) c.requires.in_range in
    lacks_row at c.args.set c.args.block low (subst (λ (m : MapValue). HasCopy m.copies c.args.set c.args.block → ⊥) (here at) c.requires.lacks)

pub note-requires-clause-unnoted : goal.note-requires-clause-unnoted
note-requires-clause-unnoted c =
    let volume = c.index_mut-volume.result.now in
    let at = is_at c.self.invariant c.self.view_is c.requires.volume c.index_mut-volume.ensures.value in
    unnoted_row at c.args.slot c.slots-facts.ensures.valid c.requires.unnoted

pub index_mut-requires : goal.index_mut-requires
index_mut-requires c =
    let volume = c.index_mut-volume.result.now in
    let at = is_at c.self.invariant c.self.view_is c.requires.volume c.index_mut-volume.ensures.value in
    let free = unnoted_row at c.args.slot c.slots-facts.ensures.valid c.requires.unnoted in
    let inside = slice_get_within c.self.inside.links.copies c.args.slot None free in
    let long = (kept at).counts.long in
    let as_long = length-map c.self.inside.links.copies (own (part_of volume)) in
    let ok = c.self.inside.next.ok in
    omega arith

pub overflow_add-count : goal.overflow_add-count
overflow_add-count c =
    let volume = c.index_mut-volume.result.now in
    let at = is_at c.self.invariant c.self.view_is c.requires.volume c.index_mut-volume.ensures.value in
    let contains = subst (λ (m : MapValue). Contains m.images c.args.set) (here at) c.requires.image in
    let low = subst (λ (m : MapValue). c.args.block < m.blocks) (here at) c.requires.in_range in
    let free = unnoted_row at c.args.slot c.slots-facts.ensures.valid c.requires.unnoted in
    let before = rw c.deref.ensures.value at c.place_from-at.ensures.before in
    let onward = rw c.deref.ensures.value at c.place_from-at.ensures.onward in
    let place = place_is volume.images.items c.args.set c.place_from-at.result (kept at).images.are_images.ascend contains before onward in
    let mine = own_copies volume c.self.inside.links.copies in
    let used = used_is volume.images volume.counts c.self.inside.next.items mine c.args.set c.place_from-at.result c.index-count.result.now (kept at).images (kept at).counts place.0 place.1
    c.index-count.ensures in
    let as_long = length-map c.self.inside.links.copies (own (part_of volume)) in
    let narrow = c.slots-facts.ensures.valid.narrow in
    let fits_more = one_more_fits mine c.args.slot c.args.set (omega arith) (unnoted_own (part_of volume) c.self.inside.links.copies c.args.slot free) in
    omega arith

pub overflow_add-volume-2 : goal.overflow_add-volume-2
overflow_add-volume-2 c =
    let volume = c.index_mut-volume.result.now in
    let at = is_at c.self.invariant c.self.view_is c.requires.volume c.index_mut-volume.ensures.value in
    let free = unnoted_row at c.args.slot c.slots-facts.ensures.valid c.requires.unnoted in
    let mine = own_copies volume c.self.inside.links.copies in
    let as_long = length-map c.self.inside.links.copies (own (part_of volume)) in
    let narrow = c.slots-facts.ensures.valid.narrow in
    let used = (kept at).used in
    let fits_more = noted_fits mine c.args.slot (copy_of c.args.set c.args.block) (omega arith) (unnoted_own (part_of volume) c.self.inside.links.copies c.args.slot free) in
    omega arith

pub invariant_of-self : goal.invariant_of-self
invariant_of-self c =
    let volume = c.index_mut-volume.result.now in
    let at = is_at c.self.invariant c.self.view_is c.requires.volume c.index_mut-volume.ensures.value in
    let contains = subst (λ (m : MapValue). Contains m.images c.args.set) (here at) c.requires.image in
    let low = subst (λ (m : MapValue). c.args.block < m.blocks) (here at) c.requires.in_range in
    let free = unnoted_row at c.args.slot c.slots-facts.ensures.valid c.requires.unnoted in
    let before = rw c.deref.ensures.value at c.place_from-at.ensures.before in
    let onward = rw c.deref.ensures.value at c.place_from-at.ensures.onward in
    let place = place_is volume.images.items c.args.set c.place_from-at.result (kept at).images.are_images.ascend contains before onward in
    rw c.note.ensures
    (KeepsGroup-noted at c.args.set c.args.block c.args.slot low free c.place_from-at.result c.index-count.result.now _ contains place.0 place.1 c.index-count.ensures refl (omega arith))

pub returns : goal.returns
returns c =
    let volume = c.index_mut-volume.result.now in
    let at = is_at c.self.invariant c.self.view_is c.requires.volume c.index_mut-volume.ensures.value in
    let low = subst (λ (m : MapValue). c.args.block < m.blocks) (here at) c.requires.in_range in
    let free = unnoted_row at c.args.slot c.slots-facts.ensures.valid c.requires.unnoted in
    rw c.note.ensures (maps_noted at c.args.set c.args.block c.args.slot low free _ _)

use Rattle.std.proofs.Common.{◌∙◌, Bool, cond, ap, arith}
use Rattle.std.specs.List.{insert}
use Rattle.std.proofs.lemmas.Option.{slice_get_within}
use Rattle.diff_area.specs.Format.{free}
use Rattle.cow_volume.specs.StandsFor.{record_of}
use Rattle.cow_volume.proofs.Merging.{has_found}
use Rattle.cow_volume.proofs.Ties.{free_slot_is, taken_lowest}
use Rattle.vss_recover.proofs.UsedSlots.{overlay_noted, room_for}
use Rattle.vss_recover.proofs.overlay.Overlay.note.Goals as goal

pub place_from-at-requires : goal.place_from-at-requires
place_from-at-requires g c = rw c.deref.ensures.value c.self.invariant.index.in_order

pub set_record-requires-clause-slot : goal.set_record-requires-clause-slot
set_record-requires-clause-slot g c =
    let low = rw (← c.self.view_is) at c.requires.lowest in
    slice_get_within c.self.inside.area.records c.args.slot free (free_slot_is c.self.inside.area.records c.args.slot low)

pub set_record-requires-clause-used : goal.set_record-requires-clause-used
set_record-requires-clause-used g c = rw (← c.self.view_is) at c.requires.used

pub set_record-requires-clause-once : goal.set_record-requires-clause-once
set_record-requires-clause-once g c =
    let lacks = rw (← c.self.view_is) at c.requires.lacks in
    λ other h. (let has = has_found c.self.inside.area.records other (record_of 0 c.args.set c.args.block) h in absurd cc)

pub invariant_of-self : goal.invariant_of-self
invariant_of-self g c =
    let low = rw (← c.self.view_is) at c.requires.lowest in
    let lacks = rw (← c.self.view_is) at c.requires.lacks in
    let empty = free_slot_is c.self.inside.area.records c.args.slot low in
    let pooled = rw (← c.self.invariant.pool_is) at low in
    let taken = taken_lowest c.take-taken.result c.self.inside.pool c.take-taken.new.self c.args.slot pooled c.take-taken.ensures.lowest c.take-taken.ensures.taken c.take-taken.ensures.none in
    let within = rw c.deref.ensures.value at c.place_from-at.ensures.within in
    let before = rw c.deref.ensures.value at c.place_from-at.ensures.before in
    let onward = rw c.deref.ensures.value at c.place_from-at.ensures.onward in
    let room = room_for c.self.inside.area.volumes c.self.inside.area.records c.self.inside.entries c.self.inside.pool c.args.set c.args.block c.args.slot c.place_from-at.result c.self.invariant
    lacks empty c.ranges.set.fits within before onward in
    let is_ok = c.insert.ensures.succeeds (omega arith) in
    let items = c.insert.ensures.items
    ∙ ap (λ (b : Bool). cond b (insert c.self.inside.entries.items c.place_from-at.result (record { block = c.args.block; set = c.args.set; slot = c.args.slot })) c.self.inside.entries.items) is_ok in
    rw c.set_record.ensures
    (overlay_noted c.self.inside.area.volumes c.self.inside.area.records c.self.inside.entries c.insert.new.self c.self.inside.pool c.take-taken.new.self c.args.set c.args.block c.args.slot
    c.place_from-at.result c.self.invariant lacks empty c.requires.used.set c.ranges.set.fits within before onward items c.insert.ensures.capacity taken)

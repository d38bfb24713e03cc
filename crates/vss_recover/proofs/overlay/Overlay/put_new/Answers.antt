use Rattle.std.proofs.Common.{◌≡◌, ap, map, refl, Some}
use Rattle.std.specs.Prelude.{slice_get}
use Rattle.std.proofs.lemmas.Option.{slice_get_within}
use Rattle.slot_pool.specs.Slots.{IsLowestFree, free_count}
use Rattle.diff_area.specs.Format.{free, is_free}
use Rattle.cow_volume.proofs.Ties.{free_slot_is, full_if}
use Rattle.vss_recover.proofs.Overlays.{no_room, not_put, put_first, room_if_free}
use Rattle.vss_recover.proofs.overlay.Overlay.put_new.Goals as goal

pub write_slot-requires-clause-slot : goal.write_slot-requires-clause-slot
write_slot-requires-clause-slot g c =
    let low = rw c.self.invariant.pool_is at c.in-Some.ensures.lowest in
    rw (← c.self.view_is) (slice_get_within c.self.inside.area.records c.in-Some.slot free (free_slot_is c.self.inside.area.records c.in-Some.slot low))

pub note-requires-clause-used : goal.note-requires-clause-used
note-requires-clause-used g c = rw c.in-Ok.ensures.volumes c.requires.used

pub note-requires-clause-lacks : goal.note-requires-clause-lacks
note-requires-clause-lacks g c = rw c.in-Ok.ensures.records c.requires.lacks

pub note-requires-clause-lowest : goal.note-requires-clause-lowest
note-requires-clause-lowest g c =
    let low = rw c.self.invariant.pool_is at c.in-Some.ensures.lowest in
    let now : IsLowestFree (map is_free c.args.self.now.records) c.in-Some.slot = rw (← c.self.view_is) low in
    rw c.in-Ok.ensures.records now

pub returns-in-Ok : goal.returns-in-Ok
returns-in-Ok g c =
    let low = rw c.self.invariant.pool_is at c.in-Some.ensures.lowest in
    let empty : slice_get c.args.self.now.records c.in-Some.slot ≡ Some free = rw (← c.self.view_is) (free_slot_is c.self.inside.area.records c.in-Some.slot low) in
    put_first g.D.Device c.args.self.now c.write_slot.new.self c.note.new.self c.args.set c.args.block c.in-Some.slot c.args.bytes.now empty
    c.requires.lacks c.in-Ok.ensures c.note.ensures

pub returns-in-Err : goal.returns-in-Err
returns-in-Err g c =
    let low = rw c.self.invariant.pool_is at c.in-Some.ensures.lowest in
    let empty : slice_get c.args.self.now.records c.in-Some.slot ≡ Some free = rw (← c.self.view_is) (free_slot_is c.self.inside.area.records c.in-Some.slot low) in
    not_put g.D.Device c.args.self.now c.write_slot.new.self c.args.set c.args.block c.in-Some.slot c.args.bytes.now c.in-Err.fault
    (room_if_free c.args.self.now.records c.args.set c.args.block c.in-Some.slot empty c.requires.lacks) c.in-Err.ensures

pub returns-in_default : goal.returns-in_default
returns-in_default g c =
    let lacks = rw (← c.self.view_is) at c.requires.lacks in
    let none : free_count c.self.inside.pool ≡ 0 = c.in_default.ensures.none.0 refl in
    let full = full_if c.self.inside.area.records (free_count c.self.inside.pool) (ap free_count c.self.invariant.pool_is) none in
    rw (← c.self.view_is) (no_room c.self.inside.area.records c.args.set c.args.block lacks full, refl)

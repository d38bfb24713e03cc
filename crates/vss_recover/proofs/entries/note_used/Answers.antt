use Rattle.std.proofs.Common.{◌≤◌, length, arith}
use Rattle.vss_recover.proofs.TakenUp.{index_begun, index_all, noted_next}
use Rattle.vss_recover.proofs.entries.note_used.Goals as goal

pub note_if_used-requires-clause-order : goal.note_if_used-requires-clause-order
note_if_used-requires-clause-order g c = c.loop-slot.invariant.noted.index.in_order

pub note_if_used-requires-clause-room : goal.note_if_used-requires-clause-room
note_if_used-requires-clause-room g c =
    let few = c.loop-slot.invariant.noted.few in
    let room = c.loop-slot.invariant.room in
    omega arith

pub loop-slot-init : goal.loop-slot-init
loop-slot-init g c = record {
  noted = record { index = index_begun c.args.entries.now.items c.args.area.now.records c.requires.none; few = rw c.requires.none (omega arith) };
  room = c.requires.room;
}

pub loop-slot-preserved : goal.loop-slot-preserved
loop-slot-preserved g c = record {
  noted = noted_next c.args.area.now.volumes c.args.area.now.records c.loop-slot.slot c.record_at.result c.loop-slot.entries.items c.note_if_used.new.entries.items c.requires.one
      c.slots-slot-end.ensures.valid c.record_at.ensures
      c.note_if_used.ensures.free c.note_if_used.ensures.noted c.loop-slot.invariant.noted;
  room = let room = c.loop-slot.invariant.room in let more = c.note_if_used.ensures.room in omega arith;
}

pub returns-clause-index : goal.returns-clause-index
returns-clause-index g c =
    let past : length c.args.area.now.records ≤ c.loop-slot.slot = (let test = c.loop-slot-test.false in let end = c.slots-slot-end.ensures.slots in omega arith) in
    index_all c.loop-slot.entries.items c.args.area.now.records c.loop-slot.slot past c.loop-slot.invariant.noted.index

use Rattle.std.proofs.Common.{◌∙◌, sym, arith}
use Rattle.diff_area.specs.Format.{is_free}
use Rattle.cow_volume.specs.Resuming.{used}
use Rattle.cow_volume.proofs.TakingUp.{slot_given, slot_kept, pool_all, is_taken}
use Rattle.cow_volume.proofs.resuming.give_free_slots.Goals as goal
use Rattle.cow_volume.proofs.resuming.give_free_slots.Goals.{then-is_free, else-is_free}

pub give-requires : goal.give-requires
give-requires g c = is_taken c.args.area.now.records c.loop-slot.slot c.record_at.result c.loop-slot.pool c.record_at.ensures c.loop-slot.invariant

pub loop-slot-preserved : goal.loop-slot-preserved
loop-slot-preserved g c = elim c.if-is_free.branch [
  | then-is_free w ↦ rw w.pool-is
      (slot_given c.args.area.now.records c.loop-slot.slot c.record_at.result c.loop-slot.pool w.give.new.self c.record_at.ensures
      (sym c.is_free.ensures ∙ w.if-is_free.true) c.loop-slot.invariant w.give.ensures)
  | else-is_free w ↦ rw w.pool-is
      (slot_kept c.args.area.now.records c.loop-slot.slot c.record_at.result c.loop-slot.pool c.record_at.ensures (sym c.is_free.ensures ∙ w.if-is_free.false) c.loop-slot.invariant)
]

pub returns : goal.returns
returns g c =
    let test = c.loop-slot-test.false in
    let end = c.slots-slot-end.ensures.slots in
    pool_all is_free used c.loop-slot.slot c.args.area.now.records c.loop-slot.pool (omega arith) c.loop-slot.invariant

use Rattle.std.proofs.Common.{arith}
use Rattle.cow_volume.specs.Resuming.{used, unused}
use Rattle.cow_volume.proofs.Rows.{get_inside}
use Rattle.cow_volume.proofs.TakingUp.{slot_taken, pool_all}
use Rattle.cow_volume.proofs.resuming.take_slots.Goals as goal

pub loop-slot-preserved : goal.loop-slot-preserved
loop-slot-preserved g c =
    let test = c.loop-slot-test.true in
    let end = c.slots-slot-end.ensures.slots in
    let at = get_inside c.args.area.now.records c.loop-slot._slot (omega arith) in
    slot_taken c.args.area.now.records c.loop-slot._slot at.0 c.take.result c.loop-slot.pool c.take.new.self at.1 c.loop-slot.invariant c.take.ensures.lowest c.take.ensures.taken c.take.ensures.none

pub returns : goal.returns
returns g c =
    let test = c.loop-slot-test.false in
    let end = c.slots-slot-end.ensures.slots in
    pool_all used unused c.loop-slot._slot c.args.area.now.records c.loop-slot.pool (omega arith) c.loop-slot.invariant

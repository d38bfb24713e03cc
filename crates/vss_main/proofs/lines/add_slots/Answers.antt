use Rattle.vss_main.proofs.Listed.{slots_begin, slots_more}
use Rattle.vss_main.proofs.lines.add_slots.Goals as goal

pub loop-slot-init : goal.loop-slot-init
loop-slot-init c = slots_begin c.args.out.now.bytes c.args.view.now

pub loop-slot-preserved : goal.loop-slot-preserved
loop-slot-preserved c = slots_more c.args.out.now.bytes c.loop-slot.out.bytes c.add_slot.new.out.bytes c.args.view.now c.loop-slot.slot c.loop-slot.invariant c.in_ok-add_slot.ensures

-- The lines of the slots so far.
use Rattle.std.proofs.Common.{◌≡◌, ◌++◌}
use Rattle.vss_main.specs.Inspected.{slot_lines}
use Rattle.vss_main.proofs.lines.add_slots.Given as goal

abbrev pub invariant-loop-slot : goal.invariant-loop-slot
invariant-loop-slot l = l.out.bytes ≡ l.initial.out.bytes ++ slot_lines l.view l.slot

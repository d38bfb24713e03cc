use Rattle.std.proofs.Common.{◌≡◌}
use Rattle.diff_area.specs.Format.{is_free}
use Rattle.cow_volume.specs.Resuming.{mixed, used}
use Rattle.cow_volume.proofs.resuming.give_free_slots.Given as goal

-- the slots so far are as their records say
abbrev pub invariant-loop-slot : goal.invariant-loop-slot
invariant-loop-slot g l = l.pool ≡ mixed is_free used l.slot l.area.records

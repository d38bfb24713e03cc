use Rattle.std.proofs.Common.{◌≡◌}
use Rattle.cow_volume.specs.Resuming.{mixed, used, unused}
use Rattle.cow_volume.proofs.resuming.take_slots.Given as goal

-- the slots so far are taken
abbrev pub invariant-loop-slot : goal.invariant-loop-slot
invariant-loop-slot g l = l.pool ≡ mixed used unused l._slot l.area.records

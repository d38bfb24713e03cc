use Rattle.std.proofs.Common.{vec_capacity}
use Rattle.provider.proofs.Flat.{IsMoving}
use Rattle.provider.proofs.ending.add_all.Given as goal

abbrev pub invariant-loop-device : goal.invariant-loop-device
invariant-loop-device g l = IsMoving l.fn.list.items l.fn.devices.items l.list.items l.device-iterator.rest.items (vec_capacity l.fn.list) (vec_capacity l.list)

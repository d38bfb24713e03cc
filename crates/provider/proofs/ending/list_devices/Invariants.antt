use Rattle.std.proofs.Common.{vec_capacity}
use Rattle.provider.proofs.Flat.{AreMoving}
use Rattle.provider.proofs.ending.list_devices.Given as goal

abbrev pub invariant-loop-group : goal.invariant-loop-group
invariant-loop-group g l = AreMoving l.fn.groups.items l.group-iterator.rest.items l.list.items (vec_capacity l.list)

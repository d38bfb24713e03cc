use Rattle.image_store.proofs.Keeping.{HaveLasted}
use Rattle.image_store.proofs.flushing.flush_each.Given as goal

-- the first devices were flushed
abbrev pub invariant-loop-device : goal.invariant-loop-device
invariant-loop-device g l = HaveLasted g.D.Device l.device-index l.initial.devices l.devices

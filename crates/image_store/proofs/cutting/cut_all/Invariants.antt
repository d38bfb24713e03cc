use Rattle.image_store.proofs.Calls.{IsCutTo}
use Rattle.image_store.proofs.cutting.cut_all.Given as goal

abbrev pub invariant-loop-volume : goal.invariant-loop-volume
invariant-loop-volume g l = IsCutTo g.D.Device.told l.fn.group l.group l.volumes l.set l.volume-index

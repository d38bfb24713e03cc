use Rattle.std.proofs.Common.{take}
use Rattle.image_folder.proofs.Joins.{AreShown}
use Rattle.image_folder.proofs.showing.show_parts.Given as goal

abbrev pub invariant-loop-volume : goal.invariant-loop-volume
invariant-loop-volume g l = AreShown g.D.Device.told l.fn.store l.store
    (g.K.Sink.taken l.fn.sink) (g.K.Sink.taken l.sink) l.which (take l.volume-index l.volumes)

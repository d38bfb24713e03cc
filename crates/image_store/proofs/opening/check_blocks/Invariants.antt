use Rattle.std.proofs.Common.{map}
use Rattle.image_store.specs.Head.{blocks_of}
use Rattle.image_store.specs.Opening.{AreSame}
use Rattle.image_store.proofs.opening.check_blocks.Given as goal

abbrev pub invariant-loop-volume : goal.invariant-loop-volume
invariant-loop-volume g l = record { volumes : AreSame l.area.volumes (blocks_of l.catalog) l.volume; fits : AreSame (map g.D.Device.size l.devices) (blocks_of l.catalog) l.volume }

use Rattle.std.proofs.Common.{◌≡◌}
use Rattle.std.specs.Prelude.{vec_capacity}
use Rattle.cow_volume.specs.Calls.{blocks_at}
use Rattle.image_store.specs.Copying.{AreCopied, IsAreaSame}
use Rattle.image_store.proofs.Calls.{NoneFailed}
use Rattle.image_store.proofs.Passes.{IsWrittenTo}
use Rattle.image_store.proofs.updating.overwrite_blocks.Given as goal

abbrev pub invariant-loop-b : goal.invariant-loop-b
invariant-loop-b g l = record {
  written : IsWrittenTo g.D.Device.told g.I.Device l.fn.group l.group l.fn.input l.input l.v l.differs l.from l.b;
  area : AreCopied l.fn.group l.v l.differs l.from (blocks_at l.fn.group l.v) → IsAreaSame g.D.Device.told l.fn.group l.group;
  room : vec_capacity l.gone ≡ vec_capacity l.fn.gone;
  unfailed : NoneFailed g.D.Device.count g.I.Device.count l.fn.group l.group l.fn.input l.input;
}

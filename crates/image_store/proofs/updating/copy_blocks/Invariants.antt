use Rattle.std.proofs.Common.{◌≡◌}
use Rattle.std.specs.Prelude.{vec_capacity}
use Rattle.cow_volume.specs.Calls.{IsUnfailed}
use Rattle.image_store.specs.Copying.{AreCopiedTo}
use Rattle.image_store.specs.StoreValue.{KeepsPlains}
use Rattle.image_store.proofs.updating.copy_blocks.Given as goal

abbrev pub invariant-loop-b : goal.invariant-loop-b
invariant-loop-b g l = record {
  kept : KeepsPlains g.D.Device.told l.fn.group l.group;
  room : vec_capacity l.gone ≡ vec_capacity l.fn.gone;
  unfailed : IsUnfailed g.D.Device.count l.fn.group l.group;
  copies : AreCopiedTo g.D.Device.told l.fn.group l.group l.v l.differs l.from l.b l.fn.copied l.copied;
}

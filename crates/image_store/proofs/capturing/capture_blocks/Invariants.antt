use Rattle.std.proofs.Common.{◌≡◌, ℕ, List, Some, length}
use Rattle.image_store.specs.Updating.{AreCaptured, HasCaptured}
use Rattle.image_store.specs.Plain.{Plain, volume_in}
use Rattle.image_store.specs.StoreValue.{HasPlains, KeepsPlains}
use Rattle.image_store.proofs.capturing.capture_blocks.Given as goal

abbrev pub invariant-loop-b : goal.invariant-loop-b
invariant-loop-b g l = record {
  kept : KeepsPlains g.D.Device.told l.fn.group l.group;
  told_is : g.I.Device.told l.input ≡ g.I.Device.told l.fn.input;
  size_is : g.I.Device.size l.input ≡ g.I.Device.size l.fn.input;
  room_is : g.S.Device.size l.spool ≡ g.S.Device.size l.fn.spool;
  len : length l.differs ≡ length l.fn.differs;
  captured : (wanted before : List (List ℕ)) (ps : List Plain) → g.I.Device.told l.fn.input ≡ Some wanted → g.S.Device.told l.fn.spool ≡ Some before
      → HasPlains g.D.Device.told l.fn.group ps → AreCaptured l.fn.differs before wanted (volume_in ps l.v).blocks l.from
      → HasCaptured (g.S.Device.told l.spool) l.differs wanted (volume_in ps l.v).blocks l.b;
}

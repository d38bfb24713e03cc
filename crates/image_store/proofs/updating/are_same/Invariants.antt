use Rattle.std.proofs.Common.{◌≡◌, ◌≢◌, take, IsTrue, false}
use Rattle.image_store.proofs.updating.are_same.Given as goal

abbrev pub invariant-loop-at : goal.invariant-loop-at
invariant-loop-at l = record { same : IsTrue l.same → take l.at l.a ≡ take l.at l.b; differ : l.same ≡ false → take l.at l.a ≢ take l.at l.b }

use Rattle.std.proofs.Common.{ℕ, ◌≡◌, ◌<◌, Some}
use Rattle.std.specs.Prelude.{slice_get}
use Rattle.vss_names.specs.Names.{TextValue}
use Rattle.image_store.specs.StoreValue.{AreOthers}
use Rattle.image_store.proofs.naming.has_double.Given as goal

abbrev pub invariant-loop-place : goal.invariant-loop-place
invariant-loop-place l = (v : ℕ) (n : TextValue) → v < l.place → slice_get l.names v ≡ Some n → AreOthers l.names n.bytes v

use Rattle.std.proofs.Common.{ℕ, ◌≡◌, ◌<◌, false, Some}
use Rattle.std.specs.Prelude.{slice_get}
use Rattle.mirror_volume.specs.declared.mirror.Mirror.{Mirror}
use Rattle.mirror_volume.specs.Mirrors.{is_ready}
use Rattle.mirror_volume.proofs.mirror.first_ready.Given as goal

-- none so far is ready
abbrev pub invariant-loop-place : goal.invariant-loop-place
invariant-loop-place g l = (k : ℕ) (m : Mirror _) → k < l.place → slice_get l.mirrors k ≡ Some m → is_ready m ≡ false

use Rattle.std.proofs.Common.{◌≡◌, ℕ, ◌<◌, length, Some}
use Rattle.std.specs.Prelude.{slice_get}
use Rattle.cow_volume.specs.Calls.{sets_at}
use Rattle.image_store.proofs.cutting.first_full.Given as goal

abbrev pub invariant-loop-volume : goal.invariant-loop-volume
invariant-loop-volume g l = (j u : ℕ) → j < l.volume-index → slice_get l.volumes j ≡ Some u → length (sets_at l.group u) < 512

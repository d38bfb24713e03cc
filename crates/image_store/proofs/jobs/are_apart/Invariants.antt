use Rattle.std.proofs.Common.{ℕ, ◌≡◌, ◌≢◌, ◌<◌, Some}
use Rattle.std.specs.Prelude.{slice_get}
use Rattle.image_store.specs.declared.job.Job.{Job}
use Rattle.image_store.proofs.jobs.are_apart.Given as goal

abbrev pub invariant-loop-place : goal.invariant-loop-place
invariant-loop-place g l = (i k : ℕ) (a b : Job g.row.I.Denot) → i < k → k < l.place → slice_get l.jobs.items i ≡ Some a → slice_get l.jobs.items k ≡ Some b
    → a.volume ≢ b.volume

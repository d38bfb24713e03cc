use Rattle.std.proofs.Common.{ℕ, ◌≡◌, ◌≢◌, ◌<◌, Some}
use Rattle.std.specs.Prelude.{slice_get}
use Rattle.image_store.specs.declared.job.Job.{Job}
use Rattle.image_store.proofs.jobs.is_of_first.Given as goal

abbrev pub invariant-loop-place : goal.invariant-loop-place
invariant-loop-place g l = (i : ℕ) (job : Job g.row.I.Denot) → i < l.place → slice_get l.jobs.items i ≡ Some job → job.volume ≢ l.volume

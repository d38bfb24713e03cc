use Rattle.std.proofs.Common.{ℕ, ◌≡◌, ◌<◌, ◌≤◌, length, Some}
use Rattle.std.specs.Prelude.{slice_get}
use Rattle.image_store.specs.Ordering.{aims_of, AreCopiedSoFar, HasMore}
use Rattle.image_store.specs.declared.job.Job.{Job}
use Rattle.image_store.proofs.jobs.copy_jobs.Given as goal

-- the first jobs were gone through, and copies were added
abbrev pub invariant-each : goal.invariant-each
invariant-each g l = record {
  aims : aims_of g.I.Device.told l.job-items ≡ aims_of g.I.Device.told l.fn.jobs.items;
  more : HasMore g.D.Device.told l.fn.store l.store;
  so_far : AreCopiedSoFar l.fn.store.group l.fn.jobs.items → AreCopiedSoFar l.store.group l.job-items;
  ends : (j : ℕ) (job : Job g.row.I.Denot) → j < l.job-index → slice_get l.job-items j ≡ Some job → length job.differs.items ≤ job.at;
}

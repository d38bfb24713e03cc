use Rattle.std.proofs.Common.{◌≡◌}
use Rattle.cow_volume.specs.StandsFor.{GroupValue}
use Rattle.image_store.specs.Ordering.{aims_of, AreApart, IsCopied, IsHeld, IsReady, OfEach}
use Rattle.image_store.specs.Plain.{PlainStore}
use Rattle.image_store.proofs.Orders.{AreWritten}
use Rattle.image_store.proofs.jobs.overwrite_jobs.Given as goal

-- the first volumes were written
abbrev pub invariant-each : goal.invariant-each
invariant-each g l = record {
  aims : aims_of g.I.Device.told l.job-items ≡ aims_of g.I.Device.told l.fn.jobs.items;
  written : (committed : GroupValue g.row.D.Denot) (p : PlainStore) → AreApart (aims_of g.I.Device.told l.fn.jobs.items)
      → OfEach (IsReady p) (aims_of g.I.Device.told l.fn.jobs.items)
      → OfEach (IsCopied committed) (aims_of g.I.Device.told l.fn.jobs.items) → IsHeld g.D.Device.told committed l.fn.store p
      → AreWritten g.D.Device.told (aims_of g.I.Device.told l.fn.jobs.items) committed l.store p l.job-index;
}

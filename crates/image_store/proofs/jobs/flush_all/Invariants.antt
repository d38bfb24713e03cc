use Rattle.image_store.proofs.Orders.{AreFlushed}
use Rattle.image_store.proofs.jobs.flush_all.Given as goal

-- the first volumes were flushed
abbrev pub invariant-loop-volume : goal.invariant-loop-volume
invariant-loop-volume g l = AreFlushed g.D.Device l.volume l.initial.store l.store

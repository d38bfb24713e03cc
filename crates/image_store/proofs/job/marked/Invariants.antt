use Rattle.std.specs.Prelude.{◌≡◌, ◌≤◌, ◌+◌}
use Rattle.image_store.specs.Ordering.{marked_in}
use Rattle.image_store.proofs.job.marked.Given as goal

-- those before the block are counted
abbrev pub invariant-loop-block : goal.invariant-loop-block
invariant-loop-block l = (l.fn.from ≤ l.fn.to → l.block ≤ l.fn.to) × (marked_in l.block l.fn.differs ≡ marked_in l.fn.from l.fn.differs + l.count)

use Rattle.slot_pool.specs.Slots.{free_count}
use Rattle.mirror_volume.specs.Stale.{HoldsStale}
use Rattle.mirror_volume.proofs.stale_blocks.lowest_in.Given as goal

-- each stale block is in the queue still
abbrev pub invariant-loop-block : goal.invariant-loop-block
invariant-loop-block l = HoldsStale l.stale l.queue

abbrev pub decreases-loop-block : goal.decreases-loop-block
decreases-loop-block l = free_count l.queue

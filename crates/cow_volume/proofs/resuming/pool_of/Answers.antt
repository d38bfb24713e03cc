use Rattle.cow_volume.proofs.TakingUp.{pool_begun}
use Rattle.cow_volume.proofs.resuming.pool_of.Goals as goal

pub take_slots-requires : goal.take_slots-requires
take_slots-requires g c = pool_begun c.args.area.now.records c.in_ok-pool.pool c.slots.result c.slots.ensures.slots c.in_ok-pool.ensures

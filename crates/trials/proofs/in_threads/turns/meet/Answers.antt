use denote.Param.Send.{sendable}
use Rattle.std.proofs.Crossing.{crosses}
use Rattle.turn_cell.proofs.Crossing.{turns_cross}
use Rattle.trials.proofs.in_threads.turns.meet.Goals as goal

pub join-stepping-requires-send-F : goal.join-stepping-requires-send-F
join-stepping-requires-send-F g c κs within = let r = c.type_bounds.sync-R in search (sendable, crosses, turns_cross) depth 40

pub join-stepping-requires-send-A : goal.join-stepping-requires-send-A
join-stepping-requires-send-A g c κs within = search (sendable, crosses, turns_cross) depth 40

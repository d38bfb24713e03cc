use denote.Param.Send.{sendable}
use Rattle.std.proofs.Crossing.{crosses}
use Rattle.turn_cell.proofs.Crossing.{turns_cross}
use Rattle.trials.proofs.in_threads.turns.all_call.Goals as goal

pub for_each_mut-requires-send-T : goal.for_each_mut-requires-send-T
for_each_mut-requires-send-T g c κs within = search (sendable, crosses, turns_cross) depth 30

pub for_each_mut-requires-sync-F : goal.for_each_mut-requires-sync-F
for_each_mut-requires-sync-F g c κs within = let r = c.type_bounds.sync-R in search (sendable, crosses, turns_cross) depth 40

use denote.Param.Send.{sendable}
use Rattle.std.proofs.Crossing.{crosses}
use Rattle.turn_cell.proofs.Crossing.{turns_cross}
use Rattle.vss_play.proofs.play.Play.TheSendSync.{the_send}
use Rattle.vss_play.proofs.in_threads.act_all.Goals as goal

pub for_each_mut-requires-send-T : goal.for_each_mut-requires-send-T
for_each_mut-requires-send-T g c κs within =
    let p = the_send _ g.D.Device c.type_bounds.send-D in search (sendable, crosses, turns_cross) depth 40

pub for_each_mut-requires-sync-F : goal.for_each_mut-requires-sync-F
for_each_mut-requires-sync-F g c κs within =
    let p = the_send _ g.D.Device c.type_bounds.send-D in
    let r = c.type_bounds.sync-R in
    let h = c.type_bounds.sync-G in
    search (sendable, crosses, turns_cross) depth 50

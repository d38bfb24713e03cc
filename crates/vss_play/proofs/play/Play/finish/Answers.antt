use Rattle.vss_play.proofs.Areas.{stands_by}
use Rattle.vss_play.proofs.Ended.{ended_as, reported, unreported}
use Rattle.vss_play.proofs.play.Play.finish.Goals as goal

pub close_all-requires : goal.close_all-requires
close_all-requires g c = record {
  stands = stands_by g.D.Device.told c.self.inside.scenario c.self.inside.world c.self.inside.cursors.items c.self.inside.trail.moves c.self.inside.lines.bytes
      c.turns_come_to_an_end.ensures.short c.self.invariant.play;
  ready = c.ready_digests-ready.ensures;
}

pub ready_digests-ready-requires-clause-stands : goal.ready_digests-ready-requires-clause-stands
ready_digests-ready-requires-clause-stands g c = λ κs within. stands_by g.D.Device.told c.self.inside.scenario c.self.inside.world c.self.inside.cursors.items
    c.self.inside.trail.moves c.self.inside.lines.bytes c.turns_come_to_an_end.ensures.short c.self.invariant.play

pub returns-clause-ended : goal.returns-clause-ended
returns-clause-ended g c =
    ended_as g.D.Device c.self.inside.scenario c.self.inside.world c.close_all.new.world c.self.inside.cursors.items c.self.inside.trail.moves
    c.self.inside.lines.bytes c.args.self c.into_devices-2.result.items _ _ _ _ _ _ c.self.view_is c.self.invariant.play c.in-Ok.ensures.ending
    c.into_devices-2.ensures c.give_all-2.ensures.kept c.give_all-2.ensures.count
    (reported g.D.Device c.self.inside.scenario c.self.inside.world c.close_all.new.world c.self.inside.cursors.items c.self.inside.trail.moves
    c.self.inside.lines.bytes c.close_all.new.out c.self.invariant.play c.in-Ok.ensures.ending c.in-Ok.ensures.closed c.in-Ok.ensures.areas c.in-Ok.ensures.counts
    c.in-Ok.ensures.left)

pub returns-in-Err-clause-ended : goal.returns-in-Err-clause-ended
returns-in-Err-clause-ended g c =
    ended_as g.D.Device c.self.inside.scenario c.self.inside.world c.close_all.new.world c.self.inside.cursors.items c.self.inside.trail.moves
    c.self.inside.lines.bytes c.args.self c.into_devices.result.items _ _ _ _ _ _ c.self.view_is c.self.invariant.play c.in-Err.ensures.ending
    c.into_devices.ensures c.give_all.ensures.kept c.give_all.ensures.count
    (unreported g.D.Device c.self.inside.scenario c.self.inside.trail.moves c.self.inside.world.devices c.close_all.new.world.devices c.self.inside.lines.bytes
    c.in-Err.fault c.in-Err.ensures.counts)

use Rattle.std.proofs.Common.{refl}
use Rattle.vss_play.proofs.Areas.{stands_by, digests_told}
use Rattle.vss_play.proofs.ClosingLines.{play_ending}
use Rattle.vss_play.proofs.Finishing.{play_kept}
use Rattle.vss_play.proofs.play.Play.digests.Goals as goal

pub digest_all-requires-clause-stands : goal.digest_all-requires-clause-stands
digest_all-requires-clause-stands g c = stands_by g.D.Device.told c.self.inside.scenario c.self.inside.world c.self.inside.cursors.items
    c.self.inside.trail.moves c.self.inside.lines.bytes c.turns_come_to_an_end.ensures.short c.self.invariant.play

pub digest_all-requires-clause-ready : goal.digest_all-requires-clause-ready
digest_all-requires-clause-ready g c = c.ready_digests-ready.ensures

pub ready_digests-ready-requires-clause-stands : goal.ready_digests-ready-requires-clause-stands
ready_digests-ready-requires-clause-stands g c = λ κs within. stands_by g.D.Device.told c.self.inside.scenario c.self.inside.world c.self.inside.cursors.items
    c.self.inside.trail.moves c.self.inside.lines.bytes c.turns_come_to_an_end.ensures.short c.self.invariant.play

pub invariant_of-self : goal.invariant_of-self
invariant_of-self g c = record {
  play = play_ending g.D.Device c.self.inside.scenario c.self.inside.world c.digest_all.new.world _ _ _ c.self.invariant.play c.digest_all.ensures.ending;
  going_is = c.self.invariant.going_is;
}

pub invariant_of-self-2 : goal.invariant_of-self-2
invariant_of-self-2 g c = record {
  play = play_ending g.D.Device c.self.inside.scenario c.self.inside.world c.digest_all.new.world _ _ _ c.self.invariant.play c.digest_all.ensures.ending;
  going_is = c.self.invariant.going_is;
}

pub returns-clause-digests : goal.returns-clause-digests
returns-clause-digests g c = digests_told _ _ c.self.inside.scenario c.self.inside.trail.moves _ c.digest_all.ensures.ending.tells c.in_ok-digest_all.ensures.digests

pub returns-in_err-digest_all-clause-kept : goal.returns-in_err-digest_all-clause-kept
returns-in_err-digest_all-clause-kept g c = play_kept g.D.Device.told c.self.inside.scenario c.digest_all.new.world c.self.inside.cursors.items
    c.self.inside.trail.moves c.self.inside.lines.bytes _ refl
    (play_ending g.D.Device c.self.inside.scenario c.self.inside.world c.digest_all.new.world c.self.inside.cursors.items c.self.inside.trail.moves
    c.self.inside.lines.bytes c.self.invariant.play c.digest_all.ensures.ending)

pub returns-clause-kept : goal.returns-clause-kept
returns-clause-kept g c = play_kept g.D.Device.told c.self.inside.scenario c.digest_all.new.world c.self.inside.cursors.items c.self.inside.trail.moves c.self.inside.lines.bytes _ refl
    (play_ending g.D.Device c.self.inside.scenario c.self.inside.world c.digest_all.new.world c.self.inside.cursors.items c.self.inside.trail.moves
    c.self.inside.lines.bytes c.self.invariant.play c.digest_all.ensures.ending)

use Rattle.std.proofs.Common.{refl, arith}
use Rattle.vss_recover.proofs.InParts.{value_of, blocks_kept, below_if_ok}
use Rattle.vss_recover.proofs.Standing.{quiet_stands}
use Rattle.vss_recover.proofs.Taken.{shown_slot}
use Rattle.vss_recover.proofs.recover_volume.RecoverVolume.read_image_into.Goals as goal
use Rattle.vss_recover.proofs.recover_volume.RecoverVolume.read_image_into.Goals.{in-Ok, in-Err}

pub returns-in-None-clause-shown : goal.returns-in-None-clause-shown
returns-in-None-clause-shown g c =
    rw (← c.self.view_is)
    (below_if_ok g.D.Device.told
    (value_of c.self.inside.volume c.self.inside.overlay c.self.inside.window c.self.inside.claims.items c.self.inside.finals.items) c.args.set c.args.block c.read_image_into.new.out
    c.read_image_into.result (λ some. c.in-None.ensures.none refl some)
    (let l = c.if-block-blocks.false in let n = c.blocks-2.ensures in omega arith) c.read_image_into.ensures.shown)

pub returns-in-None-clause-stands : goal.returns-in-None-clause-stands
returns-in-None-clause-stands g c =
    rw (← c.self.view_is) (λ h stood. quiet_stands g.D.Device.told (value_of c.self.inside.volume c.self.inside.overlay c.self.inside.window c.self.inside.claims.items c.self.inside.finals.items)
    (value_of c.read_image_into.new.self c.self.inside.overlay c.self.inside.window c.self.inside.claims.items c.self.inside.finals.items) h stood
    (c.read_image_into.ensures.stands h.volume stood.volume)
    (blocks_kept c.self.inside.volume c.read_image_into.new.self c.read_image_into.ensures.quiet.kept.volumes) refl refl refl refl refl)

pub returns-after-read_slot-clause-shown : goal.returns-after-read_slot-clause-shown
returns-after-read_slot-clause-shown g c = elim c.match-read_slot.branch [
  | in-Ok w ↦ rw w.result-is
      (rw (← c.self.view_is)
      (shown_slot g.D.Device.told
      (value_of c.self.inside.volume c.self.inside.overlay c.self.inside.window c.self.inside.claims.items c.self.inside.finals.items) c.args.set c.args.block c.in-Some.slot c.read_slot.new.out
      c.in-Some.ensures.found w.in-Ok.ensures.block))
  | in-Err w ↦ rw w.result-is tt
]

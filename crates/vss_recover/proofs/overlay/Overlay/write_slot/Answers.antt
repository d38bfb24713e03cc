use Rattle.std.proofs.Common.{◌∙◌, ap, length, refl}
use Rattle.diff_area.specs.Format.{place_of_slot}
use Rattle.cow_volume.specs.Steps.{put as put_bytes}
use Rattle.vss_recover.proofs.Overlays.{written_to, not_written}
use Rattle.vss_recover.proofs.overlay.Overlay.write_slot.Goals as goal
use Rattle.vss_recover.proofs.overlay.Overlay.write_slot.Goals.{in-Ok, in-Err}

pub returns : goal.returns
returns g c = elim c.match-copy_in.branch [
  | in-Ok w ↦ rw w.result-is
      (rw (← c.self.view_is) (written_to g.D.Device c.self.inside.area c.copy_in.new.self c.args.slot c.args.bytes.now w.in-Ok.ensures.table
      (w.in-Ok.ensures.copied
      ∙ ap (λ x. put_bytes (place_of_slot (length c.self.inside.area.records) c.args.slot) x
      (g.D.Device.told c.self.inside.area.device)) c.new.ensures) w.in-Ok.ensures.cause.same w.in-Ok.ensures.cause.later))
  | in-Err w ↦ rw w.result-is (rw (← c.self.view_is) (
    refl,
    not_written g.D.Device c.self.inside.area c.copy_in.new.self w.in-Err.ensures.table w.in-Err.ensures.cause.later w.in-Err.ensures.kept,
    w.in-Err.ensures.cause.rose refl,
  ))
]

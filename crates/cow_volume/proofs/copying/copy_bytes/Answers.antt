use Rattle.std.proofs.Common.{ℕ, List, ◌∙◌, ap, refl}
use Rattle.cow_volume.specs.Steps.{put}
use Rattle.diff_area.specs.Format.{place_of_slot}
use Rattle.std.proofs.Common.{length}
use Rattle.cow_volume.proofs.copying.copy_bytes.Goals as goal

pub returns-in-Ok : goal.returns-in-Ok
returns-in-Ok g c =
    let table = c.in-Ok.ensures.table in
    let old = c.args.copies.now in (
      record {
        device = record {
          tells = c.in-Ok.ensures.copied ∙ ap (λ (bytes : List ℕ). put (place_of_slot (length old.area.records) c.args.slot) bytes (g.D.Device.told old.area.device)) c.new.ensures;
          size_is = table.size_is;
          lends = table.lends;
          later = c.in-Ok.ensures.cause.later;
        };
        volumes = table.volumes;
        records = table.records;
        images = c.in-Ok.ensures.images;
      },
      c.in-Ok.ensures.cause.same,
    )

pub returns-in-Err : goal.returns-in-Err
returns-in-Err g c =
    let table = c.in-Err.ensures.table in
    record {
      area_on = record {
        device = record { tells = c.in-Err.ensures.kept; size_is = table.size_is; lends = table.lends; later = c.in-Err.ensures.cause.later };
        volumes = table.volumes;
        records = table.records;
        images = c.in-Err.ensures.images;
      };
      cause_is = refl;
      rose = c.in-Err.ensures.cause.rose refl;
    }

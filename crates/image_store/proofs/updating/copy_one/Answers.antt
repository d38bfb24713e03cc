use Rattle.std.proofs.Common.{ℕ, List, ap, sym, subst, ◌∙◌}
use Rattle.std.specs.Prelude.{slice_get}
use Rattle.std.proofs.lemmas.Result.{err_from_is_err_and}
use Rattle.diff_area.specs.Format.{used_in}
use Rattle.diff_map.specs.Copies.{AreImages}
use Rattle.cow_volume.specs.Calls.{sets_in}
use Rattle.block_data.specs.BlockBytes.{payload_bytes}
use Rattle.image_store.proofs.Calls.{copy_kept, put_volumes, device_after, device_of}
use Rattle.image_store.proofs.Copied.{area_kept, area_quiet, keeps_then, put_has, put_keeps, put_more}
use Rattle.image_store.proofs.Plains.{quiet_kept}
use Rattle.image_store.proofs.updating.copy_one.Goals as goal
use Rattle.cow_volume.proofs.Kept.{unfailed_further}

pub returns-in_err-read_volume-clause-kept : goal.returns-in_err-read_volume-clause-kept
returns-in_err-read_volume-clause-kept g c =
    quiet_kept g.D.Device c.args.group.now c.read_volume.new.group c.read_volume.ensures.quiet

pub returns-in_err-read_volume-clause-failed : goal.returns-in_err-read_volume-clause-failed
returns-in_err-read_volume-clause-failed g c =
    let p = err_from_is_err_and c.from_residual.result c.from_residual.ensures.1 in
    rw (p.1, p.2) (device_of g.D.Device.count c.args.v c.args.b c.args.group.now c.read_volume.new.group c.in_err-read_volume.field-0.0 c.requires.in_range c.in_err-read_volume.ensures.cause)

pub returns-in_err-put-clause-kept : goal.returns-in_err-put-clause-kept
returns-in_err-put-clause-kept g c =
    copy_kept g.D.Device c.args.group.now c.read_volume.new.group c.put.new.self c.args.v c.args.b (payload_bytes c.payload.result.now)
    c.put.result c.requires.volume c.requires.in_range c.read_volume.ensures.quiet (rw c.payload.ensures c.in_ok-read_volume.ensures.now) c.put.ensures.put

pub returns-in_err-put-clause-failed : goal.returns-in_err-put-clause-failed
returns-in_err-put-clause-failed g c =
    let p = err_from_is_err_and c.from_residual-in_err-put.result c.from_residual-in_err-put.ensures.1 in
    rw (p.1, p.2) (device_after g.D.Device.count c.args.v c.args.group.now c.read_volume.new.group c.put.new.self c.in_err-put.field-0.0 c.in_ok-read_volume.ensures.same c.in_err-put.ensures.put.rose)

pub returns-clause-kept : goal.returns-clause-kept
returns-clause-kept g c =
    copy_kept g.D.Device c.args.group.now c.read_volume.new.group c.put.new.self c.args.v c.args.b (payload_bytes c.payload.result.now)
    c.put.result c.requires.volume c.requires.in_range c.read_volume.ensures.quiet (rw c.payload.ensures c.in_ok-read_volume.ensures.now) c.put.ensures.put

pub returns-clause-same : goal.returns-clause-same
returns-clause-same g c = unfailed_further g.D.Device.count c.args.group.now c.read_volume.new.group c.put.new.self c.in_ok-read_volume.ensures.same c.in_ok-put.ensures.put.unfailed

pub returns-in_err-read_volume-clause-copies : goal.returns-in_err-read_volume-clause-copies
returns-in_err-read_volume-clause-copies g c =
    area_kept g.D.Device.told c.args.group.now c.read_volume.new.group (area_quiet g.D.Device c.args.group.now c.read_volume.new.group c.read_volume.ensures.quiet)

pub returns-in_err-read_volume-clause-none : goal.returns-in_err-read_volume-clause-none
returns-in_err-read_volume-clause-none g c =
    let p = err_from_is_err_and c.from_residual.result c.from_residual.ensures.1 in
    rw p.1 c.read_volume.ensures.quiet.records

pub returns-in_err-put-clause-copies : goal.returns-in_err-put-clause-copies
returns-in_err-put-clause-copies g c =
    keeps_then g.D.Device.told c.args.group.now c.read_volume.new.group c.put.new.self
    (area_kept g.D.Device.told c.args.group.now c.read_volume.new.group (area_quiet g.D.Device c.args.group.now c.read_volume.new.group c.read_volume.ensures.quiet))
    (put_keeps g.D.Device.told c.read_volume.new.group c.put.new.self c.args.v c.args.b c.put.result c.put.ensures.area c.put.ensures.images
    (put_volumes g.D.Device c.read_volume.new.group c.put.new.self c.args.v _ c.put.result c.put.ensures.put))

pub returns-in_err-put-clause-none : goal.returns-in_err-put-clause-none
returns-in_err-put-clause-none g c =
    let p = err_from_is_err_and c.from_residual-in_err-put.result c.from_residual-in_err-put.ensures.1 in
    rw p.1 (c.in_err-put.ensures.area.records ∙ c.read_volume.ensures.quiet.records)

pub returns-clause-copies : goal.returns-clause-copies
returns-clause-copies g c =
    keeps_then g.D.Device.told c.args.group.now c.read_volume.new.group c.put.new.self
    (area_kept g.D.Device.told c.args.group.now c.read_volume.new.group (area_quiet g.D.Device c.args.group.now c.read_volume.new.group c.read_volume.ensures.quiet))
    (put_keeps g.D.Device.told c.read_volume.new.group c.put.new.self c.args.v c.args.b c.put.result c.put.ensures.area c.put.ensures.images
    (put_volumes g.D.Device c.read_volume.new.group c.put.new.self c.args.v _ c.put.result c.put.ensures.put))

pub returns-clause-has : goal.returns-clause-has
returns-clause-has g c = put_has g.D.Device.told c.read_volume.new.group c.put.new.self c.args.v c.args.b _ c.in_ok-put.ensures.area c.put.ensures.images

pub returns-clause-more : goal.returns-clause-more
returns-clause-more g c =
    let quiet = c.read_volume.ensures.quiet in
    let are = subst AreImages (c.images-facts.ensures.images ∙ sym (ap (λ (i : List (List ℕ)). sets_in (slice_get i c.args.v)) quiet.images)) c.images-facts.ensures.rise in
    let more = put_more g.D.Device.told c.read_volume.new.group c.put.new.self c.args.v c.args.b _ c.in_ok-put.ensures.area are in
    rw (c.used_all-before.ensures.records, c.used_all.ensures.records, ← ap used_in quiet.records) more

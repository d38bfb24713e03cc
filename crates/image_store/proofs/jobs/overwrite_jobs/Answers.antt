use Rattle.std.proofs.Common.{List, ◌<◌, length, arith, ap, sym, ◌∙◌}
use Rattle.std.specs.Prelude.{slice_get}
use Rattle.std.proofs.lemmas.List.{length-map}
use Rattle.std.proofs.lemmas.Option.{slice_get-get_or}
use Rattle.cow_volume.proofs.Group.{slice_get_map}
use Rattle.image_store.specs.Ordering.{aim_of, aims_of, Aim}
use Rattle.image_store.proofs.Orders.{written_all, written_at, written_next, written_none}
use Rattle.image_store.proofs.Keeping.{still_told}
use Rattle.image_store.proofs.jobs.overwrite_jobs.Goals as goal

pub each-init : goal.each-init
each-init g c = record {
  aims = ap
      (aims_of g.I.Device.told) c.deref_mut-job-items.ensures.value;
  written = λ committed p apart ready copied held. written_none g.D.Device.told
      (aims_of g.I.Device.told c.args.jobs.now.items) committed c.args.store.now p held;
}

pub each-preserved : goal.each-preserved
each-preserved g c =
    let within : c.each.job-index < length c.each.job-items = (let test = c.each-test.true in omega arith) in
    let at = slice_get-get_or c.each.job-items c.each.job-index c.job-item.result within in
    let there = ap (λ (list : List Aim). slice_get list c.each.job-index) (sym c.each.invariant.aims)
    ∙ slice_get_map (aim_of g.I.Device.told) c.each.job-items c.each.job-index _ at in
    record {
      aims = still_told (aim_of g.I.Device.told) c.each.job-index c.args.jobs.now.items c.each.job-items _ c.overwrite.new.self
          c.each.invariant.aims at c.overwrite.ensures.aim;
      written = λ committed p apart ready copied held.
          let was = c.each.invariant.written committed p apart ready copied held in
          written_next g.D.Device.told
          (aims_of g.I.Device.told c.args.jobs.now.items) committed c.each.store c.overwrite.new.store p c.each.job-index _ c.in-Ok.field-0
          apart there was
          (written_at g.D.Device.told (aims_of g.I.Device.told c.args.jobs.now.items) committed c.each.store c.overwrite.new.store p c.each.job-index _ _
          apart ready copied there c.in-Ok.ensures.written was);
    }

pub returns-in-Err : goal.returns-in-Err
returns-in-Err g c =
    let within : c.each.job-index < length c.each.job-items = (let test = c.each-test.true in omega arith) in
    let at = slice_get-get_or c.each.job-items c.each.job-index c.job-item.result within in
    record {
      written = λ committed p apart ready copied held.
          let one = written_at g.D.Device.told
          (aims_of g.I.Device.told c.args.jobs.now.items) committed c.each.store c.overwrite.new.store p c.each.job-index _ _
          apart ready copied
          (ap (λ (list : List Aim). slice_get list c.each.job-index) (sym c.each.invariant.aims)
          ∙ slice_get_map (aim_of g.I.Device.told) c.each.job-items c.each.job-index _ at)
          c.overwrite.ensures.written (c.each.invariant.written committed p apart ready copied held) in
          (one.later, one.held);
    }

pub returns : goal.returns
returns g c =
    let many = ap length c.each.invariant.aims in
    let all = length-map c.each.job-items (aim_of g.I.Device.told) in
    let test = c.each-test.false in
    record {
      written = λ committed p apart ready copied held. written_all g.row.E.Denot g.D.Device.told
          (aims_of g.I.Device.told c.args.jobs.now.items) committed c.each.store p
          c.each.job-index (omega arith) (c.each.invariant.written committed p apart ready copied held);
    }

use Rattle.std.proofs.Common.{ℕ, List, length, not, ap, arith, ◌∙◌}
use Rattle.std.specs.Prelude.{slice_get}
use Rattle.cow_volume.specs.Calls.{blocks_in}
use Rattle.std.proofs.lemmas.Result.{err_from_is_err_and}
use Rattle.image_store.proofs.Calls.{device_after, device_of, pass_failed}
use Rattle.image_store.proofs.Passes.{marked_more, marked_all, compared, as_many_wanted}
use Rattle.image_store.proofs.Plains.{kept_then, quiet_kept}
use Rattle.image_store.proofs.updating.compare_blocks.Goals as goal
use Rattle.cow_volume.proofs.Kept.{unfailed_further}

pub returns-in_err-read_volume-clause-kept : goal.returns-in_err-read_volume-clause-kept
returns-in_err-read_volume-clause-kept g c =
    kept_then g.D.Device.told c.args.group.now c.loop-b.group c.read_volume.new.group c.loop-b.invariant.marked.kept
    (quiet_kept g.D.Device c.loop-b.group c.read_volume.new.group c.read_volume.ensures.quiet)

pub loop-b-preserved : goal.loop-b-preserved
loop-b-preserved g c =
    let inv = c.loop-b.invariant.marked in
    let test = c.loop-b-test.true in
    let end = c.blocks-b-end.ensures in
    let volumes = ap length inv.kept.volumes in
    let blocks = ap (λ (ns : List ℕ). blocks_in (slice_get ns c.args.v)) inv.kept.volumes in
    let marks = c.requires.marks in
    let len = inv.len in
    let within = c.requires.volume in
    record {
      marked = marked_more g.D.Device.told g.I.Device c.args.group.now c.loop-b.group c.read_volume.new.group c.args.input.now c.loop-b.input c.read_device.new.device c.args.v
          c.args.differs.now
          c.loop-b.differs c.loop-b.b (not c.are_same.result) inv
          (quiet_kept g.D.Device c.loop-b.group c.read_volume.new.group c.read_volume.ensures.quiet)
          c.read_device.ensures.told c.read_device.ensures.size (omega arith)
          (λ wanted ps is has. compared g.D.Device.told c.loop-b.group ps c.args.v c.loop-b.b c.read_volume.new.self c.read_device.new.self c.bytes.result.now c.bytes-in-loop-b.result.now
          c.are_same.result
          (g.I.Device.told c.loop-b.input) wanted has (omega arith)
          (omega arith) c.in_ok-read_volume.ensures.now c.in-Ok.ensures.block is c.are_same.ensures.same c.are_same.ensures.differ c.bytes.ensures.bytes c.bytes-in-loop-b.ensures.bytes);
      unfailed = record {
        group = unfailed_further g.D.Device.count c.args.group.now c.loop-b.group c.read_volume.new.group c.loop-b.invariant.unfailed.group c.in_ok-read_volume.ensures.same;
        input = c.in-Ok.ensures.cause.same ∙ c.loop-b.invariant.unfailed.input;
      };
    }

pub returns-in_err-read_volume-clause-failed : goal.returns-in_err-read_volume-clause-failed
returns-in_err-read_volume-clause-failed g c =
    let test = c.loop-b-test.true in
    let end = c.blocks-b-end.ensures in
    let blocks = ap (λ (ns : List ℕ). blocks_in (slice_get ns c.args.v)) c.loop-b.invariant.marked.kept.volumes in
    let p = err_from_is_err_and c.from_residual.result c.from_residual.ensures.1 in
    rw (p.1, p.2) (pass_failed g.D.Device.count c.args.v c.args.group.now c.read_volume.new.group (g.I.Device.count c.args.input.now)
    (g.I.Device.count c.read_device.new.device) c.in_err-read_volume.field-0.0
    (c.in-Ok.ensures.cause.same ∙ c.loop-b.invariant.unfailed.input)
    (device_after g.D.Device.count c.args.v c.args.group.now c.loop-b.group c.read_volume.new.group c.in_err-read_volume.field-0.0 c.loop-b.invariant.unfailed.group
    (device_of g.D.Device.count c.args.v c.loop-b.b c.loop-b.group c.read_volume.new.group c.in_err-read_volume.field-0.0 (omega arith) c.in_err-read_volume.ensures.cause)))

pub returns-clause-marked : goal.returns-clause-marked
returns-clause-marked g c =
    let test = c.loop-b-test.false in
    let end = c.blocks-b-end.ensures in
    marked_all g.D.Device.told g.I.Device c.args.group.now c.loop-b.group c.args.input.now c.loop-b.input c.args.v c.args.differs.now c.loop-b.differs c.loop-b.b
    c.requires.volume c.requires.marks
    (omega arith) (λ wanted is. as_many_wanted _ _ (g.I.Device.told c.args.input.now) wanted c.blocks-facts.ensures.whole c.requires.sizes is) c.loop-b.invariant.marked

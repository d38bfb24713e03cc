use Rattle.std.proofs.Common.{ℕ, List, ◌∙◌, ap, arith}
use Rattle.std.specs.Prelude.{slice_get}
use Rattle.cow_volume.proofs.Group.{length-slice_set}
use Rattle.cow_volume.specs.Calls.{blocks_in}
use Rattle.image_store.specs.Plain.{volume_in}
use Rattle.image_store.proofs.Plains.{kept_then}
use Rattle.image_store.proofs.Opens.{captured_more, captured_to}
use Rattle.image_store.proofs.capturing.capture_blocks.Goals as goal

pub loop-b-preserved : goal.loop-b-preserved
loop-b-preserved g c =
    let inv = c.loop-b.invariant in
    let test = c.loop-b-test.true in
    let end = c.min-b-end.ensures in
    let all = c.blocks-2.ensures in
    let blocks = ap (λ (ns : List ℕ). blocks_in (slice_get ns c.args.v)) inv.kept.volumes in
    let marks = c.requires.marks in
    let len = inv.len in
    record {
      kept = kept_then g.D.Device.told c.args.group.now c.loop-b.group c.capture_one.new.group inv.kept c.capture_one.ensures.kept;
      told_is = c.capture_one.ensures.told ∙ inv.told_is;
      size_is = c.capture_one.ensures.size ∙ inv.size_is;
      room_is = c.capture_one.ensures.room ∙ inv.room_is;
      len = length-slice_set c.loop-b.differs c.loop-b.b c.in_ok-differs.field-0 ∙ inv.len;
      captured = λ wanted before ps input_is spool_is has so.
          let here = inv.captured wanted before ps input_is spool_is has so in
          captured_more (g.S.Device.told c.capture_one.new.spool) c.loop-b.differs c.in_ok-differs.field-0 here.spool wanted (volume_in ps c.args.v).blocks c.loop-b.b (omega arith)
          here.captured (c.in_ok-differs.ensures.captured wanted here.spool ps (inv.told_is ∙ input_is) here.told_is (inv.kept.plains ps has));
    }

pub returns-clause-captured : goal.returns-clause-captured
returns-clause-captured g c = λ wanted before ps input_is spool_is has so.
    let inv = c.loop-b.invariant in
    let test = c.loop-b-test.false in
    let end = c.min-b-end.ensures in
    let all = c.blocks-2.ensures in
    let marks = c.requires.marks in
    let len = inv.len in
    captured_to (g.S.Device.told c.loop-b.spool) c.loop-b.differs wanted (volume_in ps c.args.v).blocks c.loop-b.b c.args.to (λ b low within. omega arith)
    (inv.captured wanted before ps input_is spool_is has so)

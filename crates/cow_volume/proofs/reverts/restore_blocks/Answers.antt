use Rattle.std.proofs.Common.{◌<◌, ◌∙◌, ℕ, List, Some, length, refl, ap, sym, subst, arith}
use Rattle.std.specs.Prelude.{slice_get, Ok, Err, is_some}
use Rattle.cow_volume.specs.Calls.{blocks_in, counted_by, counted_as}
use Rattle.std.proofs.lemmas.List.{length-map}
use Rattle.cow_volume.specs.declared.cause.Cause.TheVariants.{Volume}
use Rattle.cow_volume.specs.Parts.{group_of}
use Rattle.cow_volume.specs.Restoring.{merged_as}
use Rattle.cow_volume.proofs.Kept.{sizes_kept, unfailed_itself, unfailed_further}
use Rattle.cow_volume.proofs.DeviceCalls.{in_range_of}
use Rattle.cow_volume.proofs.RestoringMerged.{keeps_itself, keeps_one, one_merged, one_counted, one_stopped, fits_more, never_rose}
use Rattle.cow_volume.proofs.RestoringSteps.{restoring_start, at_most_one, restoring_one, restoring_stops, one_unfailed}
use Rattle.cow_volume.proofs.reverts.restore_blocks.Goals as goal

pub restore_block-requires-clause-volume : goal.restore_block-requires-clause-volume
restore_block-requires-clause-volume g c = subst (λ (ns : List ℕ). c.args.v < length ns) (sym c.loop-block.invariant.keeps.kept.volumes) c.requires.volume

pub restore_block-requires-clause-devices : goal.restore_block-requires-clause-devices
restore_block-requires-clause-devices g c =
    sizes_kept (counted_as g.D.Device (is_some c.args.stop)) (group_of c.args.devices.now.items c.args.copies.now)
    (group_of c.loop-block.devices.items c.loop-block.copies) c.loop-block.invariant.keeps.kept c.requires.devices

pub restore_block-requires-clause-in_range : goal.restore_block-requires-clause-in_range
restore_block-requires-clause-in_range g c =
    let l = c.loop-block-test.true in
    let here = in_range_of c.args.copies.now.area.volumes c.args.v c.loop-block.block c.blocks-block-end.result c.blocks-block-end.ensures (omega arith) in
    subst (λ (ns : List ℕ). c.loop-block.block < blocks_in (slice_get ns c.args.v)) (sym c.loop-block.invariant.keeps.kept.volumes) here

pub loop-block-init : goal.loop-block-init
loop-block-init g c = record {
  done = λ mid m. restoring_start (counted_as g.D.Device (is_some c.args.stop))
      (group_of c.args.devices.now.items (merged_as mid c.args.copies.now)) c.args.v c.args.set c.requires.volume m.gone.most;
  keeps = keeps_itself (counted_as g.D.Device (is_some c.args.stop)) (group_of c.args.devices.now.items c.args.copies.now);
  unfailed = unfailed_itself (counted_by g.D.Device.count (is_some c.args.stop)) (group_of c.args.devices.now.items c.args.copies.now);
  few = omega arith;
  fits = λ k is. omega arith;
}

pub loop-block-preserved : goal.loop-block-preserved
loop-block-preserved g c =
    let l = c.loop-block-test.true in
    let here = in_range_of c.args.copies.now.area.volumes c.args.v c.loop-block.block c.blocks-block-end.result c.blocks-block-end.ensures (omega arith) in
    let one = at_most_one c.in-Ok.has_copy in
    let more = c.from-restored.ensures in
    let few = c.loop-block.invariant.few in
    let counted = one_counted g.D.Device (group_of c.loop-block.devices.items c.loop-block.copies)
    (group_of c.restore_block.new.devices.items c.restore_block.new.copies) c.args.v c.args.set c.loop-block.block c.args.stop (Ok c.in-Ok.has_copy) c.in-Ok.ensures in
    record {
      done = λ mid m. restoring_one (counted_as g.D.Device (is_some c.args.stop))
          (group_of c.args.devices.now.items (merged_as mid c.args.copies.now))
          (group_of c.loop-block.devices.items (merged_as mid c.loop-block.copies)) (group_of c.restore_block.new.devices.items (merged_as mid c.restore_block.new.copies))
          c.args.v c.args.set c.loop-block.block c.loop-block.restored c.in-Ok.has_copy c.from-restored.result c.requires.volume m.gone.most here c.requires.above_zero c.from-restored.ensures
          (c.loop-block.invariant.done mid m)
          (one_merged (counted_as g.D.Device (is_some c.args.stop)) c.loop-block.devices.items c.restore_block.new.devices.items
          c.args.copies.now mid c.loop-block.copies c.restore_block.new.copies c.args.v c.args.set c.loop-block.block (Ok c.in-Ok.has_copy) m c.loop-block.invariant.keeps.records counted);
      keeps = keeps_one (counted_as g.D.Device (is_some c.args.stop)) (group_of c.args.devices.now.items c.args.copies.now)
          (group_of c.loop-block.devices.items c.loop-block.copies) (group_of c.restore_block.new.devices.items c.restore_block.new.copies)
          c.args.v c.args.set c.loop-block.block (Ok c.in-Ok.has_copy) c.loop-block.invariant.keeps counted;
      unfailed = unfailed_further (counted_by g.D.Device.count (is_some c.args.stop)) (group_of c.args.devices.now.items c.args.copies.now) (group_of c.loop-block.devices.items c.loop-block.copies)
          (group_of c.restore_block.new.devices.items c.restore_block.new.copies) c.loop-block.invariant.unfailed
          (one_unfailed (counted_as g.D.Device (is_some c.args.stop)) (group_of c.loop-block.devices.items c.loop-block.copies)
          (group_of c.restore_block.new.devices.items c.restore_block.new.copies) c.args.v c.args.set c.loop-block.block c.in-Ok.has_copy counted);
      few = omega arith;
      fits = λ k is. fits_more g.D.Device (group_of c.loop-block.devices.items c.loop-block.copies)
          (group_of c.restore_block.new.devices.items c.restore_block.new.copies) c.args.v c.args.set c.loop-block.block c.loop-block.restored c.from-restored.result k c.in-Ok.has_copy
          c.from-restored.ensures (c.loop-block.invariant.fits k is) (λ same. c.in_default.ensures.goes_on refl (is ∙ ap Some (sym same))) c.in-Ok.ensures;
    }

pub returns-in-Err-clause-restored : goal.returns-in-Err-clause-restored
returns-in-Err-clause-restored g c = λ mid m.
    let l = c.loop-block-test.true in
    let counted = one_counted g.D.Device (group_of c.loop-block.devices.items c.loop-block.copies)
    (group_of c.restore_block.new.devices.items c.restore_block.new.copies) c.args.v c.args.set c.loop-block.block c.args.stop (Err c.in-Err.cause) c.in-Err.ensures in
    let here = in_range_of c.args.copies.now.area.volumes c.args.v c.loop-block.block c.blocks-block-end.result c.blocks-block-end.ensures (omega arith) in
    restoring_stops (counted_as g.D.Device (is_some c.args.stop)) (group_of c.args.devices.now.items (merged_as mid c.args.copies.now))
    (group_of c.loop-block.devices.items (merged_as mid c.loop-block.copies)) (group_of c.restore_block.new.devices.items (merged_as mid c.restore_block.new.copies))
    c.args.v c.args.set c.loop-block.block c.loop-block.restored c.in-Err.cause c.requires.volume m.gone.most here c.requires.above_zero (c.loop-block.invariant.done mid m)
    (record { devices = c.loop-block.invariant.unfailed.devices; area = c.loop-block.invariant.unfailed.area })
    (one_merged (counted_as g.D.Device (is_some c.args.stop)) c.loop-block.devices.items c.restore_block.new.devices.items
    c.args.copies.now mid c.loop-block.copies c.restore_block.new.copies c.args.v c.args.set c.loop-block.block (Err c.in-Err.cause) m c.loop-block.invariant.keeps.records counted)

pub returns-in-Err-clause-keeps : goal.returns-in-Err-clause-keeps
returns-in-Err-clause-keeps g c =
    let counted = one_counted g.D.Device (group_of c.loop-block.devices.items c.loop-block.copies)
    (group_of c.restore_block.new.devices.items c.restore_block.new.copies) c.args.v c.args.set c.loop-block.block c.args.stop (Err c.in-Err.cause) c.in-Err.ensures in
    keeps_one (counted_as g.D.Device (is_some c.args.stop)) (group_of c.args.devices.now.items c.args.copies.now)
    (group_of c.loop-block.devices.items c.loop-block.copies)
    (group_of c.restore_block.new.devices.items c.restore_block.new.copies)
    c.args.v c.args.set c.loop-block.block (Err c.in-Err.cause) c.loop-block.invariant.keeps counted

pub returns-in-Err-clause-stops : goal.returns-in-Err-clause-stops
returns-in-Err-clause-stops g c = λ never k is mid m.
    absurd (never_rose g.D.Device (group_of c.loop-block.devices.items c.loop-block.copies)
    (group_of c.restore_block.new.devices.items c.restore_block.new.copies) c.args.v c.in-Err.cause never c.in-Err.ensures.rose)

pub returns-in-Some-clause-restored : goal.returns-in-Some-clause-restored
returns-in-Some-clause-restored g c = λ mid m.
    let l = c.loop-block-test.true in
    let here = in_range_of c.args.copies.now.area.volumes c.args.v c.loop-block.block c.blocks-block-end.result c.blocks-block-end.ensures (omega arith) in
    let inside = c.requires.volume in
    let many = c.loop-block.invariant.keeps.kept.devices in
    let sizes = sym (length-map c.args.devices.now.items g.D.Device.size) ∙ ap length c.requires.devices in
    let counted = one_stopped g.D.Device (group_of c.loop-block.devices.items c.loop-block.copies) c.args.v c.args.set c.loop-block.block _
    c.loop-block.restored c.args.stop (omega (arith, inside, many, sizes)) c.in-Some.ensures.stops in
    restoring_stops (counted_as g.D.Device (is_some c.args.stop)) (group_of c.args.devices.now.items (merged_as mid c.args.copies.now))
    (group_of c.loop-block.devices.items (merged_as mid c.loop-block.copies)) (group_of c.loop-block.devices.items (merged_as mid c.loop-block.copies))
    c.args.v c.args.set c.loop-block.block c.loop-block.restored Volume c.requires.volume m.gone.most here c.requires.above_zero (c.loop-block.invariant.done mid m)
    (record { devices = c.loop-block.invariant.unfailed.devices; area = c.loop-block.invariant.unfailed.area })
    (one_merged (counted_as g.D.Device (is_some c.args.stop)) c.loop-block.devices.items c.loop-block.devices.items c.args.copies.now mid
    c.loop-block.copies c.loop-block.copies c.args.v c.args.set c.loop-block.block (Err Volume) m c.loop-block.invariant.keeps.records counted)

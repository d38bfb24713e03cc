use Rattle.std.proofs.Common.{◌<◌, ℕ, List, length, sym, ◌∙◌, subst, ap}
use Rattle.cow_volume.specs.Calls.{is_among, sets_in, counted_as}
use Rattle.cow_volume.specs.CopiesAfter.{images_on}
use Rattle.std.specs.Prelude.{Ok, Err, slice_get, is_some}
use Rattle.cow_volume.specs.Restoring.{merged_as}
use Rattle.cow_volume.proofs.GroupReverts.{contains_of}
use Rattle.cow_volume.proofs.RestoringMerged.{gone_as, mergeable, restored_then_cleared, stopped_then_merged, stops_merged}
use Rattle.cow_volume.proofs.reverts.revert.Goals as goal

pub clear_from-requires-clause-volume : goal.clear_from-requires-clause-volume
clear_from-requires-clause-volume g c = subst (λ (ns : List ℕ). c.args.v < length ns) (sym c.restore_blocks.ensures.keeps.kept.volumes) c.requires.volume

pub clear_from-requires-clause-image : goal.clear_from-requires-clause-image
clear_from-requires-clause-image g c =
    let image = sym c.has_image.ensures.among ∙ c.if-not-has_image.false in
    contains_of c.args.set (images_on c.restore_blocks.new.copies c.args.v)
    (ap (λ (ss : List (List ℕ)). is_among c.args.set (sets_in (slice_get ss c.args.v))) c.restore_blocks.ensures.keeps.images ∙ image)

pub drop_newer-requires-clause-volume : goal.drop_newer-requires-clause-volume
drop_newer-requires-clause-volume g c = subst (λ (ns : List ℕ). c.args.v < length ns) (sym c.restore_blocks.ensures.keeps.kept.volumes) c.requires.volume

pub drop_newer-requires-clause-image : goal.drop_newer-requires-clause-image
drop_newer-requires-clause-image g c =
    let image = sym c.has_image.ensures.among ∙ c.if-not-has_image.false in
    ap (λ (ss : List (List ℕ)). is_among c.args.set (sets_in (slice_get ss c.args.v))) c.restore_blocks.ensures.keeps.images ∙ image

pub returns-in-Ok-clause-revert : goal.returns-in-Ok-clause-revert
returns-in-Ok-clause-revert g c =
    let image = sym c.has_image.ensures.among ∙ c.if-not-has_image.false in
    let mid = mergeable g.D.Device.told c.args.copies.now c.args.v c.args.set c.requires.volume image
    (c.has_image.ensures.above c.if-not-has_image.false) c.volumes-facts.ensures.of_images c.slots-facts.ensures.valid in
    restored_then_cleared (counted_as g.D.Device (is_some c.args.stop)) c.args.devices.now.items c.restore_blocks.new.devices.items
    c.args.copies.now mid.mid c.restore_blocks.new.copies c.clear_from.new.self c.args.v c.args.set tt
    c.requires.volume image mid.merged_to (c.in-Ok.ensures.restored mid.mid mid.merged_to) c.in-Ok.ensures.keeps c.clear_from.ensures

pub returns-in-Err-clause-revert : goal.returns-in-Err-clause-revert
returns-in-Err-clause-revert g c =
    let image = sym c.has_image.ensures.among ∙ c.if-not-has_image.false in
    stopped_then_merged (counted_as g.D.Device (is_some c.args.stop)) c.args.devices.now.items c.restore_blocks.new.devices.items
    c.args.copies.now c.restore_blocks.new.copies c.drop_newer.new.copies c.args.v c.args.set c.in-Err.fault
    c.requires.volume image c.in-Err.ensures.restored c.in-Err.ensures.keeps c.drop_newer.ensures

pub returns-in-Ok-clause-stops : goal.returns-in-Ok-clause-stops
returns-in-Ok-clause-stops g c = λ never k is.
    let image = sym c.has_image.ensures.among ∙ c.if-not-has_image.false in
    let mid = mergeable g.D.Device.told c.args.copies.now c.args.v c.args.set c.requires.volume image
    (c.has_image.ensures.above c.if-not-has_image.false) c.volumes-facts.ensures.of_images c.slots-facts.ensures.valid in
    stops_merged g.D.Device.told c.args.devices.now.items c.args.copies.now (merged_as mid.mid c.args.copies.now) c.args.v c.args.set k (Ok tt) c.requires.volume
    (gone_as g.D.Device.told c.args.copies.now mid.mid c.args.v c.args.set mid.merged_to) (c.in-Ok.ensures.stops never k is mid.mid mid.merged_to)

pub returns-in-Err-clause-stops : goal.returns-in-Err-clause-stops
returns-in-Err-clause-stops g c = λ never k is.
    let image = sym c.has_image.ensures.among ∙ c.if-not-has_image.false in
    let mid = mergeable g.D.Device.told c.args.copies.now c.args.v c.args.set c.requires.volume image
    (c.has_image.ensures.above c.if-not-has_image.false) c.volumes-facts.ensures.of_images c.slots-facts.ensures.valid in
    stops_merged g.D.Device.told c.args.devices.now.items c.args.copies.now (merged_as mid.mid c.args.copies.now) c.args.v c.args.set k (Err c.in-Err.fault) c.requires.volume
    (gone_as g.D.Device.told c.args.copies.now mid.mid c.args.v c.args.set mid.merged_to) (c.in-Err.ensures.stops never k is mid.mid mid.merged_to)

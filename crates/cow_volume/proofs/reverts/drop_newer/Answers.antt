use Rattle.std.proofs.Common.{refl}
use Rattle.cow_volume.proofs.GroupReverts.{fewer_left}
use Rattle.cow_volume.proofs.NewerMerged.{merging_more, merging_end}
use Rattle.cow_volume.proofs.RestoringMerged.{merging_start}
use Rattle.cow_volume.proofs.reverts.drop_newer.Goals as goal

pub loop-newest-init : goal.loop-newest-init
loop-newest-init g c = merging_start g.D.Device.told c.args.copies.now c.args.v c.args.set c.requires.image c.requires.above_zero c.volumes-facts.ensures.of_images c.slots-facts.ensures.valid

pub loop-newest-smaller : goal.loop-newest-smaller
loop-newest-smaller g c = fewer_left c.loop-newest.copies c.merge_image.new.copies c.args.v c.in-Some.newest c.merge_image.ensures.merged c.in-Some.ensures.image

pub loop-newest-preserved : goal.loop-newest-preserved
loop-newest-preserved g c =
    merging_more g.D.Device.told c.args.copies.now c.loop-newest.copies c.merge_image.new.copies c.args.v c.args.set c.in-Some.newest c.loop-newest.invariant c.in-Some.ensures.newer
    c.in-Some.ensures.image c.merge_image.ensures.merged c.merge_image.ensures.stands

pub returns : goal.returns
returns g c = merging_end g.D.Device.told c.args.copies.now c.loop-newest.copies c.args.v c.args.set c.loop-newest.invariant c.requires.volume (c.in_default.ensures.none refl)

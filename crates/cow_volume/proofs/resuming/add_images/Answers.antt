use Rattle.std.proofs.Common.{◌∙◌, List, ℕ, ap}
use Rattle.std.specs.Prelude.{slice_set}
use Rattle.std.proofs.lemmas.List.{take_all}
use Rattle.diff_map.specs.Groups.{map_at, with_images}
use Rattle.cow_volume.proofs.Following.{only-none, adding_inside, adding_room, adding_newest, adding_more}
use Rattle.cow_volume.proofs.resuming.add_images.Goals as goal

pub loop-set-init : goal.loop-set-init
loop-set-init c = only-none c.args.v c.args.maps.now
    ∙ ap (λ (xs : List ℕ). slice_set c.args.maps.now c.args.v (with_images xs (map_at c.args.maps.now c.args.v))) c.requires.none

pub add_image-requires-clause-volume : goal.add_image-requires-clause-volume
add_image-requires-clause-volume c = adding_inside c.args.maps.now c.loop-set.maps c.args.v c.loop-set.set-index c.args.sets.now c.requires.volume c.requires.rise
    c.loop-set-test.true c.loop-set.invariant

pub add_image-requires-clause-room : goal.add_image-requires-clause-room
add_image-requires-clause-room c = adding_room c.args.maps.now c.loop-set.maps c.args.v c.loop-set.set-index c.args.sets.now c.requires.volume c.requires.rise
    c.loop-set-test.true c.loop-set.invariant

pub add_image-requires-clause-above_zero : goal.add_image-requires-clause-above_zero
add_image-requires-clause-above_zero c = (c.requires.rise.above_zero c.loop-set.set-index 0 c.loop-set-test.true).0

pub add_image-requires-clause-newest : goal.add_image-requires-clause-newest
add_image-requires-clause-newest c = adding_newest c.args.maps.now c.loop-set.maps c.args.v c.loop-set.set-index c.args.sets.now c.requires.volume c.requires.rise
    c.loop-set-test.true c.loop-set.invariant

pub loop-set-preserved : goal.loop-set-preserved
loop-set-preserved c = adding_more c.args.maps.now c.loop-set.maps c.args.v c.loop-set.set-index c.args.sets.now c.requires.volume c.requires.rise
    c.loop-set-test.true c.loop-set.invariant
    c.add_image.new.self c.add_image.ensures

pub returns : goal.returns
returns c = c.loop-set.invariant
    ∙ ap (λ (xs : List ℕ). slice_set c.args.maps.now c.args.v (with_images xs (map_at c.args.maps.now c.args.v))) (take_all c.loop-set.set-index c.args.sets.now c.loop-set-test.false)

use Rattle.std.proofs.Common.{◌≡◌, ◌∙◌, Some, length, sym, ap, refl, arith, List, ℕ, map}
use Rattle.std.specs.Prelude.{slice_get}
use Rattle.std.proofs.lemmas.Option.{slice_get_read}
use Rattle.diff_map.specs.Groups.{new_map}
use Rattle.cow_volume.proofs.TakingUp.{maps_begun, none_yet, maps_added, maps_all}
use Rattle.cow_volume.proofs.resuming.maps_of.Goals as goal

pub loop-v-init : goal.loop-v-init
loop-v-init g c = maps_begun c.args.area.now.volumes c.args.area.now.records c.args.images.now c.slots.result c.in_ok-maps.maps
    (c.in_ok-maps.ensures ∙ ap (map (new_map c.slots.result)) c.sizes.ensures) c.slots.ensures.slots c.requires.lists

pub add_images-requires-clause-none : goal.add_images-requires-clause-none
add_images-requires-clause-none g c =
    let test = c.loop-v-test.true in
    let end = c.volumes-v-end.ensures.volumes in
    let number = c.loop-v.invariant.number in
    none_yet c.args.area.now.volumes c.args.area.now.records c.args.images.now c.loop-v.v c.loop-v.maps c.loop-v.invariant c.requires.lists (omega arith)

pub loop-v-preserved : goal.loop-v-preserved
loop-v-preserved g c =
    let test = c.loop-v-test.true in
    let end = c.volumes-v-end.ensures.volumes in
    let lists = c.requires.lists in
    let number = c.loop-v.invariant.number in
    let images = c.args.images.now in
    let v = c.loop-v.v in
    let row : slice_get images v ≡ Some c.items-sets.result.now = slice_get_read images (length images) v c.index-images-v.result refl (omega arith) c.index-images-v.is
    ∙ ap (λ (ss : List ℕ). Some ss) (sym c.items-sets.ensures) in
    maps_added c.args.area.now.volumes c.args.area.now.records images v c.loop-v.maps c.add_images.new.maps c.items-sets.result.now c.loop-v.invariant row (omega arith) c.add_images.ensures
    c.images-facts.ensures.valid

pub returns : goal.returns
returns g c =
    let test = c.loop-v-test.false in
    let end = c.volumes-v-end.ensures.volumes in
    let lists = c.requires.lists in
    maps_all c.args.area.now.volumes c.args.area.now.records c.args.images.now c.loop-v.v c.loop-v.maps (omega arith) c.loop-v.invariant

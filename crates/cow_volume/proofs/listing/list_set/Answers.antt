use Rattle.std.proofs.Common.{◌≡◌, ◌<◌, ◌+◌, ◌∙◌, List, true, false, length, subst, sym, refl, arith, vec_capacity}
use Rattle.write_history.specs.declared.evicted.Evicted.{Evicted}
use Rattle.cow_volume.specs.Calls.{is_among}
use Rattle.cow_volume.specs.CopiesAfter.{images_on}
use Rattle.cow_volume.proofs.Listed.{IsSoFar, one_more, none_more, all_so_far, has_room}
use Rattle.cow_volume.proofs.listing.list_set.Goals as goal

pub loop-v-init : goal.loop-v-init
loop-v-init g c = record { so_far = refl; space = refl }

pub push_reserved-requires : goal.push_reserved-requires
push_reserved-requires g c =
    let images = c.args.copies.now.images in
    let many = c.volumes-v-end.ensures.images in
    let end = c.volumes-v-end.ensures.volumes in
    let test = c.loop-v-test.true in
    let has : is_among c.args.set (images_on c.args.copies.now c.loop-v.v) ≡ true = sym c.has_image_near.ensures ∙ c.if-not-has_image_near.false in
    let room : length c.loop-v.gone.items < vec_capacity c.args.gone.now =
    has_room images c.args.set c.loop-v.v (vec_capacity c.args.gone.now) c.args.gone.now.items c.loop-v.gone.items (omega arith) has c.loop-v.invariant.so_far c.requires in
    let same = c.loop-v.invariant.space in
    let long = c.loop-v.gone.ok.0 in
    omega (arith, room, same, long)

pub loop-v-preserved : goal.loop-v-preserved
loop-v-preserved g c =
    let images = c.args.copies.now.images in
    let many = c.volumes-v-end.ensures.images in
    let end = c.volumes-v-end.ensures.volumes in
    let test = c.loop-v-test.true in
    let has : is_among c.args.set (images_on c.args.copies.now c.loop-v.v) ≡ true = sym c.has_image_near.ensures ∙ c.if-not-has_image_near.false in
    record {
      so_far = subst (λ (now : List Evicted). IsSoFar images c.args.set c.args.gone.now.items now (c.loop-v.v + 1)) (sym c.push_reserved.ensures.items)
          (one_more images c.args.set c.loop-v.v c.args.gone.now.items c.loop-v.gone.items (omega arith) has c.loop-v.invariant.so_far);
      space = c.push_reserved.ensures.capacity ∙ c.loop-v.invariant.space;
    }

pub loop-v-preserved-then-not-has_image_near : goal.loop-v-preserved-then-not-has_image_near
loop-v-preserved-then-not-has_image_near g c =
    let images = c.args.copies.now.images in
    let many = c.volumes-v-end.ensures.images in
    let end = c.volumes-v-end.ensures.volumes in
    let test = c.loop-v-test.true in
    let has : is_among c.args.set (images_on c.args.copies.now c.loop-v.v) ≡ false = sym c.has_image_near.ensures ∙ c.if-not-has_image_near.true in
    record {
      so_far = none_more images c.args.set c.loop-v.v c.args.gone.now.items c.loop-v.gone.items (omega arith) has c.loop-v.invariant.so_far;
      space = c.loop-v.invariant.space;
    }

pub returns-clause-told : goal.returns-clause-told
returns-clause-told g c =
    let many = c.volumes-v-end.ensures.images in
    let end = c.volumes-v-end.ensures.volumes in
    let test = c.loop-v-test.false in
    all_so_far c.args.copies.now.images c.args.set c.loop-v.v c.args.gone.now.items c.loop-v.gone.items (omega arith) c.loop-v.invariant.so_far

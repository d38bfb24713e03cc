use Rattle.std.proofs.Common.{◌≤◌, ◌+◌, ◌∙◌, ◌++◌, List, length, ap, sym, arith, vec_capacity}
use Rattle.write_history.specs.declared.evicted.Evicted.{Evicted}
use Rattle.write_history.specs.Slots.{evicted_of}
use Rattle.cow_volume.specs.Room.{holders}
use Rattle.cow_volume.proofs.Listed.{next_is, few_next}
use Rattle.cow_volume.proofs.listing.list_going.Goals as goal

pub loop-set-init : goal.loop-set-init
loop-set-init g c = record { within = omega arith; listed = c.clear.ensures.items; space = c.clear.ensures.capacity }

pub list_set-requires : goal.list_set-requires
list_set-requires g c =
    let images = c.args.copies.now.images in
    let few : length c.loop-set.gone.items + length (holders c.next_set-set.result 0 images) ≤ vec_capacity c.args.gone.now =
    few_next images c.loop-set.set c.args.up_to c.next_set-set.result (vec_capacity c.args.gone.now) c.loop-set.gone.items c.next_set-set.ensures c.loop-set.invariant.listed
    (λ u sets at. (c.volumes-facts.ensures.of_images.sets u sets at).few) (let many = c.volumes-facts.ensures.images in let fits = c.requires in omega (arith, many, fits)) in
    let same = c.loop-set.invariant.space in
    omega (arith, few, same)

pub loop-set-preserved : goal.loop-set-preserved
loop-set-preserved g c = record {
  within = c.next_set-set.ensures.within;
  listed = c.list_set.ensures.told ∙ ap (λ (xs : List Evicted). xs ++ evicted_of c.next_set-set.result (holders c.next_set-set.result 0 c.args.copies.now.images)) c.loop-set.invariant.listed
      ∙ sym (next_is c.args.copies.now.images c.loop-set.set c.args.up_to c.next_set-set.result c.next_set-set.ensures);
  space = c.list_set.ensures.space ∙ c.loop-set.invariant.space;
}

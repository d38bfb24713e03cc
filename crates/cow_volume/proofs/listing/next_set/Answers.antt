use Rattle.std.proofs.Common.{◌∙◌, ◌+◌, ℕ, ap, subst, sym, arith}
use Rattle.cow_volume.specs.Room.{lesser}
use Rattle.cow_volume.proofs.Listed.{IsNextBelow, next_first, next_more, next_all}
use Rattle.cow_volume.proofs.listing.next_set.Goals as goal

pub loop-v-init : goal.loop-v-init
loop-v-init g c = next_first c.args.copies.now.images c.args.above c.args.up_to c.requires

pub loop-v-preserved : goal.loop-v-preserved
loop-v-preserved g c =
    let is = c.lesser-next.ensures ∙ ap (lesser c.loop-v.next) c.first_above.ensures in
    subst (λ (n : ℕ). IsNextBelow c.args.copies.now.images c.args.above c.args.up_to n (c.loop-v.v + 1)) (sym is)
    (next_more c.args.copies.now.images c.args.above c.args.up_to c.loop-v.next c.loop-v.v c.images.result.now c.images.ensures.images c.images.ensures.valid c.loop-v.invariant)

pub returns : goal.returns
returns g c =
    let test = c.loop-v-test.false in
    let end = c.volumes-v-end.ensures.volumes in
    let images = c.volumes-v-end.ensures.images in
    next_all c.args.copies.now.images c.args.above c.args.up_to c.loop-v.next c.loop-v.v (omega arith) c.loop-v.invariant

use Rattle.std.proofs.Common.{◌<◌, ◌++◌, ◌∷◌, [], Bool, cond, length, ap, arith, All, ◌∙◌, sym, subst}
use Rattle.diff_map.specs.Copies.{MapValue}
use Rattle.diff_map.specs.Groups.{own_copies}
use Rattle.diff_map.proofs.Counted.{KeepsImages-cut, KeepsCounts-cut, as_many}
use Rattle.diff_map.proofs.GroupChanges.{is_at, here, kept, KeepsGroup-images, maps_images}
use Rattle.diff_map.proofs.group_map.GroupMap.add_image.Goals as goal

pub invariant_of-self : goal.invariant_of-self
invariant_of-self c =
    let volume = c.index_mut-volume.result.now in
    let at = is_at c.self.invariant c.self.view_is c.requires.volume c.index_mut-volume.ensures.value in
    let images = volume.images in
    let counts = volume.counts in
    let mine = own_copies volume c.self.inside.links.copies in
    let short = subst (λ (m : MapValue). length m.images < 512) (here at) c.requires.room in
    let newest = subst (λ (m : MapValue). All (λ image. image < c.args.set) m.images) (here at) c.requires.newest in
    let many = as_many images.items counts.items (kept at).counts.sets in
    let images_long = images.ok in
    let counts_long = counts.ok in
    let images_room = (kept at).images.image_room in
    let counts_room = (kept at).counts.count_room in
    let image_ok = c.push.ensures.succeeds (omega arith) in
    let count_ok = c.push-2.ensures.succeeds (omega arith) in
    let longer = c.push.ensures.items ∙ ap (λ (b : Bool). cond b (images.items ++ c.args.set ∷ []) images.items) image_ok in
    let more = c.push-2.ensures.items ∙ ap (λ (b : Bool). cond b (counts.items ++ (record { set = c.args.set; used = 0; first = 0 }) ∷ []) counts.items) count_ok in
    KeepsGroup-images at c.push.new.self c.push-2.new.self
    (KeepsImages-cut images c.push.new.self mine c.args.set (kept at).images short c.requires.above_zero (omega arith) newest longer c.push.ensures.capacity)
    (KeepsCounts-cut images c.push.new.self counts c.push-2.new.self c.self.inside.next.items mine c.args.set (kept at).images (kept at).counts newest longer more c.push-2.ensures.capacity)

pub returns : goal.returns
returns c =
    let volume = c.index_mut-volume.result.now in
    let at = is_at c.self.invariant c.self.view_is c.requires.volume c.index_mut-volume.ensures.value in
    let images = volume.images in
    let short = subst (λ (m : MapValue). length m.images < 512) (here at) c.requires.room in
    let images_room = (kept at).images.image_room in
    let images_long = images.ok in
    let image_ok = c.push.ensures.succeeds (omega arith) in
    let longer = c.push.ensures.items ∙ ap (λ (b : Bool). cond b (images.items ++ c.args.set ∷ []) images.items) image_ok in
    let same = ap (λ (m : MapValue). m.images ++ c.args.set ∷ []) (here at) in
    maps_images at c.push.new.self c.push-2.new.self _ (longer ∙ sym same)

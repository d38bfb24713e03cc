use Rattle.std.proofs.Common.{ℕ, ◌≡◌, ◌<◌, ◌∙◌, ltb, filter, Some, ap, sym, subst}
use Rattle.std.proofs.lemmas.Bool.{lt-ltb}
use Rattle.diff_map.specs.declared.copied.Copied.{Copied}
use Rattle.diff_map.specs.Copies.{copied_at, MapValue}
use Rattle.diff_map.specs.Groups.{own_copies}
use Rattle.diff_map.proofs.Counted.{KeepsCounts-left, KeepsImages-left, counts_dropped}
use Rattle.diff_map.proofs.GroupChanges.{is_at, here, kept, KeepsGroup-images, maps_images}
use Rattle.diff_map.proofs.Images.{images_dropped}
use Rattle.diff_map.proofs.group_map.GroupMap.forget_up_to.Goals as goal

pub invariant_of-self : goal.invariant_of-self
invariant_of-self c =
    let volume = c.index_mut-volume.result.now in
    let at = is_at c.self.invariant c.self.view_is c.requires.volume c.index_mut-volume.ensures.value in
    let mine = own_copies volume c.self.inside.links.copies in
    let place = rw c.deref.ensures.value at c.place_after-gone.ensures in
    let left = c.drop_first.ensures.items ∙ images_dropped c.args.set c.place_after-gone.result volume.images.items place.before place.onward in
    let less = c.drop_first-2.ensures.items
    ∙ counts_dropped c.args.set c.place_after-gone.result volume.images.items volume.counts.items (kept at).counts.sets place.within place.before place.onward in
    let stays = subst (λ (m : MapValue). (slot : ℕ) (d : Copied) → copied_at m.copies slot ≡ Some d → c.args.set < d.set) (here at) c.requires.none in
    KeepsGroup-images at c.drop_first.new.items c.drop_first-2.new.items
    (KeepsImages-left (λ image. ltb c.args.set image) volume.images c.drop_first.new.items mine (kept at).images
    (λ slot d row. lt-ltb c.args.set d.set (stays slot d row)) left c.drop_first.ensures.capacity)
    (KeepsCounts-left (λ image. ltb c.args.set image) volume.images c.drop_first.new.items volume.counts c.drop_first-2.new.items c.self.inside.next.items mine
    (kept at).counts left less c.drop_first-2.ensures.capacity)

pub returns : goal.returns
returns c =
    let volume = c.index_mut-volume.result.now in
    let at = is_at c.self.invariant c.self.view_is c.requires.volume c.index_mut-volume.ensures.value in
    let place = rw c.deref.ensures.value at c.place_after-gone.ensures in
    let left = c.drop_first.ensures.items ∙ images_dropped c.args.set c.place_after-gone.result volume.images.items place.before place.onward in
    maps_images at c.drop_first.new.items c.drop_first-2.new.items _ (left ∙ sym (ap (λ (m : MapValue). filter (λ image. ltb c.args.set image) m.images) (here at)))

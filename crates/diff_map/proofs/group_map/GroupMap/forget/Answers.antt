use Rattle.std.proofs.Common.{ℕ, ◌≡◌, ◌≢◌, ◌∙◌, true, not, eqb, filter, Some, ap, sym, subst, arith, Contains}
use Rattle.std.proofs.lemmas.Bool.Decides.{nat_tests}
use Rattle.std.proofs.lemmas.List.{get_or_default}
use Rattle.diff_map.specs.declared.copied.Copied.{Copied}
use Rattle.diff_map.specs.Copies.{copied_at, MapValue}
use Rattle.diff_map.specs.Groups.{own_copies}
use Rattle.diff_map.proofs.Counted.{other_image_at, KeepsCounts-left, KeepsImages-left, counts_without}
use Rattle.diff_map.proofs.GroupChanges.{is_at, here, kept, KeepsGroup-images, maps_images}
use Rattle.diff_map.proofs.Images.{place_is, filter_one}
use Rattle.diff_map.proofs.group_map.GroupMap.forget.Goals as goal

passes : (set image : ℕ) → image ≢ set → not (eqb image set) ≡ true
passes set image stays = grind (arith, nat_tests)

pub invariant_of-self : goal.invariant_of-self
invariant_of-self c =
    let volume = c.index_mut-volume.result.now in
    let at = is_at c.self.invariant c.self.view_is c.requires.volume c.index_mut-volume.ensures.value in
    let mine = own_copies volume c.self.inside.links.copies in
    let contains = subst (λ (m : MapValue). Contains m.images c.args.set) (here at) c.requires.image in
    let before = rw c.deref.ensures.value at c.place_from-at.ensures.before in
    let onward = rw c.deref.ensures.value at c.place_from-at.ensures.onward in
    let rise = (kept at).images.are_images.ascend in
    let place = place_is volume.images.items c.args.set c.place_from-at.result rise contains before onward in
    let left = c.remove-image.ensures.items ∙ filter_one (λ image. not (eqb image c.args.set)) c.place_from-at.result volume.images.items place.0
    (λ k d within apart. let differs = other_image_at volume.images.items c.args.set c.place_from-at.result k rise place.0 place.1 within apart in
    let e = get_or_default volume.images.items k d 0 within in grind (arith, nat_tests))
    (λ d. let e = place.1 d in grind (arith, nat_tests)) in
    let less = c.remove-count.ensures.items
    ∙ counts_without c.args.set c.place_from-at.result volume.images.items volume.counts.items (kept at).counts.sets rise place.0 place.1 in
    let stays = subst (λ (m : MapValue). (slot : ℕ) (d : Copied) → copied_at m.copies slot ≡ Some d → d.set ≢ c.args.set) (here at) c.requires.none in
    KeepsGroup-images at c.remove-image.new.self c.remove-count.new.self
    (KeepsImages-left (λ image. not (eqb image c.args.set)) volume.images c.remove-image.new.self mine (kept at).images
    (λ slot d row. passes c.args.set d.set (stays slot d row)) left c.remove-image.ensures.capacity)
    (KeepsCounts-left (λ image. not (eqb image c.args.set)) volume.images c.remove-image.new.self volume.counts c.remove-count.new.self c.self.inside.next.items mine
    (kept at).counts left less c.remove-count.ensures.capacity)

pub returns : goal.returns
returns c =
    let volume = c.index_mut-volume.result.now in
    let at = is_at c.self.invariant c.self.view_is c.requires.volume c.index_mut-volume.ensures.value in
    let contains = subst (λ (m : MapValue). Contains m.images c.args.set) (here at) c.requires.image in
    let before = rw c.deref.ensures.value at c.place_from-at.ensures.before in
    let onward = rw c.deref.ensures.value at c.place_from-at.ensures.onward in
    let rise = (kept at).images.are_images.ascend in
    let place = place_is volume.images.items c.args.set c.place_from-at.result rise contains before onward in
    let left = c.remove-image.ensures.items ∙ filter_one (λ image. not (eqb image c.args.set)) c.place_from-at.result volume.images.items place.0
    (λ k d within apart. let differs = other_image_at volume.images.items c.args.set c.place_from-at.result k rise place.0 place.1 within apart in
    let e = get_or_default volume.images.items k d 0 within in grind (arith, nat_tests))
    (λ d. let e = place.1 d in grind (arith, nat_tests)) in
    maps_images at c.remove-image.new.self c.remove-count.new.self _ (left ∙ sym (ap (λ (m : MapValue). filter (λ image. not (eqb image c.args.set)) m.images) (here at)))

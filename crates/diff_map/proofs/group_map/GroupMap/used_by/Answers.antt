use Rattle.std.proofs.Common.{subst, Contains}
use Rattle.diff_map.specs.Copies.{MapValue}
use Rattle.diff_map.specs.Groups.{own_copies}
use Rattle.diff_map.proofs.Counted.{used_is}
use Rattle.diff_map.proofs.GroupChanges.{is_at, here, kept}
use Rattle.diff_map.proofs.Images.{place_is}
use Rattle.diff_map.proofs.group_map.GroupMap.used_by.Goals as goal

pub returns : goal.returns
returns c =
    let volume = c.index-volume.result.now in
    let at = is_at c.self.invariant c.self.view_is c.requires.volume c.index-volume.ensures in
    let contains = subst (λ (m : MapValue). Contains m.images c.args.set) (here at) c.requires.image in
    let before = rw c.deref.ensures.value at c.place_from-at.ensures.before in
    let onward = rw c.deref.ensures.value at c.place_from-at.ensures.onward in
    let place = place_is volume.images.items c.args.set c.place_from-at.result (kept at).images.are_images.ascend contains before onward in
    rw (here at)
    (used_is volume.images volume.counts c.self.inside.next.items (own_copies volume c.self.inside.links.copies) c.args.set c.place_from-at.result c.index.result.now (kept at).images
    (kept at).counts place.0 place.1 c.index.ensures)

use Rattle.std.proofs.Common.{ℕ, ◌≡◌, ◌-◌, ◌∙◌, Option, Some, None, get_or, ap, sym, arith}
use Rattle.diff_map.specs.Groups.{map_at, with_copies}
use Rattle.diff_map.specs.Rules.{renewed, merged, next_older}
use Rattle.diff_map.proofs.Images.{place_is, none_before_oldest}
use Rattle.cow_volume.proofs.Following.{next_older_at}
use Rattle.cow_volume.proofs.renewing.merge_copies.Goals as goal

pub returns-then-at-eq0-clause-map : goal.returns-then-at-eq0-clause-map
returns-then-at-eq0-clause-map g c =
    let m = map_at c.args.maps.now c.args.v in
    let before = rw c.images.ensures.images at c.place_from-at.ensures.before in
    let onward = rw c.images.ensures.images at c.place_from-at.ensures.onward in
    let rise = c.images.ensures.valid.images.ascend in
    let place = place_is m.images c.args.set c.place_from-at.result rise c.requires.image before onward in
    let inside = place.0 in
    let first = c.if-at-eq0.true in
    let is : get_or m.images 0 0 ≡ c.args.set = ap (λ k. get_or m.images k 0) (sym first) ∙ place.1 0 in
    let none : next_older m.images c.args.set ≡ None = ap (next_older m.images) (sym is) ∙ none_before_oldest m.images rise (omega arith) in
    c.free_copies.ensures.map ∙ ap (λ (o : Option ℕ). with_copies (renewed (merged m.copies o c.args.set) m.copies) m) (sym none)

pub hand_down-requires-clause-image : goal.hand_down-requires-clause-image
hand_down-requires-clause-image g c =
    let m = map_at c.args.maps.now c.args.v in
    let before = rw c.images.ensures.images at c.place_from-at.ensures.before in
    let onward = rw c.images.ensures.images at c.place_from-at.ensures.onward in
    (place_is m.images c.args.set c.place_from-at.result c.images.ensures.valid.images.ascend c.requires.image before onward).0

pub returns-clause-map : goal.returns-clause-map
returns-clause-map g c =
    let m = map_at c.args.maps.now c.args.v in
    let at = c.place_from-at.result in
    let before = rw c.images.ensures.images at c.place_from-at.ensures.before in
    let onward = rw c.images.ensures.images at c.place_from-at.ensures.onward in
    let rise = c.images.ensures.valid.images.ascend in
    let place = place_is m.images c.args.set at rise c.requires.image before onward in
    let later = c.if-at-eq0.false in
    c.hand_down.ensures.map ∙ ap (λ (s : ℕ). with_copies (renewed (merged m.copies (Some (get_or m.images (at - 1) 0)) s) m.copies) m) (place.1 0)
    ∙ ap (λ (o : Option ℕ). with_copies (renewed (merged m.copies o c.args.set) m.copies) m) (sym (next_older_at m.images at c.args.set rise place.0 (omega arith) (place.1 0)))

use Rattle.std.proofs.Common.{ℕ, ◌≡◌, ◌≢◌, not, List, Some, ap, sym, subst, Contains}
use Rattle.std.specs.Prelude.{◌==◌, filter}
use Rattle.cow_volume.specs.Calls.{sets_in}
use Rattle.diff_map.specs.Copies.{copied_at, MapValue}
use Rattle.diff_map.specs.Rules.{next_older, merged as merged_rule}
use Rattle.diff_map.specs.declared.copied.Copied.{Copied}
use Rattle.diff_map.proofs.Renewing.{left_merged}
use Rattle.cow_volume.specs.Changes.{merged_row}
use Rattle.diff_map.specs.Groups.{map_at, with_images}
use Rattle.cow_volume.proofs.Following.{set_after, valid_now}
use Rattle.cow_volume.proofs.Ties.{has_map, tied_at, images_at}
use Rattle.cow_volume.proofs.Renewed.{all_taken, tied_after}
use Rattle.cow_volume.proofs.MakingRoom.{merge_rules, merge_is}
use Rattle.cow_volume.proofs.copies.Copies.merge.Goals as goal

pub merge_copies-requires-clause-tied : goal.merge_copies-requires-clause-tied
merge_copies-requires-clause-tied g c =
    let within = rw (← c.self.view_is) at c.requires.volume in
    let m = map_at c.self.inside.maps c.args.v in
    let at = tied_at _ _ _ _ c.args.v c.self.invariant within in
    (c.self.invariant.each c.args.v m at).copies

pub merge_copies-requires-clause-taken : goal.merge_copies-requires-clause-taken
merge_copies-requires-clause-taken g c =
    let within = rw (← c.self.view_is) at c.requires.volume in
    let m = map_at c.self.inside.maps c.args.v in
    let at = tied_at _ _ _ _ c.args.v c.self.invariant within in
    all_taken _ _ _ _ c.args.v m c.self.invariant at

pub merge_copies-requires-clause-volume : goal.merge_copies-requires-clause-volume
merge_copies-requires-clause-volume g c =
    let within = rw (← c.self.view_is) at c.requires.volume in
    let m = map_at c.self.inside.maps c.args.v in
    let at = tied_at _ _ _ _ c.args.v c.self.invariant within in
    (c.self.invariant.each c.args.v m at).blocks

pub forget-requires-clause-image : goal.forget-requires-clause-image
forget-requires-clause-image g c =
    let within = rw (← c.self.view_is) at c.requires.volume in
    let m = map_at c.self.inside.maps c.args.v in
    let at = tied_at _ _ _ _ c.args.v c.self.invariant within in
    let there = rw (← c.self.view_is) at c.requires.image in
    subst (λ (x : MapValue). Contains x.images c.args.set) (sym c.merge_copies.ensures.map)
    (subst (λ (s : List ℕ). Contains s c.args.set) (ap sets_in (images_at c.self.inside.maps c.args.v m at)) there)

pub forget-requires-clause-none : goal.forget-requires-clause-none
forget-requires-clause-none g c = subst (λ (x : MapValue). (slot : ℕ) (d : Copied) → copied_at x.copies slot ≡ Some d → d.set ≢ c.args.set) (sym c.merge_copies.ensures.map)
    (left_merged (map_at c.self.inside.maps c.args.v).images (map_at c.self.inside.maps c.args.v).copies c.args.set)

pub invariant_of-self : goal.invariant_of-self
invariant_of-self g c =
    let within = rw (← c.self.view_is) at c.requires.volume in
    let m = map_at c.self.inside.maps c.args.v in
    let at = tied_at _ _ _ _ c.args.v c.self.invariant within in
    let copies = (c.self.invariant.each c.args.v m at).copies in
    let are = c.images-facts.ensures.valid.images in
    let there = rw (← c.self.view_is) at c.requires.image in
    let has : Contains m.images c.args.set = subst (λ (s : List ℕ). Contains s c.args.set) (ap sets_in (images_at c.self.inside.maps c.args.v m at)) there in
    let n = with_images (filter (λ image. not (image == c.args.set)) (map_at c.merge_copies.new.maps c.args.v).images) (map_at c.merge_copies.new.maps c.args.v) in
    let maps_are = set_after c.args.v c.self.inside.maps c.merge_copies.new.maps c.forget.new.self n c.merge_copies.ensures.others c.forget.ensures in
    let n_is = ap (λ (x : MapValue). with_images (filter (λ image. not (image == c.args.set)) x.images) x) c.merge_copies.ensures.map in
    let new_is = c.merge_copies.ensures.area in
    let valid = valid_now c.self.inside.maps c.forget.new.self c.args.v n (has_map _ _ _ _ c.args.v c.self.invariant within) maps_are c.images-facts-2.ensures.valid in
    rw (new_is, maps_are) (tied_after c.self.inside.area.volumes c.self.inside.area.records c.self.inside.maps c.self.inside.pool c.merge_copies.new.pool c.args.v m n
    (merged_rule m.copies (next_older m.images c.args.set) c.args.set) (merged_row c.self.inside.area.records c.args.v (next_older m.images c.args.set) c.args.set)
    c.self.invariant at (ap (λ x. x.copies) n_is) (ap (λ x. x.blocks) n_is) valid c.merge_copies.ensures.slots (merge_rules c.self.inside.area.records c.args.v c.args.set m copies are has))

pub returns : goal.returns
returns g c =
    let within = rw (← c.self.view_is) at c.requires.volume in
    let m = map_at c.self.inside.maps c.args.v in
    let at = tied_at _ _ _ _ c.args.v c.self.invariant within in
    let copies = (c.self.invariant.each c.args.v m at).copies in
    let are = c.images-facts.ensures.valid.images in
    let there = rw (← c.self.view_is) at c.requires.image in
    let has : Contains m.images c.args.set = subst (λ (s : List ℕ). Contains s c.args.set) (ap sets_in (images_at c.self.inside.maps c.args.v m at)) there in
    let n = with_images (filter (λ image. not (image == c.args.set)) (map_at c.merge_copies.new.maps c.args.v).images) (map_at c.merge_copies.new.maps c.args.v) in
    let maps_are = set_after c.args.v c.self.inside.maps c.merge_copies.new.maps c.forget.new.self n c.merge_copies.ensures.others c.forget.ensures in
    let n_is = ap (λ (x : MapValue). with_images (filter (λ image. not (image == c.args.set)) x.images) x) c.merge_copies.ensures.map in
    let new_is = c.merge_copies.ensures.area in
    rw (← c.self.view_is, maps_are) (merge_is c.self.inside.area c.merge_copies.new.area c.self.inside.maps c.args.v c.args.set m n at copies are has n_is new_is)

use Rattle.std.proofs.Common.{ℕ, ◌≡◌, ◌≤◌, List, Some, ap, sym, subst, Contains}
use Rattle.std.specs.Prelude.{nat_le, filter}
use Rattle.cow_volume.specs.Calls.{sets_in}
use Rattle.diff_map.specs.Copies.{copied_at, MapValue}
use Rattle.diff_map.specs.Rules.{cleared as cleared_rule}
use Rattle.diff_map.specs.declared.copied.Copied.{Copied}
use Rattle.diff_map.proofs.Renewing.{left_from}
use Rattle.cow_volume.specs.Changes.{cleared_row}
use Rattle.diff_map.specs.Groups.{map_at, with_images}
use Rattle.cow_volume.proofs.Following.{set_after, valid_now}
use Rattle.cow_volume.proofs.Ties.{has_map, tied_at, images_at}
use Rattle.cow_volume.proofs.Renewed.{all_taken, tied_after}
use Rattle.cow_volume.proofs.MakingRoom.{clear_rules, clear_is}
use Rattle.cow_volume.proofs.copies.Copies.clear_from.Goals as goal

pub free_copies-requires-clause-tied : goal.free_copies-requires-clause-tied
free_copies-requires-clause-tied g c =
    let within = rw (← c.self.view_is) at c.requires.volume in
    let m = map_at c.self.inside.maps c.args.v in
    let at = tied_at _ _ _ _ c.args.v c.self.invariant within in
    (c.self.invariant.each c.args.v m at).copies

pub free_copies-requires-clause-taken : goal.free_copies-requires-clause-taken
free_copies-requires-clause-taken g c =
    let within = rw (← c.self.view_is) at c.requires.volume in
    let m = map_at c.self.inside.maps c.args.v in
    let at = tied_at _ _ _ _ c.args.v c.self.invariant within in
    all_taken _ _ _ _ c.args.v m c.self.invariant at

pub forget_newer-requires-clause-none : goal.forget_newer-requires-clause-none
forget_newer-requires-clause-none g c = subst (λ (x : MapValue). (slot : ℕ) (d : Copied) → copied_at x.copies slot ≡ Some d → d.set ≤ c.args.set) (sym c.free_copies.ensures.map)
    (left_from c.args.set (map_at c.self.inside.maps c.args.v).copies)

pub invariant_of-self : goal.invariant_of-self
invariant_of-self g c =
    let within = rw (← c.self.view_is) at c.requires.volume in
    let m = map_at c.self.inside.maps c.args.v in
    let at = tied_at _ _ _ _ c.args.v c.self.invariant within in
    let copies = (c.self.invariant.each c.args.v m at).copies in
    let are = c.images-facts.ensures.valid.images in
    let there = rw (← c.self.view_is) at c.requires.image in
    let has : Contains m.images c.args.set = subst (λ (s : List ℕ). Contains s c.args.set) (ap sets_in (images_at c.self.inside.maps c.args.v m at)) there in
    let n = with_images (filter (λ image. nat_le image c.args.set) (map_at c.free_copies.new.maps c.args.v).images) (map_at c.free_copies.new.maps c.args.v) in
    let maps_are = set_after c.args.v c.self.inside.maps c.free_copies.new.maps c.forget_newer.new.self n c.free_copies.ensures.others c.forget_newer.ensures in
    let n_is = ap (λ (x : MapValue). with_images (filter (λ image. nat_le image c.args.set) x.images) x) c.free_copies.ensures.map in
    let new_is = c.free_copies.ensures.area in
    let valid = valid_now c.self.inside.maps c.forget_newer.new.self c.args.v n (has_map _ _ _ _ c.args.v c.self.invariant within) maps_are c.images-facts-2.ensures.valid in
    rw (new_is, maps_are) (tied_after c.self.inside.area.volumes c.self.inside.area.records c.self.inside.maps c.self.inside.pool c.free_copies.new.pool c.args.v m n
    (cleared_rule c.args.set) (cleared_row c.args.v c.args.set)
    c.self.invariant at (ap (λ x. x.copies) n_is) (ap (λ x. x.blocks) n_is) valid c.free_copies.ensures.slots (clear_rules c.self.inside.area.records c.args.v c.args.set m.images are has))

pub returns : goal.returns
returns g c =
    let within = rw (← c.self.view_is) at c.requires.volume in
    let m = map_at c.self.inside.maps c.args.v in
    let at = tied_at _ _ _ _ c.args.v c.self.invariant within in
    let copies = (c.self.invariant.each c.args.v m at).copies in
    let are = c.images-facts.ensures.valid.images in
    let there = rw (← c.self.view_is) at c.requires.image in
    let has : Contains m.images c.args.set = subst (λ (s : List ℕ). Contains s c.args.set) (ap sets_in (images_at c.self.inside.maps c.args.v m at)) there in
    let n = with_images (filter (λ image. nat_le image c.args.set) (map_at c.free_copies.new.maps c.args.v).images) (map_at c.free_copies.new.maps c.args.v) in
    let maps_are = set_after c.args.v c.self.inside.maps c.free_copies.new.maps c.forget_newer.new.self n c.free_copies.ensures.others c.forget_newer.ensures in
    let n_is = ap (λ (x : MapValue). with_images (filter (λ image. nat_le image c.args.set) x.images) x) c.free_copies.ensures.map in
    let new_is = c.free_copies.ensures.area in
    rw (← c.self.view_is, maps_are) (clear_is c.self.inside.area c.free_copies.new.area c.self.inside.maps c.args.v c.args.set m n at copies are has n_is new_is)

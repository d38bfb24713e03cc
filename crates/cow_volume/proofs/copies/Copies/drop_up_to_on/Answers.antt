use Rattle.std.proofs.Common.{ℕ, ◌≡◌, ◌<◌, Some, ap, sym, subst}
use Rattle.std.specs.Prelude.{nat_lt, filter}
use Rattle.diff_map.specs.Copies.{copied_at, MapValue}
use Rattle.diff_map.specs.Rules.{gone as gone_rule}
use Rattle.diff_map.specs.declared.copied.Copied.{Copied}
use Rattle.diff_map.proofs.Renewing.{left_up_to}
use Rattle.cow_volume.specs.Changes.{gone_on_row}
use Rattle.diff_map.specs.Groups.{map_at, with_images}
use Rattle.cow_volume.proofs.Following.{set_after, valid_now}
use Rattle.cow_volume.proofs.Ties.{has_map, tied_at}
use Rattle.cow_volume.proofs.Renewed.{all_taken, tied_after, rule-gone}
use Rattle.cow_volume.proofs.MakingRoom.{gone_is}
use Rattle.cow_volume.proofs.copies.Copies.drop_up_to_on.Goals as goal

pub free_copies-requires-clause-tied : goal.free_copies-requires-clause-tied
free_copies-requires-clause-tied g c =
    let within = rw (← c.self.view_is) at c.requires in
    let m = map_at c.self.inside.maps c.args.v in
    let at = tied_at _ _ _ _ c.args.v c.self.invariant within in
    (c.self.invariant.each c.args.v m at).copies

pub free_copies-requires-clause-taken : goal.free_copies-requires-clause-taken
free_copies-requires-clause-taken g c =
    let within = rw (← c.self.view_is) at c.requires in
    let m = map_at c.self.inside.maps c.args.v in
    let at = tied_at _ _ _ _ c.args.v c.self.invariant within in
    all_taken _ _ _ _ c.args.v m c.self.invariant at

pub forget_up_to-requires-clause-none : goal.forget_up_to-requires-clause-none
forget_up_to-requires-clause-none g c = subst (λ (x : MapValue). (slot : ℕ) (d : Copied) → copied_at x.copies slot ≡ Some d → c.args.set < d.set) (sym c.free_copies.ensures.map)
    (left_up_to c.args.set (map_at c.self.inside.maps c.args.v).copies)

pub invariant_of-self : goal.invariant_of-self
invariant_of-self g c =
    let within = rw (← c.self.view_is) at c.requires in
    let m = map_at c.self.inside.maps c.args.v in
    let at = tied_at _ _ _ _ c.args.v c.self.invariant within in
    let copies = (c.self.invariant.each c.args.v m at).copies in
    let n = with_images (filter (λ image. nat_lt c.args.set image) (map_at c.free_copies.new.maps c.args.v).images) (map_at c.free_copies.new.maps c.args.v) in
    let maps_are = set_after c.args.v c.self.inside.maps c.free_copies.new.maps c.forget_up_to.new.self n c.free_copies.ensures.others c.forget_up_to.ensures in
    let n_is = ap (λ (x : MapValue). with_images (filter (λ image. nat_lt c.args.set image) x.images) x) c.free_copies.ensures.map in
    let new_is = c.free_copies.ensures.area in
    let valid = valid_now c.self.inside.maps c.forget_up_to.new.self c.args.v n (has_map _ _ _ _ c.args.v c.self.invariant within) maps_are c.images-facts.ensures.valid in
    rw (new_is, maps_are) (tied_after c.self.inside.area.volumes c.self.inside.area.records c.self.inside.maps c.self.inside.pool c.free_copies.new.pool c.args.v m n
    (gone_rule c.args.set) (gone_on_row c.args.v c.args.set)
    c.self.invariant at (ap (λ x. x.copies) n_is) (ap (λ x. x.blocks) n_is) valid c.free_copies.ensures.slots (rule-gone c.self.inside.area.records c.args.v c.args.set))

pub returns : goal.returns
returns g c =
    let within = rw (← c.self.view_is) at c.requires in
    let m = map_at c.self.inside.maps c.args.v in
    let at = tied_at _ _ _ _ c.args.v c.self.invariant within in
    let copies = (c.self.invariant.each c.args.v m at).copies in
    let n = with_images (filter (λ image. nat_lt c.args.set image) (map_at c.free_copies.new.maps c.args.v).images) (map_at c.free_copies.new.maps c.args.v) in
    let maps_are = set_after c.args.v c.self.inside.maps c.free_copies.new.maps c.forget_up_to.new.self n c.free_copies.ensures.others c.forget_up_to.ensures in
    let n_is = ap (λ (x : MapValue). with_images (filter (λ image. nat_lt c.args.set image) x.images) x) c.free_copies.ensures.map in
    let new_is = c.free_copies.ensures.area in
    rw (← c.self.view_is, maps_are) (gone_is c.self.inside.area c.free_copies.new.area c.self.inside.maps c.args.v c.args.set m n at copies n_is new_is)

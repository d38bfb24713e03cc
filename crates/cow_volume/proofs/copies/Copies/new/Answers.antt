use Rattle.std.proofs.Common.{◌≡◌, ◌∙◌, List, Bool, ℕ, ap, sym, subst, map, replicate, length, true, [], refl}
use Rattle.diff_map.specs.Groups.{new_map}
use Rattle.diff_map.specs.Copies.{MapValue}
use Rattle.cow_volume.specs.Parts.{AreTied, images_of}
use Rattle.cow_volume.proofs.TakingUp.{tied_new, images_new}
use Rattle.cow_volume.proofs.MakingRoom.{same_parts}
use Rattle.cow_volume.proofs.copies.Copies.new.Goals as goal

-- the maps of these volumes over these slots
made : {slots : ℕ} {volumes : List ℕ} {maps : List MapValue} (count : ℕ) (sizes : List ℕ) → count ≡ slots → sizes ≡ volumes → maps ≡ map (new_map count) sizes → maps ≡ map (new_map slots) volumes
made count sizes many same is = is ∙ ap (λ n. map (new_map n) sizes) many ∙ ap (map (new_map _)) same

pub invariant_of-result : goal.invariant_of-result
invariant_of-result g c =
    let pool : c.in_ok-pool.pool ≡ replicate (length c.args.area.records) true = c.in_ok-pool.ensures ∙ ap (λ n. replicate n true) c.slots-2.ensures.slots in
    subst (λ (ms : List MapValue). AreTied c.args.area.volumes c.args.area.records ms c.in_ok-pool.pool)
    (sym (made c.slots.result c.sizes.result.now c.slots.ensures.slots c.sizes.ensures c.in_ok-maps.ensures))
    (subst (λ (p : List Bool). AreTied c.args.area.volumes c.args.area.records (map (new_map (length c.args.area.records)) c.args.area.volumes) p) (sym pool)
    (tied_new c.args.area.volumes c.args.area.records c.requires))

pub returns : goal.returns
returns g c = same_parts c.args.area c.args.area (images_of c.in_ok-maps.maps) (map (λ n. []) c.args.area.volumes) refl
    (ap images_of (made c.slots.result c.sizes.result.now c.slots.ensures.slots c.sizes.ensures c.in_ok-maps.ensures) ∙ images_new c.args.area.volumes (length c.args.area.records))

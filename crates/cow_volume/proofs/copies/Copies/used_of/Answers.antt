use Rattle.std.proofs.Common.{◌≡◌, ◌<◌, ◌∙◌, ap, sym, subst, List, Option, Contains, ℕ}
use Rattle.std.proofs.lemmas.List.Elements.{All-contains}
use Rattle.diff_map.specs.Counts.{used_for}
use Rattle.diff_map.specs.declared.copied.Copied.{Copied}
use Rattle.cow_volume.specs.Calls.{sets_in}
use Rattle.cow_volume.specs.Changes.{count_of}
use Rattle.cow_volume.specs.CopiesAfter.{images_on}
use Rattle.cow_volume.specs.Parts.{CopiesValue}
use Rattle.diff_map.specs.Groups.{map_at}
use Rattle.cow_volume.proofs.Ties.{tied_at, images_at}
use Rattle.cow_volume.proofs.Rows.{used_of}
use Rattle.cow_volume.proofs.copies.Copies.used_of.Goals as goal

pub used_by-requires-clause-image : goal.used_by-requires-clause-image
used_by-requires-clause-image g c =
    let within = rw (← c.self.view_is) at c.requires.volume in
    let m = map_at c.self.inside.maps c.args.v in
    let at = tied_at _ _ _ _ c.args.v c.self.invariant within in
    subst (λ (sets : List ℕ). Contains sets c.args.set)
    (ap (λ (x : CopiesValue _). images_on x c.args.v) (sym c.self.view_is) ∙ ap sets_in (images_at c.self.inside.maps c.args.v m at)) c.requires.image

pub returns : goal.returns
returns g c =
    let within = rw (← c.self.view_is) at c.requires.volume in
    let m = map_at c.self.inside.maps c.args.v in
    let at = tied_at _ _ _ _ c.args.v c.self.invariant within in
    let image = subst (λ (sets : List ℕ). Contains sets c.args.set)
    (ap (λ (x : CopiesValue _). images_on x c.args.v) (sym c.self.view_is) ∙ ap sets_in (images_at c.self.inside.maps c.args.v m at)) c.requires.image in
    let some = (All-contains (λ image. (0 < image) × (image < 4294967296)) m.images c.args.set c.images-facts.ensures.valid.images.above_zero image).0 in
    let count : c.used_by.result ≡ count_of c.args.v c.args.set c.self.inside.area.records =
    c.used_by.ensures ∙ ap (λ (cs : List (Option Copied)). used_for cs c.args.set) (c.self.invariant.each c.args.v m at).copies ∙ used_of c.args.v c.args.set c.self.inside.area.records some in
    rw (← c.self.view_is) count

use Rattle.std.proofs.Common.{◌≡◌, ◌<◌, ◌∙◌, sym, ap, ℕ, List, length, slice_get, false, not, arith}
use Rattle.std.proofs.lemmas.Bool.Decides.{nat_tests}
use Rattle.cow_volume.specs.Calls.{sets_in}
use Rattle.cow_volume.specs.Room.{lacks_copy}
use Rattle.cow_volume.specs.Parts.{images_of}
use Rattle.diff_map.specs.Groups.{map_at}
use Rattle.cow_volume.proofs.Ties.{tied_at, images_at, lacks_none, lacks_if, newest_above}
use Rattle.cow_volume.proofs.copies.Copies.lacks_copy.Goals as goal

pub returns-then-is_empty : goal.returns-then-is_empty
returns-then-is_empty g c =
    let within = rw (← c.self.view_is) at c.requires in
    let m = map_at c.self.inside.maps c.args.v in
    let at = tied_at _ _ _ _ c.args.v c.self.invariant within in
    let sets : sets_in (slice_get (images_of c.self.inside.maps) c.args.v) ≡ m.images = ap sets_in (images_at c.self.inside.maps c.args.v m at) in
    let len = ap length c.images.ensures.images in
    let told = c.is_empty.ensures in
    let test = c.if-is_empty.true in
    let none : length m.images ≡ 0 = grind (arith, nat_tests) in
    let is : false ≡ lacks_copy c.self.inside.area.records c.args.v (sets_in (slice_get (images_of c.self.inside.maps) c.args.v)) c.args.block =
    lacks_none c.self.inside.area.records c.args.v m.images c.args.block none ∙ ap (λ (s : List ℕ). lacks_copy c.self.inside.area.records c.args.v s c.args.block) (sym sets) in
    rw (← c.self.view_is) is

pub returns : goal.returns
returns g c =
    let within = rw (← c.self.view_is) at c.requires in
    let m = map_at c.self.inside.maps c.args.v in
    let at = tied_at _ _ _ _ c.args.v c.self.invariant within in
    let sets : sets_in (slice_get (images_of c.self.inside.maps) c.args.v) ≡ m.images = ap sets_in (images_at c.self.inside.maps c.args.v m at) in
    let len = ap length c.images.ensures.images in
    let told = c.is_empty.ensures in
    let test = c.if-is_empty.false in
    let some : 0 < length m.images = grind (arith, nat_tests) in
    let above = newest_above m.images c.images.ensures.valid.images some in
    let is : not c.newest_has.result ≡ lacks_copy c.self.inside.area.records c.args.v (sets_in (slice_get (images_of c.self.inside.maps) c.args.v)) c.args.block =
    lacks_if c.self.inside.area.records m.copies c.args.v m.images c.args.block c.newest_has.result (c.self.invariant.each c.args.v m at).copies some above c.newest_has.ensures
    ∙ ap (λ (s : List ℕ). lacks_copy c.self.inside.area.records c.args.v s c.args.block) (sym sets) in
    rw (← c.self.view_is) is

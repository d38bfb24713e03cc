use Rattle.std.proofs.Common.{◌≡◌, ◌∙◌, ap, map, true, false, arith}
use Rattle.std.specs.Prelude.{nat_eq}
use Rattle.std.proofs.lemmas.Bool.Decides.{nat_tests}
use Rattle.slot_pool.specs.Slots.{free_count}
use Rattle.diff_area.specs.Format.{is_free}
use Rattle.cow_volume.specs.Room.{lacks_copy, is_full}
use Rattle.cow_volume.specs.CopiesAfter.{images_on}
use Rattle.cow_volume.proofs.Ties.{full_if, not_full_if, and_true, and_false}
use Rattle.cow_volume.proofs.copies.Copies.lacks_slot.Goals as goal

pub returns-then-free-eq0 : goal.returns-then-free-eq0
returns-then-free-eq0 g c =
    let count : c.free.result ≡ free_count (map is_free c.self.inside.area.records) = c.free.ensures ∙ ap free_count c.self.invariant.pool_is in
    let full : is_full c.self.inside.area.records ≡ true = full_if c.self.inside.area.records c.free.result count c.if-free-eq0.true in
    let now : is_full c.args.self.now.area.records ≡ true = rw (← c.self.view_is) full in
    c.lacks_copy.ensures ∙ and_true (lacks_copy c.args.self.now.area.records c.args.v (images_on c.args.self.now c.args.v) c.args.block) (is_full c.args.self.now.area.records) now

pub returns-else-free-eq0 : goal.returns-else-free-eq0
returns-else-free-eq0 g c =
    let count : c.free.result ≡ free_count (map is_free c.self.inside.area.records) = c.free.ensures ∙ ap free_count c.self.invariant.pool_is in
    let full : is_full c.self.inside.area.records ≡ false = not_full_if c.self.inside.area.records c.free.result count c.if-free-eq0.false in
    let now : is_full c.args.self.now.area.records ≡ false = rw (← c.self.view_is) full in
    let other = c.if-free-eq0.false in
    let no : nat_eq c.free.result 0 ≡ false = grind (arith, nat_tests) in
    no ∙ and_false (lacks_copy c.args.self.now.area.records c.args.v (images_on c.args.self.now c.args.v) c.args.block) (is_full c.args.self.now.area.records) now

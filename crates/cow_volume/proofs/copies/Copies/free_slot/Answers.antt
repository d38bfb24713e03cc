use Rattle.std.proofs.Common.{◌≡◌, ◌∙◌, ap, map, true}
use Rattle.std.specs.Prelude.{IsNone, ◌↔◌}
use Rattle.diff_area.specs.Format.{is_free}
use Rattle.cow_volume.specs.Room.{is_full}
use Rattle.slot_pool.specs.Slots.{free_count}
use Rattle.cow_volume.proofs.Ties.{lowest_if, full_if, full_only}
use Rattle.cow_volume.proofs.copies.Copies.free_slot.Goals as goal

pub returns-clause-lowest : goal.returns-clause-lowest
returns-clause-lowest g c =
    let low = lowest_if c.lowest.result c.self.inside.pool c.self.inside.area.records c.self.invariant.pool_is c.lowest.ensures.lowest in
    rw (← c.self.view_is) low

pub returns-clause-none : goal.returns-clause-none
returns-clause-none g c =
    let count : free_count c.self.inside.pool ≡ free_count (map is_free c.self.inside.area.records) = ap free_count c.self.invariant.pool_is in
    let there : IsNone c.lowest.result → is_full c.self.inside.area.records ≡ true = λ none. full_if c.self.inside.area.records (free_count c.self.inside.pool) count (c.lowest.ensures.none.0 none) in
    let back : is_full c.self.inside.area.records ≡ true → IsNone c.lowest.result = λ full. c.lowest.ensures.none.1 (count ∙ full_only c.self.inside.area.records full) in
    let both : IsNone c.lowest.result ↔ (is_full c.self.inside.area.records ≡ true) = (there, back) in
    rw (← c.self.view_is) both

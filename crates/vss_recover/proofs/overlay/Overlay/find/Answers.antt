use Rattle.std.proofs.Common.{◌<◌, ◌∙◌, ap, sym, arith, length}
use Rattle.std.proofs.lemmas.Bool.{false≢true}
use Rattle.std.proofs.lemmas.List.{get_or_read}
use Rattle.diff_map.specs.declared.entry.Entry.{Entry}
use Rattle.vss_recover.proofs.UsedSlots.{found_row, no_row, both_same, both_test}
use Rattle.vss_recover.proofs.overlay.Overlay.find.Goals as goal

pub place_from-at-requires : goal.place_from-at-requires
place_from-at-requires g c = rw c.deref.ensures.value c.self.invariant.index.in_order

pub returns-then-is_at-clause-found : goal.returns-then-is_at-clause-found
returns-then-is_at-clause-found g c =
    let long = ap length c.deref.ensures.value in
    let within : c.place_from-at.result < length c.self.inside.entries.items = omega arith in
    let same = both_same c.index-entry.result.now.block c.args.block c.index-entry.result.now.set c.args.set (sym c.is_at.ensures ∙ c.if-is_at.true) in
    rw (← c.self.view_is)
    (found_row c.self.inside.entries.items c.self.inside.area.records c.args.set c.args.block c.place_from-at.result c.index-entry.result.now c.self.invariant.index within c.index-entry.ensures
    same.0 same.1)

pub returns-then-at-len-clause-none : goal.returns-then-at-len-clause-none
returns-then-at-len-clause-none g c =
    let before = rw c.deref.ensures.value at c.place_from-at.ensures.before in
    let onward = rw c.deref.ensures.value at c.place_from-at.ensures.onward in
    let long = c.len.ensures in
    let end = c.if-at-len.true in
    rw (← c.self.view_is)
    (λ none some. no_row c.self.inside.entries.items c.self.inside.area.records c.args.set c.args.block c.place_from-at.result c.self.invariant.index before onward
    (λ inside d b s. absurd (omega arith)) some)

pub returns-else-is_at-clause-none : goal.returns-else-is_at-clause-none
returns-else-is_at-clause-none g c =
    let before = rw c.deref.ensures.value at c.place_from-at.ensures.before in
    let onward = rw c.deref.ensures.value at c.place_from-at.ensures.onward in
    let entry = c.index-entry.result.now in
    rw (← c.self.view_is) (λ none some. no_row c.self.inside.entries.items c.self.inside.area.records c.args.set c.args.block c.place_from-at.result c.self.invariant.index before onward
    (λ inside d b s. (
    let is = get_or_read c.self.inside.entries.items c.place_from-at.result entry inside c.index-entry.ensures d in
    let test = both_test entry.block c.args.block entry.set c.args.set (ap (λ (x : Entry). x.block) is ∙ b) (ap (λ (x : Entry). x.set) is ∙ s) in
    false≢true (sym c.if-is_at.false ∙ c.is_at.ensures ∙ test))) some)

-- What the links of the rows lead to, where a slot gets a copy or loses it: what the rows keep holds on.
use Rattle.std.proofs.Common.{ℕ, ◌<◌, ◌^◌, List, Some, None, length, get_or, arith, ◌≡◌, ◌≢◌, ◌≤◌, ◌⊎◌, ◌∙◌, inl, inr, Option, set, refl, ap, sym, subst, rules}
use Rattle.std.proofs.lemmas.Bool.{cases_lt, cases_eq}
use Rattle.std.proofs.lemmas.List.{get_or_past, get_or-set_same, get_or-set_other, length-set}
use Rattle.std.proofs.lemmas.Option.{same_Some, none-some}
use Rattle.diff_map.specs.Links.{row_at, HasBlock, NoneBetween, IsBetween, IsBelow, IsNextAbove, KeepsLinks, LeadsBelow, IsFrom, link_from, set_of}
use Rattle.diff_map.specs.Links.{newest_after, older_after}
use Rattle.diff_map.specs.declared.row.Row.{Row}

-- ## What the links of the rows of copies lead to.

-- a slot with a copy is one of the rows
pub used_within : (rows : List Row) (slot : ℕ) → 0 < (row_at rows slot).set → slot < length rows
used_within rows slot used = grind (arith, cases_lt, get_or_past)

pub older_of : (newest : List ℕ) (rows : List Row) (block at : ℕ) → KeepsLinks newest rows → HasBlock rows block at → IsBelow rows (row_at rows at).older block (row_at rows at).set
older_of newest rows block at keeps has = keeps.links block (Some at) has

pub newest_of : (newest : List ℕ) (rows : List Row) (block : ℕ) → KeepsLinks newest rows → block < length newest → IsBelow rows (get_or newest block 0) block (2 ^ 32)
newest_of newest rows block keeps low = keeps.links block None low

-- ## the walk down a chain

pub no_next : (newest : List ℕ) (rows : List Row) (block low : ℕ) → KeepsLinks newest rows → block < length newest → low < 2 ^ 32
    → (IsBelow rows (get_or newest block 0) block (2 ^ 32) → NoneBetween rows block low (2 ^ 32)) → IsNextAbove rows block low None
no_next newest rows block low keeps in_range narrow none = record { has = tt; above = narrow; next = none (newest_of newest rows block keeps in_range) }

pub is_next : (newest : List ℕ) (rows : List Row) (block low at : ℕ) → KeepsLinks newest rows → IsBetween rows block low (2 ^ 32) at
    → (IsBelow rows (row_at rows at).older block (row_at rows at).set → NoneBetween rows block low (row_at rows at).set) → IsNextAbove rows block low (Some at)
is_next newest rows block low at keeps on none = record { has = on.has; above = on.above; next = none (older_of newest rows block at keeps on.has) }

-- ## A slot gets a copy or loses it, and the link of its block from above leads past it or to it: what the rows keep holds on.

abbrev empty : Row
empty = record { block = 0; set = 0; older = 0 }

abbrev rows_after : List Row → ℕ → Row → Option ℕ → ℕ → List Row
rows_after rows slot new above to = older_after (set rows slot new) above to

abbrev led : List Row → ℕ → ℕ → Row
led rows at to = record { block = (row_at rows at).block; set = (row_at rows at).set; older = to }

-- how the rows are afterwards
pub record AreRelinked (newest newest' : List ℕ) (rows rows' : List Row) (block slot : ℕ) (new : Row) (above : Option ℕ) (to : ℕ) : Type 0 where
  pub long : length rows' ≡ length rows
  pub long_newest : length newest' ≡ length newest
  pub new_row : row_at rows' slot ≡ new
  pub sets : (other : ℕ) → other ≢ slot → (row_at rows' other).set ≡ (row_at rows other).set
  pub blocks : (other : ℕ) → other ≢ slot → (row_at rows' other).block ≡ (row_at rows other).block
  pub other_links : (b : ℕ) (from : Option ℕ) → from ≢ Some slot → (b ≢ block) ⊎ (from ≢ above) → IsFrom newest rows b from → link_from newest' rows' b from ≡ link_from newest rows b from
  pub this_link : link_from newest' rows' block above ≡ to

are_relinked_none : (newest : List ℕ) (rows : List Row) (block slot : ℕ) (new : Row) (to : ℕ) → slot < length rows → block < length newest
    → AreRelinked newest (set newest block to) rows (set rows slot new) block slot new None to
are_relinked_none newest rows block slot new to inside in_range = grind (arith, length-set, get_or-set_same, get_or-set_other)

module _ (newest : List ℕ) (rows : List Row) (block slot : ℕ) (new : Row) (at to : ℕ) (inside : slot < length rows) (at_inside : at < length rows) (apart_at : at ≢ slot)
    (has : HasBlock rows block at) where
  abbrev mid : List Row
  mid = set rows slot new

  abbrev last : List Row
  last = set mid at (led mid at to)

  mid_other : (other : ℕ) → other ≢ slot → row_at mid other ≡ row_at rows other
  mid_other other apart = get_or-set_other rows slot other new empty apart

  last_at : row_at last at ≡ led mid at to
  last_at = get_or-set_same mid at (led mid at to) empty (let l = length-set rows slot new in omega arith)

  last_other : (other : ℕ) → other ≢ at → row_at last other ≡ row_at mid other
  last_other other apart = get_or-set_other mid at other (led mid at to) empty apart

  same_set : (other : ℕ) → other ≢ slot → (row_at last other).set ≡ (row_at rows other).set
  same_set other apart = grind (arith, cases_eq, last_at, mid_other, last_other)

  same_block : (other : ℕ) → other ≢ slot → (row_at last other).block ≡ (row_at rows other).block
  same_block other apart = grind (arith, cases_eq, last_at, mid_other, last_other)

  other_than_at : (b q : ℕ) → (b ≢ block) ⊎ (Some q ≢ Some at) → HasBlock rows b q → q ≢ at
  other_than_at b q x2 q_has same = grind arith

  others_led : (b : ℕ) (from : Option ℕ) → from ≢ Some slot → (b ≢ block) ⊎ (from ≢ Some at) → IsFrom newest rows b from → link_from newest last b from ≡ link_from newest rows b from
  others_led b from not_slot apart is_from = grind (arith, last_other, other_than_at, mid_other)

  are_relinked_some : AreRelinked newest newest rows last block slot new (Some at) to
  are_relinked_some = grind (arith, length-set, last_other, get_or-set_same, same_set, same_block, others_led, last_at)

-- a link from above the slot's set is not from the slot
pub are_relinked : (newest : List ℕ) (rows : List Row) (block slot low : ℕ) (new : Row) (above : Option ℕ) (to : ℕ) → slot < length rows → block < length newest → (row_at rows slot).set ≤ low
    → IsNextAbove rows block low above
    → AreRelinked newest (newest_after newest block above to) rows (rows_after rows slot new above to) block slot new above to
are_relinked newest rows block slot low new above to inside in_range under next = search (rules, are_relinked_none, are_relinked_some, used_within)

-- ## what both have in common

module _ (newest newest' : List ℕ) (rows rows' : List Row) (block slot : ℕ) (new : Row) (above : Option ℕ) (to : ℕ) (is : AreRelinked newest newest' rows rows' block slot new above to) where
  -- a copy of another slot was there before
  pub had : (b other : ℕ) → other ≢ slot → HasBlock rows' b other → HasBlock rows b other
  had b other apart has = (let e = is.sets other apart in let u = has.0 in omega arith, sym (is.blocks other apart) ∙ has.1)

  pub from_before : (b : ℕ) (from : Option ℕ) → from ≢ Some slot → IsFrom newest' rows' b from → IsFrom newest rows b from
  from_before b from apart is_from = grind arith

  pub same_set_of : (from : Option ℕ) → from ≢ Some slot → set_of rows' from ≡ set_of rows from
  same_set_of from apart = grind arith

  pub slot_set : (row_at rows' slot).set ≡ new.set
  slot_set = ap (λ (r : Row). r.set) is.new_row

  pub slot_block : (row_at rows' slot).block ≡ new.block
  slot_block = ap (λ (r : Row). r.block) is.new_row

  -- another link than that from above leads where it led, and that holds on if it does for the old link
  pub moved : (b : ℕ) (from : Option ℕ) → from ≢ Some slot → (b ≢ block) ⊎ (from ≢ above) → IsFrom newest rows b from → IsBelow rows' (link_from newest rows b from) b (set_of rows from)
      → IsBelow rows' (link_from newest' rows' b from) b (set_of rows' from)
  moved b from not_slot apart is_from below = grind (arith, same_set_of)

  pub by_place : (b : ℕ) (from : Option ℕ) → IsBelow rows' (link_from newest' rows' block above) block (set_of rows' above)
      → ((b ≢ block) ⊎ (from ≢ above) → IsBelow rows' (link_from newest' rows' b from) b (set_of rows' from)) → IsBelow rows' (link_from newest' rows' b from) b (set_of rows' from)
  by_place b from here there = grind arith

-- ## a slot gets a copy

module _ (newest newest' : List ℕ) (rows rows' : List Row) (block image slot : ℕ) (above : Option ℕ) (keeps : KeepsLinks newest rows)
    (is : AreRelinked newest newest' rows rows' block slot (record { block = block; set = image; older = link_from newest rows block above }) above slot)
    (next : IsNextAbove rows block image above) (in_range : block < length newest) (unused : (row_at rows slot).set ≡ 0) (above_zero : 0 < image) (narrow : image < 2 ^ 32)
    (lacks : (other : ℕ) → HasBlock rows block other → (row_at rows other).set ≢ image) where
  abbrev new : Row
  new = record { block = block; set = image; older = link_from newest rows block above }

  was : (b other : ℕ) → other ≢ slot → HasBlock rows' b other → HasBlock rows b other
  was = had newest newest' rows rows' block slot new above slot is

  set_is : (row_at rows' slot).set ≡ image
  set_is = slot_set newest newest' rows rows' block slot new above slot is

  block_is : (row_at rows' slot).block ≡ block
  block_is = slot_block newest newest' rows rows' block slot new above slot is

  -- the new copy does not come between: it is of another block, or not below, or some copy between stands above it
  abbrev IsFree : ℕ → ℕ → Type 0
  IsFree b s = (b ≢ block) ⊎ ((s ≤ image) ⊎ ((at : ℕ) × HasBlock rows block at × (image < (row_at rows at).set) × ((row_at rows at).set < s)))

  here_set : (other : ℕ) → other ≡ slot → (row_at rows' other).set ≡ image
  here_set other same = ap (λ k. (row_at rows' k).set) same ∙ set_is

  here_block : (b other : ℕ) → other ≡ slot → HasBlock rows' b other → b ≡ block
  here_block b other same has = sym has.1 ∙ ap (λ k. (row_at rows' k).block) same ∙ block_is

  kept : (link b s : ℕ) → IsFree b s → IsBelow rows link b s → IsBelow rows' link b s
  kept link b s free below other has lt = grind arith

  from_slot : IsBelow rows' (row_at rows' slot).older block image
  from_slot = grind arith

  to_slot : IsBelow rows' (link_from newest' rows' block above) block (set_of rows' above)
  to_slot = grind arith

  free_of : (b : ℕ) (from : Option ℕ) → (b ≢ block) ⊎ (from ≢ above) → IsFrom newest rows b from → IsFree b (set_of rows from)
  free_of b from x2 is_from = grind arith

  links_old : (b : ℕ) (from : Option ℕ) → from ≢ Some slot → IsFrom newest' rows' b from → IsBelow rows' (link_from newest' rows' b from) b (set_of rows' from)
  links_old b from not_slot is_from' = search (rules, from_before, by_place, to_slot, moved, kept, free_of)

  links_now : (b : ℕ) (from : Option ℕ) → IsFrom newest' rows' b from → IsBelow rows' (link_from newest' rows' b from) b (set_of rows' from)
  links_now b from is_from = grind (arith, links_old, none-some, cases_eq, here_block, set_is, from_slot, same_Some)

  once_now : (one other : ℕ) → 0 < (row_at rows' one).set → HasBlock rows' (row_at rows' one).block other → (row_at rows' one).set ≡ (row_at rows' other).set → one ≡ other
  once_now one other used has same = grind arith

  pub KeepsLinks-noted : KeepsLinks newest' rows'
  KeepsLinks-noted = grind (arith, links_now, once_now, cases_eq, block_is, was, here_set)

-- ## a slot loses its copy

module _ (newest newest' : List ℕ) (rows rows' : List Row) (slot : ℕ) (above : Option ℕ) (to : ℕ) (keeps : KeepsLinks newest rows)
    (is : AreRelinked newest newest' rows rows' (row_at rows slot).block slot (record { block = (row_at rows slot).block; set = 0; older = (row_at rows slot).older }) above to)
    (used : 0 < (row_at rows slot).set) where
  abbrev block_out : ℕ
  block_out = (row_at rows slot).block

  abbrev set_out : ℕ
  set_out = (row_at rows slot).set

  abbrev gone : Row
  gone = record { block = block_out; set = 0; older = (row_at rows slot).older }

  out_apart : (b other : ℕ) → HasBlock rows' b other → other ≢ slot
  out_apart b other has same = grind arith

  was_out : (b other : ℕ) → HasBlock rows' b other → HasBlock rows b other
  was_out b other has = had newest newest' rows rows' block_out slot gone above to is b other (out_apart b other has) has

  same_out : (b other : ℕ) → HasBlock rows' b other → (row_at rows' other).set ≡ (row_at rows other).set
  same_out b other has = is.sets other (out_apart b other has)

  leads_out : (link b s : ℕ) → link ≢ slot → LeadsBelow rows link b s → LeadsBelow rows' link b s
  leads_out link b s apart leads = grind arith

  -- another copy of the block has another set
  other_set : (other : ℕ) → HasBlock rows' block_out other → (row_at rows other).set ≢ set_out
  other_set other has same = out_apart block_out other has (sym (keeps.once slot other used (was_out block_out other has) (sym same)))

  -- the link leads past the slot
  abbrev IsPast : ℕ → Option ℕ → Type 0
  IsPast b from = (other : ℕ) → HasBlock rows' b other → (row_at rows other).set < set_of rows from
      → LeadsBelow rows (link_from newest rows b from) b (set_of rows from) → link_from newest rows b from ≢ slot

  past_out : (b : ℕ) (from : Option ℕ) → IsFrom newest rows b from → IsPast b from → IsBelow rows' (link_from newest rows b from) b (set_of rows from)
  past_out b from is_from past other has lt = search (rules, same_out, was_out, leads_out)

  module _ (here : IsBelow rows' (link_from newest' rows' block_out above) block_out (set_of rows' above))
      (past : (b : ℕ) (from : Option ℕ) → (b ≢ block_out) ⊎ (from ≢ above) → IsFrom newest rows b from → IsPast b from) where
    links_out : (b : ℕ) (from : Option ℕ) → from ≢ Some slot → IsFrom newest' rows' b from → IsBelow rows' (link_from newest' rows' b from) b (set_of rows' from)
    links_out b from not_slot is_from' = search (rules, from_before, by_place, moved, past_out)

    all_links_out : (b : ℕ) (from : Option ℕ) → IsFrom newest' rows' b from → IsBelow rows' (link_from newest' rows' b from) b (set_of rows' from)
    all_links_out b from is_from = grind (arith, links_out, none-some, out_apart, same_Some)

    pub KeepsLinks-gone : KeepsLinks newest' rows'
    KeepsLinks-gone = grind (arith, all_links_out, out_apart, was_out, cases_eq, slot_set)

-- the link from above leads to the next older copy now
module _ (newest newest' : List ℕ) (rows rows' : List Row) (slot : ℕ) (above : Option ℕ) (keeps : KeepsLinks newest rows)
    (is : AreRelinked newest newest' rows rows' (row_at rows slot).block slot (record { block = (row_at rows slot).block; set = 0; older = (row_at rows slot).older }) above (row_at rows slot).older)
    (next : IsNextAbove rows (row_at rows slot).block (row_at rows slot).set above) (used : 0 < (row_at rows slot).set) where
  abbrev b_out : ℕ
  b_out = (row_at rows slot).block

  abbrev s_out : ℕ
  s_out = (row_at rows slot).set

  abbrev older_out : ℕ
  older_out = (row_at rows slot).older

  not_above : above ≢ Some slot
  not_above e = let a : s_out < set_of rows (Some slot) = subst (λ (f : Option ℕ). s_out < set_of rows f) e next.above in omega arith

  to_older : IsBelow rows' older_out b_out (set_of rows above)
  to_older any any_has any_lt =
      let e_any = same_out newest newest' rows rows' slot above older_out keeps is used b_out any any_has in
      let had_any = was_out newest newest' rows rows' slot above older_out keeps is used b_out any any_has in
      let differs_any = other_set newest newest' rows rows' slot above older_out keeps is used any any_has in
      let under_any : (row_at rows any).set < s_out = elim (cases_lt (row_at rows any).set s_out) [
        | inl under ↦ under
        | inr over ↦ absurd (let high = next.next any had_any (omega arith) in omega arith)
      ] in
      let leads = keeps.links b_out (Some slot) (used, refl) any had_any under_any in
      let low = leads.between.below in
      let apart : older_out ≢ slot = λ same. let e : (row_at rows older_out).set ≡ s_out = ap (λ k. (row_at rows k).set) same in omega arith in
      let now = leads_out newest newest' rows rows' slot above older_out keeps is used older_out b_out s_out apart leads in
      let up = next.above in
      record {
        between = record { has = now.between.has; above = now.between.above; below = omega arith };
        next = λ other has lt.
            let e = same_out newest newest' rows rows' slot above older_out keeps is used b_out other has in
            let had_it = was_out newest newest' rows rows' slot above older_out keeps is used b_out other has in
            let differs = other_set newest newest' rows rows' slot above older_out keeps is used other has in
            elim (cases_lt (row_at rows other).set s_out) [
              | inl under ↦ now.next other has (omega arith)
              | inr over ↦ absurd (let high = next.next other had_it (omega arith) in omega arith)
            ];
      }

  here_out : IsBelow rows' (link_from newest' rows' b_out above) b_out (set_of rows' above)
  here_out = grind (arith, same_set_of, not_above, to_older)

  -- no other link leads to the slot
  leads_past : (b : ℕ) (from : Option ℕ) → (b ≢ b_out) ⊎ (from ≢ above) → IsFrom newest rows b from → LeadsBelow rows (link_from newest rows b from) b (set_of rows from)
      → link_from newest rows b from ≢ slot
  leads_past b from apart is_from leads same = grind arith

  pub KeepsLinks-out : KeepsLinks newest' rows'
  KeepsLinks-out = search (rules, KeepsLinks-gone, here_out, leads_past)

-- the oldest copy of a block goes, and no link leads elsewhere
module _ (newest : List ℕ) (rows : List Row) (slot : ℕ) (keeps : KeepsLinks newest rows) (used : 0 < (row_at rows slot).set)
    (last : NoneBetween rows (row_at rows slot).block 0 (row_at rows slot).set) where
  abbrev b_last : ℕ
  b_last = (row_at rows slot).block

  abbrev row_out : Row
  row_out = record { block = b_last; set = 0; older = (row_at rows slot).older }

  abbrev rows_out : List Row
  rows_out = set rows slot row_out

  abbrev link_last : ℕ
  link_last = link_from newest rows b_last None

  is_last : AreRelinked newest newest rows rows_out b_last slot row_out None link_last
  is_last = grind (arith, length-set, get_or-set_same, used_within, get_or-set_other)

  past_last : (b : ℕ) (from : Option ℕ) → IsPast newest newest rows rows_out slot None link_last keeps is_last used b from
  past_last b from other has lt leads same = grind (arith, same_block, was_out, is_last, other_set)

  pub KeepsLinks-last : KeepsLinks newest rows_out
  KeepsLinks-last = KeepsLinks-gone newest newest rows rows_out slot None link_last keeps is_last used
      (past_out newest newest rows rows_out slot None link_last keeps is_last used b_last None (keeps.in_range slot used) (past_last b_last None))
      (λ b from apart is_from. past_last b from)

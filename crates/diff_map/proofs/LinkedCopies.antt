-- What the rows of copies stand for, as contracts see it, also where a copy gets a lesser set or is taken out.
use Rattle.std.proofs.Common.{ℕ, zero, suc, ◌≡◌, ◌≢◌, ◌<◌, ◌≤◌, ◌^◌, ◌-◌, inl, inr, ◌∙◌, ◌∷◌, List, Option, Some, None, length, map, set, replicate, refl, ap}
use Rattle.std.proofs.Common.{sym, subst, arith, get_or, ◌⊎◌, rules}
use Rattle.std.proofs.lemmas.Bool.{cases_lt, cases_eq}
use Rattle.std.proofs.lemmas.Bool.Decides.{nat_tests}
use Rattle.std.proofs.lemmas.Grind.{common_steps}
use Rattle.std.proofs.lemmas.List.{map-set, set-get_or, length-map, length-replicate, length-set, get_or-set_same, get_or-set_other, get_or_read}
use Rattle.std.proofs.lemmas.Option.{none-some, get_or_from_slice_get, slice_get_within}
use Rattle.std.specs.Prelude.{◌↔◌, IfSome, IsNone, slice_get}
use Rattle.diff_map.specs.Copies.{IsFound, IsAbsent, copied_at, copy_of, HasCopy}
use Rattle.diff_map.specs.Links.{LinksValue, AreLinked, row_at, copy_in, HasBlock, IsNextAbove, KeepsLinks, newest_after, older_after, IsLowered, NoneBetween}
use Rattle.diff_map.specs.Links.{LeadsBelow, IsBelow, IsFrom, link_from, set_of}
use Rattle.diff_map.specs.declared.copied.Copied.{Copied}
use Rattle.diff_map.specs.declared.row.Row.{Row}
use Rattle.diff_map.proofs.Relinked.{used_within, are_relinked, KeepsLinks-out, KeepsLinks-last}

-- ## What the rows of copies stand for, as contracts see it.

-- the copy of a slot is that of its row
pub copied_at_row : (rows : List Row) (slot : ℕ) → copied_at (map copy_in rows) slot ≡ copy_in (row_at rows slot)
copied_at_row rows slot = grind (arith, common_steps)

pub copy_in_used : (row : Row) → 0 < row.set → copy_in row ≡ Some (copy_of row.set row.block)
copy_in_used row used = grind (arith, nat_tests, used)

-- a row that stands for a copy
pub record StandsFor (row : Row) (image block : ℕ) : Type 0 where
  pub set_is : row.set ≡ image
  pub block_is : row.block ≡ block
  pub used : 0 < row.set

pub stands_for : (row : Row) (image block : ℕ) → copy_in row ≡ Some (copy_of image block) → StandsFor row image block
stands_for row image block is = grind arith

-- the row of a slot that has a copy of a block
pub has_from_copy : (rows : List Row) (slot image block : ℕ) → copied_at (map copy_in rows) slot ≡ Some (copy_of image block) → StandsFor (row_at rows slot) image block
has_from_copy rows slot image block is = stands_for (row_at rows slot) image block (sym (copied_at_row rows slot) ∙ is)

pub copy_from_has : (rows : List Row) (slot block : ℕ) → HasBlock rows block slot → copied_at (map copy_in rows) slot ≡ Some (copy_of (row_at rows slot).set block)
copy_from_has rows slot block has = copied_at_row rows slot ∙ copy_in_used (row_at rows slot) has.0 ∙ ap (λ b. Some (copy_of (row_at rows slot).set b)) has.1

pub unused_from : (rows : List Row) (slot : ℕ) → slice_get (map copy_in rows) slot ≡ Some None → (row_at rows slot).set ≡ 0
unused_from rows slot unnoted = elim (cases_lt 0 (row_at rows slot).set) [
  | inl used ↦ absurd (none-some (copy_of (row_at rows slot).set (row_at rows slot).block)
      (sym (get_or_from_slice_get (map copy_in rows) slot None None unnoted) ∙ copied_at_row rows slot ∙ copy_in_used (row_at rows slot) used))
  | inr none ↦ omega arith
]

pub inside_from : (rows : List Row) (slot : ℕ) → slice_get (map copy_in rows) slot ≡ Some None → slot < length rows
inside_from rows slot unnoted = let l = length-map rows copy_in in let w = slice_get_within (map copy_in rows) slot None unnoted in omega arith

pub lacks_from : (rows : List Row) (image block : ℕ) → (HasCopy (map copy_in rows) image block → ⊥) → (other : ℕ) → HasBlock rows block other → (row_at rows other).set ≢ image
lacks_from rows image block lacks other has same = lacks (other, copy_from_has rows other block has ∙ ap (λ s. Some (copy_of s block)) same)

pub AreLinked-from : (newest : List ℕ) (rows : List Row) → KeepsLinks newest rows → AreLinked (record { blocks = length newest; copies = map copy_in rows })
AreLinked-from newest rows keeps = record {
  of_blocks = λ slot copied is. let it = has_from_copy rows slot copied.set copied.block is in let e = it.block_is in let low = keeps.in_range slot it.used in omega arith;
  once = λ slot other copied is is_other.
      let it = has_from_copy rows slot copied.set copied.block is in
      let other_it = has_from_copy rows other copied.set copied.block is_other in
      keeps.once slot other it.used (other_it.used, other_it.block_is ∙ sym it.block_is) (it.set_is ∙ sym other_it.set_is);
  narrow = let l = length-map rows copy_in in let n = keeps.narrow in omega arith;
}

-- ## finding

found_in : (rows : List Row) (asked block slot : ℕ) → IsNextAbove rows block (asked - 1) (Some slot) → IsFound (map copy_in rows) asked block slot
found_in rows asked block slot next = record {
  image = (row_at rows slot).set;
  noted = copy_from_has rows slot block next.has;
  reached = let a = next.above in omega arith;
  first = λ other newer is reached.
      let it = has_from_copy rows other newer block is in
      let same = it.set_is in
      let u = it.used in
      omega arith;
}

absent_in : (rows : List Row) (asked block : ℕ) → ((slot : ℕ) → (row_at rows slot).set < 2 ^ 32) → IsNextAbove rows block (asked - 1) None → IsAbsent (map copy_in rows) asked block
absent_in rows asked block narrow next slot image is reached = grind (arith, has_from_copy)

-- of a block past the last there is no copy
pub absent_past : (newest : List ℕ) (rows : List Row) (asked block : ℕ) → KeepsLinks newest rows → length newest ≤ block → IsAbsent (map copy_in rows) asked block
absent_past newest rows asked block keeps past slot image is reached = grind (arith, has_from_copy)

pub found_from : (rows : List Row) (asked low block : ℕ) (result : Option ℕ) → low ≡ asked - 1 → IsNextAbove rows block low result → IfSome result (IsFound (map copy_in rows) asked block)
found_from rows asked low block result is next = grind (arith, found_in)

pub none_from : (newest : List ℕ) (rows : List Row) (asked low block : ℕ) (result : Option ℕ) → KeepsLinks newest rows → low ≡ asked - 1 → IsNextAbove rows block low result
    → IsNone result ↔ IsAbsent (map copy_in rows) asked block
none_from newest rows asked low block None keeps is next = (λ _. absent_in rows asked block keeps.narrow_sets (subst (λ k. IsNextAbove rows block k None) is next), λ _. refl)
none_from newest rows asked low block (Some slot) keeps is next = grind (arith, common_steps, found_in rows asked block slot)

-- ## the value afterwards

abbrev LinksValueOf : ℕ → List (Option Copied) → LinksValue
LinksValueOf blocks copies = record { blocks = blocks; copies = copies }

same_copies : (rows : List Row) (above : Option ℕ) (to : ℕ) → map copy_in (older_after rows above to) ≡ map copy_in rows
same_copies rows None to = refl
same_copies rows (Some at) to = map-set copy_in rows at _ ∙ ap (λ (o : Option Copied). set (map copy_in rows) at o) (sym (copied_at_row rows at)) ∙ set-get_or (map copy_in rows) at None

pub copies_after : (rows : List Row) (slot : ℕ) (new : Row) (above : Option ℕ) (to : ℕ) (copy : Option Copied) → copy_in new ≡ copy
    → map copy_in (older_after (set rows slot new) above to) ≡ set (map copy_in rows) slot copy
copies_after rows slot new above to copy is = grind (arith, same_copies, map-set)

-- ## the first rows

pub copies_of_none : (n slots : ℕ) → map copy_in (replicate n (record { block = 0; set = 0; older = slots })) ≡ replicate n None
copies_of_none zero slots = refl
copies_of_none (suc n) slots = ap (λ (xs : List (Option Copied)). None ∷ xs) (copies_of_none n slots)

length_after : (newest : List ℕ) (block : ℕ) (above : Option ℕ) (to : ℕ) → length (newest_after newest block above to) ≡ length newest
length_after newest block above to = grind (arith, length-set)

pub value_after : (newest later : List ℕ) (rows next : List Row) (block slot : ℕ) (new : Row) (above : Option ℕ) (to : ℕ) (copy : Option Copied) → later ≡ newest_after newest block above to
    → next ≡ older_after (set rows slot new) above to → copy_in new ≡ copy
    → LinksValueOf (length later) (map copy_in next) ≡ LinksValueOf (length newest) (set (map copy_in rows) slot copy)
value_after newest later rows next block slot new above to copy later_is next_is is = grind (arith, length_after, copies_after)

pub value_at : (blocks : ℕ) (rows : List Row) (slot : ℕ) (new : Row) (copy : Option Copied) → copy_in new ≡ copy
    → LinksValueOf blocks (map copy_in (set rows slot new)) ≡ LinksValueOf blocks (set (map copy_in rows) slot copy)
value_at blocks rows slot new copy is = ap (LinksValueOf blocks) (map-set copy_in rows slot new ∙ ap (λ (o : Option Copied). set (map copy_in rows) slot o) is)

pub value_new : (blocks slots : ℕ) (newest : List ℕ) (rows : List Row) → newest ≡ replicate blocks slots → rows ≡ replicate slots (record { block = 0; set = 0; older = slots })
    → LinksValueOf (length newest) (map copy_in rows) ≡ LinksValueOf blocks (replicate slots None)
value_new blocks slots newest rows newest_is rows_is = grind (arith, length-replicate, copies_of_none)

-- ## A copy gets a lesser set, and none of its block has a set between: what the rows keep holds on, and no link changes.

module _ (newest : List ℕ) (rows : List Row) (slot low : ℕ) (keeps : KeepsLinks newest rows) (used : 0 < (row_at rows slot).set) (above_zero : 0 < low) (below : low < (row_at rows slot).set)
    (free : (other : ℕ) → HasBlock rows (row_at rows slot).block other → other ≢ slot → ((row_at rows other).set < low) ⊎ ((row_at rows slot).set < (row_at rows other).set)) where
  abbrev lowered : Row
  lowered = record { block = (row_at rows slot).block; set = low; older = (row_at rows slot).older }

  abbrev rows_now : List Row
  rows_now = set rows slot lowered

  here : row_at rows_now slot ≡ lowered
  here = get_or-set_same rows slot lowered _ (used_within rows slot used)

  other_row : (other : ℕ) → other ≢ slot → row_at rows_now other ≡ row_at rows other
  other_row other apart = get_or-set_other rows slot other lowered _ apart

  set_here : (other : ℕ) → other ≡ slot → (row_at rows_now other).set ≡ low
  set_here other same = ap (λ k. (row_at rows_now k).set) same ∙ ap (λ (r : Row). r.set) here

  set_there : (other : ℕ) → other ≢ slot → (row_at rows_now other).set ≡ (row_at rows other).set
  set_there other apart = ap (λ (r : Row). r.set) (other_row other apart)

  same_block : (other : ℕ) → (row_at rows_now other).block ≡ (row_at rows other).block
  same_block other = grind (arith, cases_eq, here, other_row)

  same_older : (other : ℕ) → (row_at rows_now other).older ≡ (row_at rows other).older
  same_older other = grind (arith, cases_eq, here, other_row)

  used_before : (other : ℕ) → 0 < (row_at rows_now other).set → 0 < (row_at rows other).set
  used_before other has = grind (arith, cases_eq, set_there)

  used_after : (other : ℕ) → 0 < (row_at rows other).set → 0 < (row_at rows_now other).set
  used_after other has = grind (arith, cases_eq, set_here, set_there)

  was : (b other : ℕ) → HasBlock rows_now b other → HasBlock rows b other
  was b other has = (used_before other has.0, sym (same_block other) ∙ has.1)

  still : (b other : ℕ) → HasBlock rows b other → HasBlock rows_now b other
  still b other has = (used_after other has.0, same_block other ∙ has.1)

  from_before : (b : ℕ) (from : Option ℕ) → IsFrom newest rows_now b from → IsFrom newest rows b from
  from_before b from is_from = grind (arith, was)

  same_link : (b : ℕ) (from : Option ℕ) → link_from newest rows_now b from ≡ link_from newest rows b from
  same_link b from = grind (arith, same_older)

  -- of two copies of a block the order stays
  block_of : (b other : ℕ) → other ≡ slot → HasBlock rows b other → b ≡ (row_at rows slot).block
  block_of b other same has = sym has.1 ∙ ap (λ k. (row_at rows k).block) same

  free_of : (b other q : ℕ) → other ≡ slot → HasBlock rows b other → HasBlock rows b q → q ≢ slot → ((row_at rows q).set < low) ⊎ ((row_at rows slot).set < (row_at rows q).set)
  free_of b other q same has q_has apart = free q (q_has.0, q_has.1 ∙ block_of b other same has) apart

  set_is : (other : ℕ) → other ≡ slot → (row_at rows other).set ≡ (row_at rows slot).set
  set_is other same = ap (λ k. (row_at rows k).set) same

  lt_before : (b other : ℕ) (from : Option ℕ) → HasBlock rows b other → IsFrom newest rows b from → (row_at rows_now other).set < set_of rows_now from → (row_at rows other).set < set_of rows from
  lt_before b other from has is_from lt = grind (arith, cases_eq, set_here, set_is, set_there, free_of)

  lt_after : (b other : ℕ) (from : Option ℕ) → HasBlock rows b other → IsFrom newest rows b from → (row_at rows other).set < set_of rows from → (row_at rows_now other).set < set_of rows_now from
  lt_after b other from has is_from lt = grind (arith, cases_eq, set_here, set_there, set_is, free_of)

  le_after : (b other q : ℕ) → HasBlock rows b other → HasBlock rows b q → (row_at rows other).set ≤ (row_at rows q).set → (row_at rows_now other).set ≤ (row_at rows_now q).set
  le_after b other q has q_has le = grind (arith, common_steps, cases_lt, lt_after)

  links_now : (b : ℕ) (from : Option ℕ) → IsFrom newest rows_now b from → IsBelow rows_now (link_from newest rows_now b from) b (set_of rows_now from)
  links_now b from is_from other has lt =
      let was_from = from_before b from is_from in
      let was_other = was b other has in
      let leads = keeps.links b from was_from other was_other (lt_before b other from was_other was_from lt) in
      subst (λ k. LeadsBelow rows_now k b (set_of rows_now from)) (sym (same_link b from)) (record {
        between = record {
          has = still b (link_from newest rows b from) leads.between.has;
          above = (still b (link_from newest rows b from) leads.between.has).0;
          below = lt_after b (link_from newest rows b from) from leads.between.has was_from leads.between.below;
        };
        next = λ any any_has any_lt.
            let was_any = was b any any_has in
            le_after b any (link_from newest rows b from) was_any leads.between.has (leads.next any was_any (lt_before b any from was_any was_from any_lt));
      })

  pub KeepsLinks-lowered : KeepsLinks newest rows_now
  KeepsLinks-lowered = search (rules, links_now, used_before, was, same_block, cases_lt, lt_after, cases_eq, set_here)

-- ## the row that is read, where no copy of its block has a set between

module _ (newest : List ℕ) (rows : List Row) (slot low : ℕ) (row : Row) (copied : Copied) (keeps : KeepsLinks newest rows) (had : copied_at (map copy_in rows) slot ≡ Some copied)
    (is : row ≡ get_or rows slot row) (above_zero : 0 < low) (below : low < copied.set)
    (none : IsBelow rows (row_at rows slot).older row.block (row_at rows slot).set → NoneBetween rows row.block (low - 1) (row_at rows slot).set) where
  used_here : 0 < (row_at rows slot).set
  used_here = (has_from_copy rows slot copied.set copied.block had).used

  row_is : row ≡ row_at rows slot
  row_is = get_or_read rows slot row (used_within rows slot used_here) is (record { block = 0; set = 0; older = 0 })

  between : NoneBetween rows (row_at rows slot).block (low - 1) (row_at rows slot).set
  between =
      let none_here = subst (λ (r : Row). IsBelow rows (row_at rows slot).older r.block (row_at rows slot).set → NoneBetween rows r.block (low - 1) (row_at rows slot).set) row_is none in
      none_here (keeps.links (row_at rows slot).block (Some slot) (used_here, refl))

  below_row : low < (row_at rows slot).set
  below_row = let e = (has_from_copy rows slot copied.set copied.block had).set_is in omega arith

  free_here : (other : ℕ) → HasBlock rows (row_at rows slot).block other → other ≢ slot → ((row_at rows other).set < low) ⊎ ((row_at rows slot).set < (row_at rows other).set)
  free_here other has apart = grind (arith, cases_lt, between, used_here)

  pub KeepsLinks-lower : KeepsLinks newest (set rows slot (record { block = row.block; set = low; older = row.older }))
  KeepsLinks-lower = search (rules, row_is, KeepsLinks-lowered, used_here, below_row, free_here)

  pub lowered_is : IsLowered (record { blocks = length newest; copies = map copy_in rows })
      (record { blocks = length newest; copies = map copy_in (set rows slot (record { block = row.block; set = low; older = row.older })) }) slot low row.block
  lowered_is = record {
    block_is = λ other is_other. sym (has_from_copy rows slot other.set other.block is_other).block_is ∙ ap (λ (r : Row). r.block) (sym row_is);
    lacked = λ has.
        let it = has_from_copy rows has.0 low row.block has.1 in
        let u = it.used in
        let high = between has.0 (u, it.block_is ∙ ap (λ (r : Row). r.block) row_is) (omega arith) in
        let under = below_row in
        omega arith;
    lowered = value_at (length newest) rows slot (record { block = row.block; set = low; older = row.older }) (Some (copy_of low row.block))
        (copy_in_used (record { block = row.block; set = low; older = row.older }) above_zero);
  }

-- ## The row that is read where a copy is taken out.

module _ (newest : List ℕ) (rows : List Row) (slot : ℕ) (row : Row) (copied : Copied) (keeps : KeepsLinks newest rows) (had : copied_at (map copy_in rows) slot ≡ Some copied)
    (is : row ≡ get_or rows slot row) where
  used : 0 < (row_at rows slot).set
  used = (has_from_copy rows slot copied.set copied.block had).used

  inside : slot < length rows
  inside = used_within rows slot used

  row_is_out : row ≡ row_at rows slot
  row_is_out = get_or_read rows slot row inside is (record { block = 0; set = 0; older = 0 })

  pub OutRow : (slot < length rows) × (row.block < length newest)
  OutRow = (inside, subst (λ (r : Row). r.block < length newest) (sym row_is_out) (keeps.in_range slot used))

  taken_at : (above : Option ℕ) → IsNextAbove rows (row_at rows slot).block (row_at rows slot).set above
      → KeepsLinks (newest_after newest (row_at rows slot).block above (row_at rows slot).older)
      (older_after (set rows slot (record { block = (row_at rows slot).block; set = 0; older = (row_at rows slot).older })) above (row_at rows slot).older)
  taken_at above next = KeepsLinks-out newest _ rows _ slot above keeps
      (are_relinked newest rows (row_at rows slot).block slot (row_at rows slot).set (record { block = (row_at rows slot).block; set = 0; older = (row_at rows slot).older }) above
      (row_at rows slot).older inside (keeps.in_range slot used) (omega arith) next)
      next used

  pub KeepsLinks-taken : (above : Option ℕ) → IsNextAbove rows row.block row.set above
      → KeepsLinks (newest_after newest row.block above row.older) (older_after (set rows slot (record { block = row.block; set = 0; older = row.older })) above row.older)
  KeepsLinks-taken above next = search (rules, row_is_out, taken_at)

  -- the oldest copy of its block
  pub KeepsLinks-oldest : (IsBelow rows (row_at rows slot).older row.block (row_at rows slot).set → NoneBetween rows row.block 0 (row_at rows slot).set)
      → KeepsLinks newest (set rows slot (record { block = row.block; set = 0; older = row.older }))
  KeepsLinks-oldest none =
      let none_here = subst (λ (r : Row). IsBelow rows (row_at rows slot).older r.block (row_at rows slot).set → NoneBetween rows r.block 0 (row_at rows slot).set) row_is_out none in
      subst (λ (r : Row). KeepsLinks newest (set rows slot (record { block = r.block; set = 0; older = r.older }))) (sym row_is_out)
      (KeepsLinks-last newest rows slot keeps used (none_here (keeps.links (row_at rows slot).block (Some slot) (used, refl))))

  pub block_read : copied.block ≡ row.block
  block_read = sym (has_from_copy rows slot copied.set copied.block had).block_is ∙ ap (λ (r : Row). r.block) (sym row_is_out)

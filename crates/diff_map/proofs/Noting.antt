-- The list in order of block and then of set: what a search in it finds, and where the entry of a slot that is noted goes in.
use Rattle.std.proofs.Common.{ℕ, ◌<◌, ◌≤◌, List, get_or, arith, suc, ◌≡◌, ◌≢◌, ◌+◌, ◌-◌, ◌^◌, inl, inr, true, false, eqb, ◌∷◌, length, set, take, drop, map}
use Rattle.std.proofs.Common.{Option, Some, None, ap, sym, ◌∙◌, subst, All, Contains}
use Rattle.std.proofs.lemmas.Bool.{cases_eq, cases_lt}
use Rattle.std.proofs.lemmas.Bool.Decides.{nat_tests}
use Rattle.std.proofs.lemmas.List.{length-map, get_or-set_same, get_or-set_other, get_or-map, take-append-drop}
use Rattle.std.proofs.lemmas.List.Edits.{get_or-insert_below, get_or-insert_at, get_or-insert_above, length-insert}
use Rattle.std.proofs.lemmas.List.Elements.{All-append, All-cons, All-take, All-drop, All-map, recursion_from_All, Contains-append_cases, Contains-append_left}
use Rattle.std.proofs.lemmas.List.Elements.{Contains-append_right}
use Rattle.std.proofs.lemmas.List.Folds.{Any-from_list_any}
use Rattle.std.proofs.lemmas.Map.Keys.{IsDistinct-cons, IsDistinct-from_apart}
use Rattle.std.proofs.lemmas.Map.Steps.{length-le_from_distinct_below}
use Rattle.std.proofs.lemmas.Option.{same_Some, none-some, get_or_from_slice_get, slice_get_within}
use Rattle.std.specs.List.{AllWithin, insert, slice_get, IsDistinct}
use Rattle.std.specs.List.Sorted.{IsNonDecreasingBy}
use Rattle.diff_map.specs.Copies.{copied_at, copy_of, HasCopy}
use Rattle.diff_map.specs.Links.{place, IsInOrder, place_of, IsIndex, IsNoted}
use Rattle.diff_map.specs.declared.copied.Copied.{Copied}
use Rattle.diff_map.specs.declared.entry.Entry.{Entry}
use Rattle.diff_map.proofs.Renewal.{slots_apart, get_within}

-- ## The list in order of block and then of set: what a binary search in it finds.

pub rising : (entries : List Entry) → IsInOrder entries → IsNonDecreasingBy place entries
rising entries order i j d le inside = grind arith

-- an entry of a list that is at or past the place of a search
pub past_search : (entries : List Entry) (key k n : ℕ) (d : Entry) → AllWithin (λ e. place e < key) entries 0 n → key ≤ place (get_or entries k d) → n ≤ k
past_search entries key k n d before high = grind arith

-- ## A slot that is noted for a block of the newest image: its entry goes in at its place, and there is room for it.

module _ (entries : List Entry) (copies : List (Option Copied)) (slot image block n : ℕ) (index : IsIndex entries copies) (unnoted : slice_get copies slot ≡ Some None)
    (lacks : HasCopy copies image block → ⊥) (narrow : image < 2 ^ 32) (within : n ≤ length entries) (before : AllWithin (λ e. place e < place_of block image) entries 0 n)
    (onward : AllWithin (λ e. place_of block image ≤ place e) entries n (length entries)) where
  is_none : copied_at copies slot ≡ None
  is_none = get_or_from_slice_get copies slot None None unnoted

  inside : slot < length copies
  inside = slice_get_within copies slot None unnoted

  abbrev rows : List (Option Copied)
  rows = set copies slot (Some (copy_of image block))

  abbrev e : Entry
  e = record { block = block; set = image; slot = slot }

  other_slot : (x : Entry) → IsNoted copies x → x.slot ≢ slot
  other_slot x noted same = none-some (copy_of x.set x.block) (sym is_none ∙ ap (copied_at copies) (sym same) ∙ noted.row)

  still_noted : (x : Entry) → IsNoted copies x → IsNoted rows x
  still_noted x noted = grind (arith, get_or-set_other, other_slot)

  -- the entries from the place on stand behind the new one
  behind : (k : ℕ) (d : Entry) → n ≤ k → k < length entries → place_of block image < place (get_or entries k d)
  behind k d le inside_k = grind arith

  noted_order : IsInOrder (insert entries n e)
  noted_order i j d low inside_j =
      let long = length-insert entries n e within in
      elim (cases_lt j n) [
        | inl j_low ↦
            let a = ap place (get_or-insert_below entries n e d i (omega arith) within) in
            let b = ap place (get_or-insert_below entries n e d j j_low within) in
            let up = index.in_order i j d low (omega arith) in
            omega arith
        | inr j_high ↦ elim (cases_eq j n) [
          | inl j_here ↦
              let a = ap place (get_or-insert_below entries n e d i (omega arith) within) in
              let b : place (get_or (insert entries n e) j d) ≡ place e = ap (λ k. place (get_or (insert entries n e) k d)) j_here ∙ ap place (get_or-insert_at entries n e d within) in
              omega arith
          | inr j_past ↦
              let step : (j - 1) + 1 ≡ j = omega arith in
              let b : place (get_or (insert entries n e) j d) ≡ place (get_or entries (j - 1) d) = ap (λ k. place (get_or (insert entries n e) k d)) (sym step)
              ∙ ap place (get_or-insert_above entries n e d (j - 1) (omega arith) within) in
              let past = behind (j - 1) d (omega arith) (omega arith) in
              elim (cases_lt i n) [
                | inl i_low ↦
                    let a = ap place (get_or-insert_below entries n e d i i_low within) in
                    let up = before i d (omega arith) i_low in
                    omega arith
                | inr i_high ↦ elim (cases_eq i n) [
                  | inl i_here ↦
                      let a : place (get_or (insert entries n e) i d) ≡ place e = ap (λ k. place (get_or (insert entries n e) k d)) i_here ∙ ap place (get_or-insert_at entries n e d within) in
                      omega arith
                  | inr i_past ↦
                      let step_i : (i - 1) + 1 ≡ i = omega arith in
                      let a : place (get_or (insert entries n e) i d) ≡ place (get_or entries (i - 1) d) = ap (λ k. place (get_or (insert entries n e) k d)) (sym step_i)
                      ∙ ap place (get_or-insert_above entries n e d (i - 1) (omega arith) within) in
                      let up = index.in_order (i - 1) (j - 1) d (omega arith) (omega arith) in
                      omega arith
                ]
              ]
        ]
      ]

  new_row : copied_at rows slot ≡ Some (copy_of image block)
  new_row = get_or-set_same copies slot (Some (copy_of image block)) None inside

  contains_new : Contains (insert entries n e) e
  contains_new = (n, let long = length-insert entries n e within in omega arith, get_or-insert_at entries n e e within)

  contains_old : (x : Entry) → Contains entries x → Contains (insert entries n e) x
  contains_old x found = elim (Contains-append_cases (take n entries) (drop n entries) x (subst (λ (xs : List Entry). Contains xs x) (sym (take-append-drop n entries)) found)) [
    | inl front ↦ Contains-append_left (take n entries) (e ∷ drop n entries) x front
    | inr back ↦ Contains-append_right (take n entries) (e ∷ drop n entries) x (suc back.0, let l = back.1 in omega arith, back.2)
  ]

  noted_all : (k : ℕ) (c : Copied) → copied_at rows k ≡ Some c → Contains (insert entries n e) (record { block = c.block; set = c.set; slot = k })
  noted_all k c row = grind (arith, cases_eq, same_Some, new_row, contains_new, contains_old, get_or-set_other)

  pub IsIndex-noted : IsIndex (insert entries n e) rows
  IsIndex-noted =
      let each : All (IsNoted rows) entries = λ k d i. still_noted (get_or entries k d) (index.each k d i) in
      record {
        in_order = noted_order;
        each = All-append (IsNoted rows) (take n entries) (e ∷ drop n entries) (All-take (IsNoted rows) n entries each)
            (All-cons (IsNoted rows) e (drop n entries) (record { row = new_row; narrow = narrow }) (All-drop (IsNoted rows) n entries each));
        all = noted_all;
      }

  -- a slot that is not noted leaves room for an entry
  pub room_for_one : length entries < length copies
  room_for_one =
      let slots : List ℕ = map (λ (x : Entry). x.slot) entries in
      let long = length-map entries (λ (x : Entry). x.slot) in
      let apart : IsDistinct eqb slots = IsDistinct-from_apart eqb slots (λ i j d low inside_j.
      let dd : Entry = e in
      let a : get_or slots i d ≡ (get_or entries i dd).slot = get_or-map (λ (x : Entry). x.slot) entries i dd d (omega arith) in
      let b : get_or slots j d ≡ (get_or entries j dd).slot = get_or-map (λ (x : Entry). x.slot) entries j dd d (omega arith) in
      let differ = slots_apart entries copies index i j dd dd low (omega arith) in
      let other : get_or slots i d ≢ get_or slots j d = λ same. differ (sym a ∙ same ∙ b) in
      grind (arith, nat_tests)) in
      let news : All (λ y. eqb slot y ≡ false) slots = All-map (λ y. eqb slot y ≡ false) (λ (x : Entry). x.slot) entries
      (λ k d i. let other = other_slot (get_or entries k d) (index.each k d i) in grind (arith, nat_tests)) in
      let distinct = IsDistinct-cons eqb slot slots (recursion_from_All (λ y. eqb slot y ≡ false) slots news) apart in
      let low : All (λ y. y < length copies) (slot ∷ slots) = All-cons (λ y. y < length copies) slot slots inside
      (All-map (λ y. y < length copies) (λ (x : Entry). x.slot) entries (λ k d i. get_within copies (get_or entries k d).slot _ (index.each k d i).row)) in
      let most = length-le_from_distinct_below (slot ∷ slots) (length copies) distinct (λ q found.
      let any = Any-from_list_any (eqb q) (slot ∷ slots) found in
      let test : eqb q any.1 ≡ true = any.4 in
      let bound = low any.0 any.1 any.2 in
      let same : q ≡ any.1 = grind (arith, nat_tests) in
      omega arith) in
      omega arith

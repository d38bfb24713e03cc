-- How many slots hold copies for an image, and which is the first and the next: where a row changes.
use Rattle.std.proofs.Common.{ℕ, suc, ◌≡◌, ◌≢◌, ◌+◌, ◌<◌, inl, inr, Bool, true, false, cond, eqb, List, [], ◌∷◌, length, set, ◌^◌, Option, Some, None, refl, ap}
use Rattle.std.proofs.Common.{sym, arith, ◌∙◌, get_or, subst}
use Rattle.std.proofs.lemmas.Bool.{cases_eq}
use Rattle.std.proofs.lemmas.Bool.Decides.{nat_tests}
use Rattle.std.proofs.lemmas.Grind.{common_steps}
use Rattle.std.proofs.lemmas.List.{length-set, get_or-set_same, get_or-set_other}
use Rattle.std.proofs.lemmas.List.Sums.{sum_by-cons, sum_by-set, count_by-le-length}
use Rattle.std.proofs.lemmas.Option.{get_or_from_slice_get, slice_get_within, none-some}
use Rattle.std.specs.List.{slice_get, count_by}
use Rattle.std.specs.Option.{is_some}
use Rattle.diff_map.specs.Copies.{copied_at, copy_of, noted_in}
use Rattle.diff_map.specs.Counts.{is_for, used_for, IsAmong, AreOnce, LeadOn, IsFor, IsChain}
use Rattle.diff_map.specs.declared.copied.Copied.{Copied}
use Rattle.diff_map.proofs.Renewal.{get_within}

-- ## How many slots hold copies for an image, and where a row changes.

abbrev of_test : Bool → ℕ
of_test t = cond t 1 0

count_cons : {X : Type 0} (p : X → Bool) (x : X) (xs : List X) → count_by p (x ∷ xs) ≡ of_test (p x) + count_by p xs
count_cons p x xs = sum_by-cons (λ y. cond (p y) 1 0) x xs

-- ## rows

-- one row changes
used_set : (copies : List (Option Copied)) (slot image : ℕ) (row : Option Copied) → slot < length copies
    → used_for (set copies slot row) image + of_test (is_for image (copied_at copies slot)) ≡ used_for copies image + of_test (is_for image row)
used_set copies slot image row inside = sum_by-set (λ x. cond (is_for image x) 1 0) copies slot row None inside

is_itself : (image block : ℕ) → of_test (is_for image (Some (copy_of image block))) ≡ 1
is_itself image block = ap of_test (let e : eqb image image ≡ true = grind (arith, nat_tests) in e)

is_no_other : (image other : ℕ) → image ≢ other → eqb image other ≡ false
is_no_other image other apart = grind (arith, nat_tests)

-- a slot is noted for an image
pub used_noted : (copies : List (Option Copied)) (slot image block : ℕ) → slice_get copies slot ≡ Some None → used_for (set copies slot (Some (copy_of image block))) image ≡ used_for copies image + 1
used_noted copies slot image block unnoted =
    let fact = used_set copies slot image (Some (copy_of image block)) (slice_get_within copies slot None unnoted) in
    grind (arith, common_steps, slice_get_within copies slot None unnoted, get_or_from_slice_get copies slot None None unnoted, is_itself image block)

pub used_noted_other : (copies : List (Option Copied)) (slot image block other : ℕ) → slice_get copies slot ≡ Some None → other ≢ image
    → used_for (set copies slot (Some (copy_of image block))) other ≡ used_for copies other
used_noted_other copies slot image block other unnoted apart =
    let fact = used_set copies slot other (Some (copy_of image block)) (slice_get_within copies slot None unnoted) in
    grind (arith, common_steps, slice_get_within copies slot None unnoted, get_or_from_slice_get copies slot None None unnoted, is_no_other image other)

-- no slot is noted for it
pub used_none : (copies : List (Option Copied)) (image : ℕ) → ((slot : ℕ) (c : Copied) → copied_at copies slot ≡ Some c → c.set ≢ image) → used_for copies image ≡ 0
used_none [] image none = refl
used_none (None ∷ xs) image none = let first = count_cons (is_for image) None xs in let rest = used_none xs image (λ slot c row. none (suc slot) c row) in omega arith
used_none (Some c ∷ xs) image none =
    let first = count_cons (is_for image) (Some c) xs in
    let here : of_test (is_for image (Some c)) ≡ 0 = ap of_test (is_no_other c.set image (none 0 c refl)) in
    let rest = used_none xs image (λ slot d row. none (suc slot) d row) in
    omega arith

-- or one is
pub used_some : (copies : List (Option Copied)) (slot : ℕ) (c : Copied) → copied_at copies slot ≡ Some c → 0 < used_for copies c.set
used_some copies slot c row = grind (arith, common_steps)

pub used_at : (copies : List (Option Copied)) (image : ℕ) → 0 < used_for copies image → (slot : ℕ) × (block : ℕ) × (copied_at copies slot ≡ Some (copy_of image block))
used_at [] image some = absurd (omega arith)
used_at (None ∷ xs) image some =
    let first = count_cons (is_for image) None xs in
    let rest = used_at xs image (omega arith) in
    (suc rest.0, rest.1, rest.2)
used_at (Some c ∷ xs) image some = elim (cases_eq c.set image) [
  | inl same ↦ (0, c.block, ap (λ s. Some (copy_of s c.block)) same)
  | inr other ↦
      let first = count_cons (is_for image) (Some c) xs in
      let here : of_test (is_for image (Some c)) ≡ 0 = ap of_test (is_no_other c.set image other) in
      let rest = used_at xs image (omega arith) in
      (suc rest.0, rest.1, rest.2)
]

-- ## a slot loses its copy

pub used_out : (copies : List (Option Copied)) (slot image block : ℕ) → copied_at copies slot ≡ Some (copy_of image block) → used_for (set copies slot None) image + 1 ≡ used_for copies image
used_out copies slot image block was = grind (arith, common_steps)

pub used_out_other : (copies : List (Option Copied)) (slot image block other : ℕ) → copied_at copies slot ≡ Some (copy_of image block) → other ≢ image
    → used_for (set copies slot None) other ≡ used_for copies other
used_out_other copies slot image block other was apart = grind (arith, common_steps)

-- ## all noted slots

noted_set : (copies : List (Option Copied)) (slot : ℕ) (row : Option Copied) → slot < length copies
    → noted_in (set copies slot row) + of_test (is_some (copied_at copies slot)) ≡ noted_in copies + of_test (is_some row)
noted_set copies slot row inside = sum_by-set (λ x. cond (is_some x) 1 0) copies slot row None inside

pub noted_more : (copies : List (Option Copied)) (slot : ℕ) (c : Copied) → slice_get copies slot ≡ Some None → noted_in (set copies slot (Some c)) ≡ noted_in copies + 1
noted_more copies slot c unnoted = grind (arith, noted_set, slice_get_within, get_or_from_slice_get)

pub noted_less : (copies : List (Option Copied)) (slot : ℕ) (c : Copied) → copied_at copies slot ≡ Some c → noted_in (set copies slot None) + 1 ≡ noted_in copies
noted_less copies slot c was = grind (arith, noted_set, get_within)

pub noted_fits : (copies : List (Option Copied)) (slot : ℕ) (c : Copied) → length copies < 2 ^ 32 → slice_get copies slot ≡ Some None → noted_in copies + 1 < 2 ^ 32
noted_fits copies slot c narrow unnoted =
    grind (arith, common_steps, noted_more copies slot c unnoted, count_by-le-length is_some (set copies slot (Some c)), length-set copies slot (Some c))

-- ## The slots of an image, one after the other: where one comes first, and where the first goes.

-- another slot's link does not count
pub lead_on_set : (next : List ℕ) (slot value first : ℕ) (slots : List ℕ) → (IsAmong slot slots → ⊥) → LeadOn next first slots → LeadOn (set next slot value) first slots
lead_on_set next slot value first [] apart lead = lead
lead_on_set next slot value first (x ∷ xs) apart lead = grind (arith, common_steps, get_or-set_other, lead_on_set next slot value (get_or next x 0) xs)

pub not_for : (copies : List (Option Copied)) (image slot : ℕ) → copied_at copies slot ≡ None → IsFor copies image slot → ⊥
not_for copies image slot none it = none-some (copy_of image it.0) (sym none ∙ it.1)

for_before : (copies : List (Option Copied)) (image slot other : ℕ) (row : Option Copied) → other ≢ slot → IsFor (set copies slot row) image other → IsFor copies image other
for_before copies image slot other row apart it = (it.0, sym (get_or-set_other copies slot other row None apart) ∙ it.1)

for_after : (copies : List (Option Copied)) (image slot other : ℕ) (row : Option Copied) → other ≢ slot → IsFor copies image other → IsFor (set copies slot row) image other
for_after copies image slot other row apart it = (it.0, get_or-set_other copies slot other row None apart ∙ it.1)

-- the slots of an image of which a row is neither before nor after
pub IsChain-other : (next : List ℕ) (copies : List (Option Copied)) (image first slot value : ℕ) (row : Option Copied) → (IsFor copies image slot → ⊥) → (IsFor (set copies slot row) image slot → ⊥)
    → IsChain next copies image first → IsChain (set next slot value) (set copies slot row) image first
IsChain-other next copies image first slot value row not_before not_after chain = record {
  slots = chain.slots;
  lead = lead_on_set next slot value first chain.slots (λ among. not_before (chain.each slot among)) chain.lead;
  once = chain.once;
  each = λ s among. for_after copies image slot s row (λ same. not_before (subst (IsFor copies image) same (chain.each s among))) (chain.each s among);
  all = λ s it. chain.all s (for_before copies image slot s row (λ same. not_after (subst (IsFor (set copies slot row) image) same it)) it);
}

pub IsChain-other_out : (next : List ℕ) (copies : List (Option Copied)) (image first slot : ℕ) (row : Option Copied) → (IsFor copies image slot → ⊥) → (IsFor (set copies slot row) image slot → ⊥)
    → IsChain next copies image first → IsChain next (set copies slot row) image first
IsChain-other_out next copies image first slot row not_before not_after chain = record {
  slots = chain.slots;
  lead = chain.lead;
  once = chain.once;
  each = λ s among. for_after copies image slot s row (λ same. not_before (subst (IsFor copies image) same (chain.each s among))) (chain.each s among);
  all = λ s it. chain.all s (for_before copies image slot s row (λ same. not_after (subst (IsFor (set copies slot row) image) same it)) it);
}

-- a slot that is noted comes first
pub IsChain-noted : (next : List ℕ) (copies : List (Option Copied)) (image first slot block : ℕ) → slot < length next → slot < length copies → copied_at copies slot ≡ None
    → IsChain next copies image first → IsChain (set next slot first) (set copies slot (Some (copy_of image block))) image slot
IsChain-noted next copies image first slot block inside within none chain =
    let apart : IsAmong slot chain.slots → ⊥ = λ among. not_for copies image slot none (chain.each slot among) in
    record {
      slots = slot ∷ chain.slots;
      lead = (refl, subst (λ k. LeadOn (set next slot first) k chain.slots) (sym (get_or-set_same next slot first 0 inside)) (lead_on_set next slot first first chain.slots apart chain.lead));
      once = (apart, chain.once);
      each = λ s among. elim among [
        | inl same ↦ (block, ap (copied_at (set copies slot (Some (copy_of image block)))) same ∙ get_or-set_same copies slot (Some (copy_of image block)) None within)
        | inr rest ↦ for_after copies image slot s (Some (copy_of image block)) (λ same. apart (subst (λ k. IsAmong k chain.slots) same rest)) (chain.each s rest)
      ];
      all = λ s it. elim (cases_eq s slot) [
        | inl same ↦ inl same
        | inr differs ↦ inr (chain.all s (for_before copies image slot s (Some (copy_of image block)) differs it))
      ];
    }

module _ (next : List ℕ) (copies : List (Option Copied)) (image first : ℕ) where
  first_is : (slots : List ℕ) (slot : ℕ) → LeadOn next first slots → ((s : ℕ) → IsAmong s slots → IsFor copies image s) → IsAmong slot slots → IsFor copies image first
  first_is [] slot lead each among = absurd among
  first_is (x ∷ xs) slot lead each among = subst (IsFor copies image) (sym lead.0) (each x (inl refl))

  -- where an image has a copy, the first slot has one
  pub IsFor-first : IsChain next copies image first → 0 < used_for copies image → IsFor copies image first
  IsFor-first chain some = let at = used_at copies image some in first_is chain.slots at.0 chain.lead chain.each (chain.all at.0 (at.1, at.2))

  rest_is : (slots : List ℕ) → LeadOn next first slots → AreOnce slots → ((s : ℕ) → IsAmong s slots → IsFor copies image s) → ((s : ℕ) → IsFor copies image s → IsAmong s slots)
      → IsFor copies image first → IsChain next (set copies first None) image (get_or next first 0)
  rest_is [] lead once each all it = absurd (all first it)
  rest_is (x ∷ xs) lead once each all it =
      let inside = get_within copies first (copy_of image it.0) it.1 in
      record {
        slots = xs;
        lead = subst (λ k. LeadOn next (get_or next k 0) xs) (sym lead.0) lead.1;
        once = once.1;
        each = λ s among. for_after copies image first s None (λ same. once.0 (subst (λ k. IsAmong k xs) (same ∙ lead.0) among)) (each s (inr among));
        all = λ s was.
            let differs : s ≢ first = λ same. not_for (set copies first None) image first (get_or-set_same copies first None None inside) (subst (IsFor (set copies first None) image) same was) in
            elim (all s (for_before copies image first s None differs was)) [
              | inl same ↦ absurd (differs (same ∙ sym lead.0))
              | inr among ↦ among
            ];
      }

  pub IsChain-popped : IsChain next copies image first → IsFor copies image first → IsChain next (set copies first None) image (get_or next first 0)
  IsChain-popped chain it = rest_is chain.slots chain.lead chain.once chain.each chain.all it

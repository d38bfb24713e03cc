-- What a pool keeps, where a slot is taken or given back.
use Rattle.std.proofs.Common.{ℕ, suc, ◌≡◌, ◌+◌, ◌-◌, ◌<◌, ◌≤◌, ◌/◌, ◌⊎◌, ◌∙◌, Bool, true, false, cond, List, [], ◌∷◌, length, set, Some, refl, ap, arith}
use Rattle.std.proofs.lemmas.Bool.{cases_eq, cases_lt}
use Rattle.std.proofs.lemmas.List.{length-set, get_or-set_same, get_or-set_other}
use Rattle.std.proofs.lemmas.List.Sums.{sum_by-cons, sum_by-set}
use Rattle.std.proofs.lemmas.Option.{slice_get-get_or, get_or_from_slice_get, slice_get_within}
use Rattle.std.proofs.lemmas.Grind.{common_steps}
use Rattle.slot_pool.specs.Slots.{IsTaken, IsLowestFree, free_count, free_at, AllTakenBelow, IsFirst, MayBeFree, KeepsPool}

abbrev one_if : Bool → ℕ
one_if is_free = cond is_free 1 0

none_free : (slots : List Bool) → AllTakenBelow slots (length slots) → free_count slots ≡ 0
none_free [] taken = refl
none_free (x ∷ xs) taken =
    let first = sum_by-cons one_if x xs in
    let here : one_if x ≡ 0 = ap one_if (taken 0 (omega arith)) in
    let rest = none_free xs (λ slot low. taken (suc slot) (omega arith)) in
    omega arith

count_set : (slots : List Bool) (slot : ℕ) (value : Bool) → slot < length slots → free_count (set slots slot value) + one_if (free_at slots slot) ≡ free_count slots + one_if value
count_set slots slot value inside = sum_by-set one_if slots slot value false inside

-- the lowest free slot, where there is one
pub lowest_within : (slots runs : List Bool) (lowest free : ℕ) → KeepsPool slots runs lowest free → 0 < free → lowest < length slots
lowest_within slots runs lowest free keeps some = grind (arith, common_steps, cases_lt lowest (length slots), none_free slots)

pub lowest_is : (slots runs : List Bool) (lowest free : ℕ) → KeepsPool slots runs lowest free → 0 < free → IsLowestFree slots lowest
lowest_is slots runs lowest free keeps some =
    let inside = lowest_within slots runs lowest free keeps some in
    record {
      free = slice_get-get_or slots lowest false inside ∙ ap Some (keeps.first.free inside);
      lowest = λ other low. slice_get-get_or slots other false (omega arith) ∙ ap Some (keeps.first.below other low);
    }

pub KeepsPool-taken : (slots runs later : List Bool) (lowest free next : ℕ) → KeepsPool slots runs lowest free → 0 < free → IsFirst (set slots lowest false) next → MayBeFree (set slots lowest false) later
    → KeepsPool (set slots lowest false) later next (free - 1)
KeepsPool-taken slots runs later lowest free next keeps some first may =
    let inside = lowest_within slots runs lowest free keeps some in
    grind (arith, common_steps, count_set slots lowest false inside, length-set slots lowest false)

-- one more is free
pub one_more : (slots : List Bool) (slot : ℕ) → IsTaken slots slot → free_count (set slots slot true) ≡ free_count slots + 1
one_more slots slot is_taken = grind (arith, count_set, slice_get_within, get_or_from_slice_get)

pub one_more_fits : (slots : List Bool) (slot : ℕ) → IsTaken slots slot → free_count slots + 1 ≤ length slots
one_more_fits slots slot is_taken = grind (arith, common_steps, one_more slots slot is_taken, length-set slots slot true)

pub KeepsPool-given : (slots runs : List Bool) (lowest free slot least : ℕ) → KeepsPool slots runs lowest free → IsTaken slots slot → least ≤ lowest → least ≤ slot → (least ≡ lowest) ⊎ (least ≡ slot)
    → KeepsPool (set slots slot true) (set runs (slot / 256) true) least (free + 1)
KeepsPool-given slots runs lowest free slot least keeps is_taken below_lowest below_slot is = grind (arith, slice_get_within, length-set, get_or-set_same, get_or-set_other, cases_eq, one_more)

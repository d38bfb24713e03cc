-- How many slots of the overlay are used: as many as there are pairs of a standing image and a block of it that a recovery write names.
use Rattle.std.proofs.Common.{◌≡◌, ◌≢◌, ◌<◌, ℕ, List, [], ◌∷◌, ◌++◌, length, map, refl, ap, sym, subst, ◌∙◌, arith, Bool, true, not, ◌||◌, Option, Some, inl, inr}
use Rattle.std.specs.Prelude.{filter, slice_get, ◌==◌, nat_lt}
use Rattle.std.specs.List.{range_with_len}
use Rattle.std.proofs.lemmas.List.{length-map, length-append}
use Rattle.std.proofs.lemmas.List.Sums.{length-filter}
use Rattle.std.proofs.lemmas.List.Sorted.{length_permutation}
use Rattle.std.proofs.lemmas.Bool.{lt-ltb, ltb-true, and_parts, and_from, not_from_false, not-true}
use Rattle.std.proofs.lemmas.Grind.{common_steps}
use Rattle.write_history.specs.History.{Image, names, blocks_named, sets_of, AreLater, AreInTime}
use Rattle.diff_area.specs.Format.{free, is_free, used_in, AreRecords}
use Rattle.diff_area.specs.declared.table_record.Record.{Record}
use Rattle.cow_volume.specs.StandsFor.{record_of}
use Rattle.cow_volume.specs.Calls.{is_among}
use Rattle.cow_volume.specs.Changes.{has_record}
use Rattle.cow_volume.proofs.Group.{same_number, number_is}
use Rattle.cow_volume.proofs.Members.{Has, AreApart, permuted, has_at, place_of, has_left, has_right, has_either, has-map, from-map, apart-append, apart-map, has-filter, from-filter, apart-filter}
use Rattle.cow_volume.proofs.Members.{has-range, from-range, apart-range, apart-filtered}
use Rattle.cow_volume.proofs.Counting.{not_free, record_is_used, used_record}
use Rattle.cow_volume.proofs.Named.{numbers_are}
use Rattle.cow_volume.proofs.Merging.{found_record, has_found}
use Rattle.vss_recover.specs.Recoveries.{Recovery, recovered, blocks_recovered, all_recovered}
use Rattle.vss_recover.specs.OverlayCalls.{is_block_of, count_in}
use Rattle.vss_recover.specs.RecoverValue.{IsOverlay}

-- ## tests

-- ## the records of an overlay

pub of_one : (n : ℕ) (records : List Record) (k : ℕ) (r : Record) → AreRecords (n ∷ []) records → slice_get records k ≡ Some r → r ≢ free
    → (0 < r.set) × (r.block < n) × (r ≡ record_of 0 r.set r.block)
of_one n records k r are at used = let is = are.each k r at used in let low = is.volume in let first : r.volume ≡ 0 = omega arith in grind (arith, common_steps)

-- ## one image

abbrev pairs_of : ℕ → List Recovery → ℕ → List Record
pairs_of n rs set = map (record_of 0 set) (blocks_named n (recovered set rs))

has_pair : (n : ℕ) (rs : List Recovery) (set b : ℕ) → b < n → names (recovered set rs) b ≡ true → Has (record_of 0 set b) (pairs_of n rs set)
has_pair n rs set b l e = has-map (record_of 0 set) b (blocks_named n (recovered set rs)) (has-filter (names (recovered set rs)) b (range_with_len 0 n) e (has-range 0 n b (omega arith) (omega arith)))

pub record Pair (n : ℕ) (rs : List Recovery) (set : ℕ) (r : Record) : Type 0 where
  pub block : ℕ
  pub low : block < n
  pub named : names (recovered set rs) block ≡ true
  pub is : record_of 0 set block ≡ r

from_pair : (n : ℕ) (rs : List Recovery) (set : ℕ) (r : Record) → Has r (pairs_of n rs set) → Pair n rs set r
from_pair n rs set r m = grind (arith, from-map, from-filter, from-range)

apart_pairs : (n : ℕ) (rs : List Recovery) (set : ℕ) → AreApart (pairs_of n rs set)
apart_pairs n rs set = grind (arith, apart-map, apart-filtered, apart-range)

block_of : (set : ℕ) (r : Record) → is_block_of set r ≡ true → (0 < r.set) × (r.set ≡ set)
block_of set r e = let parts = and_parts (nat_lt 0 r.set) (r.set == set) e in (ltb-true 0 r.set parts.0, same_number r.set set parts.1)

of_block : (set b : ℕ) → 0 < set → is_block_of set (record_of 0 set b) ≡ true
of_block set b l = and_from (nat_lt 0 set) (set == set) (lt-ltb 0 set l) (number_is set)

-- as many records are of an image as blocks of it are named
pub counted_in : (slots : Option (List (List ℕ))) (records : List Record) (n : ℕ) (rs : List Recovery) (set : ℕ) → IsOverlay slots records n rs → AreRecords (n ∷ []) records → 0 < set
    → count_in set records ≡ blocks_recovered n rs set
counted_in slots records n rs set is are above =
    sym (length-filter (is_block_of set) records)
    ∙ sym (length_permutation (filter (is_block_of set) records) (pairs_of n rs set) (permuted (filter (is_block_of set) records) (pairs_of n rs set)
    (apart-filter (is_block_of set) records (λ i j r e f g. are.once i j r f g (not_free r (block_of set r e).0)))
    (apart_pairs n rs set)
    (λ r m.
    let of = from-filter (is_block_of set) r records m in
    let place = place_of records r of.0 in
    let known = block_of set r of.1 in
    let one = of_one n records place.0 r are place.1 (not_free r known.0) in
    let same : r ≡ record_of 0 set r.block = one.2 ∙ ap (λ s. record_of 0 s r.block) known.1 in
    let P : Record → Type 0 = λ x. Has x (pairs_of n rs set) in
    subst P (sym same) (has_pair n rs set r.block one.1 (is.named place.0 set r.block above (place.1 ∙ ap (λ (x : Record). Some x) same))))
    (λ r m.
    let of = from_pair n rs set r m in
    let at = is.recorded set of.block above of.low of.named in
    let P : Record → Type 0 = λ x. Has x (filter (is_block_of set) records) in
    subst P of.is (has-filter (is_block_of set) (record_of 0 set of.block) records (of_block set of.block above) (has_at records at.0 (record_of 0 set of.block) at.1)))))
    ∙ length-map (blocks_named n (recovered set rs)) (record_of 0 set)

-- ## all images

abbrev all_pairs : ℕ → List Recovery → List ℕ → List Record
all_pairs n rs [] = []
all_pairs n rs (set ∷ sets) = pairs_of n rs set ++ all_pairs n rs sets

length-all_pairs : (n : ℕ) (rs : List Recovery) (sets : List ℕ) → length (all_pairs n rs sets) ≡ all_recovered n rs sets
length-all_pairs n rs [] = refl
length-all_pairs n rs (set ∷ sets) = grind (arith, common_steps, length-map, length-append, length-all_pairs n rs sets)

has_all : (n : ℕ) (rs : List Recovery) (sets : List ℕ) (set b : ℕ) → is_among set sets ≡ true → b < n → names (recovered set rs) b ≡ true → Has (record_of 0 set b) (all_pairs n rs sets)
has_all n rs [] set b among l e = cc
has_all n rs (s ∷ sets) set b among l e = grind (arith, common_steps, has_left, same_number, has_pair, has_right, has_all n rs sets set b)

from_all : (n : ℕ) (rs : List Recovery) (sets : List ℕ) (r : Record) → Has r (all_pairs n rs sets) → (set : ℕ) × Has set sets × Pair n rs set r
from_all n rs [] r m = absurd m
from_all n rs (s ∷ sets) r m = elim (has_either r (pairs_of n rs s) (all_pairs n rs sets) m) [
  | inl k ↦ (s, inl refl, from_pair n rs s r k)
  | inr k ↦ (let of = from_all n rs sets r k in (of.0, inr of.1, of.2))
]

apart_all : (n : ℕ) (rs : List Recovery) (sets : List ℕ) → AreApart sets → AreApart (all_pairs n rs sets)
apart_all n rs [] a = tt
apart_all n rs (s ∷ sets) a = apart-append (pairs_of n rs s) (all_pairs n rs sets) (apart_pairs n rs s) (apart_all n rs sets a.1)
    (λ r m k.
    let here = from_pair n rs s r m in
    let there = from_all n rs sets r k in
    let same : there.0 ≡ s = ap (λ (x : Record). x.set) there.2.is ∙ sym (ap (λ (x : Record). x.set) here.is) in
    let P : ℕ → Type 0 = λ x. Has x sets in
    a.0 (subst P same there.1))

pub counted_all : (slots : Option (List (List ℕ))) (records : List Record) (n : ℕ) (rs : List Recovery) (sets : List ℕ) → IsOverlay slots records n rs → AreRecords (n ∷ []) records → AreApart sets
    → ((s : ℕ) → Has s sets → 0 < s)
    → ((s b : ℕ) → names (recovered s rs) b ≡ true → is_among s sets ≡ true) → used_in records ≡ all_recovered n rs sets
counted_all slots records n rs sets is are apart above stand =
    sym (length-filter (λ r. not (is_free r)) records)
    ∙ sym (length_permutation (filter (λ r. not (is_free r)) records) (all_pairs n rs sets) (permuted (filter (λ r. not (is_free r)) records) (all_pairs n rs sets)
    (apart-filter (λ r. not (is_free r)) records (λ i j r e f g. are.once i j r f g (used_record r (not-true (is_free r) e))))
    (apart_all n rs sets apart)
    (λ r m.
    let of = from-filter (λ r. not (is_free r)) r records m in
    let place = place_of records r of.0 in
    let one = of_one n records place.0 r are place.1 (used_record r (not-true (is_free r) of.1)) in
    let named = is.named place.0 r.set r.block one.0 (place.1 ∙ ap (λ (x : Record). Some x) one.2) in
    let P : Record → Type 0 = λ x. Has x (all_pairs n rs sets) in
    subst P (sym one.2) (has_all n rs sets r.set r.block (stand r.set r.block named) one.1 named))
    (λ r m.
    let of = from_all n rs sets r m in
    let l = above of.0 of.1 in
    let at = is.recorded of.0 of.2.block l of.2.low of.2.named in
    let P : Record → Type 0 = λ x. Has x (filter (λ r. not (is_free r)) records) in
    subst P of.2.is (has-filter (λ r. not (is_free r)) (record_of 0 of.0 of.2.block) records (not_from_false (is_free (record_of 0 of.0 of.2.block)) (record_is_used (record_of 0 of.0 of.2.block) l))
    (has_at records at.0 (record_of 0 of.0 of.2.block) at.1)))))
    ∙ length-all_pairs n rs sets

-- ## the sets of images

later_set : (i : Image) (images : List Image) (s : ℕ) → AreLater i images → Has s (sets_of images) → i.set < s
later_set i [] s later m = absurd m
later_set i (j ∷ images) s later (inl e) = subst (λ (x : ℕ). i.set < x) e later.0
later_set i (j ∷ images) s later (inr m) = later_set i images s later.2 m

pub apart_sets : (writes : ℕ) (images : List Image) → AreInTime writes images → AreApart (sets_of images)
apart_sets writes [] in_time = tt
apart_sets writes (i ∷ images) in_time = ((λ m. let l = later_set i images i.set in_time.1 m in absurd (omega arith)), apart_sets writes images in_time.2)

pub among_has : (sets : List ℕ) (s : ℕ) → Has s sets → is_among s sets ≡ true
among_has [] s m = absurd m
among_has (x ∷ sets) s (inl e) = ap (λ (t : Bool). t || is_among s sets) (numbers_are x s e)
among_has (x ∷ sets) s (inr m) = grind (arith, common_steps, among_has sets s m)

-- ## whether a block has a slot

pub has_slot : (slots : Option (List (List ℕ))) (records : List Record) (n : ℕ) (rs : List Recovery) (set b : ℕ) → IsOverlay slots records n rs → 0 < set → b < n
    → has_record records (record_of 0 set b) ≡ names (recovered set rs) b
has_slot slots records n rs set b is above low = grind (arith, found_record, has_found)

-- What the map of a volume notes, slot by slot, how many slots that are, and the records from which it follows.
use Rattle.std.proofs.Common.{ℕ, zero, suc, ◌≡◌, ◌≢◌, ◌<◌, ◌-◌, Bool, true, false, not, ◌&&◌, List, [], ◌∷◌, length, map, Some, None, slice_get, refl, sym, ap}
use Rattle.std.proofs.Common.{◌∙◌, arith, ◌≤◌, ◌+◌}
use Rattle.std.proofs.lemmas.Bool.{false≢true}
use Rattle.std.proofs.lemmas.Bool.Decides.{nat_tests}
use Rattle.std.proofs.lemmas.List.Sums.{sum_by-cons}
use Rattle.std.proofs.lemmas.Option.{none-some, same_Some}
use Rattle.std.specs.List.{list_any}
use Rattle.std.specs.Prelude.{◌==◌, ◌||◌, nat_lt, if◌then◌else◌, IsTrue, ◌↔◌, slice_set, count_by, is_some}
use Rattle.diff_map.specs.Copies.{IsAbsent, copied_at, copy_of, HasCopy, noted_in, newest}
use Rattle.diff_map.specs.Counts.{is_for, used_for}
use Rattle.diff_map.specs.declared.copied.Copied.{Copied}
use Rattle.diff_area.specs.Format.{free, is_free}
use Rattle.diff_area.specs.declared.table_record.Record.{Record}
use Rattle.cow_volume.specs.Changes.{HasNoCopy, has_record, is_same_record, is_of, is_on, count_on, count_of}
use Rattle.cow_volume.specs.Room.{lacks_copy}
use Rattle.cow_volume.specs.StandsFor.{record_of}
use Rattle.cow_volume.specs.Resuming.{mixed}
use Rattle.cow_volume.specs.Parts.{copied_for}
use Rattle.cow_volume.proofs.Merging.{same_it}

-- ## What the map of a volume notes, slot by slot, and the records from which it follows.

-- ## one record

pub same_record : (r q : Record) → r.set ≡ q.set → r.block ≡ q.block → r.volume ≡ q.volume → r ≡ q
same_record r q a b c = grind arith

both_true : (s v w : ℕ) → 0 < s → w ≡ v → (nat_lt 0 s && (w == v)) ≡ true
both_true s v w some same = grind (arith, nat_tests)

pub both_from : (s v w : ℕ) → (nat_lt 0 s && (w == v)) ≡ true → (0 < s) × (w ≡ v)
both_from s v w h = (grind (arith, nat_tests), grind (arith, nat_tests))

pub of_volume : (v : ℕ) (r : Record) → 0 < r.set → r.volume ≡ v → (nat_lt 0 r.set && (r.volume == v)) ≡ true
of_volume v r some same = both_true r.set v r.volume some same

pub copied_for-is : (v : ℕ) (r : Record) → 0 < r.set → r.volume ≡ v → copied_for v r ≡ Some (copy_of r.set r.block)
copied_for-is v r some same = ap (λ (t : Bool). if t then Some (copy_of r.set r.block) else None) (both_true r.set v r.volume some same)

pub copied_for-none : (v : ℕ) (r : Record) → (nat_lt 0 r.set && (r.volume == v)) ≡ false → copied_for v r ≡ None
copied_for-none v r h = ap (λ (t : Bool). if t then Some (copy_of r.set r.block) else None) h

pub copied_for-free : (v : ℕ) → copied_for v free ≡ None
copied_for-free v = refl

pub copied_for-other : (v : ℕ) (r : Record) → r.volume ≢ v → copied_for v r ≡ None
copied_for-other v r other = copied_for-none v r (grind arith)

pub record-from : (v : ℕ) (r : Record) (c : Copied) → copied_for v r ≡ Some c → (0 < c.set) × (r ≡ record_of v c.set c.block)
record-from v r c h = grind arith

pub used_is : (r : Record) → 0 < r.set → is_free r ≡ false
used_is r some = grind arith

-- ## the row of a slot

pub get_inside : {X : Type 0} → (xs : List X) (i : ℕ) → i < length xs → (x : X) × (slice_get xs i ≡ Some x)
get_inside [] i l = absurd (omega arith)
get_inside (x ∷ xs) zero l = (x, refl)
get_inside (x ∷ xs) (suc i) l = get_inside xs i (omega arith)

pub map-from : {X Y : Type 0} → (g : X → Y) (xs : List X) (k : ℕ) (y : Y) → slice_get (map g xs) k ≡ Some y → (x : X) × (slice_get xs k ≡ Some x) × (g x ≡ y)
map-from g [] k y h = absurd (none-some y h)
map-from g (z ∷ xs) zero y h = (z, refl, same_Some (g z) y h)
map-from g (z ∷ xs) (suc k) y h = map-from g xs k y h

pub row_at : (v : ℕ) (records : List Record) (slot : ℕ) (r : Record) → slice_get records slot ≡ Some r → copied_at (map (copied_for v) records) slot ≡ copied_for v r
row_at v [] slot r h = absurd (none-some r h)
row_at v (q ∷ rs) zero r h = ap (copied_for v) (same_Some q r h)
row_at v (q ∷ rs) (suc slot) r h = row_at v rs slot r h

pub record_at_row : (v : ℕ) (records : List Record) (slot : ℕ) (c : Copied) → copied_at (map (copied_for v) records) slot ≡ Some c
    → (r : Record) × (slice_get records slot ≡ Some r) × (copied_for v r ≡ Some c)
record_at_row v [] slot c h = absurd (none-some c h)
record_at_row v (q ∷ rs) zero c h = (q, refl, h)
record_at_row v (q ∷ rs) (suc slot) c h = record_at_row v rs slot c h

pub record_of_row : (v : ℕ) (records : List Record) (slot : ℕ) (c : Copied) → copied_at (map (copied_for v) records) slot ≡ Some c
    → (0 < c.set) × (slice_get records slot ≡ Some (record_of v c.set c.block))
record_of_row v records slot c h = grind (arith, record_at_row, record-from)

pub row_of_record : (v : ℕ) (records : List Record) (slot set block : ℕ) → 0 < set → slice_get records slot ≡ Some (record_of v set block)
    → copied_at (map (copied_for v) records) slot ≡ Some (copy_of set block)
row_of_record v records slot set block some h = row_at v records slot (record_of v set block) h ∙ copied_for-is v (record_of v set block) some refl

-- ## what is found

pub absent_copy : (v : ℕ) (records : List Record) (set block : ℕ) → 0 < set → IsAbsent (map (copied_for v) records) set block → HasNoCopy records v set block
absent_copy v records set block some none = λ slot image h le. none slot image (row_of_record v records slot image block (omega arith) h) le

pub copy_absent : (v : ℕ) (records : List Record) (set block : ℕ) → HasNoCopy records v set block → IsAbsent (map (copied_for v) records) set block
copy_absent v records set block none = λ slot image h le. none slot image (record_of_row v records slot (copy_of image block) h).1 le

-- ## tests

same_if : (r q : Record) → is_same_record r q ≡ true → r ≡ q
same_if r q h = grind arith

-- a record that is found stands at a slot
pub has_slot : (records : List Record) (r : Record) → has_record records r ≡ true → (slot : ℕ) × (slice_get records slot ≡ Some r)
has_slot [] r h = absurd (false≢true h)
has_slot (q ∷ rs) r h = by_test (is_same_record r q) refl (has_slot rs r) where
  by_test : (t : Bool) → is_same_record r q ≡ t → (has_record rs r ≡ true → (slot : ℕ) × (slice_get rs slot ≡ Some r)) → (slot : ℕ) × (slice_get (q ∷ rs) slot ≡ Some r)
  by_test true e rest = (zero, ap (λ (x : Record). Some x) (sym (same_if r q e)))
  by_test false e rest =
      let at = rest (ap (λ (t : Bool). t || list_any (is_same_record r) rs) (sym e) ∙ h) in
      (suc at.0, at.1)

pub has_from_slot : (records : List Record) (r : Record) (slot : ℕ) → slice_get records slot ≡ Some r → has_record records r ≡ true
has_from_slot [] r slot h = absurd (none-some r h)
has_from_slot (q ∷ rs) r zero h =
    let same : r ≡ q = sym (same_Some q r h) in
    ap (λ (t : Bool). t || list_any (is_same_record r) rs) (ap (is_same_record r) (sym same) ∙ same_it r)
has_from_slot (q ∷ rs) r (suc slot) h = ap (λ (t : Bool). is_same_record r q || t) (has_from_slot rs r slot h) ∙ or_true (is_same_record r q) where
  or_true : (t : Bool) → (t || true) ≡ true
  or_true true = refl
  or_true false = refl

-- ## the newest image

pub newest_rest : (s t : ℕ) (rest : List ℕ) → newest (s ∷ t ∷ rest) ≡ newest (t ∷ rest)
newest_rest s t rest = grind arith

pub lacks_newest : (records : List Record) (v : ℕ) (images : List ℕ) (b : ℕ) → 0 < length images → lacks_copy records v images b ≡ not (has_record records (record_of v (newest images) b))
lacks_newest records v [] b some = absurd (omega arith)
lacks_newest records v (s ∷ []) b some = refl
lacks_newest records v (s ∷ t ∷ rest) b some = lacks_newest records v (t ∷ rest) b (omega arith) ∙ ap (λ (n : ℕ). not (has_record records (record_of v n b))) (sym (newest_rest s t rest))

pub bools_by : (a b : Bool) → (a ≡ true → b ≡ true) → (b ≡ true → a ≡ true) → a ≡ b
bools_by a b f g = grind arith

-- the newest image's copy, as the map tells it
pub newest_has_record : (records : List Record) (v : ℕ) (n b : ℕ) (has : Bool) → 0 < n → (IsTrue has ↔ HasCopy (map (copied_for v) records) n b) → has ≡ has_record records (record_of v n b)
newest_has_record records v n b has some h = grind (arith, bools_by, has_from_slot, record_of_row, has_slot, row_of_record)

-- ## Rows that follow one rule up to a place, and another from there on: what a step to the next place makes of them.

pub mixed-all : {X Y : Type 0} (f g : X → Y) (k : ℕ) (xs : List X) → length xs ≤ k → mixed f g k xs ≡ map f xs
mixed-all f g zero [] l = refl
mixed-all f g zero (x ∷ xs) l = absurd (omega arith)
mixed-all f g (suc k) [] l = refl
mixed-all f g (suc k) (x ∷ xs) l = ap (λ ys. f x ∷ ys) (mixed-all f g k xs (omega arith))

one_more : (k : ℕ) → suc k + 1 ≡ suc (k + 1)
one_more k = omega arith

-- the row at the place is set by the first rule
pub mixed-set : {X Y : Type 0} (f g : X → Y) (k : ℕ) (xs : List X) (x : X) → slice_get xs k ≡ Some x → mixed f g (k + 1) xs ≡ slice_set (mixed f g k xs) k (f x)
mixed-set f g k [] x at = cc
mixed-set f g zero (y ∷ xs) x at = let same : y ≡ x = same_Some y x at in ap (λ z. f z ∷ map g xs) same
mixed-set f g (suc k) (y ∷ xs) x at = ap (λ j. mixed f g j (y ∷ xs)) (one_more k) ∙ ap (λ ys. f y ∷ ys) (mixed-set f g k xs x at)

-- the two rules agree there
pub mixed-same : {X Y : Type 0} (f g : X → Y) (k : ℕ) (xs : List X) (x : X) → slice_get xs k ≡ Some x → f x ≡ g x → mixed f g (k + 1) xs ≡ mixed f g k xs
mixed-same f g k [] x at e = cc
mixed-same f g zero (y ∷ xs) x at e = let same : y ≡ x = same_Some y x at in ap (λ z. z ∷ map g xs) (ap f same ∙ e ∙ ap g (sym same))
mixed-same f g (suc k) (y ∷ xs) x at e = ap (λ j. mixed f g j (y ∷ xs)) (one_more k) ∙ ap (λ ys. f y ∷ ys) (mixed-same f g k xs x at e)

pub mixed-before : {X Y : Type 0} (f g : X → Y) (k : ℕ) (xs : List X) (i : ℕ) (x : X) → i < k → slice_get xs i ≡ Some x → slice_get (mixed f g k xs) i ≡ Some (f x)
mixed-before f g zero xs i x l at = absurd (omega arith)
mixed-before f g (suc k) [] i x l at = cc
mixed-before f g (suc k) (y ∷ xs) zero x l at = let same : y ≡ x = same_Some y x at in ap (λ z. Some (f z)) same
mixed-before f g (suc k) (y ∷ xs) (suc i) x l at = mixed-before f g k xs i x (omega arith) at

map-at : {X Y : Type 0} (g : X → Y) (xs : List X) (i : ℕ) (x : X) → slice_get xs i ≡ Some x → slice_get (map g xs) i ≡ Some (g x)
map-at g [] i x at = cc
map-at g (y ∷ xs) zero x at = let same : y ≡ x = same_Some y x at in ap (λ z. Some (g z)) same
map-at g (y ∷ xs) (suc i) x at = map-at g xs i x at

pub mixed-from : {X Y : Type 0} (f g : X → Y) (k : ℕ) (xs : List X) (i : ℕ) (x : X) → k ≤ i → slice_get xs i ≡ Some x → slice_get (mixed f g k xs) i ≡ Some (g x)
mixed-from f g zero xs i x l at = map-at g xs i x at
mixed-from f g (suc k) [] i x l at = cc
mixed-from f g (suc k) (y ∷ xs) zero x l at = absurd (omega arith)
mixed-from f g (suc k) (y ∷ xs) (suc i) x l at = mixed-from f g k xs i x (omega arith) at

-- ## a pool whose first slots are taken

-- ## How many slots a volume's map notes, by the records.

abbrev of_test : Bool → ℕ
of_test t = if t then 1 else 0

count_cons : {X : Type 0} (p : X → Bool) (x : X) (xs : List X) → count_by p (x ∷ xs) ≡ of_test (p x) + count_by p xs
count_cons p x xs = sum_by-cons (λ y. if p y then 1 else 0) x xs

-- the slots that the map notes are those of the volume's records
pub noted_on : (v : ℕ) (records : List Record) → noted_in (map (copied_for v) records) ≡ count_on v records
noted_on v [] = refl
noted_on v (r ∷ rs) =
    let a = count_cons is_some (copied_for v r) (map (copied_for v) rs) in
    let b = count_cons (is_on v) r rs in
    let here : of_test (is_some (copied_for v r)) ≡ of_test (is_on v r) = ap of_test (grind arith) in
    let rest = noted_on v rs in
    omega arith

-- the slots that the map notes for a set are those of its records
pub used_of : (v set : ℕ) (records : List Record) → 0 < set → used_for (map (copied_for v) records) set ≡ count_of v set records
used_of v set [] some = refl
used_of v set (r ∷ rs) some =
    let a = count_cons (is_for set) (copied_for v r) (map (copied_for v) rs) in
    let b = count_cons (is_of v set) r rs in
    let here : of_test (is_for set (copied_for v r)) ≡ of_test (is_of v set r) = ap of_test (grind arith) in
    let rest = used_of v set rs some in
    omega arith

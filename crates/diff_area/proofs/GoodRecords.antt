-- The records of a table that are read one after another: those of a table that is of the format are those of an area.
use Rattle.std.proofs.Common.{ℕ, zero, suc, take, ◌≡◌, ◌<◌, ◌≤◌, ◌+◌, true, List, [], ◌∷◌, ◌++◌, length, slice_get, refl, sym, ap, ◌∙◌, arith, Bool, false}
use Rattle.std.proofs.Common.{cond, ◌||◌, not, ◌≢◌, ◌*◌, inl, inr, ◌&&◌, nat_le, map, Option, Some, None, slice_index_or, subst, rules}
use Rattle.std.proofs.lemmas.Bool.{cases_lt}
use Rattle.std.proofs.lemmas.Bool.Decides.{nat_tests}
use Rattle.std.proofs.lemmas.List.{take-map}
use Rattle.std.proofs.lemmas.List.Folds.{list_any-append}
use Rattle.std.proofs.lemmas.List.FromFn.{map-range_with_len_more, length-map-range_with_len}
use Rattle.std.specs.BTreeMap.{is_at}
use Rattle.std.specs.BTreeSet.{BTreeSet, contains}
use Rattle.std.specs.List.{range_with_len, list_any, find}
use Rattle.std.specs.Ordering.{is_eq}
use Rattle.std.proofs.lemmas.Grind.{common_steps}
use Rattle.std.proofs.lemmas.Option.{slice_get_within}
use Rattle.std.proofs.Math.Bool.{or-false}
use Rattle.diff_area.specs.Format.{row_at, row_of, rows_in, is_good, good_at, row_count, is_same, layout_in, volumes_from, volume_count, volumes_in}
use Rattle.diff_area.specs.Format.{is_out_of_range, number_at, HasHeader, is_used, is_sound, IsNarrow, AreNarrow, is_free, free, AreVolumes, IsUsed, AreRecords}
use Rattle.diff_area.specs.ReadRows.{IsBadRow, AreGood, AreRefused, good_under, IsTable, record_cmp, IsSeen, IsNoted}
use Rattle.diff_area.specs.declared.area_fault.AreaFault.{AreaFault}
use Rattle.diff_area.specs.declared.header.Header.{Header}
use Rattle.diff_area.specs.declared.table_record.Record.{Record}
use Rattle.diff_area.proofs.ByPlace.{past, get-push, get-of_take, get-map_range}

-- ## The records of a table that are read one after another.

pub rows_in-none : (layout : ℕ) (table : List ℕ) → rows_in layout table 0 ≡ []
unfolding rows_in
rows_in-none layout table = refl

pub rows_in-more : (layout : ℕ) (table : List ℕ) (n : ℕ) → rows_in layout table (n + 1) ≡ rows_in layout table n ++ row_of layout (row_at table n) ∷ []
unfolding rows_in
rows_in-more layout table n = map-range_with_len_more (λ slot. row_of layout (row_at table slot)) 0 n n (omega arith)

pub length-rows_in : (layout : ℕ) (table : List ℕ) (n : ℕ) → length (rows_in layout table n) ≡ n
unfolding rows_in
length-rows_in layout table n = length-map-range_with_len (λ slot. row_of layout (row_at table slot)) 0 n

pub good-none : (h : Header) (table : List ℕ) (rows : List Record) → rows ≡ [] → AreGood h table 0 rows
good-none h table rows e = grind (arith, rows_in-none, past)

-- the test of a record is that at its place
at_place : (h : Header) (table : List ℕ) (n : ℕ) (rows : List Record) (row : List ℕ) → rows ≡ rows_in h.layout table n → row ≡ row_at table n → is_good h.volumes.items h.slots h.layout (length rows) row rows ≡ good_at h.volumes.items h.slots h.layout table n
at_place h table n rows row e f = grind (arith, length-rows_in)

below : (h : Header) (table : List ℕ) (n slot : ℕ) → ((k : ℕ) → k < n → good_under h table k) → good_under h table n → slot < n + 1 → good_under h table slot
below h table n slot all here b = grind arith

pub good-more : (h : Header) (table : List ℕ) (n : ℕ) (rows new : List Record) (row : List ℕ) → AreGood h table n rows → row ≡ row_at table n → new ≡ rows ++ row_of h.layout row ∷ [] → is_good h.volumes.items h.slots h.layout (length rows) row rows ≡ true → IsNarrow (row_of h.layout row) → AreGood h table (n + 1) new
good-more h table n rows new row g f e good thin = grind (arith, get-push, rows_in-more, below, at_place)

pub bad_row : (h : Header) (table : List ℕ) (count n : ℕ) (rows : List Record) (row : List ℕ) (fault : AreaFault) → AreGood h table n rows → row ≡ row_at table n → n < count → IsBadRow h row rows fault → AreRefused h table count fault
bad_row h table count n rows row fault g f b bad = grind (arith, length-rows_in, at_place)

take-range : (a n m : ℕ) → n ≤ m → take n (range_with_len a m) ≡ range_with_len a n
take-range a zero m h = refl
take-range a (suc n) zero h = absurd (omega arith)
take-range a (suc n) (suc m) h = ap (λ xs. a ∷ xs) (take-range (a + 1) n m (omega arith))

-- the first of the records
pub take-rows_in : (layout : ℕ) (table : List ℕ) (n m : ℕ) → n ≤ m → take n (rows_in layout table m) ≡ rows_in layout table n
unfolding rows_in
take-rows_in layout table n m h = grind (arith, take-map, take-range)

-- the records of the slots
pub first_rows : (h : Header) (table : List ℕ) (rows new : List Record) → AreGood h table (row_count h.slots) rows → new ≡ take h.slots rows → new ≡ rows_in h.layout table h.slots
first_rows h table rows new g e = e ∙ ap (take h.slots) g.rows_are ∙ take-rows_in h.layout table h.slots (row_count h.slots) (omega arith)

-- and they are narrow
pub first_narrow : (n : ℕ) (rows new : List Record) → AreNarrow rows → new ≡ take n rows → AreNarrow new
first_narrow n rows new h e slot r g = h slot r (get-of_take n rows slot r (ap (λ xs. slice_get xs slot) (sym e) ∙ g))

-- ## The set of the records so far, and a record that is noted in it.

-- the order tells records apart
is_eq-record_cmp : (a b : Record) → is_eq (record_cmp a b) ≡ is_same a b
is_eq-record_cmp a b = grind arith

is_same-sym : (a b : Record) → is_same a b ≡ is_same b a
is_same-sym a b = grind arith

one_more : (same among : Bool) → cond same true among ≡ (among || same)
one_more same among = grind arith

pub list_any-push : {X : Type 0} (p : X → Bool) (xs : List X) (x : X) → list_any p (xs ++ x ∷ []) ≡ (list_any p xs || p x)
list_any-push p xs x = list_any-append p xs (x ∷ []) ∙ ap (λ b. list_any p xs || b) (or-false (p x))

-- a record that is not free was put into the set
pub noted : (old new : BTreeSet Record) (r : Record) (added : Bool) → is_free r ≡ false → added ≡ not (contains record_cmp old r) → ((q : Record) → contains record_cmp new q ≡ cond (is_at (record_cmp r) q) true (contains record_cmp old q)) → IsNoted old new r added
noted old new r added f a u = grind (arith, is_eq-record_cmp, is_same-sym, one_more, list_any-push)

pub seen-none : (seen : BTreeSet Record) (rows : List Record) → seen.keys ≡ [] → rows ≡ [] → IsSeen seen rows
seen-none seen rows e f r g = ap (list_any (is_at (record_cmp r))) e ∙ ap (list_any (is_same r)) (sym f)

-- ## The records of a table that is of the format are those of an area.

-- ## tests

pub and_left : (a b : Bool) → (a && b) ≡ true → a ≡ true
and_left a b h = grind arith

pub and_right : (a b : Bool) → (a && b) ≡ true → b ≡ true
and_right a b h = grind arith

at_most : (a b : ℕ) → nat_le a b ≡ true → a ≤ b
at_most a b h = grind (arith, nat_tests)

-- ## free and equal records

pub free_is : (r : Record) → is_free r ≡ true → r ≡ free
free_is r h = grind arith

by_test : (r : Record) (b : Bool) → is_free r ≡ b → r ≢ free → b ≡ false
by_test r b h n = grind arith

pub not_free : (r : Record) → r ≢ free → is_free r ≡ false
not_free r n = by_test r (is_free r) refl n

-- ## volumes

length-volumes_in : (header : List ℕ) → length (volumes_in header) ≡ volume_count header
unfolding volumes_in
length-volumes_in header = length-map-range_with_len (λ v. number_at header (volumes_from (layout_in header) + 4 * v)) 0 (volume_count header)

low : (n : ℕ) → is_out_of_range n ≡ false → 0 < n
low n h = grind (arith, nat_tests)

high : (n : ℕ) → is_out_of_range n ≡ false → n ≤ 65536
high n h = grind (arith, nat_tests)

here : (b : Bool) (x : ℕ) (rest : Option ℕ) → cond b (Some x) rest ≡ None → b ≡ false
here b x rest h = grind arith

further : (b : Bool) (x : ℕ) (rest : Option ℕ) → cond b (Some x) rest ≡ None → rest ≡ None
further b x rest h = grind arith

in_range : (n : ℕ) → is_out_of_range n ≡ false → (0 < n) × (n ≤ 65536)
in_range n h = (low n h, high n h)

none_found : (xs : List ℕ) (k d : ℕ) → find is_out_of_range xs ≡ None → k < length xs → is_out_of_range (slice_index_or xs k d) ≡ false
none_found [] k d h b = absurd (omega arith)
none_found (x ∷ xs) zero d h b = here (is_out_of_range x) x (find is_out_of_range xs) h
none_found (x ∷ xs) (suc k) d h b = none_found xs k d (further (is_out_of_range x) x (find is_out_of_range xs) h) (omega arith)

pub are_volumes : (size : ℕ) (header : List ℕ) → HasHeader size header → AreVolumes (volumes_in header)
are_volumes size header h = search (rules, length-volumes_in, low, at_most, and_left, high, and_right, in_range, none_found, nat_le)

-- ## records

get_or-map_range : {X : Type 0} (f : ℕ → X) (a n k m : ℕ) (d : X) → k < n → m ≡ a + k → slice_index_or (map f (range_with_len a n)) k d ≡ f m
get_or-map_range f a zero k m d h e = absurd (omega arith)
get_or-map_range f a (suc n) zero m d h e = let s : a ≡ m = omega arith in ap f s
get_or-map_range f a (suc n) (suc k) m d h e = get_or-map_range f (a + 1) n k m d (omega arith) (omega arith)

pub get_or-rows_in : (layout : ℕ) (table : List ℕ) (n k : ℕ) (d : Record) → k < n → slice_index_or (rows_in layout table n) k d ≡ row_of layout (row_at table k)
unfolding rows_in
get_or-rows_in layout table n k d h = get_or-map_range (λ slot. row_of layout (row_at table slot)) 0 n k k d h (omega arith)

get-rows_in : (layout : ℕ) (table : List ℕ) (n k : ℕ) → k < n → slice_get (rows_in layout table n) k ≡ Some (row_of layout (row_at table k))
unfolding rows_in
get-rows_in layout table n k h = get-map_range (λ slot. row_of layout (row_at table slot)) 0 n k k h (omega arith)

-- a record that stands in the list is that of its slot
found_at : (h : Header) (table : List ℕ) (rows : List Record) (slot : ℕ) (r : Record) → rows ≡ rows_in h.layout table h.slots → slice_get rows slot ≡ Some r → (slot < h.slots) × (r ≡ row_of h.layout (row_at table slot))
found_at h table rows slot r e g = grind (arith, slice_get_within, length-rows_in, get-rows_in)

sound_used : (volumes : List ℕ) (slots layout slot : ℕ) (row : List ℕ) → is_sound volumes slots layout slot row ≡ true → is_free (row_of layout row) ≡ false → is_used volumes (row_of layout row) ≡ true
unfolding is_sound
sound_used volumes slots layout slot row h f = grind arith

good_sound : (volumes : List ℕ) (slots layout slot : ℕ) (row : List ℕ) (earlier : List Record) → is_good volumes slots layout slot row earlier ≡ true → is_sound volumes slots layout slot row ≡ true
unfolding is_good
good_sound volumes slots layout slot row earlier h = grind arith

good_new : (volumes : List ℕ) (slots layout slot : ℕ) (row : List ℕ) (earlier : List Record) → is_good volumes slots layout slot row earlier ≡ true → is_free (row_of layout row) ≡ false → not (list_any (is_same (row_of layout row)) earlier) ≡ true
unfolding is_good
good_new volumes slots layout slot row earlier h f = grind arith

pub used_is : (volumes : List ℕ) (r : Record) → is_used volumes r ≡ true → IsUsed volumes r
used_is volumes r h = grind arith

-- no two slots have one record
apart : (h : Header) (table : List ℕ) (rows : List Record) (slot other : ℕ) (r : Record) → IsTable h table rows → slice_get rows slot ≡ Some r → slice_get rows other ≡ Some r → r ≢ free → slot < other → ⊥
apart h table rows slot other r t f g n b =
    let there = found_at h table rows other r t.rows_are g in
    let row = row_at table other in
    let good = t.good other (omega (arith, there.0)) in
    let free_test = ap is_free (sym there.1) ∙ not_free r n in
    let fact = good_new h.volumes.items h.slots h.layout other row (rows_in h.layout table other) good free_test in
    let fact1 = get_or-rows_in h.layout table other slot r b in
    grind (arith, common_steps, found_at h table rows slot r t.rows_are f, not_free r n, length-rows_in h.layout table other)

pub are_records : (h : Header) (table : List ℕ) (rows : List Record) → IsTable h table rows → h.slots ≤ 65536 → AreRecords h.volumes.items rows
are_records h table rows t few = record {
  narrow = t.narrow;
  few = let len = ap length t.rows_are ∙ length-rows_in h.layout table h.slots in omega arith;
  each = λ slot r g n.
      let here = found_at h table rows slot r t.rows_are g in
      let row = row_at table slot in
      let good = t.good slot (omega (arith, here.0)) in
      let free_test = ap is_free (sym here.1) ∙ not_free r n in
      let sound = good_sound h.volumes.items h.slots h.layout slot row (rows_in h.layout table slot) good in
      let P : Record → Type 0 = IsUsed h.volumes.items in
      subst P (sym here.1) (used_is h.volumes.items (row_of h.layout row) (sound_used h.volumes.items h.slots h.layout slot row sound free_test));
  once = λ slot other r f g n.
      elim (cases_lt slot other) [
        | inl p ↦ absurd (apart h table rows slot other r t f g n p)
        | inr p ↦ elim (cases_lt other slot) [
          | inl q ↦ absurd (apart h table rows other slot r t g f n q)
          | inr q ↦ omega arith
        ]
      ];
}

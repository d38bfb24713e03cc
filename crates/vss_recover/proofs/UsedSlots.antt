-- The ordered list of the used slots of an overlay: what is found in it, a slot that is noted, and images that go.
use Rattle.std.proofs.Common.{◌≡◌, ◌<◌, ◌≤◌, ◌+◌, ◌^◌, ◌⊎◌, ℕ, zero, suc, List, [], ◌∷◌, length, map, take, replicate, get_or, refl, ap, sym, subst, ◌∙◌, arith, Bool, true, false, cond, Option}
use Rattle.std.proofs.Common.{Some, None, inl, inr, All, Vec, vec_capacity}
use Rattle.std.specs.List.{AllWithin, filter, filter_map, cons_option, insert}
use Rattle.std.specs.Option.{option_and_then}
use Rattle.std.specs.Prelude.{slice_get, slice_set, count_by, if◌then◌else◌, nat_lt, ◌==◌, ◌&&◌}
use Rattle.std.specs.declared.alloc.Global.{Global}
use Rattle.std.proofs.lemmas.Bool.{false≢true, cases_eq, lt-ltb, and_from}
use Rattle.std.proofs.lemmas.Bool.Decides.{nat_tests}
use Rattle.std.proofs.lemmas.List.{map-set, length-map, length-set}
use Rattle.std.proofs.lemmas.List.Elements.{All-head, All-tail}
use Rattle.std.proofs.lemmas.List.Sums.{sum_by-cons}
use Rattle.std.proofs.lemmas.Option.{cond_some}
use Rattle.std.proofs.lemmas.Grind.{common_steps}
use Rattle.slot_pool.specs.Slots.{IsTaken}
use Rattle.diff_area.specs.AreaValue.{AreaValue}
use Rattle.diff_area.specs.Format.{free, is_free, AreRecords}
use Rattle.diff_area.specs.declared.table_record.Record.{Record}
use Rattle.diff_map.specs.Copies.{copied_at, copy_of, HasCopy}
use Rattle.diff_map.specs.Links.{IsIndex, IsNoted, entry_now, place, place_of}
use Rattle.diff_map.specs.Rules.{renewed}
use Rattle.diff_map.specs.declared.copied.Copied.{Copied}
use Rattle.diff_map.specs.declared.entry.Entry.{Entry}
use Rattle.diff_map.proofs.Renewal.{KeepsOrder, IsIndex-renewed, copied_at-renewed}
use Rattle.diff_map.proofs.Noting.{IsIndex-noted, room_for_one, past_search}
use Rattle.cow_volume.specs.Calls.{is_among}
use Rattle.cow_volume.specs.Changes.{has_record, followed, followed_row}
use Rattle.cow_volume.specs.CopiesAfter.{with_records}
use Rattle.cow_volume.specs.StandsFor.{record_of}
use Rattle.cow_volume.specs.Parts.{copied_for}
use Rattle.vss_recover.proofs.Passing.{entries_count, passed, still_there, noted_at}
use Rattle.cow_volume.proofs.Merging.{has_found}
use Rattle.cow_volume.proofs.TakingUp.{none_at}
use Rattle.cow_volume.proofs.Renewed.{get-map, own_map}
use Rattle.cow_volume.proofs.Rows.{copied_for-is, has_slot, record_of_row, row_of_record, used_is}
use Rattle.cow_volume.proofs.Ties.{free_is, unnoted}
use Rattle.vss_recover.specs.RecoverValue.{KeepsOverlay}
use Rattle.vss_recover.specs.OverlayCalls.{count_in, is_block_of, kept_record, kept_records}

-- the rows that the records of an overlay are
abbrev pub rows : List Record → List (Option Copied)
rows records = map (copied_for 0) records

-- ## tests

pub both_same : (a b c d : ℕ) → ((a == b) && (c == d)) ≡ true → (a ≡ b) × (c ≡ d)
both_same a b c d e = (grind (arith, nat_tests), grind (arith, nat_tests))

pub both_test : (a b c d : ℕ) → a ≡ b → c ≡ d → ((a == b) && (c == d)) ≡ true
both_test a b c d same too = grind (arith, nat_tests)

-- ## found

pub found_row : (entries : List Entry) (records : List Record) (set b n : ℕ) (e : Entry) → IsIndex entries (rows records) → n < length entries → e ≡ get_or entries n e → e.block ≡ b → e.set ≡ set
    → slice_get records e.slot ≡ Some (record_of 0 set b)
found_row entries records set b n e index inside is block_is set_is = grind (arith, record_of_row)

pub no_row : (entries : List Entry) (records : List Record) (set b n : ℕ) → IsIndex entries (rows records) → AllWithin (λ e. place e < place_of b set) entries 0 n
    → AllWithin (λ e. place_of b set ≤ place e) entries n (length entries)
    → (n < length entries → (d : Entry) → (get_or entries n d).block ≡ b → (get_or entries n d).set ≡ set → ⊥) → 0 < set → has_record records (record_of 0 set b) ≡ false
no_row entries records set b n index before onward apart some = grind (arith, has_slot, row_of_record, past_search, cases_eq)

pub lacks_copy : (records : List Record) (set b : ℕ) → has_record records (record_of 0 set b) ≡ false → HasCopy (rows records) set b → ⊥
lacks_copy records set b none has = false≢true (sym none ∙ has_found records has.0 (record_of 0 set b) (record_of_row 0 records has.0 (copy_of set b) has.1).1)

-- ## the records are of one volume

pub each_used : (volumes : List ℕ) (records : List Record) → length volumes ≡ 1 → AreRecords volumes records → (k : ℕ) (r : Record) → slice_get records k ≡ Some r
    → (r ≡ free) ⊎ ((0 < r.set) × (r.volume ≡ 0))
each_used volumes records one are k r at = by_test (is_free r) refl where
  by_test : (t : Bool) → is_free r ≡ t → (r ≡ free) ⊎ ((0 < r.set) × (r.volume ≡ 0))
  by_test true e = inl (free_is r e)
  by_test false e =
      let used = are.each k r at (λ same. false≢true (sym e ∙ ap is_free same)) in
      inr (used.set, omega arith)

-- ## counted

count_same : {X : Type 0} (p q : X → Bool) (xs : List X) → ((i : ℕ) (x : X) → slice_get xs i ≡ Some x → p x ≡ q x) → count_by p xs ≡ count_by q xs
count_same p q [] same = refl
count_same p q (x ∷ xs) same =
    sum_by-cons (λ y. if p y then 1 else 0) x xs
    ∙ ap (λ (t : Bool). (if t then 1 else 0) + count_by p xs) (same 0 x refl)
    ∙ ap (λ (k : ℕ). (if q x then 1 else 0) + k) (count_same p q xs (λ i y at. same (suc i) y at))
    ∙ sym (sum_by-cons (λ y. if q y then 1 else 0) x xs)

-- the record is of a block of the image of a set, of the one volume
abbrev is_its : ℕ → Record → Bool
is_its set r = (nat_lt 0 r.set && (r.volume == 0)) && (r.set == set)

its_volume : (set : ℕ) (r : Record) → is_its set r ≡ true → (nat_lt 0 r.set && (r.volume == 0)) ≡ true
its_volume set r e = grind arith

one_test : (set : ℕ) (r : Record) → (r ≡ free) ⊎ ((0 < r.set) × (r.volume ≡ 0)) → is_its set r ≡ is_block_of set r
one_test set r x2 = grind arith

abbrev keep_all : Copied → Option Copied
keep_all c = Some c

pub entries_counted : (volumes : List ℕ) (records : List Record) (entries : List Entry) (set : ℕ) → length volumes ≡ 1 → AreRecords volumes records → IsIndex entries (rows records)
    → count_by (λ (e : Entry). e.set == set) entries ≡ count_in set records
entries_counted volumes records entries set one are index =
    sym (count_same (λ (e : Entry). is_its set (record_of 0 e.set e.block)) (λ (e : Entry). e.set == set) entries
    (λ i e at. ap (λ (t : Bool). t && (e.set == set))
    (and_from (nat_lt 0 e.set) (0 == 0) (lt-ltb 0 e.set (record_of_row 0 records e.slot (copy_of e.set e.block) (noted_at 0 keep_all entries records index i e at)).0) refl)))
    ∙ entries_count (is_its set) 0 entries records index (its_volume set) refl
    ∙ count_same (is_its set) (is_block_of set) records (λ k r at. one_test set r (each_used volumes records one are k r at))

-- ## noted

pub overlay_noted : (volumes : List ℕ) (records : List Record) (entries later : Vec Entry Global) (pool new_pool : List Bool) (set b slot n : ℕ) → KeepsOverlay volumes records entries pool
    → has_record records (record_of 0 set b) ≡ false → slice_get records slot ≡ Some free → 0 < set → set < 2 ^ 32
    → n ≤ length entries.items → AllWithin (λ e. place e < place_of b set) entries.items 0 n → AllWithin (λ e. place_of b set ≤ place e) entries.items n (length entries.items)
    → later.items ≡ insert entries.items n (record { block = b; set = set; slot = slot })
    → vec_capacity entries ≤ vec_capacity later → new_pool ≡ slice_set pool slot false → KeepsOverlay volumes (slice_set records slot (record_of 0 set b)) later new_pool
overlay_noted volumes records entries later pool new_pool set b slot n keeps none empty above narrow within before onward items cap taken =
    let row : slice_set (rows records) slot (Some (copy_of set b)) ≡ rows (slice_set records slot (record_of 0 set b)) =
    ap (slice_set (rows records) slot) (sym (copied_for-is 0 (record_of 0 set b) above refl)) ∙ sym (map-set (copied_for 0) records slot (record_of 0 set b)) in
    record {
      one = keeps.one;
      index = subst (λ (es : List Entry). IsIndex es (rows (slice_set records slot (record_of 0 set b)))) (sym items)
          (subst (IsIndex (insert entries.items n (record { block = b; set = set; slot = slot }))) row
          (IsIndex-noted entries.items (rows records) slot set b n keeps.index (unnoted records (rows records) 0 slot refl empty) (lacks_copy records set b none) narrow within before onward));
      room = let r = keeps.room in let long = length-set records slot (record_of 0 set b) in omega arith;
      pool_is = taken ∙ ap (λ (p : List Bool). slice_set p slot false) keeps.pool_is ∙ ap (slice_set (map is_free records) slot) (sym (used_is (record_of 0 set b) above))
          ∙ sym (map-set is_free records slot (record_of 0 set b));
    }

-- there is room for one more entry
pub room_for : (volumes : List ℕ) (records : List Record) (entries : Vec Entry Global) (pool : List Bool) (set b slot n : ℕ) → KeepsOverlay volumes records entries pool
    → has_record records (record_of 0 set b) ≡ false → slice_get records slot ≡ Some free → set < 2 ^ 32
    → n ≤ length entries.items → AllWithin (λ e. place e < place_of b set) entries.items 0 n → AllWithin (λ e. place_of b set ≤ place e) entries.items n (length entries.items)
    → length entries.items < vec_capacity entries
room_for volumes records entries pool set b slot n keeps none empty narrow within before onward =
    let more = room_for_one entries.items (rows records) slot set b n keeps.index (unnoted records (rows records) 0 slot refl empty) (lacks_copy records set b none) narrow within before onward in
    let long = length-map records (copied_for 0) in
    omega arith

-- ## images that go

-- the copies of these images stay
abbrev pub among : List ℕ → Copied → Option Copied
among sets c = if is_among c.set sets then Some c else None

pub among_stays : (sets : List ℕ) (c : Copied) → is_among c.set sets ≡ true → among sets c ≡ Some c
among_stays sets c e = ap (λ (t : Bool). if t then Some c else None) e

pub among_goes : (sets : List ℕ) (c : Copied) → is_among c.set sets ≡ false → among sets c ≡ None
among_goes sets c e = ap (λ (t : Bool). if t then Some c else None) e

among_gives : (sets : List ℕ) (c d : Copied) → among sets c ≡ Some d → d ≡ c
among_gives sets c d e = sym (cond_some (is_among c.set sets) c d e).1

row_kept : (sets : List ℕ) (r : Record) → (r ≡ free) ⊎ ((0 < r.set) × (r.volume ≡ 0)) → followed_row 0 (option_and_then (among sets) (copied_for 0 r)) r ≡ kept_record sets r
row_kept sets r x2 = grind arith

rows_kept : (sets : List ℕ) (records : List Record) → ((k : ℕ) (r : Record) → slice_get records k ≡ Some r → (r ≡ free) ⊎ ((0 < r.set) × (r.volume ≡ 0)))
    → followed 0 (renewed (among sets) (rows records)) records ≡ kept_records sets records
rows_kept sets [] each = refl
rows_kept sets (r ∷ records) each =
    ap (λ (q : Record). q ∷ followed 0 (renewed (among sets) (rows records)) records) (row_kept sets r (each 0 r refl))
    ∙ ap (λ (rs : List Record). kept_record sets r ∷ rs) (rows_kept sets records (λ k q at. each (suc k) q at))

-- what follows the rows of the images that stay are the records of these
pub followed_kept : (volumes : List ℕ) (records : List Record) (sets : List ℕ) → length volumes ≡ 1 → AreRecords volumes records
    → followed 0 (renewed (among sets) (rows records)) records ≡ kept_records sets records
followed_kept volumes records sets one are = rows_kept sets records (each_used volumes records one are)

module _ (sets : List ℕ) (copies : List (Option Copied)) where
  row_now : (e : Entry) → IsNoted copies e → copied_at (renewed (among sets) copies) e.slot ≡ among sets (copy_of e.set e.block)
  row_now e noted = copied_at-renewed (among sets) copies e.slot ∙ ap (option_and_then (among sets)) noted.row

  one_more : (e : Entry) (left es : List Entry) (t : Bool) → is_among e.set sets ≡ t → IsNoted copies e → left ≡ es
      → cond (is_among e.set sets) (e ∷ left) left ≡ cons_option (entry_now (renewed (among sets) copies) e) es
  one_more e left es t test noted rest = grind (arith, row_now, among_stays, among_goes)

  filters : (entries : List Entry) → All (IsNoted copies) entries → filter (λ (e : Entry). is_among e.set sets) entries ≡ filter_map (entry_now (renewed (among sets) copies)) entries
  filters [] each = refl
  filters (e ∷ es) each = one_more e (filter (λ (x : Entry). is_among x.set sets) es) (filter_map (entry_now (renewed (among sets) copies)) es) (is_among e.set sets) refl
      (All-head (IsNoted copies) e es each) (filters es (All-tail (IsNoted copies) e es each))

  keeps_order : (entries : List Entry) → IsIndex entries copies → KeepsOrder (among sets) copies
  keeps_order entries index = grind arith

pub overlay_kept : (volumes : List ℕ) (records : List Record) (entries later : Vec Entry Global) (pool new_pool : List Bool) (sets : List ℕ) → KeepsOverlay volumes records entries pool
    → AreRecords volumes records → later.items ≡ filter (λ (e : Entry). is_among e.set sets) entries.items
    → vec_capacity later ≡ vec_capacity entries → new_pool ≡ map is_free (kept_records sets records) → KeepsOverlay volumes (kept_records sets records) later new_pool
overlay_kept volumes records entries later pool new_pool sets keeps are items cap pool_is =
    let fact = IsIndex-renewed (among sets) entries.items (rows records) keeps.index (keeps_order sets (rows records) entries.items keeps.index) in
    let fact1 = filters sets (rows records) entries.items keeps.index.each in
    let fact2 = keeps_order sets (rows records) entries.items keeps.index in
    grind (arith, common_steps, followed_kept volumes records sets keeps.one are, own_map 0 (among sets) records, among_gives sets)

-- the slot of an entry that was not passed is taken
pub taken_there : {D : Type 0} (first old : AreaValue D) (pool : List Bool) (rule : Copied → Option Copied) (entries : List Entry) (i : ℕ) (e : Entry) → IsIndex entries (rows first.records)
    → slice_get entries i ≡ Some e
    → old ≡ with_records (passed 0 rule (take i entries) first.records) first → pool ≡ map is_free old.records → IsTaken pool e.slot
taken_there {D = D} first old pool rule entries i e index at was pool_is =
    ap (λ (p : List Bool). slice_get p e.slot) (pool_is ∙ ap (λ (a : AreaValue D). map is_free a.records) was)
    ∙ get-map is_free (passed 0 rule (take i entries) first.records) e.slot (record_of 0 e.set e.block) (still_there 0 rule entries first.records index i e at)
    ∙ ap Some (used_is (record_of 0 e.set e.block) (record_of_row 0 first.records e.slot (copy_of e.set e.block) (noted_at 0 rule entries first.records index i e at)).0)

-- ## at first

rows_new : (k : ℕ) → rows (replicate k free) ≡ replicate k None
rows_new zero = refl
rows_new (suc k) = ap (λ (os : List (Option Copied)). None ∷ os) (rows_new k)

pool_new : (k : ℕ) → replicate k true ≡ map is_free (replicate k free)
pool_new zero = refl
pool_new (suc k) = ap (λ (ts : List Bool). true ∷ ts) (pool_new k)

pub overlay_new : (volumes : List ℕ) (records : List Record) (entries : Vec Entry Global) (pool : List Bool) → length volumes ≡ 1 → records ≡ replicate (length records) free → entries.items ≡ []
    → length records ≤ vec_capacity entries → pool ≡ replicate (length records) true → KeepsOverlay volumes records entries pool
overlay_new volumes records entries pool one are items room pool_is = grind (arith, rows_new, none_at, pool_new)

-- The records of a volume, brought in step with its map's rows entry by entry, and counted by the entries.
use Rattle.std.proofs.Common.{ℕ, zero, suc, ◌≡◌, ◌≢◌, ◌<◌, ◌≤◌, ◌+◌, Bool, true, false, ◌&&◌, List, [], ◌∷◌, length, map, take, get_or, Option, Some, slice_get}
use Rattle.std.proofs.Common.{slice_set, refl, sym, ap, ◌∙◌, subst, arith, inl, inr, None, rules}
use Rattle.std.proofs.lemmas.Bool.{cases_eq}
use Rattle.std.proofs.lemmas.Grind.{common_steps}
use Rattle.std.proofs.lemmas.List.{length-map, length-set, take_all, get_or_default}
use Rattle.std.proofs.lemmas.List.Sums.{sum_by-cons, count_by_more_yes, count_by_more_no}
use Rattle.std.proofs.lemmas.Option.{none-some, same_Some, slice_get_within, slice_get_read, get_or_from_slice_get}
use Rattle.std.specs.Option.{option_and_then}
use Rattle.std.specs.Prelude.{◌==◌, nat_lt, if◌then◌else◌, count_by}
use Rattle.diff_map.specs.Copies.{copied_at, copy_of}
use Rattle.diff_map.specs.Links.{IsIndex, place}
use Rattle.diff_map.specs.Rules.{renewed}
use Rattle.diff_map.specs.declared.copied.Copied.{Copied}
use Rattle.diff_map.specs.declared.entry.Entry.{Entry}
use Rattle.diff_map.proofs.Renewal.{copied_at-renewed}
use Rattle.diff_area.specs.AreaValue.{AreaValue}
use Rattle.diff_area.specs.Format.{free}
use Rattle.diff_area.specs.declared.table_record.Record.{Record}
use Rattle.diff_area.proofs.ByPlace.{get-set_same}
use Rattle.cow_volume.specs.CopiesAfter.{with_records}
use Rattle.cow_volume.specs.Changes.{record_for, followed_row, followed}
use Rattle.cow_volume.specs.StandsFor.{record_of}
use Rattle.cow_volume.specs.Parts.{copied_for}
use Rattle.cow_volume.proofs.Renewed.{follows-of, follows-other, length-followed, followed_at, set-same, same_lists}
use Rattle.cow_volume.proofs.Rows.{copied_for-is, copied_for-none, record_of_row, row_at, both_from, get_inside}

-- ## The records of a volume, brought in step with its map's rows entry by entry of the map's list.

-- what becomes of the record of an entry's copy
abbrev pub entry_row : ℕ → (Copied → Option Copied) → Entry → Record
entry_row v rule e = record_for v (rule (copy_of e.set e.block))

abbrev pub pass : ℕ → (Copied → Option Copied) → List Record → Entry → List Record
pass v rule records e = slice_set records e.slot (entry_row v rule e)

-- the records where the copies of these entries were passed
abbrev pub passed : ℕ → (Copied → Option Copied) → List Entry → List Record → List Record
passed v rule [] records = records
passed v rule (e ∷ es) records = passed v rule es (pass v rule records e)

-- ## lists

other_set : {X : Type 0} → (xs : List X) (k j : ℕ) (y : X) → k ≢ j → slice_get (slice_set xs k y) j ≡ slice_get xs j
other_set [] k j y d = refl
other_set (x ∷ xs) zero zero y d = absurd (d refl)
other_set (x ∷ xs) zero (suc j) y d = refl
other_set (x ∷ xs) (suc k) zero y d = refl
other_set (x ∷ xs) (suc k) (suc j) y d = other_set xs k j y (λ e. d (ap suc e))

pub taken_at : {X : Type 0} → (xs : List X) (i j : ℕ) (x : X) → slice_get (take i xs) j ≡ Some x → (j < i) × (slice_get xs j ≡ Some x)
taken_at xs zero j x h = absurd (none-some x h)
taken_at [] (suc i) j x h = absurd (none-some x h)
taken_at (y ∷ xs) (suc i) zero x h = (omega arith, h)
taken_at (y ∷ xs) (suc i) (suc j) x h = let at = taken_at xs i j x h in let low = at.0 in (omega arith, at.1)

-- ## the entries, passed one by one

module _ (v : ℕ) (rule : Copied → Option Copied) where
  pub length-passed : (es : List Entry) (rs : List Record) → length (passed v rule es rs) ≡ length rs
  length-passed [] rs = refl
  length-passed (e ∷ es) rs = length-passed es (pass v rule rs e) ∙ length-set rs e.slot (entry_row v rule e)

  more : (es : List Entry) (rs : List Record) (i : ℕ) (e : Entry) → slice_get es i ≡ Some e → passed v rule (take (suc i) es) rs ≡ pass v rule (passed v rule (take i es) rs) e
  more [] rs i e h = absurd (none-some e h)
  more (x ∷ es) rs zero e h = ap (λ (y : Entry). pass v rule rs y) (same_Some x e h)
  more (x ∷ es) rs (suc i) e h = more es (pass v rule rs x) i e h

  pub passed_more : (es : List Entry) (rs : List Record) (i : ℕ) (e : Entry) → slice_get es i ≡ Some e → passed v rule (take (i + 1) es) rs ≡ pass v rule (passed v rule (take i es) rs) e
  passed_more es rs i e h = let s : i + 1 ≡ suc i = omega arith in ap (λ (n : ℕ). passed v rule (take n es) rs) s ∙ more es rs i e h

  untouched : (es : List Entry) (rs : List Record) (k : ℕ) → ((i : ℕ) (e : Entry) → slice_get es i ≡ Some e → e.slot ≢ k) → slice_get (passed v rule es rs) k ≡ slice_get rs k
  untouched [] rs k none = refl
  untouched (e ∷ es) rs k none = untouched es (pass v rule rs e) k (λ i f at. none (suc i) f at) ∙ other_set rs e.slot k (entry_row v rule e) (none zero e refl)

  set_own : (rs : List Record) (e : Entry) (k : ℕ) (y : Record) → k < length rs → e.slot ≡ k → entry_row v rule e ≡ y → slice_get (pass v rule rs e) k ≡ Some y
  set_own rs e k y inside own is = grind (arith, get-set_same)

  stays : (es : List Entry) (rs : List Record) (k : ℕ) (y : Record) → slice_get rs k ≡ Some y → ((i : ℕ) (e : Entry) → slice_get es i ≡ Some e → e.slot ≡ k → entry_row v rule e ≡ y)
      → slice_get (passed v rule es rs) k ≡ Some y
  stays [] rs k y at same = at
  stays (e ∷ es) rs k y at same = stays es (pass v rule rs e) k y
      (elim (cases_eq e.slot k) [
        | inl own ↦ set_own rs e k y (slice_get_within rs k y at) own (same zero e refl own)
        | inr other ↦ other_set rs e.slot k (entry_row v rule e) other ∙ at
      ])
      (λ i f. same (suc i) f)

  reached : (es : List Entry) (rs : List Record) (k : ℕ) (y : Record) (i : ℕ) (e : Entry) → slice_get es i ≡ Some e → e.slot ≡ k → k < length rs
      → ((j : ℕ) (f : Entry) → slice_get es j ≡ Some f → f.slot ≡ k → entry_row v rule f ≡ y) → slice_get (passed v rule es rs) k ≡ Some y
  reached [] rs k y i e at own inside same = absurd (none-some e at)
  reached (x ∷ es) rs k y zero e at own inside same =
      let is : x.slot ≡ k = ap (λ (z : Entry). z.slot) (same_Some x e at) ∙ own in
      stays es (pass v rule rs x) k y (set_own rs x k y inside is (same zero x refl is)) (λ j f. same (suc j) f)
  reached (x ∷ es) rs k y (suc i) e at own inside same =
      let long = length-set rs x.slot (entry_row v rule x) in
      reached es (pass v rule rs x) k y i e at own (omega arith) (λ j f. same (suc j) f)

-- ## the entries of a volume's map

module _ (v : ℕ) (rule : Copied → Option Copied) (entries : List Entry) (records : List Record) (index : IsIndex entries (map (copied_for v) records)) where
  pub entry_is : (i : ℕ) (e d : Entry) → slice_get entries i ≡ Some e → get_or entries i d ≡ e
  entry_is i e d at = get_or_from_slice_get entries i e d at

  pub noted_at : (i : ℕ) (e : Entry) → slice_get entries i ≡ Some e → copied_at (map (copied_for v) records) e.slot ≡ Some (copy_of e.set e.block)
  noted_at i e at = subst (λ (x : Entry). copied_at (map (copied_for v) records) x.slot ≡ Some (copy_of x.set x.block)) (entry_is i e e at) (index.each i e (slice_get_within entries i e at)).row

  pub record_at : (i : ℕ) (e : Entry) → slice_get entries i ≡ Some e → slice_get records e.slot ≡ Some (record_of v e.set e.block)
  record_at i e at = (record_of_row v records e.slot (copy_of e.set e.block) (noted_at i e at)).1

  pub apart : (i j : ℕ) (e f : Entry) → slice_get entries i ≡ Some e → slice_get entries j ≡ Some f → i < j → e.set ≡ f.set → e.block ≡ f.block → ⊥
  apart i j e f a b low sets blocks =
      let up : place (get_or entries i e) < place (get_or entries j e) = index.in_order i j e low (slice_get_within entries j f b) in
      let first : place (get_or entries i e) ≡ place e = ap place (entry_is i e e a) in
      let second : place (get_or entries j e) ≡ place f = ap place (entry_is j f e b) in grind (arith, common_steps)

  differ : (i j : ℕ) (e f : Entry) → slice_get entries i ≡ Some e → slice_get entries j ≡ Some f → i < j → e.slot ≢ f.slot
  differ i j e f a b low same =
      grind (arith, common_steps, same_Some (copy_of e.set e.block) (copy_of f.set f.block), noted_at i e a, noted_at j f b, apart i j e f a b low)

  -- until it is passed, its record stands
  pub still_there : (i : ℕ) (e : Entry) → slice_get entries i ≡ Some e → slice_get (passed v rule (take i entries) records) e.slot ≡ Some (record_of v e.set e.block)
  still_there i e at = grind (arith, untouched, taken_at, differ, record_at)

  -- an entry that is passed as it is
  pub passed_kept : (i : ℕ) (e : Entry) → slice_get entries i ≡ Some e → rule (copy_of e.set e.block) ≡ Some (copy_of e.set e.block)
      → passed v rule (take (i + 1) entries) records ≡ passed v rule (take i entries) records
  passed_kept i e at keeps =
      passed_more v rule entries records i e at
      ∙ set-same (passed v rule (take i entries) records) e.slot (entry_row v rule e)
      (still_there i e at ∙ ap (λ (o : Option Copied). Some (record_for v o)) (sym keeps))

  row_by : (k : ℕ) (r y : Record) → slice_get records k ≡ Some r → y ≡ followed_row v (option_and_then rule (copied_for v r)) r → slice_get (passed v rule entries records) k ≡ Some y
  row_by k r y at is = by_test (nat_lt 0 r.set && (r.volume == v)) refl where
    by_test : (t : Bool) → (nat_lt 0 r.set && (r.volume == v)) ≡ t → slice_get (passed v rule entries records) k ≡ Some y
    by_test false e =
        untouched v rule entries records k
        (λ i f there own. none-some (copy_of f.set f.block) (sym (copied_for-none v r e) ∙ sym (row_at v records k r at) ∙ ap (copied_at (map (copied_for v) records)) (sym own) ∙ noted_at i f there))
        ∙ at ∙ ap (λ (x : Record). Some x) (sym (is ∙ follows-other v (option_and_then rule (copied_for v r)) r e))
    by_test true e =
        let both = both_from r.set v r.volume e in
        let row : copied_at (map (copied_for v) records) k ≡ Some (copy_of r.set r.block) = row_at v records k r at ∙ copied_for-is v r both.0 both.1 in
        let there = index.all k (copy_of r.set r.block) row in
        let entry : Entry = record { block = r.block; set = r.set; slot = k } in
        let value : y ≡ record_for v (rule (copy_of r.set r.block)) =
        is ∙ follows-of v (option_and_then rule (copied_for v r)) r both.0 both.1 ∙ ap (λ o. record_for v (option_and_then rule o)) (copied_for-is v r both.0 both.1) in
        reached v rule entries records k y there.0 entry (slice_get_read entries (length entries) there.0 entry refl there.1 (sym there.2)) refl (slice_get_within records k r at)
        (λ j f h own.
        let same = same_Some (copy_of f.set f.block) (copy_of r.set r.block) (sym (noted_at j f h) ∙ ap (copied_at (map (copied_for v) records)) own ∙ row) in
        ap (λ (c : Copied). record_for v (rule c)) same ∙ sym value)

  -- once all are passed, the records follow the rule
  pub passed_all : passed v rule entries records ≡ followed v (renewed rule (map (copied_for v) records)) records
  passed_all =
      let long_rows : length (renewed rule (map (copied_for v) records)) ≡ length records = length-map (map (copied_for v) records) (option_and_then rule) ∙ length-map records (copied_for v) in
      let after = length-followed v (renewed rule (map (copied_for v) records)) records in
      same_lists (passed v rule entries records) (followed v (renewed rule (map (copied_for v) records)) records)
      (length-passed v rule entries records ∙ sym after)
      (λ k y h.
      let inside = slice_get_within (followed v (renewed rule (map (copied_for v) records)) records) k y h in
      let at = get_inside records k (omega arith) in
      let row : copied_at (renewed rule (map (copied_for v) records)) k ≡ option_and_then rule (copied_for v at.0) =
      copied_at-renewed rule (map (copied_for v) records) k ∙ ap (option_and_then rule) (row_at v records k at.0 at.1) in
      row_by k at.0 y at.1
      (same_Some y (followed_row v (copied_at (renewed rule (map (copied_for v) records)) k) at.0) (sym h ∙ followed_at v (renewed rule (map (copied_for v) records)) records k at.0 long_rows at.1)
      ∙ ap (λ (o : Option Copied). followed_row v o at.0) row))

  pub passed_whole : (n : ℕ) → length entries ≤ n → passed v rule (take n entries) records ≡ followed v (renewed rule (map (copied_for v) records)) records
  passed_whole n whole = ap (λ (es : List Entry). passed v rule es records) (take_all n entries whole) ∙ passed_all

-- ## the area

-- the entry at a place
pub entry_at : (entries : List Entry) (i : ℕ) (d : Entry) → i < length entries → slice_get entries i ≡ Some (get_or entries i d)
entry_at entries i d inside = search (rules, slice_get_read, get_or_default)

-- the record of an entry was set
pub step_set : {D : Type 0} (first old new : AreaValue D) (v : ℕ) (rule : Copied → Option Copied) (entries : List Entry) (i : ℕ) (e : Entry) (row : Record) → slice_get entries i ≡ Some e
    → old ≡ with_records (passed v rule (take i entries) first.records) first
    → new ≡ with_records (slice_set old.records e.slot row) old → entry_row v rule e ≡ row → new ≡ with_records (passed v rule (take (i + 1) entries) first.records) first
step_set first old new v rule entries i e row at was new_is row_is = grind (arith, passed_more)

-- the record of an entry stayed
pub step_kept : {D : Type 0} (first old : AreaValue D) (v : ℕ) (rule : Copied → Option Copied) (entries : List Entry) (i : ℕ) (e : Entry) → IsIndex entries (map (copied_for v) first.records)
    → slice_get entries i ≡ Some e → old ≡ with_records (passed v rule (take i entries) first.records) first
    → rule (copy_of e.set e.block) ≡ Some (copy_of e.set e.block) → old ≡ with_records (passed v rule (take (i + 1) entries) first.records) first
step_kept first old v rule entries i e index at was keeps = grind (arith, passed_kept)

pub slot_within : {D : Type 0} (first old : AreaValue D) (v : ℕ) (rule : Copied → Option Copied) (entries : List Entry) (i : ℕ) (e : Entry) → IsIndex entries (map (copied_for v) first.records)
    → slice_get entries i ≡ Some e → old ≡ with_records (passed v rule (take i entries) first.records) first
    → e.slot < length old.records
slot_within first old v rule entries i e index at was =
    let inside = slice_get_within first.records e.slot (record_of v e.set e.block) (record_at v rule entries first.records index i e at) in
    grind (arith, common_steps, length-passed, slice_get_within, record_at)

-- all entries were passed
pub passes_end : {D : Type 0} (first old : AreaValue D) (v : ℕ) (rule : Copied → Option Copied) (entries : List Entry) (n : ℕ) → IsIndex entries (map (copied_for v) first.records)
    → old ≡ with_records (passed v rule (take n entries) first.records) first → length entries ≤ n
    → old ≡ with_records (followed v (renewed rule (map (copied_for v) first.records)) first.records) first
passes_end first old v rule entries n index was whole = was ∙ ap (λ rs. with_records rs first) (passed_whole v rule entries first.records index n whole)

-- ## How many records of a volume are of a kind, counted by the entries of its map.

abbrev none : Copied → Option Copied
none c = None

abbrev of_test : Bool → ℕ
of_test t = if t then 1 else 0

count_cons : {X : Type 0} (p : X → Bool) (x : X) (xs : List X) → count_by p (x ∷ xs) ≡ of_test (p x) + count_by p xs
count_cons p x xs = sum_by-cons (λ y. if p y then 1 else 0) x xs

-- one record that is counted becomes one that is not
count_set : (p : Record → Bool) (xs : List Record) (k : ℕ) (x y : Record) → slice_get xs k ≡ Some x → p y ≡ false → count_by p (slice_set xs k y) + of_test (p x) ≡ count_by p xs
count_set p [] k x y h out = absurd (none-some x h)
count_set p (z ∷ xs) zero x y h out = grind (arith, common_steps, count_cons, same_Some)
count_set p (z ∷ xs) (suc k) x y h out = grind (arith, common_steps, count_cons, count_set p xs k x y h out)

count_none : (p : Record → Bool) (v : ℕ) (records : List Record) → ((r : Record) → p r ≡ true → (nat_lt 0 r.set && (r.volume == v)) ≡ true) → p free ≡ false
    → count_by p (followed v (map (option_and_then none) (map (copied_for v) records)) records) ≡ 0
count_none p v [] on out = refl
count_none p v (r ∷ records) on out = grind (arith, common_steps, count_cons, both_from, follows-of, follows-other, count_none p v records on out)

module _ (p : Record → Bool) (v : ℕ) (entries : List Entry) (records : List Record) (index : IsIndex entries (map (copied_for v) records))
    (on : (r : Record) → p r ≡ true → (nat_lt 0 r.set && (r.volume == v)) ≡ true) (out : p free ≡ false) where
  -- whether the record of an entry is counted
  abbrev counts : Entry → Bool
  counts e = p (record_of v e.set e.block)

  taken_more : (i : ℕ) (e : Entry) → slice_get entries i ≡ Some e → i < length entries → count_by counts (take (i + 1) entries) ≡ count_by counts (take i entries) + of_test (counts e)
  taken_more i e at inside = by_test (counts e) refl where
    is : get_or entries i e ≡ e
    is = entry_is v none entries records index i e e at

    by_test : (t : Bool) → counts e ≡ t → count_by counts (take (i + 1) entries) ≡ count_by counts (take i entries) + of_test t
    by_test true h = count_by_more_yes counts entries i e inside (ap counts is ∙ h)
    by_test false h = let same = count_by_more_no counts entries i e inside (ap counts is ∙ h) in omega arith

  passed_count : (i : ℕ) → i ≤ length entries → count_by p (passed v none (take i entries) records) + count_by counts (take i entries) ≡ count_by p records
  passed_count zero le = omega arith
  passed_count (suc i) le =
      let d : Entry = record { block = 0; set = 0; slot = 0 } in
      let e : Entry = get_or entries i d in
      let at = entry_at entries i d (omega arith) in
      let before = passed_count i (omega arith) in
      let s : i + 1 ≡ suc i = omega arith in
      let step : count_by p (passed v none (take (suc i) entries) records) ≡ count_by p (slice_set (passed v none (take i entries) records) e.slot free) =
      ap (λ (n : ℕ). count_by p (passed v none (take n entries) records)) (sym s) ∙ ap (count_by p) (passed_more v none entries records i e at) in
      let set = count_set p (passed v none (take i entries) records) e.slot (record_of v e.set e.block) free (still_there v none entries records index i e at) out in
      let more = taken_more i e at (omega arith) in
      let taken : count_by counts (take (suc i) entries) ≡ count_by counts (take (i + 1) entries) = ap (λ (n : ℕ). count_by counts (take n entries)) (sym s) in
      omega arith

  pub entries_count : count_by counts entries ≡ count_by p records
  entries_count =
      let whole = take_all (length entries) entries (omega arith) in
      let all = passed_count (length entries) (omega arith) in
      let left : count_by p (passed v none (take (length entries) entries) records) ≡ 0 = ap (λ (es : List Entry). count_by p (passed v none es records)) whole
      ∙ ap (count_by p) (passed_all v none entries records index) ∙ count_none p v records on out in
      let taken : count_by counts (take (length entries) entries) ≡ count_by counts entries = ap (count_by counts) whole in
      omega arith

-- The table that is written says what it should.
use Rattle.std.proofs.Common.{ℕ, zero, suc, ◌≡◌, ◌≢◌, ◌<◌, ◌≤◌, ◌+◌, ◌-◌, ◌*◌, ◌/◌, ◌%◌, ◌⊎◌, inl, inr, Bool, true, false, not, ◌==◌, nat_lt, List, [], ◌∷◌, ◌++◌, length, take, drop, map, replicate, Some, slice_get, slice_index_or, refl, sym, ap, subst, ◌∙◌, arith}
use Rattle.std.specs.List.{concat, flat_map, list_any, range_with_len}
use Rattle.std.proofs.lemmas.Bool.Decides.{nat_tests}
use Rattle.std.proofs.lemmas.List.{append_assoc, append-nil, length-append, length-take, length-drop, length-replicate, drop-append-le, take-append-le, drop_at, drop-drop, take_at, take-replicate, drop-replicate, get_or-take, get_or-drop, get_or_default, same_lists}
use Rattle.std.proofs.lemmas.List.Folds.{list_any_none}
use Rattle.std.proofs.lemmas.List.Sums.{count_by-le-length}
use Rattle.std.proofs.lemmas.Grind.{common_steps}
use Rattle.std.proofs.lemmas.Bool.{and_from, or_right, false_from_ne_true}
use Rattle.std.proofs.Common.{rules}
use Rattle.std.proofs.lemmas.Option.{slice_get_within}
use Rattle.block_data.specs.BlockBytes.{run_of}
use Rattle.block_data.specs.declared.block_buf.TheConstants.{BLOCK}
use Rattle.diff_area.specs.Format.{part, number_at, row_at, row_of, rows_in, has_zeros, is_used, is_same, is_sound, is_good, good_at, row_count, pages_for}
use Rattle.diff_area.specs.Format.{free, is_free, IsUsed, IsNarrow, AreRecords, used_in}
use Rattle.diff_area.specs.AreaValue.{number_bytes, record_bytes, padded, records_of_page, page_bytes}
use Rattle.diff_area.specs.declared.table_record.Record.{Record}
use Rattle.diff_area.proofs.HeaderBytes.{length-number_bytes, number-back}
use Rattle.diff_area.proofs.GoodRecords.{length-rows_in, free_is, get_or-rows_in}

-- ## one record

length-record_bytes : (r : Record) → length (record_bytes r) ≡ 16
unfolding record_bytes
length-record_bytes r = grind (arith, length-number_bytes, length-append)

quarters : (a b c d : List ℕ) → a ++ b ++ c ++ d ≡ a ++ (b ++ (c ++ (d ++ [])))
quarters a b c d = simp (append_assoc, append-nil)

record_parts : (r : Record) → record_bytes r ≡ number_bytes r.set ++ (number_bytes r.block ++ (number_bytes r.volume ++ (number_bytes 0 ++ [])))
unfolding record_bytes
record_parts r = quarters (number_bytes r.set) (number_bytes r.block) (number_bytes r.volume) (number_bytes 0)

at_first : (r : Record) → r.set < 4294967296 → number_at (record_bytes r) 0 ≡ r.set
at_first r h = number-back [] (number_bytes r.block ++ (number_bytes r.volume ++ (number_bytes 0 ++ []))) (record_bytes r) 0 r.set (record_parts r) refl h

at_second : (r : Record) → r.block < 4294967296 → number_at (record_bytes r) 4 ≡ r.block
at_second r h = grind (arith, number-back, record_parts, length-number_bytes)

at_third : (r : Record) → r.volume < 4294967296 → number_at (record_bytes r) 8 ≡ r.volume
at_third r h =
    let a = length-number_bytes r.set in
    let b = length-number_bytes r.block in
    let l = length-append (number_bytes r.set) (number_bytes r.block) in
    grind (arith, common_steps, number-back, record_parts, append_assoc)

at_fourth : (r : Record) → number_at (record_bytes r) 12 ≡ 0
at_fourth r =
    let a = length-number_bytes r.set in
    let b = length-number_bytes r.block in
    let c = length-number_bytes r.volume in
    let l = length-append (number_bytes r.set) (number_bytes r.block) in
    let m = length-append (number_bytes r.set ++ number_bytes r.block) (number_bytes r.volume) in
    grind (arith, common_steps, number-back, record_parts, append_assoc)

says_record : (r : Record) → IsNarrow r → row_of 2 (record_bytes r) ≡ r
says_record r h = grind (arith, at_first, at_second, at_third)

says_zeros : (r : Record) → has_zeros 2 (record_bytes r) ≡ true
says_zeros r = ap (λ x. x == 0) (at_fourth r)

-- ## one page

free_bytes : record_bytes free ≡ replicate 16 0
unfolding record_bytes number_bytes
free_bytes = refl

in_zeros : (at n : ℕ) → at + 16 ≤ n → part at 16 (run_of n 0) ≡ record_bytes free
unfolding part run_of
in_zeros at n h = ap (take 16) (drop-replicate at n 0) ∙ take-replicate 16 (n - at) 0 (omega arith) ∙ sym free_bytes

first_part : (x rest : List ℕ) → length x ≡ 16 → part 0 16 (x ++ rest) ≡ x
unfolding part
first_part x rest h = take_at x rest 16 h

later_part : (x rest : List ℕ) (at : ℕ) → length x ≡ 16 → part (at + 16) 16 (x ++ rest) ≡ part at 16 rest
unfolding part
later_part x rest at h =
    let e : at + 16 ≡ 16 + at = omega arith in
    ap (take 16) (ap (λ k. drop k (x ++ rest)) e ∙ sym (drop-drop at 16 (x ++ rest)) ∙ ap (drop at) (drop_at x rest 16 h))

row_in_run : (rs : List Record) (j n : ℕ) → 16 * j + 16 ≤ 16 * length rs + n → part (16 * j) 16 (flat_map record_bytes rs ++ run_of n 0) ≡ record_bytes (slice_index_or rs j free)
row_in_run [] j n h = in_zeros (16 * j) n (omega arith)
row_in_run (r ∷ rs) zero n h = grind (arith, common_steps, append_assoc, first_part, length-record_bytes)
row_in_run (r ∷ rs) (suc j) n h =
    let e : 16 * suc j ≡ 16 * j + 16 = omega arith in
    grind (arith, common_steps, append_assoc, length-record_bytes, later_part, row_in_run rs j n (omega arith))

length-rows : (rs : List Record) → length (flat_map record_bytes rs) ≡ 16 * length rs
length-rows [] = refl
length-rows (r ∷ rs) = grind (arith, common_steps, length-append, length-record_bytes, length-rows rs)

row_in_padded : (rs : List Record) (j : ℕ) → j < 1024 → length rs ≤ 1024 → part (16 * j) 16 (padded (flat_map record_bytes rs)) ≡ record_bytes (slice_index_or rs j free)
unfolding padded
row_in_padded rs j h few = grind (arith, length-rows, row_in_run)

few_in_page : (records : List Record) (k : ℕ) → length (records_of_page records k) ≤ 1024
unfolding records_of_page
few_in_page records k = let l = length-take 1024 (drop (1024 * k) records) in omega arith

in_page : (records : List Record) (k j : ℕ) → j < 1024 → slice_index_or (records_of_page records k) j free ≡ slice_index_or records (1024 * k + j) free
unfolding records_of_page
in_page records k j h = get_or-take 1024 (drop (1024 * k) records) j free h ∙ get_or-drop (1024 * k) records j free

row_of_page : (records : List Record) (k j : ℕ) → j < 1024 → part (16 * j) 16 (page_bytes records k) ≡ record_bytes (slice_index_or records (1024 * k + j) free)
unfolding page_bytes
row_of_page records k j h = grind (arith, row_in_padded, few_in_page, in_page)

length-run : (n : ℕ) → length (run_of n 0) ≡ n
unfolding run_of
length-run n = length-replicate n 0

pub length-padded : (bytes : List ℕ) → length bytes ≤ BLOCK → length (padded bytes) ≡ BLOCK
unfolding padded
length-padded bytes h = grind (arith, length-append, length-run)

pub length-page : (records : List Record) (k : ℕ) → length (page_bytes records k) ≡ BLOCK
unfolding page_bytes
length-page records k = grind (arith, length-rows, few_in_page, length-padded)

-- ## the pages, one after another

part_of_front : (x rest : List ℕ) (at len : ℕ) → at + len ≤ length x → part at len (x ++ rest) ≡ part at len x
unfolding part
part_of_front x rest at len h = grind (arith, length-drop, drop-append-le, take-append-le)

part_past : (x rest : List ℕ) (at len n : ℕ) → length x ≡ n → part (at + n) len (x ++ rest) ≡ part at len rest
unfolding part
part_past x rest at len n h = grind (arith, common_steps, drop_at x rest n h)

-- a part of one of the pages
part_of_pages : (n : ℕ) (f : ℕ → List ℕ) (a p k at len : ℕ) → ((i : ℕ) → length (f i) ≡ n) → k < p → at + len ≤ n → part (n * k + at) len (concat (map f (range_with_len a p))) ≡ part at len (f (a + k))
part_of_pages n f a zero k at len h b c = absurd (omega arith)
part_of_pages n f a (suc p) zero at len h b c = grind (arith, common_steps, part_of_front)
part_of_pages n f a (suc p) (suc k) at len h b c =
    grind (arith, common_steps, part_of_pages n f (a + 1) p k, part_past (f a) (concat (map f (range_with_len (a + 1) p))) (n * k + at) len n (h a))

-- the record of a slot
pub row_written : (records : List Record) (slot : ℕ) → slot < row_count (length records) → row_at (concat (map (page_bytes records) (range_with_len 0 (pages_for (length records))))) slot ≡ record_bytes (slice_index_or records slot free)
unfolding row_at
row_written records slot h =
    let k = slot / 1024 in
    let j = slot % 1024 in
    let fact = part_of_pages BLOCK (page_bytes records) 0 (pages_for (length records)) k (16 * j) 16 (length-page records) (omega arith) (omega arith) in
    grind (arith, common_steps, length-page records, row_of_page records (0 + k) j (omega arith))

-- ## all records

lower : (a b : ℕ) → a < b → nat_lt a b ≡ true
lower a b h = grind (arith, nat_tests)

false_is_not_true : false ≡ true → ⊥
false_is_not_true h = cc

-- the table that is written
abbrev pub table_bytes : List Record → List ℕ
table_bytes records = concat (map (page_bytes records) (range_with_len 0 (pages_for (length records))))

row_or_free : (records : List Record) (slot : ℕ) → (slice_get records slot ≡ Some (slice_index_or records slot free)) ⊎ (slice_index_or records slot free ≡ free)
row_or_free [] slot = inr refl
row_or_free (r ∷ rs) zero = inl refl
row_or_free (r ∷ rs) (suc slot) = row_or_free rs slot

narrow_at : (volumes : List ℕ) (records : List Record) (slot : ℕ) → AreRecords volumes records → IsNarrow (slice_index_or records slot free)
narrow_at volumes records slot h = grind (arith, common_steps, row_or_free records slot)

says_row : (volumes : List ℕ) (records : List Record) (slot : ℕ) → AreRecords volumes records → slot < row_count (length records) → row_of 2 (row_at (table_bytes records) slot) ≡ slice_index_or records slot free
says_row volumes records slot h b = search (rules, row_written, says_record, narrow_at)

-- the records that are read of it are those that were written
pub says_records : (volumes : List ℕ) (records : List Record) → AreRecords volumes records → rows_in 2 (table_bytes records) (length records) ≡ records
says_records volumes records h =
    let long = length-rows_in 2 (table_bytes records) (length records) in
    let fact = same_lists (rows_in 2 (table_bytes records) (length records)) records long in
    grind (arith, common_steps, get_or-rows_in 2 (table_bytes records) (length records), says_row volumes records, get_or_default records)

is_used_by : (volumes : List ℕ) (r : Record) → IsUsed volumes r → is_used volumes r ≡ true
is_used_by volumes r h = grind arith

sound_free : (volumes : List ℕ) (slots slot : ℕ) (row : List ℕ) → has_zeros 2 row ≡ true → row_of 2 row ≡ free → is_sound volumes slots 2 slot row ≡ true
unfolding is_sound
sound_free volumes slots slot row z f = grind arith

sound_used : (volumes : List ℕ) (slots slot : ℕ) (row : List ℕ) → has_zeros 2 row ≡ true → IsUsed volumes (row_of 2 row) → slot < slots → is_sound volumes slots 2 slot row ≡ true
unfolding is_sound
sound_used volumes slots slot row z u b = grind (arith, and_from, or_right, is_used_by, lower)

good_free : (volumes : List ℕ) (slots slot : ℕ) (row : List ℕ) (earlier : List Record) → is_sound volumes slots 2 slot row ≡ true → row_of 2 row ≡ free → is_good volumes slots 2 slot row earlier ≡ true
unfolding is_good
good_free volumes slots slot row earlier s f = grind arith

good_used : (volumes : List ℕ) (slots slot : ℕ) (row : List ℕ) (earlier : List Record) → is_sound volumes slots 2 slot row ≡ true → list_any (is_same (row_of 2 row)) earlier ≡ false → is_good volumes slots 2 slot row earlier ≡ true
unfolding is_good
good_used volumes slots slot row earlier s f = grind arith

same_is : (r other : Record) → is_same r other ≡ true → r ≡ other
same_is r other h = grind arith

-- no earlier record is the one of this slot
none_before : (volumes : List ℕ) (records : List Record) (slot : ℕ) (r : Record) → AreRecords volumes records → slot < row_count (length records) → slice_get records slot ≡ Some r → r ≢ free → list_any (is_same r) (rows_in 2 (table_bytes records) slot) ≡ false
none_before volumes records slot r h b g n =
    let table = table_bytes records in
    let long = length-rows_in 2 table slot in
    list_any_none (is_same r) (rows_in 2 table slot) (λ k d w. false_from_ne_true (is_same r (slice_index_or (rows_in 2 table slot) k d)) (λ e.
    let is = get_or-rows_in 2 table slot k d (omega arith) ∙ says_row volumes records k h (omega arith) in
    let found = same_is r (slice_index_or (rows_in 2 table slot) k d) e ∙ is in
    elim (row_or_free records k) [
      | inl p ↦ let q = h.once slot k r g (p ∙ ap Some (sym found)) n in omega arith
      | inr p ↦ n (found ∙ p)
    ]))

one_good : (volumes : List ℕ) (records : List Record) (slot : ℕ) (r : Record) (free_test : Bool) → AreRecords volumes records → slot < row_count (length records) → has_zeros 2 (row_at (table_bytes records) slot) ≡ true → row_of 2 (row_at (table_bytes records) slot) ≡ r → (slice_get records slot ≡ Some r) ⊎ (r ≡ free) → is_free r ≡ free_test → good_at volumes (length records) 2 (table_bytes records) slot ≡ true
one_good volumes records slot r true h b z is s t = grind (arith, common_steps, free_is, good_free, sound_free)
one_good volumes records slot r false h b z is (inl g) t =
    let table = table_bytes records in
    let row = row_at table slot in
    let n : r ≢ free = λ e. false_is_not_true (sym t ∙ ap is_free e) in
    let bound = slice_get_within records slot r g in
    let used = subst (IsUsed volumes) (sym is) (h.each slot r g n) in
    let P : Record → Type 0 = λ x. list_any (is_same x) (rows_in 2 table slot) ≡ false in
    good_used volumes (length records) slot row (rows_in 2 table slot) (sound_used volumes (length records) slot row z used bound) (subst P (sym is) (none_before volumes records slot r h b g n))
one_good volumes records slot r false h b z is (inr e) t = absurd (false_is_not_true (sym t ∙ ap is_free e))

-- each record that is written is good
pub all_good : (volumes : List ℕ) (records : List Record) (slot : ℕ) → AreRecords volumes records → slot < row_count (length records) → good_at volumes (length records) 2 (table_bytes records) slot ≡ true
all_good volumes records slot h b =
    let r = slice_index_or records slot free in
    let z = ap (has_zeros 2) (row_written records slot b) ∙ says_zeros r in
    one_good volumes records slot r (is_free r) h b z (says_row volumes records slot h b) (row_or_free records slot) refl

-- not more are used than there are
pub used_few : (records : List Record) → length records ≤ 65536 → used_in records ≤ 65536
used_few records h = let e = count_by-le-length (λ r. not (is_free r)) records in omega arith

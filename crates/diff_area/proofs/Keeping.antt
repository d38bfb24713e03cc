-- What the calls on an area leave of what its fields keep; a record that is set changes its own page alone.
use Rattle.std.proofs.Common.{ℕ, ◌≡◌, ◌≢◌, ◌<◌, ◌≤◌, ◌+◌, ◌-◌, ◌*◌, ◌/◌, List, take, drop, slice_set, inl, inr, ap, arith, Bool, true, length, Option}
use Rattle.std.proofs.Common.{Some, Result, OnOk, OnErr, slice_get, option_map, Vec, vec_capacity, refl, sym, subst, ◌∙◌, lit<, rules}
use Rattle.std.proofs.lemmas.Bool.{cases_lt}
use Rattle.std.proofs.lemmas.List.{drop-set-lt, drop-set-add, take-set-le, length-set, length-take-le}
use Rattle.std.specs.List.{flat_map}
use Rattle.std.specs.declared.alloc.Global.{Global}
use Rattle.std.proofs.lemmas.Grind.{common_steps}
use Rattle.std.proofs.lemmas.Option.{slice_get_within}
use Rattle.block_data.specs.declared.block_buf.TheConstants.{BLOCK}
use Rattle.diff_area.specs.AreaValue.{KeepsArea, AreWritten, AreInPart, with_first, records_of_page, page_bytes, padded, record_bytes, table_blocks}
use Rattle.diff_area.specs.Format.{pages_for, place_of_slot, free, AreRecords, IsUsed, IsNarrow, AreNarrow}
use Rattle.diff_area.specs.declared.table_record.Record.{Record}
use Rattle.diff_area.proofs.ByPlace.{get-set, get-set_other, get-take, get-with_first-within, get-with_first-past, table-page, length-table}

-- ## A record that is set changes its own page alone.

before : (n m : ℕ) (rows : List Record) (slot : ℕ) (row : Record) → slot < m → take n (drop m (slice_set rows slot row)) ≡ take n (drop m rows)
before n m rows slot row h = ap (take n) (drop-set-lt m rows slot row h)

after : (n m : ℕ) (rows : List Record) (slot i : ℕ) (row : Record) → slot ≡ m + i → n ≤ i → take n (drop m (slice_set rows slot row)) ≡ take n (drop m rows)
after n m rows slot i row e h = grind (arith, drop-set-add, take-set-le)

other_records : (rows : List Record) (slot k : ℕ) (row : Record) → k ≢ slot / 1024 → records_of_page (slice_set rows slot row) k ≡ records_of_page rows k
unfolding records_of_page
other_records rows slot k row h =
    elim (cases_lt slot (1024 * k)) [
      | inl p ↦ before 1024 (1024 * k) rows slot row p
      | inr p ↦ after 1024 (1024 * k) rows slot (slot - 1024 * k) row (omega arith) (omega arith)
    ]

pub other_page : (rows : List Record) (slot k : ℕ) (row : Record) → k ≢ slot / 1024 → page_bytes (slice_set rows slot row) k ≡ page_bytes rows k
unfolding page_bytes
other_page rows slot k row h = ap (λ rs. padded (flat_map record_bytes rs)) (other_records rows slot k row h)

-- ## What the calls on an area leave of what its fields keep.

-- what some blocks were before a change
pub told-before : (told : Option (List (List ℕ))) (f : List (List ℕ) → List (List ℕ)) (blocks : List (List ℕ)) → option_map f told ≡ Some blocks → (before : List (List ℕ)) × (told ≡ Some before) × (blocks ≡ f before)
told-before told f blocks h = grind arith

-- ## the device changes

written-copied : (told now : Option (List (List ℕ))) (records : List Record) (changed : List Bool) (p : ℕ) (block : List ℕ) → AreWritten told records changed → length changed < p → now ≡ option_map (λ blocks. slice_set blocks p block) told → AreWritten now records changed
written-copied told now records changed p block h b e blocks k f g = grind (arith, told-before, slice_get_within, get-set_other)

written-same : (told now : Option (List (List ℕ))) (records : List Record) (changed : List Bool) → AreWritten told records changed → now ≡ told → AreWritten now records changed
written-same told now records changed h e blocks k f g = h blocks k (sym e ∙ f) g

written-by : {T E : Type 0} (r : Result T E) (told now : Option (List (List ℕ))) (records : List Record) (changed : List Bool) (p : ℕ) (block : List ℕ) → AreWritten told records changed → length changed < p → OnOk r (now ≡ option_map (λ blocks. slice_set blocks p block) told) → OnErr r (now ≡ told) → AreWritten now records changed
written-by r told now records changed p block h b e f = grind (arith, written-copied, written-same)

-- a block was written to a slot, or the write failed
pub keeps-copied : {D T E : Type 0} (told : D → Option (List (List ℕ))) (size : D → ℕ) (old new : D) (volumes : List ℕ) (records : List Record) (changed : List Bool) (page : Vec ℕ Global) (slot : ℕ) (block : List ℕ) (r : Result T E) → KeepsArea told size old volumes records changed page → OnOk r (told new ≡ option_map (λ blocks. slice_set blocks (place_of_slot (length records) slot) block) (told old)) → OnErr r (told new ≡ told old) → size new ≡ size old → KeepsArea told size new volumes records changed page
keeps-copied told size old new volumes records changed page slot block r h e f s =
    grind (arith, common_steps, written-by r (told old) (told new) records changed (place_of_slot (length records) slot) block h.written (omega arith) e f)

-- ## a record changes

record-set : (told : Option (List (List ℕ))) (records : List Record) (changed : List Bool) (slot : ℕ) (row : Record) → AreWritten told records changed → length changed ≡ pages_for (length records) → slot < length records → AreWritten told (slice_set records slot row) (slice_set changed (slot / 1024) true)
record-set told records changed slot row h pages b blocks k f g = grind (arith, get-set, other_page)

narrow-set : (records : List Record) (slot : ℕ) (row : Record) → AreNarrow records → IsNarrow row → AreNarrow (slice_set records slot row)
narrow-set records slot row h thin i r g = grind (arith, get-set)

pub records-set : (volumes : List ℕ) (records : List Record) (slot : ℕ) (row : Record) → AreRecords volumes records → IsUsed volumes row → ((other : ℕ) → slice_get records other ≡ Some row → other ≡ slot) → IsNarrow row → AreRecords volumes (slice_set records slot row)
records-set volumes records slot row h used once thin = record {
  narrow = narrow-set records slot row h.narrow thin;
  few = let e = length-set records slot row in let f = h.few in omega arith;
  each = λ i r g n. elim (get-set records slot i row r g) [
    | inl p ↦ let P : Record → Type 0 = λ x. IsUsed volumes x in subst P (sym p.1) used
    | inr p ↦ h.each i r p.1 n
  ];
  once = λ i j r g k n. elim (get-set records slot i row r g) [
    | inl p ↦ elim (get-set records slot j row r k) [
      | inl q ↦ p.0 ∙ sym q.0
      | inr q ↦ p.0 ∙ sym (once j (q.1 ∙ ap Some p.1))
    ]
    | inr p ↦ elim (get-set records slot j row r k) [
      | inl q ↦ once i (p.1 ∙ ap Some q.1) ∙ sym q.0
      | inr q ↦ h.once i j r p.1 q.1 n
    ]
  ];
}

pub records-cleared : (volumes : List ℕ) (records : List Record) (slot : ℕ) → AreRecords volumes records → AreRecords volumes (slice_set records slot free)
records-cleared volumes records slot h = record {
  narrow = narrow-set records slot free h.narrow (record { set = lit< tt; block = lit< tt; volume = lit< tt });
  few = let e = length-set records slot free in let f = h.few in omega arith;
  each = λ i r g n. elim (get-set records slot i free r g) [
    | inl p ↦ absurd (n p.1)
    | inr p ↦ h.each i r p.1 n
  ];
  once = λ i j r g k n. elim (get-set records slot i free r g) [
    | inl p ↦ absurd (n p.1)
    | inr p ↦ elim (get-set records slot j free r k) [
      | inl q ↦ absurd (n q.1)
      | inr q ↦ h.once i j r p.1 q.1 n
    ]
  ];
}

keeps-row : {D : Type 0} (told : D → Option (List (List ℕ))) (size : D → ℕ) (device : D) (volumes : List ℕ) (records : List Record) (changed : List Bool) (page : Vec ℕ Global) (slot : ℕ) (row : Record) → KeepsArea told size device volumes records changed page → slot < length records → AreRecords volumes (slice_set records slot row) → KeepsArea told size device volumes (slice_set records slot row) (slice_set changed (slot / 1024) true) page
keeps-row told size device volumes records changed page slot row h b valid = grind (arith, length-set, record-set)

pub keeps-set : {D : Type 0} (told : D → Option (List (List ℕ))) (size : D → ℕ) (device : D) (volumes : List ℕ) (records : List Record) (changed : List Bool) (page : Vec ℕ Global) (slot : ℕ) (row : Record) → KeepsArea told size device volumes records changed page → slot < length records → IsUsed volumes row → ((other : ℕ) → slice_get records other ≡ Some row → other ≡ slot) → IsNarrow row → KeepsArea told size device volumes (slice_set records slot row) (slice_set changed (slot / 1024) true) page
keeps-set told size device volumes records changed page slot row h b used once thin = search (rules, keeps-row, records-set)

pub keeps-cleared : {D : Type 0} (told : D → Option (List (List ℕ))) (size : D → ℕ) (device : D) (volumes : List ℕ) (records : List Record) (changed : List Bool) (page : Vec ℕ Global) (slot : ℕ) → KeepsArea told size device volumes records changed page → slot < length records → KeepsArea told size device volumes (slice_set records slot free) (slice_set changed (slot / 1024) true) page
keeps-cleared told size device volumes records changed page slot h b = search (rules, keeps-row, records-cleared)

-- ## the table is written

written-all : (told now : Option (List (List ℕ))) (volumes : List ℕ) (records : List Record) (changed : List Bool) → length changed ≡ pages_for (length records) → now ≡ option_map (with_first (table_blocks volumes records)) told → AreWritten now records changed
written-all told now volumes records changed pages e blocks k f g = grind (arith, told-before, slice_get_within, length-table, get-with_first-within, table-page)

-- the table was written
pub keeps-synced : {D : Type 0} (told : D → Option (List (List ℕ))) (size : D → ℕ) (old new : D) (volumes : List ℕ) (records : List Record) (changed now : List Bool) (page paged : Vec ℕ Global) → KeepsArea told size old volumes records changed page → told new ≡ option_map (with_first (table_blocks volumes records)) (told old) → size new ≡ size old → length now ≡ length changed → BLOCK ≤ vec_capacity paged → KeepsArea told size new volumes records now paged
keeps-synced told size old new volumes records changed now page paged h e s l room = grind (arith, written-all)

written-part : (told now : Option (List (List ℕ))) (volumes : List ℕ) (records : List Record) (changed : List Bool) → length changed ≡ pages_for (length records) → AreWritten told records changed → AreInPart (table_blocks volumes records) told now → AreWritten now records changed
written-part told now volumes records changed pages h part blocks k f g =
    let t = table_blocks volumes records in
    let first = take part.count t in
    let was = told-before told (with_first first) blocks (sym part.blocks ∙ f) in
    let len = length-table volumes records in
    let short = length-take-le part.count t part.within in
    ap (λ bs. slice_get bs (1 + k)) was.2 ∙ elim (cases_lt (1 + k) part.count) [
      | inl p ↦ get-with_first-within first was.0 (1 + k) (omega arith) ∙ get-take part.count t (1 + k) p ∙ table-page volumes records k (1 + k) (omega arith) refl
      | inr p ↦ get-with_first-past first was.0 (1 + k) (omega arith) ∙ h was.0 k was.1 g
    ]

-- the table was written in part
pub keeps-in_part : {D : Type 0} (told : D → Option (List (List ℕ))) (size : D → ℕ) (old new : D) (volumes : List ℕ) (records : List Record) (changed : List Bool) (page paged : Vec ℕ Global) → KeepsArea told size old volumes records changed page → AreInPart (table_blocks volumes records) (told old) (told new) → size new ≡ size old → BLOCK ≤ vec_capacity paged → KeepsArea told size new volumes records changed paged
keeps-in_part told size old new volumes records changed page paged h part s room = search (rules, written-part)

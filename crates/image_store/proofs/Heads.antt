-- Bytes that are read as a head are those of that head; a catalog of which an entry changes is one still; and which volume has a name.
use Rattle.std.proofs.Common.{◌≡◌, ℕ, suc, ◌+◌, ◌-◌, ◌<◌, ◌≤◌, List, [], ◌∷◌, ◌++◌, length, take, drop, arith, slice_index, Ok, Err, zero, slice_get, slice_set}
use Rattle.std.proofs.Common.{Some, subst, sym, true, false}
use Rattle.std.proofs.lemmas.List.{append_assoc, drop-drop, length-drop, take_all, length-append}
use Rattle.std.proofs.lemmas.List.Edits.{length-remove}
use Rattle.std.proofs.lemmas.Option.{same_Some}
use Rattle.std.proofs.lemmas.Slice.Eq.{bytes_eq-Decides}
use Rattle.std.specs.List.{remove}
use Rattle.std.specs.Prelude.{codes, OnErr, OnOk, Result}
use Rattle.std.specs.Str.{bytes_eq}
use Rattle.byteorder.specs.Endian.{little_number}
use Rattle.vss_names.specs.Names.{is_name, TextValue}
use Rattle.cow_volume.proofs.Group.{length-slice_set, slice_get_inside, same_number, other_number}
use Rattle.vss_catalog.specs.Entries.{AreBytes, AreEntries, IsCatalog, IsEntry, EntryValue}
use Rattle.vss_catalog.specs.Reading.{Tells, catalog_in}
use Rattle.vss_catalog.specs.Written.{number_bytes}
use Rattle.vss_catalog.specs.declared.catalog_fault.CatalogFault.{CatalogFault}
use Rattle.vss_catalog.specs.declared.catalog_fault.CatalogFault.TheVariants.{Short}
use Rattle.vss_catalog.proofs.Again.{catalog-again}
use Rattle.vss_catalog.proofs.Steps.{number-again, bytes-past, fails, not_below}
use Rattle.image_store.specs.Head.{head_bytes}
use Rattle.image_store.specs.StoreValue.{AreOthers, IsNamed}
use Rattle.image_store.specs.Opening.{IsHeadFault, of_catalog, said_length}
use Rattle.image_store.specs.declared.open_fault.OpenFault.{OpenFault}

-- ## Bytes that are read as a head are those of that head.

-- what a slice of bytes has are bytes
pub are_bytes : (bytes : List ℕ) → ((i : ℕ) → slice_index bytes i < 256) → AreBytes bytes
are_bytes [] each = tt
are_bytes (b ∷ rest) each = (each 0, are_bytes rest (λ i. each (suc i)))

-- four bytes are those of the number in them
number_there : (rest : List ℕ) → AreBytes rest → 4 ≤ length rest → rest ≡ number_bytes (little_number 4 rest) ++ drop 4 rest
number_there rest are long = (number-again 0 (little_number 4 rest) rest are (fails _ (Err (Short 0)) (Ok (little_number 4 rest)) (not_below (length rest) 4 long))).bytes

pub head_again : (bytes : List ℕ) (last : ℕ) (entries : List EntryValue) → AreBytes bytes → bytes ≡ codes "VSSIMG01" ++ drop 8 bytes → last ≡ little_number 4 (drop 8 bytes)
    → length bytes ≡ 16 + little_number 4 (drop 12 bytes) → catalog_in (drop 16 bytes) ≡ Ok entries → head_bytes last entries ≡ bytes
unfolding head_bytes
head_again bytes last entries are letters last_is long catalog = grind (arith, length-drop, catalog-again, bytes-past, number_there, drop-drop, append_assoc)

-- what is behind the first n of a slice
pub rest_of : (n : ℕ) (bytes : List ℕ) → take (length bytes - n) (drop n bytes) ≡ drop n bytes
rest_of n bytes = let long = length-drop n bytes in take_all (length bytes - n) (drop n bytes) (omega arith)

-- ## why bytes are none

-- a catalog that is refused
pub catalog_fault : (bytes : List ℕ) (fault : CatalogFault) (it : OpenFault) → it ≡ of_catalog fault → length bytes ≡ said_length bytes → bytes ≡ codes "VSSIMG01" ++ drop 8 bytes
    → Tells fault (catalog_in (drop 16 bytes)) → IsHeadFault bytes it
catalog_fault bytes fault it is long letters tells = grind arith

-- ## A catalog of which one entry has other blocks, or to which one is added, or of which one is taken away, is one still.

entry_at : (es : List EntryValue) (v : ℕ) (e : EntryValue) → AreEntries es → slice_get es v ≡ Some e → IsEntry e
entry_at [] zero e are is = cc
entry_at [] (suc v) e are is = cc
entry_at (x ∷ es) zero e are is = let same : x ≡ e = cc in subst IsEntry same are.0
entry_at (x ∷ es) (suc v) e are is = entry_at es v e are.1 is

are_set : (es : List EntryValue) (v : ℕ) (e : EntryValue) → AreEntries es → IsEntry e → AreEntries (slice_set es v e)
are_set [] v e are is = tt
are_set (x ∷ es) zero e are is = (is, are.1)
are_set (x ∷ es) (suc v) e are is = (are.0, are_set es v e are.1 is)

are_added : (es : List EntryValue) (e : EntryValue) → AreEntries es → IsEntry e → AreEntries (es ++ e ∷ [])
are_added [] e are is = (is, tt)
are_added (x ∷ es) e are is = (are.0, are_added es e are.1 is)

are_left : (es : List EntryValue) (v : ℕ) → AreEntries es → AreEntries (remove es v)
are_left [] zero are = tt
are_left [] (suc v) are = tt
are_left (x ∷ es) zero are = are.1
are_left (x ∷ es) (suc v) are = (are.0, are_left es v are.1)

pub resized : (es new : List EntryValue) (v blocks : ℕ) → v < length es → ((e : EntryValue) → slice_get es v ≡ Some e → new ≡ slice_set es v (record e { blocks = blocks }))
    → 0 < blocks → blocks ≤ 65536 → IsCatalog es → IsCatalog new
resized es new v blocks within is some few are =
    let at = slice_get_inside es v within in
    let was = entry_at es v at.0 are.each at.1 in
    let entry : IsEntry (record at.0 { blocks = blocks }) = record { named = was.named; some = some; most = few; few = was.few; rise = was.rise } in
    let long = length-slice_set es v (record at.0 { blocks = blocks }) in
    subst IsCatalog (sym (is at.0 at.1)) (record { some = grind (arith, are.some); few = grind (arith, are.few); each = are_set es v (record at.0 { blocks = blocks }) are.each entry })

added : (es : List EntryValue) (name : List ℕ) (blocks : ℕ) → length es < 128 → is_name name ≡ true → 0 < blocks → blocks ≤ 65536
    → IsCatalog es → IsCatalog (es ++ record { name = name; blocks = blocks; images = [] } ∷ [])
added es name blocks room named some few are =
    let long = length-append es (record { name = name; blocks = blocks; images = [] } ∷ []) in
    let entry : IsEntry (record { name = name; blocks = blocks; images = [] }) = record { named = named; some = some; most = few; few = omega arith; rise = tt } in
    record { some = grind arith; few = grind arith; each = are_added es (record { name = name; blocks = blocks; images = [] }) are.each entry }

pub added_or : {A E : Type 0} (r : Result A E) (es new : List EntryValue) (name : List ℕ) (blocks : ℕ)
    → OnOk r (new ≡ es ++ record { name = name; blocks = blocks; images = [] } ∷ []) → OnErr r (new ≡ es)
    → length es < 128 → is_name name ≡ true → 0 < blocks → blocks ≤ 65536 → IsCatalog es → IsCatalog new
added_or (Ok done) es new name blocks is same room named some few are = subst IsCatalog (sym is) (added es name blocks room named some few are)
added_or (Err fault) es new name blocks is same room named some few are = subst IsCatalog (sym same) are

pub removed : (es : List EntryValue) (v : ℕ) → v < length es → 1 < length es → IsCatalog es → IsCatalog (remove es v)
removed es v within others are =
    let long = length-remove es v within in
    record { some = grind arith; few = grind (arith, are.few); each = are_left es v are.each }

-- ## Which volume of a store has a name.

pub named_here : (names : List TextValue) (name : List ℕ) (v : ℕ) (text : TextValue) → slice_get names v ≡ Some text → bytes_eq text.bytes name ≡ true → AreOthers names name v → IsNamed names name v
named_here names name v text at is first = record { text = text; at = at; is = (bytes_eq-Decides text.bytes name).0 is; first = first }

pub others_more : (names : List TextValue) (name : List ℕ) (v : ℕ) (text : TextValue) → slice_get names v ≡ Some text → bytes_eq text.bytes name ≡ false → AreOthers names name v
    → AreOthers names name (v + 1)
others_more names name v text at is first u n low there = grind (arith, same_Some, same_number, bytes_eq-Decides, other_number)

-- What is written of a catalog is read back.
use Rattle.std.proofs.Common.{ℕ, zero, suc, ◌≡◌, ◌<◌, ◌≤◌, ◌+◌, ◌-◌, ◌*◌, true, nat_eq, List, [], ◌∷◌, ◌++◌, length, drop, codes, slice_get, Ok, refl, ap, ◌∙◌, arith}
use Rattle.std.specs.List.{flat_map}
use Rattle.std.specs.Str.{bytes_eq}
use Rattle.std.proofs.lemmas.Bool.Decides.{nat_tests}
use Rattle.std.proofs.lemmas.List.{append_assoc, length-append, drop_at, take_at, drop-drop}
use Rattle.std.proofs.lemmas.Bool.{and_from, cond-true}
use Rattle.std.proofs.Common.{rules}
use Rattle.std.proofs.lemmas.Grind.{common_steps}
use Rattle.sha2.proofs.Facts256.{length-sha256}
use Rattle.block_data.specs.BlockBytes.{sha256}
use Rattle.vss_catalog.specs.Entries.{AreRising, IsEntry, AreEntries, IsCatalog, EntryValue, are_names, bytes_in}
use Rattle.vss_names.specs.Names.{TextValue, is_name}
use Rattle.vss_catalog.specs.Reading.{name_of_length, name_in, blocks_in, count_in, set_in, sets_in, entry_in, entries_in, letters_in, volumes_in, body_in, front_of, is_sealed, catalog_in}
use Rattle.vss_catalog.specs.Written.{number_bytes, entry_bytes, size_of, body_of, bytes_of}
use Rattle.vss_catalog.proofs.Steps.{length-number_bytes, number-back, past-number, then, fails, at_most, is_at_most, below, not_below}
use Rattle.diff_area.proofs.GoodRecords.{and_left, and_right}

-- ## names

pub name-bounds : (name : List ℕ) → is_name name ≡ true → (1 ≤ length name) × (length name ≤ 32)
unfolding is_name
name-bounds name h = grind (arith, and_left, is_at_most, and_right)

name_of-back : (v at : ℕ) (name rest : List ℕ) → is_name name ≡ true → name_of_length v at (name ++ rest) (length name) ≡ Ok name
name_of-back v at name rest h = grind (arith, name-bounds, length-append, take_at, cond-true, and_from, at_most, fails, not_below)

pub name-back : (v at : ℕ) (name rest : List ℕ) → is_name name ≡ true → name_in v at (number_bytes (length name) ++ (name ++ rest)) ≡ Ok name
unfolding name_in
name-back v at name rest h = grind (arith, name-bounds, then, number-back, past-number, name_of-back)

-- ## numbers

blocks-back : (v at n : ℕ) (rest : List ℕ) → 0 < n → n ≤ 65536 → blocks_in v at (number_bytes n ++ rest) ≡ Ok n
unfolding blocks_in
blocks-back v at n rest low high = grind (arith, then, number-back, cond-true, and_from, at_most)

count-back : (v at n : ℕ) (rest : List ℕ) → n ≤ 512 → count_in v at (number_bytes n ++ rest) ≡ Ok n
unfolding count_in
count-back v at n rest high = grind (arith, then, number-back, cond-true, at_most)

set-back : (v last at set : ℕ) (rest : List ℕ) → last < set → set < 4294967296 → set_in v last at (number_bytes set ++ rest) ≡ Ok set
unfolding set_in
set-back v last at set rest low high = grind (arith, then, number-back, cond-true, below)

pub sets-back : (v last at : ℕ) (sets rest : List ℕ) → AreRising last sets → sets_in v (length sets) last at (flat_map number_bytes sets ++ rest) ≡ Ok sets
unfolding sets_in
sets-back v last at [] rest h = refl
sets-back v last at (set ∷ sets) rest h = grind (arith, common_steps, append_assoc, then, set-back, past-number, sets-back v set (at + 4) sets rest h.2)

-- ## entries

-- the parts of an entry, and what follows
parts : (e : EntryValue) (rest : List ℕ)
    → entry_bytes e ++ rest
    ≡ number_bytes (length e.name) ++ (e.name ++ (number_bytes e.blocks ++ (number_bytes (length e.images) ++ (flat_map number_bytes e.images ++ rest))))
unfolding entry_bytes
parts e rest = simp append_assoc

past-name : (name rest : List ℕ) → drop (4 + length name) (number_bytes (length name) ++ (name ++ rest)) ≡ rest
past-name name rest =
    let l = length-number_bytes (length name) in
    let k = length-append (number_bytes (length name)) name in
    grind (arith, common_steps, append_assoc, drop_at)

past-blocks : (name rest : List ℕ) (n : ℕ) → drop (8 + length name) (number_bytes (length name) ++ (name ++ (number_bytes n ++ rest))) ≡ rest
past-blocks name rest n =
    let bytes = number_bytes (length name) ++ (name ++ (number_bytes n ++ rest)) in
    grind (arith, common_steps, drop-drop 4 (4 + length name) bytes, past-name name (number_bytes n ++ rest), past-number n rest)

past-count : (name rest : List ℕ) (n m : ℕ) → drop (12 + length name) (number_bytes (length name) ++ (name ++ (number_bytes n ++ (number_bytes m ++ rest)))) ≡ rest
past-count name rest n m =
    let bytes = number_bytes (length name) ++ (name ++ (number_bytes n ++ (number_bytes m ++ rest))) in
    grind (arith, common_steps, drop-drop 4 (8 + length name) bytes, past-blocks name (number_bytes m ++ rest) n, past-number m rest)

parts-back : (v at : ℕ) (e : EntryValue) (rest : List ℕ) → IsEntry e
    → entry_in v at (number_bytes (length e.name) ++ (e.name ++ (number_bytes e.blocks ++ (number_bytes (length e.images) ++ (flat_map number_bytes e.images ++ rest))))) ≡ Ok e
unfolding entry_in
parts-back v at e rest is = grind (arith, then, name-back, past-name, blocks-back, past-blocks, count-back, past-count, sets-back)

entry-back : (v at : ℕ) (e : EntryValue) (rest : List ℕ) → IsEntry e → entry_in v at (entry_bytes e ++ rest) ≡ Ok e
entry-back v at e rest is = ap (entry_in v at) (parts e rest) ∙ parts-back v at e rest is

pub length-numbers : (ns : List ℕ) → length (flat_map number_bytes ns) ≡ 4 * length ns
length-numbers [] = refl
length-numbers (n ∷ ns) = grind (arith, common_steps, length-append, length-number_bytes, length-numbers ns)

pub length-entry : (e : EntryValue) → length (entry_bytes e) ≡ size_of e
unfolding entry_bytes
length-entry e = grind (arith, length-append, length-number_bytes, length-numbers)

entries-back : (v at : ℕ) (es : List EntryValue) → AreEntries es → entries_in (length es) v at (flat_map entry_bytes es) ≡ Ok es
unfolding entries_in
entries-back v at [] h = refl
entries-back v at (e ∷ es) h = grind (arith, common_steps, then, entry-back, drop_at, length-entry, entries-back (v + 1) (at + size_of e) es h.1)

-- ## the whole

letters-back : (rest : List ℕ) → letters_in (codes "VSSCAT01" ++ rest) ≡ Ok rest
unfolding letters_in
letters-back rest = grind (arith, length-append, fails, not_below)

volumes-back : (n : ℕ) (rest : List ℕ) → 0 < n → n ≤ 128 → volumes_in (number_bytes n ++ rest) ≡ Ok n
unfolding volumes_in
volumes-back n rest low high = grind (arith, then, number-back, cond-true, and_from, at_most)

body-back : (es : List EntryValue) → IsCatalog es → body_in (body_of es) ≡ Ok es
unfolding body_in body_of
body-back es is = grind (arith, append_assoc, then, letters-back, volumes-back, past-number, entries-back)

equal : (n : ℕ) → nat_eq n n ≡ true
equal n = grind (arith, nat_tests)

same : (xs : List ℕ) → bytes_eq xs xs ≡ true
same xs = search (rules, and_from, equal, nat_eq)

pub front-back : (body : List ℕ) → front_of (body ++ sha256 body) ≡ body
front-back body = grind (arith, length-append, length-sha256, take_at)

seal-back : (body : List ℕ) → is_sealed (body ++ sha256 body) ≡ true
unfolding is_sealed
seal-back body = grind (arith, length-append, length-sha256, drop_at, and_from, at_most, front-back, same)

pub catalog-back : (es : List EntryValue) → IsCatalog es → catalog_in (bytes_of es) ≡ Ok es
unfolding catalog_in bytes_of
catalog-back es is = grind (arith, cond-true, seal-back, front-back, body-back)

-- each of these names is short
pub short_name : (names : List TextValue) (at : ℕ) → are_names names ≡ true → length (bytes_in (slice_get names at)) ≤ 32
short_name [] zero h = omega arith
short_name [] (suc at) h = omega arith
short_name (name ∷ names) zero h = (name-bounds name.bytes (and_left _ _ h)).1
short_name (name ∷ names) (suc at) h = short_name names at (and_right _ _ h)

-- Bytes that are read as a catalog are those that are written of it, and it is allowed.
use Rattle.std.proofs.Common.{ℕ, zero, suc, ◌≡◌, ◌<◌, ◌≤◌, ◌+◌, ◌-◌, ◌*◌, Bool, true, false, if◌then◌else◌, nat_eq, List, [], ◌∷◌, ◌++◌, length}
use Rattle.std.proofs.Common.{drop, codes, Result, Ok, Err, sym, ap, ◌∙◌, arith, rules}
use Rattle.std.specs.List.{flat_map}
use Rattle.std.specs.Str.{bytes_eq}
use Rattle.std.proofs.lemmas.Bool.Decides.{nat_tests}
use Rattle.std.proofs.lemmas.List.{append_assoc, take-append-drop, length-take-le, drop-drop}
use Rattle.std.proofs.lemmas.Grind.{common_steps}
use Rattle.block_data.specs.BlockBytes.{sha256}
use Rattle.vss_catalog.specs.Entries.{AreRising, IsEntry, AreEntries, IsCatalog, AreBytes, EntryValue}
use Rattle.vss_names.specs.Names.{is_name}
use Rattle.vss_catalog.specs.Reading.{◌>>=◌, name_of_length, name_in, blocks_in, count_in, set_in, sets_in, entry_in, end_in, entries_in}
use Rattle.vss_catalog.specs.Reading.{letters_in, volumes_in, body_in, front_of, is_sealed, catalog_in}
use Rattle.vss_catalog.specs.Written.{number_bytes, entry_bytes, size_of, body_of, bytes_of}
use Rattle.vss_catalog.specs.declared.catalog_fault.CatalogFault.{CatalogFault}
use Rattle.vss_catalog.specs.declared.catalog_fault.CatalogFault.TheVariants.{Digest}
use Rattle.vss_catalog.proofs.Steps.{number-again, bytes-past, bytes-in, passed, if_true, is_at_most, is_below, is_not_below}
use Rattle.diff_area.proofs.GoodRecords.{and_left, and_right}

-- a test that has to be passed, before a second
first_if : {A : Type 0} (b : Bool) (r : Result A CatalogFault) (y : A) (f : CatalogFault) → (if b then r else Err f) ≡ Ok y → (b ≡ true) × (r ≡ Ok y)
first_if b r y f h = grind arith

not_if : {A : Type 0} (b : Bool) (r : Result A CatalogFault) (y : A) (f : CatalogFault) → (if b then Err f else r) ≡ Ok y → (b ≡ false) × (r ≡ Ok y)
not_if b r y f h = grind arith

-- ## names

record IsNamed (v at len : ℕ) (rest name : List ℕ) : Type 0 where
  named : is_name name ≡ true
  len_is : length name ≡ len
  bytes : rest ≡ name ++ drop (length name) rest

name_of-again : (v at len : ℕ) (rest name : List ℕ) → name_of_length v at rest len ≡ Ok name → IsNamed v at len rest name
name_of-again v at len rest name h = grind (arith, first_if, not_if, if_true, is_not_below, length-take-le, take-append-drop)

record StartsWithName (rest name : List ℕ) : Type 0 where
  named : is_name name ≡ true
  bytes : rest ≡ number_bytes (length name) ++ (name ++ drop (4 + length name) rest)

name-again : (v at : ℕ) (rest name : List ℕ) → AreBytes rest → name_in v at rest ≡ Ok name → StartsWithName rest name
unfolding name_in
name-again v at rest name are h = grind (arith, passed, number-again, name_of-again, drop-drop)

-- ## numbers

blocks-again : (v at n : ℕ) (rest : List ℕ) → AreBytes rest → blocks_in v at rest ≡ Ok n → (0 < n) × (n ≤ 65536) × (rest ≡ number_bytes n ++ drop 4 rest)
unfolding blocks_in
blocks-again v at n rest are h = grind (arith, passed, if_true, is_at_most, and_left, and_right, number-again)

count-again : (v at n : ℕ) (rest : List ℕ) → AreBytes rest → count_in v at rest ≡ Ok n → (n ≤ 512) × (rest ≡ number_bytes n ++ drop 4 rest)
unfolding count_in
count-again v at n rest are h = grind (arith, passed, if_true, is_at_most, number-again)

set-again : (v last at set : ℕ) (rest : List ℕ) → AreBytes rest → set_in v last at rest ≡ Ok set → (last < set) × (set < 4294967296) × (rest ≡ number_bytes set ++ drop 4 rest)
unfolding set_in
set-again v last at set rest are h = grind (arith, common_steps, passed, if_true, is_below, number-again)

pub record StartsWithSets (n last : ℕ) (rest sets : List ℕ) : Type 0 where
  pub rise : AreRising last sets
  pub many : length sets ≡ n
  pub bytes : rest ≡ flat_map number_bytes sets ++ drop (4 * length sets) rest

sets-none : (last : ℕ) (rest sets : List ℕ) → sets ≡ [] → StartsWithSets 0 last rest sets
sets-none last rest sets h = grind arith

sets-one : (n last set : ℕ) (rest more sets : List ℕ) → last < set → set < 4294967296 → rest ≡ number_bytes set ++ drop 4 rest
    → StartsWithSets n set (drop 4 rest) more → set ∷ more ≡ sets → StartsWithSets (suc n) last rest sets
sets-one n last set rest more [] low high e is same = absurd cc
sets-one n last set rest more (s ∷ sets) low high e is same =
    let fact = append_assoc (number_bytes set) (flat_map number_bytes more) (drop (4 * suc (length more)) rest) in
    grind (arith, common_steps, drop-drop (4 * length more) 4 rest)

pub sets-again : (v n last at : ℕ) (rest sets : List ℕ) → AreBytes rest → sets_in v n last at rest ≡ Ok sets → StartsWithSets n last rest sets
unfolding sets_in
sets-again v zero last at rest sets are h = let none : sets ≡ [] = cc in sets-none last rest sets none
sets-again v (suc n) last at rest sets are h =
    let p = passed (set_in v last at rest) (λ set. sets_in v n set (at + 4) (drop 4 rest) >>= (λ more. Ok (set ∷ more))) sets h in
    let q = passed (sets_in v n p.value (at + 4) (drop 4 rest)) (λ more. Ok (p.value ∷ more)) sets p.next in
    let one = set-again v last at p.value rest are p.first in
    let others = sets-again v n p.value (at + 4) (drop 4 rest) q.value (bytes-past 4 rest are) q.first in
    let same : p.value ∷ q.value ≡ sets = let e = q.next in cc in
    sets-one n last p.value rest q.value sets one.0 one.1 one.2 others same

-- ## entries

record StartsWithEntry (rest : List ℕ) (e : EntryValue) : Type 0 where
  is : IsEntry e
  bytes : rest ≡ entry_bytes e ++ drop (size_of e) rest

entry-joined : (rest name sets : List ℕ) (blocks : ℕ)
    → rest ≡ number_bytes (length name) ++ (name ++ drop (4 + length name) rest)
    → drop (4 + length name) rest ≡ number_bytes blocks ++ drop 4 (drop (4 + length name) rest)
    → drop (8 + length name) rest ≡ number_bytes (length sets) ++ drop 4 (drop (8 + length name) rest)
    → drop (12 + length name) rest ≡ flat_map number_bytes sets ++ drop (4 * length sets) (drop (12 + length name) rest)
    → rest ≡ entry_bytes (record { name = name; blocks = blocks; images = sets }) ++ drop (12 + length name + 4 * length sets) rest
unfolding entry_bytes
entry-joined rest name sets blocks a b c d =
    grind (arith, common_steps, drop-drop (4 * length sets) (12 + length name) rest, drop-drop 4 (8 + length name) rest, drop-drop 4 (4 + length name) rest)

entry-again : (v at : ℕ) (rest : List ℕ) (e : EntryValue) → AreBytes rest → entry_in v at rest ≡ Ok e → StartsWithEntry rest e
unfolding entry_in
entry-again v at rest e are h =
    let p = passed (name_in v at rest) _ e h in
    let name = p.value in
    let q = passed (blocks_in v (at + 4 + length name) (drop (4 + length name) rest)) _ e p.next in
    let r = passed (count_in v (at + 8 + length name) (drop (8 + length name) rest)) _ e q.next in
    let s = passed (sets_in v r.value 0 (at + 12 + length name) (drop (12 + length name) rest)) _ e r.next in
    let n = name-again v at rest name are p.first in
    let b = blocks-again v (at + 4 + length name) q.value (drop (4 + length name) rest) (bytes-past (4 + length name) rest are) q.first in
    let c = count-again v (at + 8 + length name) r.value (drop (8 + length name) rest) (bytes-past (8 + length name) rest are) r.first in
    let i = sets-again v r.value 0 (at + 12 + length name) (drop (12 + length name) rest) s.value (bytes-past (12 + length name) rest are) s.first in
    let many = i.many in
    let few = c.0 in
    let c2 = c.1 ∙ ap (λ (k : ℕ). number_bytes k ++ drop 4 (drop (8 + length name) rest)) (sym many) in
    let made : EntryValue = record { name = name; blocks = q.value; images = s.value } in
    let all : StartsWithEntry rest made = record {
      is = record { named = n.named; some = b.0; most = b.1; few = omega arith; rise = i.rise };
      bytes = entry-joined rest name s.value q.value n.bytes b.2 c2 i.bytes;
    } in
    let same : made ≡ e = let t = s.next in cc in
    rw same at all

record AreWritten (n : ℕ) (rest : List ℕ) (es : List EntryValue) : Type 0 where
  each : AreEntries es
  many : length es ≡ n
  bytes : rest ≡ flat_map entry_bytes es

none-again : (at : ℕ) (rest : List ℕ) (es : List EntryValue) → end_in at rest ≡ Ok es → AreWritten 0 rest es
none-again at rest es h = grind arith

entries-one : (n : ℕ) (rest : List ℕ) (e : EntryValue) (more es : List EntryValue) → StartsWithEntry rest e → AreWritten n (drop (size_of e) rest) more → e ∷ more ≡ es → AreWritten (suc n) rest es
entries-one n rest e more es one others same = grind arith

entries-again : (n v at : ℕ) (rest : List ℕ) (es : List EntryValue) → AreBytes rest → entries_in n v at rest ≡ Ok es → AreWritten n rest es
unfolding entries_in
entries-again zero v at rest es are h = none-again at rest es h
entries-again (suc n) v at rest es are h =
    let p = passed (entry_in v at rest) (λ entry. entries_in n (v + 1) (at + size_of entry) (drop (size_of entry) rest) >>= (λ more. Ok (entry ∷ more))) es h in
    let e = p.value in
    let q = passed (entries_in n (v + 1) (at + size_of e) (drop (size_of e) rest)) (λ more. Ok (e ∷ more)) es p.next in
    let same : e ∷ q.value ≡ es = let t = q.next in cc in
    entries-one n rest e q.value es (entry-again v at rest e are p.first) (entries-again n (v + 1) (at + size_of e) (drop (size_of e) rest) q.value (bytes-past (size_of e) rest are) q.first) same

-- ## the whole

alike_one : (x y : ℕ) → nat_eq x y ≡ true → x ≡ y
alike_one x y h = grind (arith, nat_tests)

alike : (xs ys : List ℕ) → bytes_eq xs ys ≡ true → xs ≡ ys
alike xs ys h = search (rules, alike_one, and_left, and_right)

letters-again : (body rest : List ℕ) → letters_in body ≡ Ok rest → (rest ≡ drop 8 body) × (body ≡ codes "VSSCAT01" ++ rest)
unfolding letters_in
letters-again body rest h = search (rules, not_if, if_true, alike, take-append-drop)

volumes-again : (n : ℕ) (rest : List ℕ) → AreBytes rest → volumes_in rest ≡ Ok n → (0 < n) × (n ≤ 128) × (rest ≡ number_bytes n ++ drop 4 rest)
unfolding volumes_in
volumes-again n rest are h = grind (arith, passed, if_true, is_at_most, and_left, and_right, number-again)

record IsBody (body : List ℕ) (es : List EntryValue) : Type 0 where
  is : IsCatalog es
  bytes : body_of es ≡ body

body-joined : (body rest : List ℕ) (n : ℕ) (es : List EntryValue) → body ≡ codes "VSSCAT01" ++ rest → rest ≡ number_bytes n ++ drop 4 rest → length es ≡ n
    → drop 4 rest ≡ flat_map entry_bytes es → body_of es ≡ body
unfolding body_of
body-joined body rest n es a b c d = grind (arith, append_assoc)

body-again : (body : List ℕ) (es : List EntryValue) → AreBytes body → body_in body ≡ Ok es → IsBody body es
unfolding body_in
body-again body es are h =
    let p = passed (letters_in body) (λ rest. volumes_in rest >>= (λ count. entries_in count 0 12 (drop 4 rest))) es h in
    let rest = p.value in
    let q = passed (volumes_in rest) (λ count. entries_in count 0 12 (drop 4 rest)) es p.next in
    let l = letters-again body rest p.first in
    let bytes : AreBytes rest = rw l.0 (bytes-past 8 body are) in
    let v = volumes-again q.value rest bytes q.first in
    let w = entries-again q.value 0 12 (drop 4 rest) es (bytes-past 4 rest bytes) q.next in
    let many = w.many in
    record { is = record { some = omega arith; few = omega arith; each = w.each }; bytes = body-joined body rest q.value es l.1 v.2 many w.bytes }

sealed-again : (bytes : List ℕ) → is_sealed bytes ≡ true → bytes ≡ front_of bytes ++ sha256 (front_of bytes)
unfolding is_sealed
sealed-again bytes h = search (rules, alike, and_right, take-append-drop)

opened : (bytes : List ℕ) (es : List EntryValue) → AreBytes bytes → catalog_in bytes ≡ Ok es → (is_sealed bytes ≡ true) × IsBody (front_of bytes) es
unfolding catalog_in
opened bytes es are h =
    let test = first_if (is_sealed bytes) (body_in (front_of bytes)) es Digest h in
    (test.0, body-again (front_of bytes) es (bytes-in (length bytes - 32) bytes are) test.1)

pub catalog-again : (bytes : List ℕ) (es : List EntryValue) → AreBytes bytes → catalog_in bytes ≡ Ok es → bytes_of es ≡ bytes
unfolding bytes_of
catalog-again bytes es are h = let o = opened bytes es are h in grind (arith, common_steps, sealed-again)

pub catalog-allowed : (bytes : List ℕ) (es : List EntryValue) → AreBytes bytes → catalog_in bytes ≡ Ok es → IsCatalog es
catalog-allowed bytes es are h = (opened bytes es are h).1.is

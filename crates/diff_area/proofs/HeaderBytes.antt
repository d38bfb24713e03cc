-- The header that is written says what it should.
use Rattle.std.proofs.Common.{ℕ, zero, suc, ◌≡◌, ◌<◌, ◌≤◌, ◌+◌, ◌-◌, ◌*◌, true, false, cond, ◌==◌, nat_le, List, [], ◌∷◌, ◌++◌, length, drop, map, replicate, Some, None, All, codes, refl, sym, ap, ◌∙◌, arith, lit<}
use Rattle.std.specs.List.{find, flat_map, range_with_len}
use Rattle.std.proofs.lemmas.Bool.Decides.{nat_tests}
use Rattle.std.proofs.lemmas.List.{append_assoc, length-append, drop_at, drop-drop}
use Rattle.std.proofs.lemmas.Grind.{common_steps}
use Rattle.std.proofs.lemmas.Bool.{and_from}
use Rattle.std.proofs.Common.{rules}
use Rattle.byteorder.specs.Endian.{little_number}
use Rattle.byteorder.specs.Numbers.{little_number-reads_back, length-bytes_low_first}
use Rattle.block_data.specs.BlockBytes.{run_of}
use Rattle.block_data.specs.declared.block_buf.TheConstants.{BLOCK}
use Rattle.diff_area.specs.Format.{number_at, layout_in, slots_in, stated_used, volume_count, volumes_from, volumes_in, rest_in, has_magic, is_layout, fits}
use Rattle.diff_area.specs.Format.{is_volume_count, is_out_of_range, is_nonzero, HasHeader, blocks_for, AreVolumes, used_in}
use Rattle.diff_area.specs.AreaValue.{number_bytes, padded, header_bytes}
use Rattle.diff_area.specs.declared.table_record.Record.{Record}

-- ## numbers

pub length-number_bytes : (n : ℕ) → length (number_bytes n) ≡ 4
unfolding number_bytes
length-number_bytes n = length-bytes_low_first 0 4 n

reads : (bytes rest : List ℕ) (at n : ℕ) → drop at bytes ≡ number_bytes n ++ rest → n < 4294967296 → number_at bytes at ≡ n
unfolding number_at number_bytes
reads bytes rest at n e h = ap (little_number 4) e ∙ little_number-reads_back 4 n rest h

pub number-back : (front rest bytes : List ℕ) (at n : ℕ) → bytes ≡ front ++ (number_bytes n ++ rest) → length front ≡ at → n < 4294967296 → number_at bytes at ≡ n
number-back front rest bytes at n e l h = reads bytes rest at n (ap (drop at) e ∙ drop_at front (number_bytes n ++ rest) at l) h

abbrev AreThin : List ℕ → Type 0
AreThin [] = Unit {0}
AreThin (n ∷ ns) = (n < 4294967296) × AreThin ns

-- numbers one after another
numbers-back : (ns rest bytes : List ℕ) (base a : ℕ) → drop (base + 4 * a) bytes ≡ flat_map number_bytes ns ++ rest → AreThin ns → map (λ v. number_at bytes (base + 4 * v)) (range_with_len a (length ns)) ≡ ns
numbers-back [] rest bytes base a e h = refl
numbers-back (n ∷ ns) rest bytes base a e h =
    let split = e ∙ append_assoc (number_bytes n) (flat_map number_bytes ns) rest in
    let first = reads bytes (flat_map number_bytes ns ++ rest) (base + 4 * a) n split h.0 in
    let next : base + 4 * (a + 1) ≡ base + 4 * a + 4 = omega arith in
    let dropped =
    ap (λ k. drop k bytes) next ∙ sym (drop-drop 4 (base + 4 * a) bytes) ∙ ap (drop 4) split
    ∙ drop_at (number_bytes n) (flat_map number_bytes ns ++ rest) 4 (length-number_bytes n)
    in
    ap (λ x. x ∷ map (λ v. number_at bytes (base + 4 * v)) (range_with_len (a + 1) (length ns))) first
    ∙ ap (λ xs. n ∷ xs) (numbers-back ns rest bytes base (a + 1) dropped h.1)

-- ## the parts of the header

-- six parts and what follows
regroup : (m a b c d f z : List ℕ) → m ++ a ++ b ++ c ++ d ++ f ++ z ≡ m ++ (a ++ (b ++ (c ++ (d ++ (f ++ z)))))
regroup m a b c d f z = simp append_assoc

rest_of : List ℕ → List Record → List ℕ
rest_of volumes records = run_of (BLOCK - length (codes "VSSAREA1" ++ number_bytes 2 ++ number_bytes (length records) ++ number_bytes (used_in records) ++ number_bytes (length volumes) ++ flat_map number_bytes volumes)) 0

parts : (volumes : List ℕ) (records : List Record) → header_bytes volumes records ≡ codes "VSSAREA1" ++ (number_bytes 2 ++ (number_bytes (length records) ++ (number_bytes (used_in records) ++ (number_bytes (length volumes) ++ (flat_map number_bytes volumes ++ rest_of volumes records)))))
unfolding header_bytes padded rest_of
parts volumes records = search (rules, regroup, rest_of)

second : (m a rest bytes : List ℕ) (at n : ℕ) → bytes ≡ m ++ (a ++ (number_bytes n ++ rest)) → length m + length a ≡ at → n < 4294967296 → number_at bytes at ≡ n
second m a rest bytes at n e l h = grind (arith, common_steps, number-back (m ++ a) rest bytes, append_assoc m a (number_bytes n ++ rest), length-append m a)

third : (m a b rest bytes : List ℕ) (at n : ℕ) → bytes ≡ m ++ (a ++ (b ++ (number_bytes n ++ rest))) → length m + length a + length b ≡ at → n < 4294967296 → number_at bytes at ≡ n
third m a b rest bytes at n e l h = let len = length-append m a in grind (arith, common_steps, second, append_assoc)

fourth : (m a b c rest bytes : List ℕ) (at n : ℕ) → bytes ≡ m ++ (a ++ (b ++ (c ++ (number_bytes n ++ rest)))) → length m + length a + length b + length c ≡ at → n < 4294967296 → number_at bytes at ≡ n
fourth m a b c rest bytes at n e l h = let len = length-append m a in grind (arith, common_steps, third, append_assoc)

-- what stands after the five first parts
after_five : (m a b c d rest bytes : List ℕ) (at : ℕ) → bytes ≡ m ++ (a ++ (b ++ (c ++ (d ++ rest)))) → length m + length a + length b + length c + length d ≡ at → drop at bytes ≡ rest
after_five m a b c d rest bytes at e l =
    let front = m ++ a ++ b ++ c ++ d in
    let grouped : m ++ (a ++ (b ++ (c ++ (d ++ rest)))) ≡ front ++ rest = simp append_assoc in
    let len : length front ≡ at = simp length-append l in grind (arith, common_steps, drop_at)

pub length-magic : length (codes "VSSAREA1") ≡ 8
length-magic = refl

-- ## what it says

pub says_layout : (volumes : List ℕ) (records : List Record) → layout_in (header_bytes volumes records) ≡ 2
says_layout volumes records = number-back (codes "VSSAREA1") _ (header_bytes volumes records) 8 2 (parts volumes records) refl (lit< tt)

pub says_slots : (volumes : List ℕ) (records : List Record) → length records ≤ 65536 → slots_in (header_bytes volumes records) ≡ length records
says_slots volumes records few =
    let l2 = length-number_bytes 2 in
    second (codes "VSSAREA1") (number_bytes 2) _ (header_bytes volumes records) 12 (length records) (parts volumes records) (let lm = length-magic in omega arith) (omega arith)

pub says_used : (volumes : List ℕ) (records : List Record) → used_in records ≤ 65536 → stated_used (header_bytes volumes records) ≡ used_in records
says_used volumes records few =
    let l2 = length-number_bytes 2 in
    let ls = length-number_bytes (length records) in
    third (codes "VSSAREA1") (number_bytes 2) (number_bytes (length records)) _ (header_bytes volumes records) 16 (used_in records) (parts volumes records) (let lm = length-magic in omega arith) (omega arith)

says_count : (volumes : List ℕ) (records : List Record) → length volumes ≤ 128 → number_at (header_bytes volumes records) 20 ≡ length volumes
says_count volumes records few =
    let l2 = length-number_bytes 2 in
    let ls = length-number_bytes (length records) in
    let lu = length-number_bytes (used_in records) in
    fourth (codes "VSSAREA1") (number_bytes 2) (number_bytes (length records)) (number_bytes (used_in records)) _ (header_bytes volumes records) 20 (length volumes) (parts volumes records) (let lm = length-magic in omega arith) (omega arith)

from_there : (volumes : List ℕ) (records : List Record) → drop 24 (header_bytes volumes records) ≡ flat_map number_bytes volumes ++ rest_of volumes records
from_there volumes records =
    let l2 = length-number_bytes 2 in
    let ls = length-number_bytes (length records) in
    let lu = length-number_bytes (used_in records) in
    let lc = length-number_bytes (length volumes) in
    after_five (codes "VSSAREA1") (number_bytes 2) (number_bytes (length records)) (number_bytes (used_in records)) (number_bytes (length volumes)) (flat_map number_bytes volumes ++ rest_of volumes records) (header_bytes volumes records) 24 (parts volumes records) (let lm = length-magic in omega arith)

-- the test of the layout
of_layout : {X : Type 0} (layout : ℕ) (x y : X) → layout ≡ 2 → cond (layout == 1) x y ≡ y
of_layout layout x y e = ap (λ l. cond (l == 1) x y) e

from_is : (volumes : List ℕ) (records : List Record) → volumes_from (layout_in (header_bytes volumes records)) ≡ 24
from_is volumes records = ap volumes_from (says_layout volumes records)

says_volume_count : (volumes : List ℕ) (records : List Record) → length volumes ≤ 128 → volume_count (header_bytes volumes records) ≡ length volumes
says_volume_count volumes records few = grind (arith, of_layout, says_layout, says_count)

are_thin : (ns : List ℕ) → All (λ blocks. (0 < blocks) × (blocks ≤ 65536)) ns → AreThin ns
are_thin [] h = tt
are_thin (n ∷ ns) h = let here = (h 0 0 (omega arith)).1 in (omega arith, are_thin ns (λ k d b. h (suc k) d (omega arith)))

pub says_volumes : (volumes : List ℕ) (records : List Record) → AreVolumes volumes → volumes_in (header_bytes volumes records) ≡ volumes
unfolding volumes_in
says_volumes volumes records v =
    let header = header_bytes volumes records in
    ap (λ f. map (λ x. number_at header (f + 4 * x)) (range_with_len 0 (volume_count header))) (from_is volumes records)
    ∙ ap (λ n. map (λ x. number_at header (24 + 4 * x)) (range_with_len 0 n)) (says_volume_count volumes records v.few)
    ∙ numbers-back volumes (rest_of volumes records) header 24 0 (from_there volumes records) (are_thin volumes v.each)

pub length-numbers : (ns : List ℕ) → length (flat_map number_bytes ns) ≡ 4 * length ns
length-numbers [] = refl
length-numbers (n ∷ ns) = grind (arith, common_steps, length-append, length-number_bytes, length-numbers ns)

says_rest : (volumes : List ℕ) (records : List Record) → length volumes ≤ 128 → rest_in (header_bytes volumes records) ≡ rest_of volumes records
unfolding rest_in
says_rest volumes records few =
    let header = header_bytes volumes records in
    let at : volumes_from (layout_in header) + 4 * volume_count header ≡ 24 + 4 * length volumes = let a = from_is volumes records in let b = says_volume_count volumes records few in omega arith in
    ap (λ k. drop k header) at ∙ sym (drop-drop (4 * length volumes) 24 header) ∙ ap (drop (4 * length volumes)) (from_there volumes records)
    ∙ drop_at (flat_map number_bytes volumes) (rest_of volumes records) (4 * length volumes) (length-numbers volumes)

none_in_run : (n : ℕ) → find is_nonzero (replicate n 0) ≡ None
none_in_run zero = refl
none_in_run (suc n) = none_in_run n

none_in_zeros : (n : ℕ) → find is_nonzero (run_of n 0) ≡ None
unfolding run_of
none_in_zeros n = none_in_run n

rest_is_zeros : (volumes : List ℕ) (records : List Record) → find is_nonzero (rest_of volumes records) ≡ None
unfolding rest_of
rest_is_zeros volumes records = none_in_zeros _

within : (n : ℕ) → 0 < n → n ≤ 65536 → is_out_of_range n ≡ false
within n h k = grind (arith, nat_tests)

at_most : (a b : ℕ) → a ≤ b → nat_le a b ≡ true
at_most a b h = grind (arith, nat_tests)

equal : (a b : ℕ) → a ≡ b → (a == b) ≡ true
equal a b h = grind (arith, nat_tests)

none_out : (ns : List ℕ) → All (λ blocks. (0 < blocks) × (blocks ≤ 65536)) ns → find is_out_of_range ns ≡ None
none_out [] h = refl
none_out (n ∷ ns) h =
    let here = h 0 0 (omega arith) in
    ap (λ b. cond b (Some n) (find is_out_of_range ns)) (within n here.0 here.1) ∙ none_out ns (λ k d b. h (suc k) d (omega arith))

do_fit : (size slots : ℕ) → slots ≤ 65536 → size ≡ BLOCK * blocks_for slots → fits size slots ≡ true
do_fit size slots h e = and_from (nat_le slots 65536) (size == BLOCK * blocks_for slots) (at_most slots 65536 h) (equal size (BLOCK * blocks_for slots) e)

begins : (rest : List ℕ) → has_magic (codes "VSSAREA1" ++ rest) ≡ true
begins rest = refl

-- the header that is written is of the format
pub header_valid : (size : ℕ) (volumes : List ℕ) (records : List Record) → AreVolumes volumes → length records ≤ 65536 → size ≡ BLOCK * blocks_for (length records) → HasHeader size (header_bytes volumes records)
header_valid size volumes records v few e =
    record {
      magic = ap has_magic (parts volumes records) ∙ begins (number_bytes 2 ++ (number_bytes (length records) ++ (number_bytes (used_in records) ++ (number_bytes (length volumes) ++ (flat_map number_bytes volumes ++ rest_of volumes records)))));
      layout = ap is_layout (says_layout volumes records);
      slots = ap (fits size) (says_slots volumes records few) ∙ do_fit size (length records) few e;
      volumes = ap is_volume_count (says_volume_count volumes records v.few) ∙ and_from (nat_le 1 (length volumes)) (nat_le (length volumes) 128) (at_most 1 (length volumes) v.some) (at_most (length volumes) 128 v.few);
      blocks = ap (find is_out_of_range) (says_volumes volumes records v) ∙ none_out volumes v.each;
      rest = ap (find is_nonzero) (says_rest volumes records v.few) ∙ rest_is_zeros volumes records;
    }

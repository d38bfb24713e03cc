-- Steps of the reading: what follows one, numbers as they are written and read, and what was read so far with what is still to be read.
use Rattle.std.proofs.Common.{ℕ, ◌≡◌, ◌<◌, ◌≤◌, Bool, true, false, cond, nat_lt, nat_le, List, [], ◌∷◌, ◌++◌, Result, Ok, Err, IfErr, IsErrAnd, ap, ◌∙◌, arith}
use Rattle.std.proofs.Common.{zero, suc, ◌+◌, ◌*◌, ◌/◌, ◌%◌, length, take, drop, ◌-◌, refl}
use Rattle.std.proofs.lemmas.Bool.Decides.{nat_tests}
use Rattle.std.proofs.lemmas.List.{append-nil, append_assoc, length-append, drop_at, drop-drop, drop_all}
use Rattle.std.proofs.lemmas.Grind.{common_steps}
use Rattle.byteorder.specs.Endian.{little_number}
use Rattle.byteorder.specs.Numbers.{little_number-reads_back, length-bytes_low_first}
use Rattle.vss_catalog.specs.Entries.{AreBytes, EntryValue}
use Rattle.vss_catalog.specs.Reading.{◌>>=◌, Tells, number_in, set_in, sets_in, entry_in, entries_in, end_in}
use Rattle.vss_catalog.specs.Written.{number_bytes, size_of}
use Rattle.vss_catalog.specs.declared.catalog_fault.CatalogFault.{CatalogFault}
use Rattle.vss_catalog.specs.declared.catalog_fault.CatalogFault.TheVariants.{Rest}

-- ## Steps of the reading: what follows one, and what a step that is passed says.

-- ## one after another

pub then : {A B : Type 0} (r : Result A CatalogFault) (more : A → Result B CatalogFault) (a : A) (s : Result B CatalogFault) → r ≡ Ok a → more a ≡ s → (r >>= more) ≡ s
then r more a s e h = ap (λ q. q >>= more) e ∙ h

-- the step that a value comes from
pub record Passed {A B : Type 0} (r : Result A CatalogFault) (more : A → Result B CatalogFault) (b : B) : Type 0 where
  pub value : A
  pub first : r ≡ Ok value
  pub next : more value ≡ Ok b

pub passed : {A B : Type 0} (r : Result A CatalogFault) (more : A → Result B CatalogFault) (b : B) → (r >>= more) ≡ Ok b → Passed r more b
passed r more b h = grind arith

-- ## tests

pub if_true : {A : Type 0} (b : Bool) (x y : A) (f : CatalogFault) → cond b (Ok x) (Err f) ≡ Ok y → (b ≡ true) × (x ≡ y)
if_true b x y f h = grind arith

pub if_false : {A : Type 0} (b : Bool) (x y : A) (f : CatalogFault) → cond b (Err f) (Ok x) ≡ Ok y → (b ≡ false) × (x ≡ y)
if_false b x y f h = grind arith

pub fails : {A : Type 0} (b : Bool) (x y : A) → b ≡ false → cond b x y ≡ y
fails b x y e = grind arith

pub at_most : (a b : ℕ) → a ≤ b → nat_le a b ≡ true
at_most a b h = grind (arith, nat_tests)

pub is_at_most : (a b : ℕ) → nat_le a b ≡ true → a ≤ b
is_at_most a b h = grind (arith, nat_tests)

pub below : (a b : ℕ) → a < b → nat_lt a b ≡ true
below a b h = grind (arith, nat_tests)

pub is_below : (a b : ℕ) → nat_lt a b ≡ true → a < b
is_below a b h = grind (arith, nat_tests)

pub not_below : (a b : ℕ) → b ≤ a → nat_lt a b ≡ false
not_below a b h = grind (arith, nat_tests)

pub is_not_below : (a b : ℕ) → nat_lt a b ≡ false → b ≤ a
is_not_below a b h = grind (arith, nat_tests)

-- ## the steps of a loop, after which a list is what was read

abbrev pub after : {A : Type 0} → List A → Result (List A) CatalogFault → Result (List A) CatalogFault
after xs (Ok ys) = Ok (xs ++ ys)
after xs (Err f) = Err f

pub after-none : {A : Type 0} (r : Result (List A) CatalogFault) → after [] r ≡ r
after-none r = grind arith

pub after-end : {A : Type 0} (xs : List A) → after xs (Ok []) ≡ Ok xs
after-end xs = ap Ok (append-nil xs)

pub after-one : {A : Type 0} (xs : List A) (x : A) (r : Result (List A) CatalogFault) → after xs (r >>= (λ ys. Ok (x ∷ ys))) ≡ after (xs ++ x ∷ []) r
after-one xs x r = grind (arith, append_assoc)

-- ## what a fault tells

pub tells-on : {A B : Type 0} (f : CatalogFault) (said : Result A CatalogFault) (other : Result B CatalogFault) → (said ≡ Err f → other ≡ Err f) → Tells f said → Tells f other
tells-on f said other on h = grind arith

pub tells-exact : {A : Type 0} (f : CatalogFault) (said : Result A CatalogFault) → said ≡ Err f → Tells f said
tells-exact f said h = grind arith

-- the same where a call's error is handed on
pub Tells-handed_on : {T A : Type 0} (r : Result T CatalogFault) (fault : CatalogFault) (said : Result A CatalogFault) → IsErrAnd r (λ f. f ≡ fault) → Tells fault said → IfErr r (λ f. Tells f said)
Tells-handed_on r fault said is h = grind arith

-- ## Numbers as they are written and read.

pub length-number_bytes : (n : ℕ) → length (number_bytes n) ≡ 4
unfolding number_bytes
length-number_bytes n = length-bytes_low_first 0 4 n

reads : (rest : List ℕ) (n : ℕ) → n < 4294967296 → little_number 4 (number_bytes n ++ rest) ≡ n
unfolding number_bytes
reads rest n h = little_number-reads_back 4 n rest h

-- a number that is written is read
pub number-back : (at n : ℕ) (rest : List ℕ) → n < 4294967296 → number_in at (number_bytes n ++ rest) ≡ Ok n
number-back at n rest h = grind (arith, length-append, length-number_bytes, fails, not_below, reads)

pub past-number : (n : ℕ) (rest : List ℕ) → drop 4 (number_bytes n ++ rest) ≡ rest
past-number n rest = drop_at (number_bytes n) rest 4 (length-number_bytes n)

-- four bytes are those of the number in them
record Digits (n a b c d : ℕ) : Type 0 where
  first : n % 256 ≡ a
  second : n / 256 % 256 ≡ b
  third : n / 65536 % 256 ≡ c
  fourth : n / 16777216 % 256 ≡ d
  narrow : n < 4294967296

digits : (n a b c d : ℕ) → n ≡ a + 256 * (b + 256 * (c + 256 * d)) → a < 256 → b < 256 → c < 256 → d < 256 → Digits n a b c d
digits n a b c d e ha hb hc hd = grind arith

bytes-again : (a b c d : ℕ) (more : List ℕ) → a < 256 → b < 256 → c < 256 → d < 256
    → (little_number 4 (a ∷ b ∷ c ∷ d ∷ more) < 4294967296) × (number_bytes (little_number 4 (a ∷ b ∷ c ∷ d ∷ more)) ≡ a ∷ b ∷ c ∷ d ∷ [])
unfolding number_bytes
bytes-again a b c d more ha hb hc hd = grind (arith, digits)

pub record IsNumber (n : ℕ) (rest : List ℕ) : Type 0 where
  pub narrow : n < 4294967296
  pub enough : 4 ≤ length rest
  pub bytes : rest ≡ number_bytes n ++ drop 4 rest

of_bytes : (rest : List ℕ) (n : ℕ) → AreBytes rest → 4 ≤ length rest → little_number 4 rest ≡ n → IsNumber n rest
of_bytes [] n are h e = absurd (omega arith)
of_bytes (a ∷ []) n are h e = absurd (omega arith)
of_bytes (a ∷ b ∷ []) n are h e = absurd (omega arith)
of_bytes (a ∷ b ∷ c ∷ []) n are h e = absurd (omega arith)
of_bytes (a ∷ b ∷ c ∷ d ∷ more) n are h e = grind (arith, common_steps, bytes-again a b c d more are.0 are.1.0 are.1.1.0 are.1.1.1.0)

-- a number that is read was written so
pub number-again : (at n : ℕ) (rest : List ℕ) → AreBytes rest → number_in at rest ≡ Ok n → IsNumber n rest
number-again at n rest are h = grind (arith, if_false, of_bytes, is_not_below)

pub bytes-past : (n : ℕ) (rest : List ℕ) → AreBytes rest → AreBytes (drop n rest)
bytes-past zero rest are = are
bytes-past (suc n) [] are = tt
bytes-past (suc n) (b ∷ rest) are = bytes-past n rest are.1

pub bytes-in : (n : ℕ) (rest : List ℕ) → AreBytes rest → AreBytes (take n rest)
bytes-in zero rest are = tt
bytes-in (suc n) [] are = tt
bytes-in (suc n) (b ∷ rest) are = (are.0, bytes-in n rest are.1)

-- ## What was read so far, and then what is still to be read, is what is read of all.

-- ## sets

pub sets-start : (v count at : ℕ) (rest sets : List ℕ) → sets ≡ [] → sets_in v count 0 at rest ≡ after sets (sets_in v (count - 0) 0 (at + 4 * 0) (drop (4 * 0) rest))
sets-start v count at rest sets e = grind (arith, after-none)

sets-first : (v n last at set : ℕ) (rest sets : List ℕ) → set_in v last at rest ≡ Ok set
    → after sets (sets_in v (suc n) last at rest) ≡ after (sets ++ set ∷ []) (sets_in v n set (at + 4) (drop 4 rest))
unfolding sets_in
sets-first v n last at set rest sets e = grind (arith, after-one)

pub sets-step : (v count k last at set : ℕ) (rest sets : List ℕ) → k < count → set_in v last (at + 4 * k) (drop (4 * k) rest) ≡ Ok set
    → after sets (sets_in v (count - k) last (at + 4 * k) (drop (4 * k) rest)) ≡ after (sets ++ set ∷ []) (sets_in v (count - (k + 1)) set (at + 4 * (k + 1)) (drop (4 * (k + 1)) rest))
sets-step v count k last at set rest sets h e =
    grind (arith, common_steps, sets-first v (count - (k + 1)) last (at + 4 * k) set (drop (4 * k) rest) sets e, drop-drop 4 (4 * k) rest)

sets-first-fault : (v n last at : ℕ) (f : CatalogFault) (rest sets : List ℕ) → set_in v last at rest ≡ Err f → after sets (sets_in v (suc n) last at rest) ≡ Err f
unfolding sets_in
sets-first-fault v n last at f rest sets e = grind arith

pub sets-fault : (v count k last at : ℕ) (f : CatalogFault) (rest sets : List ℕ) → k < count → set_in v last (at + 4 * k) (drop (4 * k) rest) ≡ Err f
    → after sets (sets_in v (count - k) last (at + 4 * k) (drop (4 * k) rest)) ≡ Err f
sets-fault v count k last at f rest sets h e = let n : count - k ≡ suc (count - (k + 1)) = omega arith in grind (arith, common_steps, sets-first-fault)

pub sets-end : (v count k last at : ℕ) (rest sets : List ℕ) → count ≤ k → after sets (sets_in v (count - k) last at rest) ≡ Ok sets
unfolding sets_in
sets-end v count k last at rest sets h = grind (arith, after-end)

-- ## entries

pub entries-start : (count : ℕ) (rest : List ℕ) (es : List EntryValue) → es ≡ [] → entries_in count 0 12 rest ≡ after es (entries_in (count - 0) 0 (12 + 0) (drop 0 rest))
entries-start count rest es e = grind (arith, after-none)

entries-first : (n v at : ℕ) (e : EntryValue) (rest : List ℕ) (es : List EntryValue) → entry_in v at rest ≡ Ok e
    → after es (entries_in (suc n) v at rest) ≡ after (es ++ e ∷ []) (entries_in n (v + 1) (at + size_of e) (drop (size_of e) rest))
unfolding entries_in
entries-first n v at e rest es h = grind (arith, after-one)

pub entries-step : (count v from : ℕ) (e : EntryValue) (rest : List ℕ) (es : List EntryValue) → v < count → entry_in v (12 + from) (drop from rest) ≡ Ok e
    → after es (entries_in (count - v) v (12 + from) (drop from rest)) ≡ after (es ++ e ∷ []) (entries_in (count - (v + 1)) (v + 1) (12 + (from + size_of e)) (drop (from + size_of e) rest))
entries-step count v from e rest es h is =
    grind (arith, common_steps, entries-first (count - (v + 1)) v (12 + from) e (drop from rest) es is, drop-drop (size_of e) from rest)

entries-first-fault : (n v at : ℕ) (f : CatalogFault) (rest : List ℕ) (es : List EntryValue) → entry_in v at rest ≡ Err f → after es (entries_in (suc n) v at rest) ≡ Err f
unfolding entries_in
entries-first-fault n v at f rest es h = grind arith

pub entries-fault : (count v from : ℕ) (f : CatalogFault) (rest : List ℕ) (es : List EntryValue) (all : Result (List EntryValue) CatalogFault) → v < count
    → all ≡ after es (entries_in (count - v) v (12 + from) (drop from rest)) → Tells f (entry_in v (12 + from) (drop from rest)) → Tells f all
entries-fault count v from f rest es all h e t =
    let n : count - v ≡ suc (count - (v + 1)) = omega arith in grind (arith, common_steps, tells-on, entries-first-fault)

end-none : (at from : ℕ) (rest : List ℕ) → length rest ≤ from → end_in at (drop from rest) ≡ Ok []
end-none at from rest h = ap (end_in at) (drop_all from rest h)

end-some : (at from : ℕ) (rest : List ℕ) → from < length rest → end_in at (drop from rest) ≡ Err (Rest at)
end-some at from [] h = absurd (omega arith)
end-some at zero (b ∷ rest) h = refl
end-some at (suc from) (b ∷ rest) h = end-some at from rest (omega arith)

pub entries-end : (count v at from : ℕ) (rest : List ℕ) (es : List EntryValue) → count ≤ v → length rest ≤ from → after es (entries_in (count - v) v at (drop from rest)) ≡ Ok es
unfolding entries_in
entries-end count v at from rest es h k = grind (arith, end-none, after-end)

pub entries-more : (count v at from : ℕ) (rest : List ℕ) (es : List EntryValue) → count ≤ v → from < length rest → after es (entries_in (count - v) v at (drop from rest)) ≡ Err (Rest at)
unfolding entries_in
entries-more count v at from rest es h k = grind (arith, end-some)

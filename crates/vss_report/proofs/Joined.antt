-- Pieces that are parted and joined, numbers by their digits, and the bytes of a digest.
use Rattle.std.proofs.Common.{◌≡◌, ℕ, ◌+◌, ◌-◌, ◌<◌, ◌≤◌, true, false, List, [], ◌∷◌, ◌++◌, length, drop, get_or, refl, ap, arith, ◌∙◌, Bool, ◌*◌, Option, Some}
use Rattle.std.proofs.Common.{None, zero, suc}
use Rattle.std.proofs.lemmas.Bool.{not_from_false}
use Rattle.std.proofs.lemmas.Bool.Decides.{nat_tests}
use Rattle.std.proofs.lemmas.Grind.{common_steps}
use Rattle.std.proofs.lemmas.List.{drop_more, drop_all, take_more, length-drop, length-take-le}
use Rattle.std.proofs.lemmas.List.Folds.{list_all-append}
use Rattle.std.specs.Int.{byte_at, bytes_high_first, to_be_bytes, w32}
use Rattle.std.specs.List.{list_all}
use Rattle.std.specs.Prelude.{◌==◌, nat_lt, slice_range, ◌&&◌, not, is_some, Result, Ok, Err, slice_index}
use Rattle.hex.specs.Hex.{IsBytes}
use Rattle.sha2.proofs.Facts256.{length-sha256}
use Rattle.sha2.specs.Sha256.{digest_bytes, sha256 as standard}
use Rattle.block_data.specs.BlockBytes.{sha256}
use Rattle.scenario.specs.Numbers.{is_digit, value_from, in_range, number_in, number_of}
use Rattle.scenario.specs.declared.reason.Reason.{Reason}
use Rattle.scenario.specs.declared.reason.Reason.TheVariants.{BadNumber}
use Rattle.vss_model.specs.Outcome.{IsDigestIf, IsFirstIf}
use Rattle.vss_report.specs.Legible.{HasHead}
use Rattle.vss_report.specs.Pieces.{before, pieces, pieces_at, is_over}
use Rattle.vss_report.specs.Shapes.{is_number, number_up_to, up_to}

-- ## A text in pieces, one byte on.

-- the bytes of a list before the first piece
abbrev pub all_before : List ℕ → List (List ℕ) → List (List ℕ)
all_before [] ps = ps
all_before (b ∷ bs) ps = before b (all_before bs ps)

not_over : (byte : ℕ) (ps : List (List ℕ)) → is_over (before byte ps) ≡ false
not_over byte ps = grind arith

pub pieces_are_some : (mark : ℕ) (text : List ℕ) → is_over (pieces mark text) ≡ false
pieces_are_some mark [] = refl
pieces_are_some mark (byte ∷ rest) = grind (arith, common_steps, not_over)

pub some_piece : (mark : ℕ) (text : List ℕ) (at : ℕ) → is_over (pieces_at mark text at) ≡ nat_lt (length text) at
some_piece mark text at = grind (arith, pieces_are_some)

pub no_piece : (mark : ℕ) (text : List ℕ) (at : ℕ) → length text < at → pieces_at mark text at ≡ []
no_piece mark text at h = let past : nat_lt (length text) at ≡ true = grind (arith, nat_tests) in rw past refl

pub here : (mark : ℕ) (text : List ℕ) (at : ℕ) → at ≤ length text → pieces_at mark text at ≡ pieces mark (drop at text)
here mark text at h = let within : nat_lt (length text) at ≡ false = grind (arith, nat_tests) in rw within refl

-- ## a piece, byte by byte

all_before-snoc : (xs : List ℕ) (b : ℕ) (ps : List (List ℕ)) → all_before (xs ++ b ∷ []) ps ≡ all_before xs (before b ps)
all_before-snoc [] b ps = refl
all_before-snoc (x ∷ xs) b ps = ap (before x) (all_before-snoc xs b ps)

all_before-whole : (xs : List ℕ) (ps : List (List ℕ)) → all_before xs ([] ∷ ps) ≡ xs ∷ ps
all_before-whole [] ps = refl
all_before-whole (x ∷ xs) ps = ap (before x) (all_before-whole xs ps)

length-range : (text : List ℕ) (at end : ℕ) → at ≤ end → end ≤ length text → length (slice_range text at end) ≡ end - at
length-range text at end h within = length-take-le (end - at) (drop at text) (rw (length-drop at text) (omega arith))

range_one_more : (text : List ℕ) (at end : ℕ) → at ≤ end → end < length text → slice_range text at (end + 1) ≡ slice_range text at end ++ get_or text end 0 ∷ []
range_one_more text at end h inside =
    let rest : end - at < length (drop at text) = rw (length-drop at text) (omega arith) in
    grind (arith, common_steps, take_more (drop at text) (end - at) 0 rest)

-- a byte that parts nothing is of the piece at hand
pub passes : (mark : ℕ) (text : List ℕ) (at end : ℕ) (whole : List (List ℕ)) → at ≤ end → end < length text → (get_or text end 0 == mark) ≡ false
    → whole ≡ all_before (slice_range text at end) (pieces mark (drop end text))
    → whole ≡ all_before (slice_range text at (end + 1)) (pieces mark (drop (end + 1) text))
passes mark text at end whole h inside other e = grind (arith, range_one_more, all_before-snoc, drop_more)

-- the byte that parts ends it
pub ends : (mark : ℕ) (text : List ℕ) (at end : ℕ) → at ≤ end → end < length text → (get_or text end 0 == mark) ≡ true
    → pieces mark (drop at text) ≡ all_before (slice_range text at end) (pieces mark (drop end text))
    → pieces_at mark text at ≡ slice_range text at end ∷ pieces_at mark text (at + length (slice_range text at end) + 1)
ends mark text at end h inside parts e = grind (arith, length-range, here, drop_more, all_before-whole)

-- the text's end does too
pub ends_text : (mark : ℕ) (text : List ℕ) (at end : ℕ) → at ≤ length text → end ≡ length text
    → pieces mark (drop at text) ≡ all_before (slice_range text at end) (pieces mark (drop end text))
    → pieces_at mark text at ≡ slice_range text at (length text) ∷ pieces_at mark text (at + length (slice_range text at (length text)) + 1)
ends_text mark text at end h whole e = grind (arith, length-range, drop_all, all_before-whole, here, no_piece)

pub from_first : (mark : ℕ) (text : List ℕ) → pieces_at mark text 0 ≡ pieces mark text
from_first mark text = here mark text 0 (omega arith)

-- ## Pieces that were joined are parted again.

same : (mark : ℕ) → (mark == mark) ≡ true
same mark = grind (arith, nat_tests)

-- the byte does not stand in the text
abbrev pub is_free : ℕ → List ℕ → Bool
is_free mark [] = true
is_free mark (byte ∷ rest) = not (byte == mark) && is_free mark rest

pub both : (a b : Bool) → a ≡ true → b ≡ true → (a && b) ≡ true
both a b e f = grind arith

pub first_of_both : (a b : Bool) → (a && b) ≡ true → a ≡ true
first_of_both a b e = grind arith

pub second_of_both : (a b : Bool) → (a && b) ≡ true → b ≡ true
second_of_both a b e = grind arith

-- ## a text without the byte

-- where each byte passes a test that the mark does not pass
pub free_where : (test : ℕ → Bool) (mark : ℕ) → ((byte : ℕ) → test byte ≡ true → (byte == mark) ≡ false) → (text : List ℕ) → list_all test text ≡ true → is_free mark text ≡ true
free_where test mark other [] h = refl
free_where test mark other (byte ∷ rest) h =
    both (not (byte == mark)) (is_free mark rest) (not_from_false (byte == mark) (other byte (first_of_both (test byte) (list_all test rest) h))) (free_where test mark other rest (second_of_both (test byte) (list_all test rest) h))

pub free_append : (mark : ℕ) (a b : List ℕ) → is_free mark a ≡ true → is_free mark b ≡ true → is_free mark (a ++ b) ≡ true
free_append mark [] b h k = k
free_append mark (byte ∷ a) b h k =
    both (not (byte == mark)) (is_free mark (a ++ b)) (first_of_both (not (byte == mark)) (is_free mark a) h) (free_append mark a b (second_of_both (not (byte == mark)) (is_free mark a) h) k)

-- ## pieces

-- it is one piece
pub alone : (mark : ℕ) (piece : List ℕ) → is_free mark piece ≡ true → pieces mark piece ≡ piece ∷ []
alone mark [] h = refl
alone mark (byte ∷ piece) h = grind (arith, common_steps, alone mark piece)

-- what stands before the byte, and what stands behind it
pub parted : (mark : ℕ) (text rest : List ℕ) → pieces mark (text ++ mark ∷ rest) ≡ pieces mark text ++ pieces mark rest
parted mark [] rest = rw (same mark) refl
parted mark (byte ∷ text) rest = grind (arith, common_steps, parted mark text rest, pieces_are_some mark text)

-- a piece without the byte is what stands before it
pub joined : (mark : ℕ) (piece rest : List ℕ) → is_free mark piece ≡ true → pieces mark (piece ++ mark ∷ rest) ≡ piece ∷ pieces mark rest
joined mark piece rest h = parted mark piece rest ∙ ap (λ ps. ps ++ pieces mark rest) (alone mark piece h)

-- ## Numbers by their digits: which words are numbers, and which are not above a bound.

pub digits_have_value : (n : ℕ) (word : List ℕ) → is_some (value_from n word) ≡ list_all is_digit word
digits_have_value n [] = refl
digits_have_value n (byte ∷ rest) = grind (arith, common_steps, digits_have_value (n * 10 + (byte - 48)) rest)

-- ## as the scenario's reader answers

-- a number, whether in the range or not
abbrev pub is_read : Result ℕ Reason → Bool
is_read (Err BadNumber) = false
is_read _ = true

value_read : (o : Option ℕ) → is_some o ≡ is_read (in_range 0 0 o)
value_read o = grind (arith, nat_tests)

pub number_read : (word : List ℕ) → is_number word ≡ is_read (number_in 0 0 word)
unfolding number_in
number_read word = value_read (number_of word)

value_within : (o : Option ℕ) (most n : ℕ) → Ok n ≡ in_range 0 most o → up_to most o ≡ Some n
value_within o most n e = grind (arith, nat_tests)

value_past : (o : Option ℕ) (most : ℕ) (why : Reason) → Err why ≡ in_range 0 most o → up_to most o ≡ None
value_past o most why e = grind (arith, nat_tests)

pub number_within : (word : List ℕ) (most n : ℕ) → Ok n ≡ number_in 0 most word → number_up_to most word ≡ Some n
unfolding number_in
number_within word most n e = value_within (number_of word) most n e

pub number_past : (word : List ℕ) (most : ℕ) (why : Reason) → Err why ≡ number_in 0 most word → number_up_to most word ≡ None
unfolding number_in
number_past word most why e = value_past (number_of word) most why e

-- ## A digest is 32 bytes, each below 256.

is_byte : ℕ → Bool
is_byte n = nat_lt n 256

a_byte : (i n : ℕ) → is_byte (byte_at i n) ≡ true
unfolding is_byte
a_byte i n = grind arith

are_bytes_high : (k n : ℕ) → list_all is_byte (bytes_high_first k n) ≡ true
are_bytes_high zero n = refl
are_bytes_high (suc k) n = both (is_byte (byte_at k n)) (list_all is_byte (bytes_high_first k n)) (a_byte k n) (are_bytes_high k n)

are_digest_bytes : (h : List ℕ) (n : ℕ) → list_all is_byte (digest_bytes h n) ≡ true
unfolding digest_bytes
are_digest_bytes h zero = refl
are_digest_bytes h (suc n) =
    list_all-append is_byte (digest_bytes h n) (to_be_bytes w32 (slice_index h n))
    ∙ both (list_all is_byte (digest_bytes h n)) (list_all is_byte (to_be_bytes w32 (slice_index h n))) (are_digest_bytes h n) (are_bytes_high 4 (slice_index h n))

bytes_are : (bytes : List ℕ) → list_all is_byte bytes ≡ true → IsBytes bytes
unfolding is_byte
bytes_are bytes h i = grind (arith, common_steps, first_of_both, is_byte, second_of_both)

pub digest_is_bytes : (bytes : List ℕ) → IsBytes (sha256 bytes)
unfolding standard
digest_is_bytes bytes = bytes_are (sha256 bytes) (are_digest_bytes _ 8)

pub record IsDigest (digest : List ℕ) : Type 0 where
  pub long : length digest ≡ 32
  pub bytes : IsBytes digest

digest_of : (bytes digest : List ℕ) → digest ≡ sha256 bytes → IsDigest digest
digest_of bytes digest e = grind (arith, length-sha256, digest_is_bytes)

-- whether the devices tell or not
pub digest_if : (tells : Option Bool) (bytes digest : List ℕ) → IsDigestIf tells bytes digest → IsDigest digest
digest_if tells bytes digest h = grind (arith, common_steps, digest_of)

pub digest_told : (bytes : List ℕ) → IsDigest (sha256 bytes)
digest_told bytes = digest_of bytes (sha256 bytes) refl

pub record IsFirst (first : List ℕ) : Type 0 where
  pub long : length first ≡ 8
  pub bytes : IsBytes first

pub first_if : (tells : Option Bool) (bytes first : List ℕ) → HasHead tells bytes → IsFirstIf tells bytes first → IsFirst first
first_if tells bytes first head h = grind arith

-- The words of a report, each read as what it is, the texts of a line, and a scenario whose names are by the grammar.
use Rattle.std.proofs.Common.{◌≡◌, ◌∙◌, ℕ, zero, suc, ◌+◌, ◌-◌, ◌*◌, ◌/◌, ◌%◌, ◌^◌, ◌<◌, Bool, true, false, List, [], ◌∷◌, ◌++◌, length, get_or, Some, None}
use Rattle.std.proofs.Common.{refl, ap, sym, arith, subst, map, Option, rules}
use Rattle.std.proofs.lemmas.Bool.Decides.{nat_tests}
use Rattle.std.proofs.lemmas.Fmt.{decimal_by_steps, decimal_digit, decimal_nonempty, first_decimal}
use Rattle.std.proofs.lemmas.Grind.{common_steps}
use Rattle.std.proofs.lemmas.List.{append_assoc, append-nil}
use Rattle.std.proofs.lemmas.List.Elements.{All-head, All-tail}
use Rattle.std.specs.Fmt.{decimal}
use Rattle.std.specs.List.{list_all}
use Rattle.std.specs.Prelude.{◌==◌, ◌&&◌, if◌then◌else◌, is_some, slice_index, All, slice_get}
use Rattle.std.specs.Str.{bytes_eq}
use Rattle.hex.proofs.HexLemmas.{length-encode_with}
use Rattle.hex.specs.Hex.{IsBytes, encode_with, encode_lower, lower_digits}
use Rattle.vss_names.specs.Names.{is_name_byte, is_name}
use Rattle.vss_names.specs.Order as order
use Rattle.vss_names.specs.VssResult as result
use Rattle.vss_names.specs.WriterError as error
use Rattle.vss_names.specs.declared.order.Order.{Order}
use Rattle.vss_names.specs.declared.vss_result.VssResult.{VssResult}
use Rattle.vss_names.specs.declared.writer_error.WriterError.{WriterError}
use Rattle.vss_names.proofs.LookUps.{order_of_name-name_of, vss_result_of_name-name_of, error_of_name-name_of}
use Rattle.scenario.specs.Bounds.{IsPlan}
use Rattle.scenario.specs.Fields.{bytes_of}
use Rattle.scenario.specs.Named.{AllNamed, Differ, Distinct, volume_spans, writer_spans, lane_spans, Numbered, AllNumbered, HasNames}
use Rattle.scenario.specs.Numbers.{is_digit, begins_number, value_from, number_of}
use Rattle.scenario.specs.Plan.{Plan, WriterPlan, LanePlan, LaneLine, lines_in as lines_in_lane}
use Rattle.scenario.specs.declared.span.Span.{Span}
use Rattle.scenario.specs.declared.volume_row.VolumeRow.{VolumeRow}
use Rattle.vss_report.specs.Legible.{IsShort, AreApart, AreNames, IsLegible}
use Rattle.vss_report.specs.Pieces.{pieces}
use Rattle.vss_report.specs.Shapes.{is_number, is_hex_digit, is_hex, is_order, is_result}
use Rattle.vss_report.specs.Words.{spaced, sets_text, volume_in, volume_text, writer_in, writer_text, lane_in, lane_text}
use Rattle.vss_report.proofs.Joined.{is_free, both, first_of_both, second_of_both, free_where, free_append, alone, parted, digits_have_value}

-- ## The words of a report: numbers, digits, names and codes. None of them has a space or a newline in it, and each is read as what it is.

-- no space and no newline is in it
pub record IsWord (word : List ℕ) : Type 0 where
  pub space : is_free 32 word ≡ true
  pub line : is_free 10 word ≡ true

-- ## the same bytes

pub same_bytes : (word : List ℕ) → bytes_eq word word ≡ true
same_bytes word = search (rules, both)

-- ## numbers

digit_is : (d : ℕ) → d < 10 → is_digit (48 + d) ≡ true
digit_is d l = grind (arith, nat_tests)

value_more : (n m d : ℕ) (ds : List ℕ) → d < 10 → value_from n ds ≡ Some m → value_from n (ds ++ (48 + d) ∷ []) ≡ Some (m * 10 + d)
value_more n m d [] l e = grind (arith, common_steps, digit_is)
value_more n m d (c ∷ ds) l e = grind (arith, common_steps, value_more (n * 10 + (c - 48)) m d ds l)

value_back : (n : ℕ) → n < 2 ^ 64 → value_from 0 (decimal n) ≡ Some n
value_back n small = decimal_by_steps (λ m ds. value_from 0 ds ≡ Some m) (λ m l. value_more 0 0 m [] l refl ∙ ap Some (omega arith))
    (λ m ds l h. value_more 0 (m / 10) (m % 10) ds (omega arith) h ∙ ap Some (omega arith)) n small

-- it begins with another digit than 0
begins_well : (digits : List ℕ) → 0 < length digits → 48 < get_or digits 0 0 → begins_number digits ≡ true
begins_well digits some h = grind (arith, nat_tests)

begins_back : (n : ℕ) → n < 2 ^ 64 → begins_number (decimal n) ≡ true
begins_back n small = grind (arith, decimal_digit, begins_well, decimal_nonempty, first_decimal)

-- a number that was written reads back
pub number_back : (n : ℕ) → n < 2 ^ 64 → number_of (decimal n) ≡ Some n
number_back n small = ap (λ (b : Bool). if b then value_from 0 (decimal n) else None) (begins_back n small) ∙ value_back n small

pub is_number_back : (n : ℕ) → n < 2 ^ 64 → is_number (decimal n) ≡ true
is_number_back n small = ap is_some (number_back n small)

pub are_digits : (n : ℕ) → n < 2 ^ 64 → list_all is_digit (decimal n) ≡ true
are_digits n small = sym (digits_have_value 0 (decimal n)) ∙ ap is_some (value_back n small)

digit_no_space : (byte : ℕ) → is_digit byte ≡ true → (byte == 32) ≡ false
digit_no_space byte h = grind (arith, nat_tests)

digit_no_newline : (byte : ℕ) → is_digit byte ≡ true → (byte == 10) ≡ false
digit_no_newline byte h = grind (arith, nat_tests)

pub number_word : (n : ℕ) → n < 2 ^ 64 → IsWord (decimal n)
number_word n small = search (rules, free_where, digit_no_space, are_digits, digit_no_newline)

-- a number is no word that begins with another byte
pub no_number : (c : ℕ) (cs digits : List ℕ) → is_digit c ≡ false → list_all is_digit digits ≡ true → bytes_eq digits (c ∷ cs) ≡ false
no_number c cs digits other h = search (rules, first_of_both)

-- ## digits of bytes

-- the digits at the first n places of the table
abbrev all_hex : ℕ → Bool
all_hex zero = true
all_hex (suc n) = is_hex_digit (slice_index lower_digits n) && all_hex n

hex_below : (n d : ℕ) → all_hex n ≡ true → d < n → is_hex_digit (slice_index lower_digits d) ≡ true
hex_below zero d h l = absurd (omega arith)
hex_below (suc n) d h l =
    grind (arith, common_steps, second_of_both, first_of_both, hex_below n d (second_of_both (is_hex_digit (slice_index lower_digits n)) (all_hex n) h))

hex_at : (d : ℕ) → d < 16 → is_hex_digit (slice_index lower_digits d) ≡ true
hex_at d l = hex_below 16 d refl l

are_hex_digits : (bytes : List ℕ) → IsBytes bytes → list_all is_hex_digit (encode_lower bytes) ≡ true
unfolding encode_with
are_hex_digits [] h = refl
are_hex_digits (b ∷ bytes) h =
    let byte : b < 256 = h 0 in
    both (is_hex_digit (slice_index lower_digits (b / 16))) (is_hex_digit (slice_index lower_digits (b % 16)) && list_all is_hex_digit (encode_lower bytes)) (hex_at (b / 16) (omega arith))
    (both (is_hex_digit (slice_index lower_digits (b % 16))) (list_all is_hex_digit (encode_lower bytes)) (hex_at (b % 16) (omega arith)) (are_hex_digits bytes (λ i. h (suc i))))

pub is_hex_back : (count n : ℕ) (bytes : List ℕ) → length bytes ≡ n → count ≡ 2 * n → IsBytes bytes → is_hex count (encode_lower bytes) ≡ true
is_hex_back count n bytes long twice h = grind (arith, length-encode_with, both, are_hex_digits)

hex_no_space : (byte : ℕ) → is_hex_digit byte ≡ true → (byte == 32) ≡ false
hex_no_space byte h = grind (arith, nat_tests)

hex_no_newline : (byte : ℕ) → is_hex_digit byte ≡ true → (byte == 10) ≡ false
hex_no_newline byte h = grind (arith, nat_tests)

pub hex_word : (bytes : List ℕ) → IsBytes bytes → IsWord (encode_lower bytes)
hex_word bytes h = search (rules, free_where, hex_no_space, are_hex_digits, hex_no_newline)

-- ## names of a scenario

are_name_bytes : (name : List ℕ) → is_name name ≡ true → list_all is_name_byte name ≡ true
unfolding is_name
are_name_bytes name h = grind arith

name_no_space : (byte : ℕ) → is_name_byte byte ≡ true → (byte == 32) ≡ false
name_no_space byte h = grind (arith, nat_tests)

name_no_newline : (byte : ℕ) → is_name_byte byte ≡ true → (byte == 10) ≡ false
name_no_newline byte h = grind (arith, nat_tests)

name_no_equals : (byte : ℕ) → is_name_byte byte ≡ true → (byte == 61) ≡ false
name_no_equals byte h = grind (arith, nat_tests)

pub name_word : (name : List ℕ) → is_name name ≡ true → IsWord name
name_word name h = search (rules, free_where, name_no_space, are_name_bytes, name_no_newline)

pub name_free : (name : List ℕ) → is_name name ≡ true → is_free 61 name ≡ true
name_free name h = free_where is_name_byte 61 name_no_equals name (are_name_bytes name h)

-- ## names of the tables

pub result_word : (why : VssResult) → IsWord (result.name_of why)
result_word why = grind arith

pub order_word : (o : Order) → IsWord (order.name_of o)
order_word o = grind arith

pub is_result_back : (why : VssResult) → is_result (result.name_of why) ≡ true
is_result_back why = ap is_some (vss_result_of_name-name_of why)

pub is_order_back : (o : Order) → is_order (order.name_of o) ≡ true
is_order_back o = ap is_some (order_of_name-name_of o)

pub is_error_back : (e : WriterError) → is_some (error.error_of_name (error.name_of e)) ≡ true
is_error_back e = ap is_some (error_of_name-name_of e)

-- ## Texts of a line and their words: a space joins them.

-- a text without a newline, by its words
pub record Says (text : List ℕ) (words : List (List ℕ)) : Type 0 where
  pub pieces_are : pieces 32 text ≡ words
  pub line : is_free 10 text ≡ true

pub says_word : (word : List ℕ) → IsWord word → Says word (word ∷ [])
says_word word h = record { pieces_are = alone 32 word h.space; line = h.line }

pub says_number : (n : ℕ) → IsShort n → Says (decimal n) (decimal n ∷ [])
says_number n h = says_word (decimal n) (number_word n h)

pub says_spaced : (a b : List ℕ) (ws vs : List (List ℕ)) → Says a ws → Says b vs → Says (a ++ spaced b) (ws ++ vs)
says_spaced a b ws vs h k = grind (arith, parted, free_append)

-- the next text begins with a space and more
pub says_then : (a more b : List ℕ) (ws vs : List (List ℕ)) → Says a ws → Says (more ++ b) vs → Says (a ++ spaced more ++ b) (ws ++ vs)
says_then a more b ws vs h k = subst (λ text. Says text (ws ++ vs)) (sym (append_assoc a (spaced more) b)) (says_spaced a (more ++ b) ws vs h k)

-- one space and a number for each of these
pub says_sets : (a : List ℕ) (ws : List (List ℕ)) (sets : List ℕ) → Says a ws → All IsShort sets → Says (a ++ sets_text sets) (ws ++ map decimal sets)
says_sets a ws [] h short = subst (λ text. Says text (ws ++ [])) (sym (append-nil a)) (subst (Says a) (sym (append-nil ws)) h)
says_sets a ws (n ∷ sets) h short =
    let more = says_sets (a ++ spaced (decimal n)) (ws ++ decimal n ∷ []) sets (says_spaced a (decimal n) ws (decimal n ∷ []) h (says_number n (All-head IsShort n sets short))) (All-tail IsShort n sets short) in
    subst (λ text. Says text (ws ++ decimal n ∷ map decimal sets)) (append_assoc a (spaced (decimal n)) (sets_text sets))
    (subst (Says (a ++ spaced (decimal n) ++ sets_text sets)) (append_assoc ws (decimal n ∷ []) (map decimal sets)) more)

-- ## A scenario whose names are by the grammar, and apart, is legible.

span_text : List ℕ → Option Span → List ℕ
span_text text None = []
span_text text (Some span) = bytes_of text span

unlike : (text : List ℕ) (first : Span) (spans : List Span) (j : ℕ) → Differ text first spans → j < length spans → bytes_of text first ≡ span_text text (slice_get spans j) → ⊥
unfolding span_text
unlike text first [] j h l e = omega arith
unlike text first (span ∷ spans) zero h l e = grind (arith, common_steps, same_bytes)
unlike text first (span ∷ spans) (suc j) h l e = unlike text first spans j h.1 (omega arith) e

apart : (text : List ℕ) (spans : List Span) (i j : ℕ) → Distinct text spans → i < length spans → j < length spans → span_text text (slice_get spans i) ≡ span_text text (slice_get spans j) → i ≡ j
unfolding span_text
apart text [] i j h l m e = absurd (omega arith)
apart text (x ∷ spans) zero zero h l m e = refl
apart text (x ∷ spans) zero (suc j) h l m e = absurd (unlike text x spans j h.0 (omega arith) e)
apart text (x ∷ spans) (suc i) zero h l m e = absurd (unlike text x spans i h.0 (omega arith) (sym e))
apart text (x ∷ spans) (suc i) (suc j) h l m e = ap suc (apart text spans i j h.1 (omega arith) (omega arith) e)

named_at : (text : List ℕ) (spans : List Span) (i : ℕ) → AllNamed text spans → i < length spans → is_name (span_text text (slice_get spans i)) ≡ true
unfolding span_text
named_at text [] i h l = absurd (omega arith)
named_at text (x ∷ spans) zero h l = h.0
named_at text (x ∷ spans) (suc i) h l = named_at text spans i h.1 (omega arith)

number_at : (k : ℕ) (lines : List LaneLine) (j : ℕ) (l : LaneLine) → Numbered k lines → slice_get lines j ≡ Some l → l.number < k
number_at k [] j l h e = absurd cc
number_at k (x ∷ lines) zero l h e = let same : x ≡ l = cc in subst (λ y. y.number < k) same h.0
number_at k (x ∷ lines) (suc j) l h e = number_at k lines j l h.1 e

number_in_lane : (k : ℕ) (lanes : List LanePlan) (i j : ℕ) (l : LaneLine) → AllNumbered k lanes → slice_get (lines_in_lane (slice_get lanes i)) j ≡ Some l → l.number < k
number_in_lane k [] i j l h e = absurd cc
number_in_lane k (x ∷ lanes) zero j l h e = number_at k x.lines j l h.0 e
number_in_lane k (x ∷ lanes) (suc i) j l h e = number_in_lane k lanes i j l h.1 e

length-spans : {X : Type 0} (f : X → Span) (xs : List X) → length (map f xs) ≡ length xs
length-spans f xs = grind (arith, common_steps)

volume_is : (s : Plan) (rows : List VolumeRow) (v : ℕ) → volume_in s (slice_get rows v) ≡ span_text s.source (slice_get (volume_spans rows) v)
unfolding span_text
volume_is s [] v = refl
volume_is s (r ∷ rows) zero = refl
volume_is s (r ∷ rows) (suc v) = volume_is s rows v

writer_is : (s : Plan) (ws : List WriterPlan) (w : ℕ) → writer_in s (slice_get ws w) ≡ span_text s.source (slice_get (writer_spans ws) w)
unfolding span_text
writer_is s [] w = refl
writer_is s (x ∷ ws) zero = refl
writer_is s (x ∷ ws) (suc w) = writer_is s ws w

lane_is : (s : Plan) (lanes : List LanePlan) (i : ℕ) → lane_in s (slice_get lanes i) ≡ span_text s.source (slice_get (lane_spans lanes) i)
unfolding span_text
lane_is s [] i = refl
lane_is s (l ∷ lanes) zero = refl
lane_is s (l ∷ lanes) (suc i) = lane_is s lanes i

are_names : (text : List ℕ) (name_of : ℕ → List ℕ) (spans : List Span) (count : ℕ) → length spans ≡ count → ((i : ℕ) → name_of i ≡ span_text text (slice_get spans i)) → AllNamed text spans → AreNames name_of count
are_names text name_of spans count long is h i l = ap is_name (is i) ∙ named_at text spans i h (omega (arith, long))

are_apart : (text : List ℕ) (name_of : ℕ → List ℕ) (spans : List Span) (count : ℕ) → length spans ≡ count → ((i : ℕ) → name_of i ≡ span_text text (slice_get spans i)) → Distinct text spans → AreApart name_of count
are_apart text name_of spans count long is h i j l m e = apart text spans i j h (omega (arith, long)) (omega (arith, long)) (sym (is i) ∙ e ∙ is j)

pub named_legible : (s : Plan) → IsPlan s → HasNames s → IsLegible s
named_legible s plan h = record {
  volumes = are_names s.source (volume_text s) (volume_spans s.volumes) (length s.volumes) (length-spans (λ (r : VolumeRow). r.name) s.volumes) (volume_is s s.volumes) h.volumes;
  writers = are_names s.source (writer_text s) (writer_spans s.writers) (length s.writers) (length-spans (λ (w : WriterPlan). w.name) s.writers) (writer_is s s.writers) h.writers;
  lanes = are_names s.source (lane_text s) (lane_spans s.lanes) (length s.lanes) (length-spans (λ (l : LanePlan). l.name) s.lanes) (lane_is s s.lanes) h.lanes;
  writers_apart = are_apart s.source (writer_text s) (writer_spans s.writers) (length s.writers) (length-spans (λ (w : WriterPlan). w.name) s.writers) (writer_is s s.writers) h.writers_apart;
  lanes_apart = are_apart s.source (lane_text s) (lane_spans s.lanes) (length s.lanes) (length-spans (λ (l : LanePlan). l.name) s.lanes) (lane_is s s.lanes) h.lanes_apart;
  lines = λ i j l e. below l.number (length s.source) (number_in_lane (length s.source + 2) s.lanes i j l h.lines e) plan.short;
}
  where
    below : (n m : ℕ) → n < m + 2 → m < 4294967295 → n < 2 ^ 64
    below n m l h = omega arith

-- The lanes that write: each line is read as the write that it is; and the text is short.
use Rattle.std.proofs.Common.{◌≡◌, ◌∙◌, ℕ, ◌-◌, ◌<◌, ◌≤◌, Bool, true, List, [], ◌∷◌, ◌++◌, map, refl, ap, ap₂, sym, arith, codes, append_assoc, suc, ◌+◌, ◌*◌}
use Rattle.std.proofs.Common.{length, length-append}
use Rattle.std.specs.Prelude.{◌&&◌, nat_lt, nat_le, count_by, Ok}
use Rattle.scenario.specs.Ops.{block_at as block_value}
use Rattle.generated.proofs.Generated.{blocks_from, volume_below, block_below}
use Rattle.generated.proofs.SetTexts.{Makes, HasSpace, lane_line, lines_then, many_lines, all_declared, volume_is}
use Rattle.generated.proofs.Meant.{IsDeclared, Meaning, Does, AreMeant, begins, all_end, Run, IsSaid, with_meant}
use Rattle.generated.proofs.Reader.{head_is, tail_is, Then, line_then, same_rest, are_words, spans_at, number_word, number_reads}
use Rattle.generated.proofs.Terms.{list_all, range_with_len, flat_map, decimal, decimal_digit, nat_tests, Op, WriteStamp, LaneLine, span_from, bytes_of}
use Rattle.generated.proofs.Terms.{text_field, fields_of, number_in, word_of, number_field, volume_field, payload_of, write_of, op_of, SoFar, row_of, volume_at}
use Rattle.generated.proofs.Terms.{block_at, stamp_at, drawn_text, writes_text, write_at, both, length-decimal-le, as_lines, declarations, set_lines, acting}
use Rattle.generated.proofs.Terms.{lane_text, lanes_text, gen_text, first_of_both, second_of_both}

-- ## The lanes that write: each line is read as the write that it is, whatever the number of the scenario.

-- ## a write

-- a volume, a block and a number that a line may have
pub record IsWrite (v b s : ℕ) : Type 0 where
  pub volume : v < 8
  pub block : b < 256
  pub stamp : s ≤ 18446744073709551615

abbrev pub write_words : ℕ → ℕ → ℕ → List (List ℕ)
write_words v b s = codes "write" ∷ (118 ∷ decimal v) ∷ decimal b ∷ codes "stamp" ∷ decimal s ∷ []

within : (low high n : ℕ) → low ≤ n → n ≤ high → (nat_le low n && nat_le n high) ≡ true
within low high n l h = grind (arith, nat_tests)

known : (v : ℕ) → v < 8 → nat_lt v 8 ≡ true
known v l = grind (arith, nat_tests)

write_are_words : (v b s : ℕ) → IsWrite v b s → are_words (write_words v b s) ≡ true
write_are_words v b s w = grind (arith, both, number_word)

volume_reads : (text : List ℕ) (d : SoFar) (v start end : ℕ) → IsDeclared text all_declared d → v < 8 → bytes_of text (span_from start end) ≡ 118 ∷ decimal v → volume_field text d.volumes (span_from start end) ≡ Ok v
unfolding volume_field
volume_reads text d v start end h l e = volume_is text d v h (known v l) (bytes_of text (span_from start end)) (e ∙ ap (λ ds. 118 ∷ ds) (decimal_digit v (omega (arith, l))))

block_reads : (text : List ℕ) (d : SoFar) (v b start end : ℕ) → IsDeclared text all_declared d → v < 8 → b < 256 → bytes_of text (span_from start end) ≡ decimal b → block_value text d.volumes v (text_field (span_from start end)) ≡ Ok b
unfolding number_field
block_reads text d v b start end h l m e =
    ap₂ (λ n (bytes : List ℕ). number_in 0 (n - 1) bytes) (blocks_from 0 8 v d.volumes h.shapes l) e
    ∙ number_reads 0 255 b (omega (arith, m)) (within 0 255 b (omega arith) (omega (arith, m)))

stamp_reads : (text : List ℕ) (v b s at end start stop : ℕ) → s ≤ 18446744073709551615 → bytes_of text (span_from at end) ≡ codes "stamp" → bytes_of text (span_from start stop) ≡ decimal s
    → payload_of text v b (text_field (span_from at end)) (text_field (span_from start stop)) ≡ Ok (WriteStamp v b s)
unfolding number_field
stamp_reads text v b s at end start stop small kind digits = grind (arith, number_reads, within)

write_makes : (text : List ℕ) (d : SoFar) (v b s at : ℕ) → IsDeclared text all_declared d → IsWrite v b s
    → map (bytes_of text) (spans_at at ((118 ∷ decimal v) ∷ decimal b ∷ codes "stamp" ∷ decimal s ∷ [])) ≡ (118 ∷ decimal v) ∷ decimal b ∷ codes "stamp" ∷ decimal s ∷ []
    → Makes text (Does (WriteStamp v b s)) (write_of text d.volumes (fields_of (spans_at at ((118 ∷ decimal v) ∷ decimal b ∷ codes "stamp" ∷ decimal s ∷ []))))
unfolding write_of
write_makes text d v b s at h w parts = grind (arith, tail_is, volume_reads, head_is, block_reads, stamp_reads)

write_line : (text more : List ℕ) (run : Run) (v b s : ℕ) → IsWrite v b s → HasSpace 1 run
    → Then text (line_then (write_words v b s) more) (IsSaid text all_declared run) → Then text more (IsSaid text all_declared (with_meant (Does (WriteStamp v b s) ∷ []) run))
unfolding word_of row_of op_of
write_line text more run v b s w space =
    lane_line text more all_declared run 119 (codes "rite") ((118 ∷ decimal v) ∷ decimal b ∷ codes "stamp" ∷ decimal s ∷ []) _ (Does (WriteStamp v b s)) (write_are_words v b s w) refl refl
    (record { stands = refl; row = λ t d n f. refl }) space (λ d h at parts. write_makes text d v b s at h w parts)

-- ## the writes of a lane

stamp_below : (i k : ℕ) → i < 16 → k < 200 → stamp_at i k ≤ 18446744073709551615
unfolding stamp_at
stamp_below i k l m = omega (arith, l, m)

-- line k of lane i is a write
abbrev pub is_early : ℕ → Bool
is_early k = nat_lt k 200

pub drawn_write : (n i k : ℕ) → i < 16 → is_early k ≡ true → IsWrite (volume_at n i k) (block_at n i k) (stamp_at i k)
drawn_write n i k l early = grind (arith, volume_below, block_below, stamp_below)

abbrev drawn_words : ℕ → ℕ → ℕ → List (List ℕ)
drawn_words n i k = write_words (volume_at n i k) (block_at n i k) (stamp_at i k)

abbrev pub does_write : ℕ → ℕ → ℕ → Meaning
does_write n i k = Does (write_at n i k)

-- what lane i writes
abbrev pub writes_meant : ℕ → ℕ → List Meaning
writes_meant n i = map (does_write n i) (range_with_len 0 200)

-- seven parts one after another, and then the rest
seven : (a b c d e f g rest : List ℕ) → (a ++ b ++ c ++ d ++ e ++ f ++ g) ++ rest ≡ a ++ (b ++ (c ++ (d ++ (e ++ (f ++ (g ++ rest))))))
seven a b c d e f g rest = simp append_assoc

line_text : (v b s rest : List ℕ)
    → (codes "write v" ++ v ++ codes " " ++ b ++ codes " stamp " ++ s ++ codes "\n") ++ rest ≡ line_then (codes "write" ∷ (118 ∷ v) ∷ b ∷ codes "stamp" ∷ s ∷ []) rest
line_text v b s rest = seven (codes "write v") v (codes " ") b (codes " stamp ") s (codes "\n") rest ∙ ap (λ xs. codes "write v" ++ xs) (sym outer)
  where
    outer : (v ++ (32 ∷ (b ++ (codes " stamp " ++ s)))) ++ 10 ∷ rest ≡ v ++ (32 ∷ (b ++ (codes " stamp " ++ (s ++ 10 ∷ rest))))
    outer = append_assoc v _ (10 ∷ rest) ∙ ap (λ xs. v ++ 32 ∷ xs) (append_assoc b _ (10 ∷ rest))

lines_text : (n i : ℕ) (ks : List ℕ) (rest : List ℕ) → flat_map (drawn_text n i) ks ++ rest ≡ lines_then (drawn_words n i) ks rest
lines_text n i [] rest = refl
lines_text n i (k ∷ ks) rest =
    append_assoc (drawn_text n i k) (flat_map (drawn_text n i) ks) rest
    ∙ ap (λ xs. drawn_text n i k ++ xs) (lines_text n i ks rest)
    ∙ line_text (decimal (volume_at n i k)) (decimal (block_at n i k)) (decimal (stamp_at i k)) (lines_then (drawn_words n i) ks rest)

all_early : list_all is_early (range_with_len 0 200) ≡ true
all_early = refl

pub write_lines : (text rest : List ℕ) (run : Run) (n i : ℕ) → i < 16 → HasSpace 200 run
    → Then text (writes_text n i ++ rest) (IsSaid text all_declared run) → Then text rest (IsSaid text all_declared (with_meant (writes_meant n i) run))
unfolding writes_text
write_lines text rest run n i l space t =
    many_lines text rest all_declared (drawn_words n i) (does_write n i) is_early
    (λ k more r early room. write_line text more r (volume_at n i k) (block_at n i k) (stamp_at i k) (drawn_write n i k l early) room)
    (range_with_len 0 200) run all_early space
    (same_rest text (flat_map (drawn_text n i) (range_with_len 0 200) ++ rest) (lines_then (drawn_words n i) (range_with_len 0 200) rest) (IsSaid text all_declared run) (lines_text n i (range_with_len 0 200) rest) t)

-- ## writes begin and end nothing

pub writes_begin_none : (n i : ℕ) (ks : List ℕ) → count_by begins (map (does_write n i) ks) ≡ 0
writes_begin_none n i [] = refl
writes_begin_none n i (k ∷ ks) = writes_begin_none n i ks

pub writes_end : (n i : ℕ) (ks : List ℕ) → all_end (map (does_write n i) ks) ≡ true
writes_end n i [] = refl
writes_end n i (k ∷ ks) = writes_end n i ks

pub writes_are : (text : List ℕ) (n i : ℕ) (ks : List ℕ) (ls : List LaneLine) → AreMeant text (map (does_write n i) ks) ls → map (λ (l : LaneLine). l.op) ls ≡ map (write_at n i) ks
writes_are text n i [] [] h = refl
writes_are text n i [] (l ∷ ls) h = absurd h
writes_are text n i (k ∷ ks) [] h = absurd h
writes_are text n i (k ∷ ks) (l ∷ ls) h = ap₂ (λ (x : Op) (xs : List Op). x ∷ xs) h.0 (writes_are text n i ks ls h.1)

-- ## The text of a generated scenario is short.

few_digits : (n : ℕ) → n ≤ 18446744073709551615 → length (decimal n) ≤ 20
few_digits n small = length-decimal-le 20 n (omega arith) (omega (arith, small)) (omega (arith, small))

length_of_seven : (a b c d e f g : List ℕ) → length (a ++ b ++ c ++ d ++ e ++ f ++ g) ≡ length a + length b + length c + length d + length e + length f + length g
length_of_seven a b c d e f g = simp length-append

length_of_five : (a b c d e : List ℕ) → length (a ++ b ++ c ++ d ++ e) ≡ length a + length b + length c + length d + length e
length_of_five a b c d e = simp length-append

line_short : (v b s : List ℕ) → length v ≤ 20 → length b ≤ 20 → length s ≤ 20 → length (codes "write v" ++ v ++ codes " " ++ b ++ codes " stamp " ++ s ++ codes "\n") ≤ 100
line_short v b s lv lb ls = let all = length_of_seven (codes "write v") v (codes " ") b (codes " stamp ") s (codes "\n") in omega (arith, all, lv, lb, ls)

drawn_short : (n i k : ℕ) → i < 16 → is_early k ≡ true → length (drawn_text n i k) ≤ 100
drawn_short n i k l early = grind (arith, drawn_write, line_short, few_digits)

-- texts of these, each of at most so many bytes
all_short : (text : ℕ → List ℕ) (good : ℕ → Bool) (most : ℕ) → ((k : ℕ) → good k ≡ true → length (text k) ≤ most) → (ks : List ℕ) → list_all good ks ≡ true → length (flat_map text ks) ≤ most * length ks
all_short text good most each [] all = omega arith
all_short text good most each (k ∷ ks) all =
    let joined = length-append (text k) (flat_map text ks) in
    let first = each k (first_of_both (good k) (list_all good ks) all) in
    let rest = all_short text good most each ks (second_of_both (good k) (list_all good ks) all) in
    grown most (length ks) (length (text k)) (length (flat_map text ks)) (length (text k ++ flat_map text ks)) joined first rest
  where
    grown : (most count first rest whole : ℕ) → whole ≡ first + rest → first ≤ most → rest ≤ most * count → whole ≤ most * suc count
    grown most count first rest whole e f r = omega (arith, e, f, r)

writes_short : (n i : ℕ) → i < 16 → length (writes_text n i) ≤ 20000
unfolding writes_text
writes_short n i l = all_short (drawn_text n i) is_early 100 (λ k early. drawn_short n i k l early) (range_with_len 0 200) refl

acting_short : (i : ℕ) → length (acting i) ≤ 7
acting_short i = grind arith

abbrev is_lane : ℕ → Bool
is_lane i = nat_lt i 16

lane_short : (n i : ℕ) → is_lane i ≡ true → length (lane_text n i) ≤ 20100
lane_short n i e =
    let l = less i e in
    joined (decimal i) (acting i) (writes_text n i) (few_digits i (omega (arith, l))) (acting_short i) (writes_short n i l)
  where
    less : (i : ℕ) → nat_lt i 16 ≡ true → i < 16
    less i e = grind (arith, nat_tests)

    joined : (ds who writes : List ℕ) → length ds ≤ 20 → length who ≤ 7 → length writes ≤ 20000 → length (codes "lane l" ++ ds ++ who ++ codes "\n" ++ writes) ≤ 20100
    joined ds who writes a b c = let all = length_of_five (codes "lane l") ds who (codes "\n") writes in omega (arith, all, a, b, c)

lanes_short : (n : ℕ) → length (lanes_text n) ≤ 301500
lanes_short n = all_short (lane_text n) is_lane 20100 (lane_short n) (range_with_len 1 15) refl

with_head : (lanes : List ℕ) → length lanes ≤ 301500 → length (as_lines declarations ++ codes "lane l0\n" ++ as_lines set_lines ++ as_lines set_lines ++ as_lines set_lines ++ as_lines set_lines ++ lanes) < 4294967295
with_head lanes l = omega (arith, l)

pub text_short : (n : ℕ) → length (gen_text n) < 4294967295
text_short n = with_head (lanes_text n) (lanes_short n)

-- What the parser of command lines makes of at most three words, none of which begins with a hyphen: the first, the second and
-- the third positional have one each, in order, and no word is refused.
use Rattle.std.proofs.Common.{◌≡◌, ◌∙◌, ℕ, List, [], ◌∷◌, Some, None, refl, Bool, true, false, ap, ap₂, length, map, codes, arith, ◌<◌, ◌≤◌}
use Rattle.std.specs.Prelude.{◌&&◌, ◌||◌, not, nat_le, slice_get, if◌then◌else◌, option_and_then, is_some, String, string_bytes}
use Rattle.std.specs.List.{list_all}
use Rattle.std.specs.Global.{Global}
use Rattle.std.specs.Option.{option_map_or}
use Rattle.std.specs.Str.{bytes_eq}
use Rattle.std.proofs.lemmas.Bool.Decides.{nat_tests}
use Rattle.clap.specs.Lexer.{strip_byte, long_of_rest, long_of, short_of_rest, short_of}
use Rattle.clap.specs.Walk.{Rule, Text, Held, Step, Walk, trailing, first_of, word_met, idle, value, after_step, walked, walk_from, nothing_held, finished, long_or_other, short_or_plain}
use Rattle.clap.specs.Simple.{App, Shape, matches_of, is_simple, new_app, new_rule, with_rule, on_top, built, entered}
use Rattle.clap.specs.Takes.{takes, bundle_passes, turn_passes, word_passes, step_passes, walk_passes, flag_word_passes, settle_passes, default_passes, is_valid, entered_passes}
use Rattle.vss_main.specs.Command.{is_dashed, are_plain}

abbrev pub no_name : Shape → Shape
no_name s = record s { no_binary_name = true }

abbrev pub no_help : Shape → Shape
no_help s = record s { disable_help_flag = true }

abbrev pub parser : App
parser = with_rule (with_rule (with_rule (on_top no_help (on_top no_name (new_app (codes "vss")))) (new_rule (codes "first"))) (new_rule (codes "second"))) (new_rule (codes "third"))

pub is_simple_parser : is_simple parser ≡ true
is_simple_parser = refl

abbrev top : Shape
top = (built parser).top

abbrev rules : List Rule
rules = top.rules

-- ## one word

not_dashes : (word : Text) → is_dashed word ≡ false → bytes_eq word (45 ∷ 45 ∷ []) ≡ false
not_dashes [] e = refl
not_dashes (x ∷ xs) e = ap (λ b. b && bytes_eq xs (45 ∷ [])) e

not_long : (word : Text) → is_dashed word ≡ false → long_of word ≡ None
not_long [] e = refl
not_long (x ∷ xs) e = ap (λ (b : Bool). option_and_then long_of_rest (option_and_then (strip_byte 45) (if b then Some xs else None))) e

not_short : (word : Text) → is_dashed word ≡ false → short_of word ≡ None
not_short [] e = refl
not_short (x ∷ xs) e = ap (λ (b : Bool). option_and_then short_of_rest (if b then Some xs else None)) e

-- such a word goes to a positional
plain_word : (c : List Rule) (position : ℕ) (word : Text) (h : Held) → is_dashed word ≡ false → word_met c [] false idle position word h ≡ (h, value)
plain_word c position word h e =
    ap (λ (b : Bool). if b then (h, trailing position) else long_or_other c idle word (long_of word) h) (not_dashes word e)
    ∙ ap (λ o. long_or_other c idle word o h) (not_long word e)
    ∙ ap (λ o. short_or_plain c idle word o h) (not_short word e)

-- and is refused by none of the checks of a word
word_goes : (s : Shape) (word : Text) (h : Held) → is_dashed word ≡ false → word_passes s [] false idle word h ≡ true
word_goes s word h e =
    ap (λ b. b || flag_word_passes s.rules s.args_override_self (long_of word) word h) (not_dashes word e)
    ∙ ap (λ o. flag_word_passes s.rules s.args_override_self o word h) (not_long word e)
    ∙ ap (λ o. option_map_or (λ flags. bundle_passes s.rules s.args_override_self flags h) o true) (not_short word e)

-- ## three words

abbrev w0 : Walk
w0 = walk_from nothing_held

abbrev w1 : Text → Walk
w1 a = after_step rules a w0 nothing_held value

abbrev w2 : Text → Text → Walk
w2 a b = after_step rules b (w1 a) (w1 a).held value

abbrev w3 : Text → Text → Text → Walk
w3 a b c = after_step rules c (w2 a b) (w2 a b).held value

first_step : (a : Text) → is_dashed a ≡ false → walked rules [] w0 a ≡ w1 a
unfolding walked
first_step a e = ap (λ (p : Held × Step). after_step rules a w0 p.0 p.1) (plain_word rules 1 a nothing_held e)

second_step : (a b : Text) → is_dashed b ≡ false → walked rules [] (w1 a) b ≡ w2 a b
unfolding walked
second_step a b e = ap (λ (p : Held × Step). after_step rules b (w1 a) p.0 p.1) (plain_word rules 2 b (w1 a).held e)

third_step : (a b c : Text) → is_dashed c ≡ false → walked rules [] (w2 a b) c ≡ w3 a b c
unfolding walked
third_step a b c e = ap (λ (p : Held × Step). after_step rules c (w2 a b) p.0 p.1) (plain_word rules 3 c (w2 a b).held e)

two_steps : (a b : Text) → is_dashed a ≡ false → is_dashed b ≡ false → walked rules [] (walked rules [] w0 a) b ≡ w2 a b
two_steps a b e f = ap (λ w. walked rules [] w b) (first_step a e) ∙ second_step a b f

three_steps : (a b c : Text) → is_dashed a ≡ false → is_dashed b ≡ false → is_dashed c ≡ false → walked rules [] (walked rules [] (walked rules [] w0 a) b) c ≡ w3 a b c
three_steps a b c e f g = ap (λ w. walked rules [] w c) (two_steps a b e f) ∙ third_step a b c g

-- ## what passes

turn : (w : Walk) (word : Text) (position : ℕ) (h : Held) → is_dashed word ≡ false → w ≡ record { held = h; waiting = idle; position = position; is_trailing = false; stopped = None }
    → step_passes top position h value ≡ true → turn_passes top [] w word ≡ true
turn w word position h e is step =
    ap (λ (x : Walk). turn_passes top [] x word) is
    ∙ ap₂ (λ (p : Bool) (m : Held × Step). p && step_passes top position m.0 m.1) (word_goes top word h e) (plain_word rules position word h e)
    ∙ step

-- the whole check, by where the walk ends and whether it passes
abbrev whole : Walk → Bool → Bool
whole w passes =
    entered_passes (built parser) w.stopped
    && (passes && (settle_passes rules top.args_override_self w.held && (list_all default_passes rules && is_valid top (finished rules w.held) (is_some (entered (built parser) w.stopped)))))

both : (a b : Bool) → a ≡ true → b ≡ true → (a && b) ≡ true
both true true e f = refl
both true false e f = absurd cc
both false b e f = absurd cc

one_passes : (a : Text) → is_dashed a ≡ false → walk_passes top [] w0 (a ∷ []) ≡ true
unfolding walk_passes
one_passes a e = both (turn_passes top [] w0 a) true (turn w0 a 1 nothing_held e refl refl) refl

two_pass : (a b : Text) → is_dashed a ≡ false → is_dashed b ≡ false → walk_passes top [] w0 (a ∷ b ∷ []) ≡ true
unfolding walk_passes
two_pass a b e f =
    both (turn_passes top [] w0 a) _ (turn w0 a 1 nothing_held e refl refl)
    (both (turn_passes top [] (walked rules [] w0 a) b) true (turn (walked rules [] w0 a) b 2 (w1 a).held f (first_step a e) refl) refl)

three_pass : (a b c : Text) → is_dashed a ≡ false → is_dashed b ≡ false → is_dashed c ≡ false → walk_passes top [] w0 (a ∷ b ∷ c ∷ []) ≡ true
unfolding walk_passes
three_pass a b c e f g =
    both (turn_passes top [] w0 a) _ (turn w0 a 1 nothing_held e refl refl)
    (both (turn_passes top [] (walked rules [] w0 a) b) _ (turn (walked rules [] w0 a) b 2 (w1 a).held f (first_step a e) refl)
    (both (turn_passes top [] (walked rules [] (walked rules [] w0 a) b) c) true (turn (walked rules [] (walked rules [] w0 a) b) c 3 (w2 a b).held g (two_steps a b e f) refl) refl))

-- ## all of it

first_of_both : (a b : Bool) → (a && b) ≡ true → a ≡ true
first_of_both true b e = refl
first_of_both false b e = absurd cc

second_of_both : (a b : Bool) → (a && b) ≡ true → b ≡ true
second_of_both true b e = e
second_of_both false b e = absurd cc

not_true : (b : Bool) → not b ≡ true → b ≡ false
not_true true e = absurd cc
not_true false e = refl

head_plain : (a : Text) (ws : List Text) → list_all (λ word. not (is_dashed word)) (a ∷ ws) ≡ true → is_dashed a ≡ false
head_plain a ws e = not_true (is_dashed a) (first_of_both (not (is_dashed a)) (list_all (λ word. not (is_dashed word)) ws) e)

tail_plain : (a : Text) (ws : List Text) → list_all (λ word. not (is_dashed word)) (a ∷ ws) ≡ true → list_all (λ word. not (is_dashed word)) ws ≡ true
tail_plain a ws e = second_of_both (not (is_dashed a)) (list_all (λ word. not (is_dashed word)) ws) e

no_more : (n : ℕ) → 4 ≤ n → nat_le n 3 ≡ true → ⊥
no_more n l e = grind (arith, nat_tests)

too_many : (a b c d : Text) (ws : List Text) → nat_le (length (a ∷ b ∷ c ∷ d ∷ ws)) 3 ≡ true → ⊥
too_many a b c d ws e = no_more (length (a ∷ b ∷ c ∷ d ∷ ws)) (omega arith) e

-- what the positionals have
pub record Parted (words : List Text) : Type 0 where
  pub first : first_of (codes "first") (matches_of parser words) ≡ slice_get words 0
  pub second : first_of (codes "second") (matches_of parser words) ≡ slice_get words 1
  pub third : first_of (codes "third") (matches_of parser words) ≡ slice_get words 2
  pub taken : takes parser words ≡ true

none_taken : takes parser [] ≡ true
unfolding walk_passes
none_taken = refl

parted : (words : List Text) → nat_le (length words) 3 ≡ true → list_all (λ word. not (is_dashed word)) words ≡ true → Parted words
parted [] few all = record { first = refl; second = refl; third = refl; taken = none_taken }
parted (a ∷ []) few all =
    let e = head_plain a [] all in
    let is = first_step a e in
    record {
      first = ap (λ (w : Walk). first_of (codes "first") (finished rules w.held)) is;
      second = ap (λ (w : Walk). first_of (codes "second") (finished rules w.held)) is;
      third = ap (λ (w : Walk). first_of (codes "third") (finished rules w.held)) is;
      taken = ap₂ whole is (one_passes a e);
    }
parted (a ∷ b ∷ []) few all =
    let e = head_plain a (b ∷ []) all in
    let f = head_plain b [] (tail_plain a (b ∷ []) all) in
    let is = two_steps a b e f in
    record {
      first = ap (λ (w : Walk). first_of (codes "first") (finished rules w.held)) is;
      second = ap (λ (w : Walk). first_of (codes "second") (finished rules w.held)) is;
      third = ap (λ (w : Walk). first_of (codes "third") (finished rules w.held)) is;
      taken = ap₂ whole is (two_pass a b e f);
    }
parted (a ∷ b ∷ c ∷ []) few all =
    let e = head_plain a (b ∷ c ∷ []) all in
    let f = head_plain b (c ∷ []) (tail_plain a (b ∷ c ∷ []) all) in
    let g = head_plain c [] (tail_plain b (c ∷ []) (tail_plain a (b ∷ c ∷ []) all)) in
    let is = three_steps a b c e f g in
    record {
      first = ap (λ (w : Walk). first_of (codes "first") (finished rules w.held)) is;
      second = ap (λ (w : Walk). first_of (codes "second") (finished rules w.held)) is;
      third = ap (λ (w : Walk). first_of (codes "third") (finished rules w.held)) is;
      taken = ap₂ whole is (three_pass a b c e f g);
    }
parted (a ∷ b ∷ c ∷ d ∷ ws) few all = absurd (too_many a b c d ws few)

pub parted_words : (words : List Text) → are_plain words ≡ true → Parted words
parted_words words e = parted words (first_of_both (nat_le (length words) 3) _ e) (second_of_both (nat_le (length words) 3) _ e)

-- ## words as they are given

count_mapped : (ws : List (String Global)) → length (map string_bytes ws) ≡ length ws
count_mapped [] = refl
count_mapped (w ∷ ws) = let h = count_mapped ws in omega (arith, h)

all_mapped : (ws : List (String Global)) → list_all (λ word. not (is_dashed word)) (map string_bytes ws) ≡ list_all (λ word. not (is_dashed (string_bytes word))) ws
all_mapped [] = refl
all_mapped (w ∷ ws) = ap (λ b. not (is_dashed (string_bytes w)) && b) (all_mapped ws)

more_than : (n : ℕ) → 3 < n → nat_le n 3 ≡ false
more_than n l = grind (arith, nat_tests)

no_more_than : (n : ℕ) → n ≤ 3 → nat_le n 3 ≡ true
no_more_than n l = grind (arith, nat_tests)

pub too_many_words : (ws : List (String Global)) → 3 < length ws → are_plain (map string_bytes ws) ≡ false
too_many_words ws l = ap (λ b. b && list_all (λ word. not (is_dashed word)) (map string_bytes ws)) (ap (λ n. nat_le n 3) (count_mapped ws) ∙ more_than (length ws) l)

pub few_words : (ws : List (String Global)) → length ws ≤ 3 → are_plain (map string_bytes ws) ≡ list_all (λ word. not (is_dashed (string_bytes word))) ws
few_words ws l = ap₂ (λ a b. a && b) (ap (λ n. nat_le n 3) (count_mapped ws) ∙ no_more_than (length ws) l) (all_mapped ws)

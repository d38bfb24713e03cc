-- Sets of writers as bits and as ascending lists.
use Rattle.std.proofs.Common.{◌≡◌, ◌≢◌, ℕ, zero, suc, ◌+◌, ◌-◌, ◌*◌, ◌%◌, ◌/◌, ◌^◌, ◌<◌, ◌≤◌, List, [], ◌∷◌, refl, Bool, true, false, cond, ap, sym}
use Rattle.std.proofs.Common.{◌∙◌, filter, arith, bit_and, bit_or, w64, nat_eq}
use Rattle.std.specs.Prelude.{◌&&◌, ◌||◌, not, ◌==◌}
use Rattle.std.specs.List.{range_with_len}
use Rattle.std.specs.Int.{bit_at}
use Rattle.std.proofs.lemmas.Bool.Decides.{nat_tests}
use Rattle.std.proofs.lemmas.Nat.Bits.{shr_and_one, bit_at-lt, bit_at-zero, same_from_bits_below, bit_at_set_same, bit_at_set_other, bit_at_and, bit_at_not, bit_at_or}
use Rattle.std.proofs.lemmas.Bool.{and_right}
use Rattle.std.proofs.lemmas.Grind.{common_steps}
use Rattle.std.proofs.Math.Bool.{or-true}
use Rattle.set_agenda.specs.Agenda.{is_among}
use Rattle.set_agenda.specs.Advance.{others}
use Rattle.set_agenda.specs.WriterSet.{has_bit, is_nil, writers, writers_of}

-- ## truth values

pub or-false : (b : Bool) → (b || false) ≡ b
or-false b = grind arith

pub and-false : (b : Bool) → (b && false) ≡ false
and-false b = grind arith

pub and-true : (b : Bool) → (b && true) ≡ b
and-true b = grind arith

other_from : (a w : ℕ) → (a == w) ≡ false → a ≢ w
other_from a w e = grind (arith, nat_tests)

-- ## filters of a range

-- tests that agree in a range filter it alike
pub filter-within : (p q : ℕ → Bool) (a n : ℕ) → ((i : ℕ) → i < a + n → p i ≡ q i) → filter p (range_with_len a n) ≡ filter q (range_with_len a n)
filter-within p q a zero same = refl
filter-within p q a (suc n) same = rw (same a (omega arith)) (ap (λ ys. cond (q a) (a ∷ ys) ys) (filter-within p q (a + 1) n (λ i h. same i (omega arith))))

-- two filters, one after the other
pub filter-and : {X : Type 0} (p q : X → Bool) (xs : List X) → filter (λ x. p x && q x) xs ≡ filter q (filter p xs)
filter-and p q [] = refl
filter-and p q (x ∷ xs) = grind (arith, common_steps, filter-and p q xs)

-- nothing passes
pub filter-none : {X : Type 0} (xs : List X) → filter (λ x. false) xs ≡ []
filter-none [] = refl
filter-none (x ∷ xs) = filter-none xs

among-below : (p : ℕ → Bool) (a n w : ℕ) → w < a → is_among w (filter p (range_with_len a n)) ≡ false
among-below p a zero w h = refl
among-below p a (suc n) w h = grind (arith, common_steps, and_right, among-below p (a + 1) n w (omega arith))

among-step : (p : ℕ → Bool) (a w : ℕ) (d c : Bool) → (a == w) ≡ c → ((a == w) ≡ true → d ≡ false) → ((a == w) ≡ false → d ≡ p w) → ((p a && c) || d) ≡ p w
among-step p a w d c e f g = grind arith

-- a number of a range is among those that pass where it passes
among-filter : (p : ℕ → Bool) (a n w : ℕ) → a ≤ w → w < a + n → is_among w (filter p (range_with_len a n)) ≡ p w
among-filter p a zero w h l = absurd (omega arith)
among-filter p a (suc n) w h l = grind (arith, common_steps, among-step, among-below, nat_tests, other_from, among-filter p (a + 1) n w)

-- nobody of a range above w is w
filter-above : (a n w : ℕ) → w < a → filter (λ i. w == i) (range_with_len a n) ≡ []
filter-above a zero w h = refl
filter-above a (suc n) w h = let e : (w == a) ≡ false = grind (arith, nat_tests) in rw e (filter-above (a + 1) n w (omega arith))

one-step : (a n w : ℕ) (c : Bool) → (w == a) ≡ c → w < a + suc n → ((w == a) ≡ false → filter (λ i. w == i) (range_with_len (a + 1) n) ≡ w ∷ [])
    → cond c (a ∷ filter (λ i. w == i) (range_with_len (a + 1) n)) (filter (λ i. w == i) (range_with_len (a + 1) n)) ≡ w ∷ []
one-step a n w c e h f = grind (arith, nat_tests, filter-above)

filter-one : (a n w : ℕ) → a ≤ w → w < a + n → filter (λ i. w == i) (range_with_len a n) ≡ w ∷ []
filter-one a zero w h l = absurd (omega arith)
filter-one a (suc n) w h l = one-step a n w (w == a) refl l (λ e. filter-one (a + 1) n w (let s : w ≢ a = other_from w a e in omega (arith, s)) (omega arith))

-- ## sets of writers

-- the tests of a set of writers count below 64 alone
pub writers-agree : (p q : ℕ → Bool) → ((w : ℕ) → w < 64 → p w ≡ q w) → writers p ≡ writers q
unfolding writers
writers-agree p q h = filter-within p q 0 64 (λ i l. h i (omega arith))

pub among-writers : (p : ℕ → Bool) (w : ℕ) → w < 64 → is_among w (writers p) ≡ p w
unfolding writers
among-writers p w h = among-filter p 0 64 w (omega arith) (omega arith)

pub others-writers : (whos : List ℕ) (p : ℕ → Bool) → others whos (writers p) ≡ writers (λ w. p w && not (is_among w whos))
unfolding writers
others-writers whos p = sym (filter-and p (λ w. not (is_among w whos)) (range_with_len 0 64))

pub writers-none : writers (λ w. false) ≡ []
unfolding writers
writers-none = filter-none (range_with_len 0 64)

-- ## bits

pub new-is : writers_of 0 ≡ []
new-is = writers-agree (has_bit 0) (λ w. false) (λ i h. grind (arith, nat_tests, bit_at-zero i)) ∙ writers-none

pub contains_is : (bits w : ℕ) → w < 64 → nat_eq (bit_and (bits / 2 ^ w) 1) 1 ≡ is_among w (writers_of bits)
contains_is bits w h = ap (λ b. nat_eq b 1) (shr_and_one bits w) ∙ sym (among-writers (has_bit bits) w h)

no_bit : (bits i : ℕ) → has_bit bits i ≡ false → bit_at bits i ≡ 0
no_bit bits i e = grind (arith, nat_tests, bit_at-lt bits i)

none-set : (bits : ℕ) → bits < 2 ^ 64 → writers_of bits ≡ [] → bits ≡ 0
none-set bits h e = same_from_bits_below 64 bits 0 h (omega arith) (λ i l. no_bit bits i (sym (among-writers (has_bit bits) i (omega arith)) ∙ ap (is_among i) e) ∙ sym (bit_at-zero i))

digit-at : (x y : ℕ) → x < 2 → y < 2 → (x == 1) ≡ (y == 1) → x ≡ y
digit-at x y a b e = grind (arith, nat_tests)

-- one number alone has the bits of a set
pub same_bits : (a b : ℕ) → a < 2 ^ 64 → b < 2 ^ 64 → writers_of a ≡ writers_of b → a ≡ b
same_bits a b h k e = same_from_bits_below 64 a b h k (λ i l.
    digit-at (bit_at a i) (bit_at b i) (bit_at-lt a i) (bit_at-lt b i) (sym (among-writers (has_bit a) i l) ∙ ap (is_among i) e ∙ among-writers (has_bit b) i l))

pub empty_is : (bits : ℕ) → bits < 2 ^ 64 → nat_eq bits 0 ≡ is_nil (writers_of bits)
empty_is bits h = grind (arith, none-set, new-is)

set-at : (bits w i : ℕ) (c : Bool) → w < 64 → (w == i) ≡ c → has_bit (bit_or bits (1 * 2 ^ w % 18446744073709551616)) i ≡ (has_bit bits i || c)
set-at bits w i true h e = grind (arith, common_steps, nat_tests, bit_at_set_same w64 bits w h, or-true (has_bit bits w))
set-at bits w i false h e = ap (λ b. b == 1) (bit_at_set_other w64 bits w h i (λ s. other_from w i e (sym s))) ∙ sym (or-false (has_bit bits i))

-- the bit of w put in
pub insert_is : (bits w : ℕ) → w < 64 → writers_of (bit_or bits (1 * 2 ^ w % 18446744073709551616)) ≡ writers (λ i. is_among i (writers_of bits) || (w == i))
insert_is bits w h = grind (arith, writers-agree, set-at, among-writers)

minus-at : (a b i : ℕ) → b < 2 ^ 64 → i < 64 → has_bit (bit_and a (18446744073709551615 - b)) i ≡ (has_bit a i && not (is_among i (writers_of b)))
minus-at a b i l h =
    grind (arith, common_steps, bit_at_and a (18446744073709551615 - b) i, bit_at_not w64 b i l h, bit_at-lt a i, bit_at-lt b i, among-writers (has_bit b) i h)

pub minus_is : (a b : ℕ) → b < 2 ^ 64 → writers_of (bit_and a (18446744073709551615 - b)) ≡ others (writers_of b) (writers_of a)
minus_is a b l = writers-agree _ (λ i. has_bit a i && not (is_among i (writers_of b))) (λ i h. minus-at a b i l h) ∙ sym (others-writers (writers_of b) (has_bit a))

either-at : (a b i : ℕ) → i < 64 → has_bit (bit_or a b) i ≡ (is_among i (writers_of a) || is_among i (writers_of b))
either-at a b i h = grind (arith, bit_at_or, bit_at-lt, among-writers)

pub with_is : (a b : ℕ) → writers_of (bit_or a b) ≡ writers (λ w. is_among w (writers_of a) || is_among w (writers_of b))
with_is a b = writers-agree _ (λ w. is_among w (writers_of a) || is_among w (writers_of b)) (λ i h. either-at a b i h)

writers-one : (w : ℕ) → w < 64 → writers (λ i. w == i) ≡ w ∷ []
unfolding writers
writers-one w h = filter-one 0 64 w (omega arith) (omega arith)

zero_or-at : (w i : ℕ) → w < 64 → has_bit (1 * 2 ^ w % 18446744073709551616) i ≡ (w == i)
zero_or-at w i h = set-at 0 w i (w == i) h refl ∙ ap (λ b. b || (w == i)) (let z : bit_at 0 i ≡ 0 = bit_at-zero i in ap (λ n. n == 1) z)

pub of_is : (w : ℕ) → w < 64 → writers_of (1 * 2 ^ w % 18446744073709551616) ≡ w ∷ []
of_is w h = writers-agree _ (λ i. w == i) (λ i l. zero_or-at w i h) ∙ writers-one w h

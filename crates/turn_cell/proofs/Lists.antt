-- Lists of views, maps of numbers, beginnings of a history, and words that count modulo 2^64: what one change makes of them.
use Rattle.std.proofs.Common.{◌≡◌, ◌≢◌, ℕ, zero, suc, ◌+◌, ◌<◌, ◌≤◌, ◌⊎◌, inl, inr, ⊎_elim, List, [], ◌∷◌, ◌++◌, length, set, refl, ap, sym, ◌∙◌, arith, subst}
use Rattle.std.proofs.Common.{append_assoc, ne_eqb, cond, ◌%◌, ◌^◌}
use Rattle.std.proofs.lemmas.List.{append-nil}
use Rattle.std.proofs.lemmas.List.Elements.{filter-append}
use Rattle.std.proofs.lemmas.List.Sums.{sum_by-cons}
use Rattle.std.specs.List.{sum_by, All}
use lib.ListN.{get_elem?}
use mathlib.Core.List.{IsPrefix}
use mathlib.Core.Option.{some, some-ne-none, some-injective}
use native.Mathlib.Decide.{ℕ_discrete}
use Rattle.turn_cell.specs.History.{Makes, Leads, entries_of}
use Rattle.turn_cell.specs.declared.entry.Entry.{Entry}

-- ## Lists of views: sums over them when one of them changes, and where their members stand.

module _ {A : Type 0} where
  pub at_inside : (l : List A) (i : ℕ) (a : A) → get_elem? l i ≡ some a → i < length l
  at_inside [] i a e = absurd (some-ne-none a (sym e))
  at_inside (x ∷ xs) zero a e = omega arith
  at_inside (x ∷ xs) (suc i) a e = let r = at_inside xs i a e in omega arith

  pub at_one : (l : List A) (i : ℕ) (a b : A) → get_elem? l i ≡ some a → get_elem? l i ≡ some b → a ≡ b
  at_one l i a b e f = some-injective a b (sym e ∙ f)

  -- the last one, or one of the others
  pub at_end : (l : List A) (a b : A) (j : ℕ) → get_elem? (l ++ a ∷ []) j ≡ some b → (get_elem? l j ≡ some b) ⊎ ((j ≡ length l) × (a ≡ b))
  at_end [] a b zero e = inr (refl, some-injective a b e)
  at_end [] a b (suc j) e = absurd (some-ne-none b (sym e))
  at_end (x ∷ xs) a b zero e = inl e
  at_end (x ∷ xs) a b (suc j) e = ⊎_elim (λ t. inl t) (λ t. inr (omega (arith, t.0), t.1)) (at_end xs a b j e)

  pub sum_at : (f : A → ℕ) (l : List A) (i : ℕ) (v w : A) → get_elem? l i ≡ some v → sum_by f (set l i w) + f v ≡ sum_by f l + f w
  sum_at f [] i v w e = absurd (some-ne-none v (sym e))
  sum_at f (x ∷ xs) zero v w e = let is : f x ≡ f v = ap f (some-injective x v e) in omega (arith, sum_by-cons f x xs, sum_by-cons f w xs)
  sum_at f (x ∷ xs) (suc i) v w e = let r = sum_at f xs i v w e in omega (arith, sum_by-cons f x xs, sum_by-cons f x (set xs i w))

  pub sum_has : (f : A → ℕ) (l : List A) (i : ℕ) (v : A) → get_elem? l i ≡ some v → f v ≤ sum_by f l
  sum_has f [] i v e = absurd (some-ne-none v (sym e))
  sum_has f (x ∷ xs) zero v e = let is : f x ≡ f v = ap f (some-injective x v e) in omega (arith, sum_by-cons f x xs)
  sum_has f (x ∷ xs) (suc i) v e = let r = sum_has f xs i v e in omega (arith, sum_by-cons f x xs)

  -- two members of a list count apart
  pub sum_two : (f : A → ℕ) (l : List A) (i j : ℕ) (v w : A) → i ≢ j → get_elem? l i ≡ some v → get_elem? l j ≡ some w → f v + f w ≤ sum_by f l
  sum_two f [] i j v w n e g = absurd (some-ne-none v (sym e))
  sum_two f (x ∷ xs) zero zero v w n e g = absurd (n refl)
  sum_two f (x ∷ xs) zero (suc j) v w n e g = let is : f x ≡ f v = ap f (some-injective x v e) in omega (arith, sum_by-cons f x xs, sum_has f xs j w g)
  sum_two f (x ∷ xs) (suc i) zero v w n e g = let is : f x ≡ f w = ap f (some-injective x w g) in omega (arith, sum_by-cons f x xs, sum_has f xs i v e)
  sum_two f (x ∷ xs) (suc i) (suc j) v w n e g = let r = sum_two f xs i j v w (λ s. n (omega arith)) e g in omega (arith, sum_by-cons f x xs)

  -- a sum of numbers of at most one
  pub sum_few : (f : A → ℕ) → ((a : A) → f a ≤ 1) → (l : List A) → sum_by f l ≤ length l
  sum_few f h [] = omega arith
  sum_few f h (x ∷ xs) = omega (arith, sum_by-cons f x xs, sum_few f h xs, h x)

  pub all_one : (P : A → Type 0) (x : A) → P x → All P (x ∷ [])
  all_one x0 x p x3 d l = grind arith

  pub all_tail : (P : A → Type 0) (x : A) (xs : List A) → All P (x ∷ xs) → All P xs
  all_tail P x xs h k d l = h (suc k) d (omega arith)

  pub all_front : (P : A → Type 0) (xs ys : List A) → All P (xs ++ ys) → All P xs
  all_front P [] ys h k d l = absurd (omega arith)
  all_front P (x ∷ xs) ys h zero d l = h zero d (omega arith)
  all_front P (x ∷ xs) ys h (suc k) d l = all_front P xs ys (all_tail P x (xs ++ ys) h) k d (omega arith)

  pub all_last : (P : A → Type 0) (xs : List A) (y : A) → All P (xs ++ y ∷ []) → P y
  all_last P [] y h = h zero y (omega arith)
  all_last P (x ∷ xs) y h = all_last P xs y (all_tail P x (xs ++ y ∷ []) h)

-- ## A map from numbers to numbers that changes at one place.

abbrev pick : {P : Type 0} → Dec P → ℕ → ℕ → ℕ
pick (yes _) a b = a
pick (no _) a b = b

pub put : (ℕ → ℕ) → ℕ → ℕ → ℕ → ℕ
put f i c j = pick (ℕ_discrete j i) c (f j)

pub put_here : (f : ℕ → ℕ) (i c : ℕ) → put f i c i ≡ c
unfolding put
put_here f i c = grind arith

pub put_else : (f : ℕ → ℕ) (i c j : ℕ) → j ≢ i → put f i c j ≡ f j
unfolding put
put_else f i c j other = grind arith

-- what had this value has it still
pub put_same : (f : ℕ → ℕ) (i c j : ℕ) → f j ≡ c → put f i c j ≡ c
unfolding put
put_same f i c j is = grind arith

-- ## Beginnings of one history, and what one more entry does.

pub prefix_self : {A : Type 0} (xs : List A) → IsPrefix xs xs
prefix_self xs = ([], append-nil xs)

pub prefix_trans : {A : Type 0} (xs ys zs : List A) → IsPrefix xs ys → IsPrefix ys zs → IsPrefix xs zs
prefix_trans xs ys zs p q = (p.0 ++ q.0, sym (append_assoc xs p.0 q.0) ∙ (ap (λ w. w ++ q.0) p.1 ∙ q.1))

-- a beginning is one of the longer list
pub prefix_longer : {A : Type 0} (xs ys more : List A) → IsPrefix xs ys → IsPrefix xs (ys ++ more)
prefix_longer xs ys more p = (p.0 ++ more, sym (append_assoc xs p.0 more) ∙ ap (λ w. w ++ more) p.1)

module _ {C R : Type 0} where
  -- the caller of the entry has one more
  pub own_grows : (n : ℕ) (log : List (Entry C R)) (e : Entry C R) → e.caller ≡ n → entries_of n (log ++ e ∷ []) ≡ entries_of n log ++ e ∷ []
  own_grows n log e is = grind (arith, filter-append)

  -- every other caller has as many
  pub others_stay : (n : ℕ) (log : List (Entry C R)) (e : Entry C R) → e.caller ≢ n → entries_of n (log ++ e ∷ []) ≡ entries_of n log
  others_stay n log e other = grind (arith, filter-append, append-nil)

  -- a caller that was not made has no entry
  pub none_yet : (n : ℕ) (log : List (Entry C R)) → All (λ e. e.caller < n) log → entries_of n log ≡ []
  none_yet n [] h = refl
  none_yet n (e ∷ es) h =
      let below : e.caller < n = h zero e (omega arith) in
      ap (λ b. cond b (e ∷ entries_of n es) (entries_of n es)) (ne_eqb e.caller n (λ is. omega arith))
      ∙ none_yet n es (all_tail (λ (x : Entry C R). x.caller < n) e es h)

module _ {M C R : Type 0} (steps : M → ℕ → C → R → M → Type 0) where
  -- one more entry, one more move
  pub leads_on : (s : M) (log : List (Entry C R)) (t : M) (e : Entry C R) (u : M) → Leads steps s log t → Makes steps t e u → Leads steps s (log ++ e ∷ []) u
  leads_on s [] t e u l m = (u, subst (λ (z : M). Makes steps z e u) (sym l) m, refl)
  leads_on s (x ∷ xs) t e u l m = (l.0, l.1, leads_on l.0 xs t e u l.2 m)

-- ## Words that count modulo 2^64.

pub next_word : (a : ℕ) → (a % 2 ^ 64 + 1) % 2 ^ 64 ≡ (a + 1) % 2 ^ 64
next_word a = omega arith

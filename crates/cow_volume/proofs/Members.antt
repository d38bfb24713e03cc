-- Lists without doubles. Where two of them have the same members, one is the other in another order.
use Rattle.std.proofs.Common.{◌≡◌, ◌<◌, ◌≤◌, ◌⊎◌, ℕ, zero, suc, ◌+◌, List, [], ◌∷◌, ◌++◌, map, refl, ap, sym, subst, ◌∙◌, arith, eq-or-lt_of_le, Bool, true, Some, inl, inr, IsPermutation}
use Rattle.std.specs.Prelude.{filter, slice_get, if◌then◌else◌}
use Rattle.std.specs.List.{range_with_len}
use Rattle.std.proofs.lemmas.List.Sorted.{IsPermutation-refl, IsPermutation-cons, IsPermutation-trans, IsPermutation-middle, IsPermutation-sym}

-- x is in the list
abbrev pub Has : {X : Type 0} → X → List X → Type 0
Has x [] = ⊥
Has x (y ∷ ys) = (y ≡ x) ⊎ Has x ys

-- none is in the list twice
abbrev pub AreApart : {X : Type 0} → List X → Type 0
AreApart [] = Unit {0}
AreApart (x ∷ xs) = (Has x xs → ⊥) × AreApart xs

-- ## one member taken out

abbrev others : {X : Type 0} (x : X) (ys : List X) → Has x ys → List X
others x [] h = absurd h
others x (y ∷ ys) (inl e) = ys
others x (y ∷ ys) (inr h) = y ∷ others x ys h

taken_out : {X : Type 0} (x : X) (ys : List X) (h : Has x ys) → IsPermutation ys (x ∷ others x ys h)
taken_out x [] h = absurd h
taken_out x (y ∷ ys) (inl e) = subst (λ z. IsPermutation (y ∷ ys) (z ∷ ys)) e (IsPermutation-refl (y ∷ ys))
taken_out x (y ∷ ys) (inr h) =
    IsPermutation-trans (y ∷ ys) (y ∷ x ∷ others x ys h) (x ∷ y ∷ others x ys h)
    (IsPermutation-cons y ys (x ∷ others x ys h) (taken_out x ys h))
    (IsPermutation-middle (y ∷ []) x (others x ys h))

among : {X : Type 0} (x z : X) (ys : List X) (h : Has x ys) → Has z (others x ys h) → Has z ys
among x z [] h m = absurd h
among x z (y ∷ ys) (inl e) m = inr m
among x z (y ∷ ys) (inr h) (inl e) = inl e
among x z (y ∷ ys) (inr h) (inr m) = inr (among x z ys h m)

still : {X : Type 0} (x z : X) (ys : List X) (h : Has x ys) → (x ≡ z → ⊥) → Has z ys → Has z (others x ys h)
still x z [] h d m = absurd h
still x z (y ∷ ys) (inl e) d (inl f) = absurd (d (sym e ∙ f))
still x z (y ∷ ys) (inl e) d (inr m) = m
still x z (y ∷ ys) (inr h) d (inl f) = inl f
still x z (y ∷ ys) (inr h) d (inr m) = inr (still x z ys h d m)

others_apart : {X : Type 0} (x : X) (ys : List X) (h : Has x ys) → AreApart ys → AreApart (others x ys h)
others_apart x [] h a = absurd h
others_apart x (y ∷ ys) (inl e) a = a.1
others_apart x (y ∷ ys) (inr h) a = ((λ m. a.0 (among x y ys h m)), others_apart x ys h a.1)

gone : {X : Type 0} (x : X) (ys : List X) (h : Has x ys) → AreApart ys → Has x (others x ys h) → ⊥
gone x [] h a m = absurd h
gone {X = X} x (y ∷ ys) (inl e) a m = let P : X → Type 0 = λ z. Has z ys in a.0 (subst P (sym e) m)
gone {X = X} x (y ∷ ys) (inr h) a (inl e) = let P : X → Type 0 = λ z. Has z ys in a.0 (subst P (sym e) h)
gone x (y ∷ ys) (inr h) a (inr m) = gone x ys h a.1 m

-- ## the same members

pub permuted : {X : Type 0} (xs ys : List X) → AreApart xs → AreApart ys → ((x : X) → Has x xs → Has x ys) → ((x : X) → Has x ys → Has x xs) → IsPermutation xs ys
permuted [] [] a b there back = IsPermutation-refl []
permuted [] (y ∷ ys) a b there back = absurd (back y (inl refl))
permuted {X = X} (x ∷ xs) ys a b there back =
    let h = there x (inl refl) in
    let P : X → Type 0 = λ z. Has z xs in
    let Q : X → Type 0 = λ z. Has z (others x ys h) in
    let kept : (z : X) → Has z xs → Has z (others x ys h) = λ z m. still x z ys h (λ e. a.0 (subst P (sym e) m)) (there z (inr m)) in
    let from : (z : X) → Has z (others x ys h) → Has z xs = λ z m. elim (back z (among x z ys h m)) [
      | inl e ↦ absurd (gone x ys h b (subst Q (sym e) m))
      | inr k ↦ k
    ] in
    IsPermutation-trans (x ∷ xs) (x ∷ others x ys h) ys
    (IsPermutation-cons x xs (others x ys h) (permuted xs (others x ys h) a.1 (others_apart x ys h b) kept from))
    (IsPermutation-sym ys (x ∷ others x ys h) (taken_out x ys h))

-- ## places

pub has_at : {X : Type 0} (xs : List X) (i : ℕ) (x : X) → slice_get xs i ≡ Some x → Has x xs
has_at [] i x e = absurd cc
has_at (y ∷ xs) zero x e = let same : y ≡ x = cc in inl same
has_at (y ∷ xs) (suc i) x e = inr (has_at xs i x e)

pub place_of : {X : Type 0} (xs : List X) (x : X) → Has x xs → (i : ℕ) × (slice_get xs i ≡ Some x)
place_of [] x h = absurd h
place_of (y ∷ xs) x (inl e) = (0, ap (λ z. Some z) e)
place_of (y ∷ xs) x (inr h) = let at = place_of xs x h in (suc at.0, at.1)

-- ## joined lists

pub has_left : {X : Type 0} (x : X) (xs ys : List X) → Has x xs → Has x (xs ++ ys)
has_left x [] ys h = absurd h
has_left x (z ∷ xs) ys (inl e) = inl e
has_left x (z ∷ xs) ys (inr h) = inr (has_left x xs ys h)

pub has_right : {X : Type 0} (x : X) (xs ys : List X) → Has x ys → Has x (xs ++ ys)
has_right x [] ys h = h
has_right x (z ∷ xs) ys h = inr (has_right x xs ys h)

pub has_either : {X : Type 0} (x : X) (xs ys : List X) → Has x (xs ++ ys) → Has x xs ⊎ Has x ys
has_either x [] ys h = inr h
has_either x (z ∷ xs) ys (inl e) = inl (inl e)
has_either x (z ∷ xs) ys (inr h) = elim (has_either x xs ys h) [
  | inl m ↦ inl (inr m)
  | inr m ↦ inr m
]

pub apart-append : {X : Type 0} (xs ys : List X) → AreApart xs → AreApart ys → ((x : X) → Has x xs → Has x ys → ⊥) → AreApart (xs ++ ys)
apart-append [] ys a b d = b
apart-append (x ∷ xs) ys a b d =
    ((λ m. elim (has_either x xs ys m) [ inl k ↦ a.0 k | inr k ↦ d x (inl refl) k ]), apart-append xs ys a.1 b (λ z m k. d z (inr m) k))

-- ## mapped lists

pub has-map : {X Y : Type 0} (f : X → Y) (x : X) (xs : List X) → Has x xs → Has (f x) (map f xs)
has-map f x [] h = absurd h
has-map f x (z ∷ xs) (inl e) = inl (ap f e)
has-map f x (z ∷ xs) (inr h) = inr (has-map f x xs h)

pub from-map : {X Y : Type 0} (f : X → Y) (y : Y) (xs : List X) → Has y (map f xs) → (x : X) × Has x xs × (f x ≡ y)
from-map f y [] h = absurd h
from-map f y (z ∷ xs) (inl e) = (z, inl refl, e)
from-map f y (z ∷ xs) (inr h) = let at = from-map f y xs h in (at.0, inr at.1, at.2)

pub apart-map : {X Y : Type 0} (f : X → Y) (xs : List X) → ((x y : X) → f x ≡ f y → x ≡ y) → AreApart xs → AreApart (map f xs)
apart-map f [] i a = tt
apart-map {X = X} f (x ∷ xs) i a =
    let P : X → Type 0 = λ z. Has z xs in
    ((λ m. let at = from-map f (f x) xs m in a.0 (subst P (i at.0 x at.2) at.1)), apart-map f xs i a.1)

-- where the images are apart, so are the elements
pub apart_by : {X Y : Type 0} (f : X → Y) (xs : List X) → AreApart (map f xs) → AreApart xs
apart_by f [] a = tt
apart_by f (x ∷ xs) a = ((λ m. a.0 (has-map f x xs m)), apart_by f xs a.1)

-- ## filtered lists

has_if : {X : Type 0} (b : Bool) (x z : X) (xs : List X) → Has x (if b then z ∷ xs else xs) → ((b ≡ true) × (z ≡ x)) ⊎ Has x xs
has_if b x z xs h = grind arith

pub from-filter : {X : Type 0} (p : X → Bool) (x : X) (xs : List X) → Has x (filter p xs) → Has x xs × (p x ≡ true)
from-filter p x [] h = absurd h
from-filter {X = X} p x (z ∷ xs) h = elim (has_if (p z) x z (filter p xs) h) [
  | inl m ↦ (inl m.1, ap p (sym m.1) ∙ m.0)
  | inr m ↦ (let rest = from-filter p x xs m in (inr rest.0, rest.1))
]

pub has-filter : {X : Type 0} (p : X → Bool) (x : X) (xs : List X) → p x ≡ true → Has x xs → Has x (filter p xs)
has-filter p x [] e h = absurd h
has-filter {X = X} p x (z ∷ xs) e (inl same) =
    let P : X → Type 0 = λ y. Has y (if p z then z ∷ filter p xs else filter p xs) in
    subst P same (grind (arith, (ap p same ∙ e)))
has-filter p x (z ∷ xs) e (inr h) = grind (arith, has-filter p x xs e h)

apart_if : {X : Type 0} (b : Bool) (x : X) (xs : List X) → (b ≡ true → Has x xs → ⊥) → AreApart xs → AreApart (if b then x ∷ xs else xs)
apart_if b x xs d a = grind arith

-- those that pass stand at one place each
pub apart-filter : {X : Type 0} (p : X → Bool) (xs : List X) → ((i j : ℕ) (x : X) → p x ≡ true → slice_get xs i ≡ Some x → slice_get xs j ≡ Some x → i ≡ j) → AreApart (filter p xs)
apart-filter p [] d = tt
apart-filter p (x ∷ xs) d = apart_if (p x) x (filter p xs)
    (λ e m. let at = place_of xs x (from-filter p x xs m).0 in let once = d 0 (suc at.0) x e refl at.1 in absurd (omega arith))
    (apart-filter p xs (λ i j y e f g. let once = d (suc i) (suc j) y e f g in omega arith))

-- ## numbers in order

pub has-range : (a n x : ℕ) → a ≤ x → x < a + n → Has x (range_with_len a n)
has-range a zero x l m = absurd (omega arith)
has-range a (suc n) x l m = elim (eq-or-lt_of_le l) [
  | inl e ↦ inl e
  | inr k ↦ inr (has-range (a + 1) n x (omega arith) (omega arith))
]

pub from-range : (a n x : ℕ) → Has x (range_with_len a n) → (a ≤ x) × (x < a + n)
from-range a zero x h = absurd h
from-range a (suc n) x (inl e) = (omega arith, omega arith)
from-range a (suc n) x (inr h) = let l = from-range (a + 1) n x h in (omega arith, omega arith)

pub apart-range : (a n : ℕ) → AreApart (range_with_len a n)
apart-range a zero = tt
apart-range a (suc n) = ((λ h. let l = from-range (a + 1) n a h in absurd (omega arith)), apart-range (a + 1) n)

-- a filter of them has each once
pub apart-filtered : {X : Type 0} (p : X → Bool) (xs : List X) → AreApart xs → AreApart (filter p xs)
apart-filtered p [] a = tt
apart-filtered p (x ∷ xs) a = apart_if (p x) x (filter p xs) (λ e m. a.0 (from-filter p x xs m).0) (apart-filtered p xs a.1)

-- The sums of a block with one more number, and of two blocks of which two numbers differ.
use Rattle.std.proofs.Common.{◌≡◌, ◌≢◌, ℕ, zero, suc, ◌≤◌, ◌+◌, ◌^◌, ◌%◌, ◌<◌, ◌⊎◌, List, [], ◌∷◌, add-one, ap, arith, get_or, inl, inr, length, refl, sym}
use Rattle.std.specs.Int.{w32, from_le_bytes}
use Rattle.std.specs.Simd.Lanes.{number_l}
use Rattle.std.proofs.lemmas.Bool.{cases_lt}
use Rattle.image_folder.specs.KeptSums.{first_to, number_at, second_to, sum_of}
use Rattle.image_folder.specs.declared.device.block_sum.BlockSum.{BlockSum}

-- four bytes as a vector reads them
pub number_is : (bytes : List ℕ) → length bytes ≡ 4 → ((i : ℕ) → i < 4 → get_or bytes i 0 < 256) → number_l 256 bytes % 2 ^ 32 ≡ from_le_bytes w32 bytes
number_is (a ∷ b ∷ c ∷ d ∷ []) whole are = omega (arith, are 0 (omega arith), are 1 (omega arith), are 2 (omega arith), are 3 (omega arith))
number_is _ whole are = absurd (omega (arith, whole))

pub first_none : (bytes : List ℕ) → first_to 0 bytes ≡ 0
unfolding first_to
first_none bytes = refl

pub second_none : (bytes : List ℕ) → second_to 0 bytes ≡ 0
unfolding second_to
second_none bytes = refl

pub first_next : (n : ℕ) (bytes : List ℕ) → first_to (n + 1) bytes ≡ first_to n bytes + number_at n bytes
unfolding first_to
first_next n bytes = rw (add-one n) refl

pub second_next : (n : ℕ) (bytes : List ℕ) → second_to (n + 1) bytes ≡ second_to n bytes + first_to (n + 1) bytes
unfolding second_to
second_next n bytes = rw (add-one n) refl

pub is_sum : (first second : ℕ) (bytes : List ℕ) → first ≡ first_to 4096 bytes → second ≡ second_to 4096 bytes
    → ◌≡◌ {A = BlockSum} (record { first = first; second = second }) (sum_of bytes)
unfolding sum_of
is_sum first second bytes is second_is = rw (is, second_is) refl

-- ## two changed numbers

-- the numbers before place j are the same
before : (m j : ℕ) (xs ys : List ℕ) → m ≤ j → ((n : ℕ) → n < j → number_at n xs ≡ number_at n ys) → first_to m xs ≡ first_to m ys
unfolding first_to
before zero j xs ys within same = refl
before (suc m) j xs ys within same = omega (arith, before m j xs ys (omega (arith, within)) same, same m (omega (arith, within)))

-- behind place j, up to place k, the sums differ as the numbers there
between : (m j k : ℕ) (xs ys : List ℕ) → j < m → m ≤ k → ((n : ℕ) → n ≢ j → n ≢ k → number_at n xs ≡ number_at n ys)
    → first_to m xs + number_at j ys ≡ first_to m ys + number_at j xs
unfolding first_to
between zero j k xs ys behind within rest = absurd (omega (arith, behind))
between (suc m) j k xs ys behind within rest = elim (cases_lt j m) [
  | inl less ↦ omega (arith, between m j k xs ys less (omega (arith, within)) rest, rest m (λ e. omega (arith, e, less)) (λ e. omega (arith, e, within)))
  | inr more ↦ let is : m ≡ j = omega (arith, more, behind) in
      let so_far : first_to m xs ≡ first_to m ys
      = before m j xs ys (omega (arith, is)) (λ n few. rest n (λ e. omega (arith, e, few)) (λ e. omega (arith, e, few, is, within))) in
      omega (arith, so_far, ap (λ n. number_at n xs) is, ap (λ n. number_at n ys) is)
]

-- behind both they differ as both numbers do
after : (m j k : ℕ) (xs ys : List ℕ) → j < k → k < m → ((n : ℕ) → n ≢ j → n ≢ k → number_at n xs ≡ number_at n ys)
    → first_to m xs + number_at j ys + number_at k ys ≡ first_to m ys + number_at j xs + number_at k xs
unfolding first_to
after zero j k xs ys order behind rest = absurd (omega (arith, behind))
after (suc m) j k xs ys order behind rest = elim (cases_lt k m) [
  | inl less ↦ omega (arith, after m j k xs ys order less rest, rest m (λ e. omega (arith, e, less, order)) (λ e. omega (arith, e, less)))
  | inr more ↦ let is : m ≡ k = omega (arith, more, behind) in
      omega (arith, between m j k xs ys (omega (arith, is, order)) (omega (arith, is)) rest, ap (λ n. number_at n xs) is, ap (λ n. number_at n ys) is)
]

-- where no sum is less, the sums of the sums are not less, and are more behind a place where one is more
at_least : (m : ℕ) (xs ys : List ℕ) → ((i : ℕ) → i ≤ m → first_to i ys ≤ first_to i xs) → second_to m ys ≤ second_to m xs
unfolding second_to
at_least zero xs ys more = omega arith
at_least (suc m) xs ys more = omega (arith, at_least m xs ys (λ i few. more i (omega (arith, few))), more (suc m) (omega arith))

above : (m p : ℕ) (xs ys : List ℕ) → p < m → ((i : ℕ) → i ≤ m → first_to i ys ≤ first_to i xs) → first_to (suc p) ys < first_to (suc p) xs
    → second_to m ys < second_to m xs
unfolding second_to
above zero p xs ys within more one = absurd (omega (arith, within))
above (suc m) p xs ys within more one = elim (cases_lt p m) [
  | inl less ↦ omega (arith, above m p xs ys less (λ i few. more i (omega (arith, few))) one, more (suc m) (omega arith))
  | inr other ↦ let is : m ≡ p = omega (arith, other, within) in
      omega (arith, at_least m xs ys (λ i few. more i (omega (arith, few))), ap (λ n. first_to (suc n) xs) is, ap (λ n. first_to (suc n) ys) is, one)
]

-- if a number is more at j, where the sums of all are the same, the sums of the sums are not
greater : (m j k : ℕ) (xs ys : List ℕ) → j < k → k < m → ((n : ℕ) → n ≢ j → n ≢ k → number_at n xs ≡ number_at n ys)
    → first_to m xs ≡ first_to m ys → number_at j ys < number_at j xs → second_to m ys < second_to m xs
greater m j k xs ys order within rest same more = above m j xs ys (omega (arith, order, within)) no_less
    (omega (arith, between (suc j) j k xs ys (omega arith) order rest, more)) where
      both : number_at j ys + number_at k ys ≡ number_at j xs + number_at k xs
      both = omega (arith, after m j k xs ys order within rest, same)

      no_less : (i : ℕ) → i ≤ m → first_to i ys ≤ first_to i xs
      no_less i few = elim (cases_lt j i) [
        | inr early ↦ omega (arith, before i j xs ys (omega (arith, early)) (λ n less. rest n (λ e. omega (arith, e, less)) (λ e. omega (arith, e, less, order))))
        | inl behind ↦ elim (cases_lt k i) [
          | inr early ↦ omega (arith, between i j k xs ys behind (omega (arith, early)) rest, more)
          | inl late ↦ omega (arith, after i j k xs ys order late rest, both)
        ]
      ]

first_same : (xs ys : List ℕ) → sum_of xs ≡ sum_of ys → first_to 4096 xs ≡ first_to 4096 ys
unfolding sum_of
first_same xs ys same = ap (λ s. s.first) same

second_same : (xs ys : List ℕ) → sum_of xs ≡ sum_of ys → second_to 4096 xs ≡ second_to 4096 ys
unfolding sum_of
second_same xs ys same = ap (λ s. s.second) same

pub other_sum : (xs ys : List ℕ) (j k : ℕ) → j < k → k < 4096 → ((n : ℕ) → n ≢ j → n ≢ k → number_at n xs ≡ number_at n ys)
    → (number_at j xs ≢ number_at j ys) ⊎ (number_at k xs ≢ number_at k ys) → sum_of xs ≢ sum_of ys
other_sum xs ys j k order within rest differ same = elim (cases_lt (number_at j ys) (number_at j xs)) [
  | inl more ↦ omega (arith, greater 4096 j k xs ys order within rest (first_same xs ys same) more, second_same xs ys same)
  | inr rest_1 ↦ elim (cases_lt (number_at j xs) (number_at j ys)) [
    | inl more ↦ omega (
      arith,
      greater 4096 j k ys xs order within (λ n a b. sym (rest n a b)) (sym (first_same xs ys same)) more,
      second_same xs ys same,
    )
    | inr rest_2 ↦ let at_j : number_at j xs ≡ number_at j ys = omega (arith, rest_1, rest_2) in
        let at_k : number_at k xs ≡ number_at k ys = omega (arith, after 4096 j k xs ys order within rest, first_same xs ys same, at_j) in
        elim differ [ inl apart ↦ apart at_j | inr apart ↦ apart at_k ]
  ]
]

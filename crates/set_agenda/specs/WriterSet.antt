-- A set of writers below 64 is seen as the list of its members in ascending order. It is kept as the bits of one
-- number: bit w for writer w. (This project's own.)
use Rattle.std.specs.Prelude.{ℕ, Bool, true, false, List, [], ◌∷◌, filter, ◌==◌}
use Rattle.std.specs.List.{range_with_len}
use Rattle.std.specs.Int.{bit_at}

-- the writers that pass a test
unfoldable pub writers : (ℕ → Bool) → List ℕ
writers p = filter p (range_with_len 0 64)

abbrev pub has_bit : ℕ → ℕ → Bool
has_bit bits w = bit_at bits w == 1

-- the writers whose bits are set
abbrev pub writers_of : ℕ → List ℕ
writers_of bits = writers (has_bit bits)

abbrev pub is_nil : List ℕ → Bool
is_nil [] = true
is_nil (w ∷ ws) = false

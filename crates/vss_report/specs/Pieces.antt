-- A text in pieces: a byte parts it, a newline into lines, a space into words. There is always one piece more than there are
-- such bytes; so what follows the last newline is a piece too, and no line. (This project's own.)
use Rattle.std.specs.Prelude.{ℕ, ◌==◌, Bool, true, false, List, [], ◌∷◌, length, drop, nat_lt, if◌then◌else◌}

-- one more byte before the first piece
abbrev pub before : ℕ → List (List ℕ) → List (List ℕ)
before byte [] = (byte ∷ []) ∷ []
before byte (piece ∷ more) = (byte ∷ piece) ∷ more

-- the pieces of a text, parted by the byte `mark`
abbrev pub pieces : ℕ → List ℕ → List (List ℕ)
pieces mark [] = [] ∷ []
pieces mark (byte ∷ rest) = if byte == mark then [] ∷ pieces mark rest else before byte (pieces mark rest)

-- those that begin at a place or after it; none past the end
abbrev pub pieces_at : ℕ → List ℕ → ℕ → List (List ℕ)
pieces_at mark text at = if nat_lt (length text) at then [] else pieces mark (drop at text)

-- no piece is left
abbrev pub is_over : List (List ℕ) → Bool
is_over [] = true
is_over (piece ∷ more) = false

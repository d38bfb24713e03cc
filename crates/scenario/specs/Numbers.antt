-- Numbers in a scenario: decimal digits without a leading zero, or 0. A number of any length is a number.
-- (This project's own format.)
use Rattle.std.specs.Prelude.{ℕ, ◌+◌, ◌-◌, ◌*◌, ◌==◌, ◌&&◌, Bool, not, List, [], ◌∷◌, length, slice_index, nat_le, nat_lt, if◌then◌else◌, Option, Some, None, Result, Ok, Err}
use Rattle.scenario.specs.declared.reason.Reason.{Reason}
use Rattle.scenario.specs.declared.reason.Reason.TheVariants.{BadNumber, OutOfRange}

abbrev pub is_digit : ℕ → Bool
is_digit byte = nat_le 48 byte && nat_le byte 57

-- what the digits make of the number that those before them are
abbrev pub value_from : ℕ → List ℕ → Option ℕ
value_from n [] = Some n
value_from n (byte ∷ rest) = if is_digit byte then value_from (n * 10 + (byte - 48)) rest else None

-- there is a first digit, and it is no zero with others behind it
abbrev pub begins_number : List ℕ → Bool
begins_number digits = nat_lt 0 (length digits) && not ((slice_index digits 0 == 48) && nat_lt 1 (length digits))

abbrev pub number_of : List ℕ → Option ℕ
number_of digits = if begins_number digits then value_from 0 digits else None

abbrev pub in_range : ℕ → ℕ → Option ℕ → Result ℕ Reason
in_range low high None = Err BadNumber
in_range low high (Some n) = if nat_le low n && nat_le n high then Ok n else Err OutOfRange

-- the number that these bytes are, from `low` to `high`
unfoldable pub number_in : ℕ → ℕ → List ℕ → Result ℕ Reason
number_in low high digits = in_range low high (number_of digits)

-- a value, or the least that is past the bound
abbrev pub capped : ℕ → ℕ → ℕ
capped high n = if nat_lt high n then high + 1 else n

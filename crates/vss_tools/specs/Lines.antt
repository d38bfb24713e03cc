-- Which lines a report has, a line in words, and whom or what it names. (This project's own.)
use Rattle.std.specs.Char.{is_ascii_digit}
use Rattle.std.specs.List.{before_first, after_first, starts_with}
use Rattle.std.specs.Prelude.{ℕ, ◌==◌, ◌+◌, ◌*◌, ◌-◌, Bool, nat_le, List, [], ◌∷◌, length, if◌then◌else◌, false, nat_eq, ◌||◌, codes}
use Rattle.std.specs.Str.{bytes_eq}
use Rattle.vss_tools.specs.declared.timeline.row.Row.{Row}
use Rattle.vss_tools.specs.declared.timeline.row_kind.RowKind.{RowKind}
use Rattle.vss_tools.specs.declared.timeline.row_kind.RowKind.TheVariants.{Time, Lane, Provider, Writer, Volume}

-- ## A line in words: what stands before its first space, and what follows that; and the number that a word is, of ten digits at most, or 0.
-- (This project's own.)

abbrev pub word_of : List ℕ → List ℕ
word_of line = before_first (λ b. b == 32) line

abbrev pub rest_of : List ℕ → List ℕ
rest_of line = after_first (λ b. b == 32) line

abbrev pub is_empty : {X : Type 0} → List X → Bool
is_empty xs = length xs == 0

-- a number with one digit more
abbrev pub with_digit : ℕ → ℕ → ℕ
with_digit value byte = if nat_le value 999999999 then value * 10 + (byte - 48) else value

abbrev pub number_from : ℕ → List ℕ → ℕ
number_from value [] = value
number_from value (byte ∷ rest) = if is_ascii_digit byte then number_from (with_digit value byte) rest else 0

abbrev pub number_of : List ℕ → ℕ
number_of word = number_from 0 word

-- ## Which lines a report has, as a picture reads them: a move's line begins with a digit; another begins with one of six words. (This
-- project's own.)

abbrev pub is_move : List ℕ → Bool
is_move [] = false
is_move (first ∷ rest) = is_ascii_digit first

abbrev pub is_effect : List ℕ → Bool
is_effect line = starts_with nat_eq line (codes "= ")

-- a closing line
abbrev pub is_closing : List ℕ → Bool
is_closing line =
    starts_with nat_eq line (codes "end ") || starts_with nat_eq line (codes "volume ") || starts_with nat_eq line (codes "image ")
    || starts_with nat_eq line (codes "writer ")

abbrev pub is_line : List ℕ → Bool
is_line line = is_move line || is_effect line || is_closing line || bytes_eq line (codes "report 1")

-- ## Whom or what a line of a report names: the row of a picture that it belongs to. (This project's own.)

-- a kind and a name
abbrev pub Named : Type 0
Named = RowKind × List ℕ

abbrev pub named_of : Row → Named
named_of r = (r.kind, r.name.now)

abbrev pub volume_or_provider : List ℕ → Named
volume_or_provider name = if is_empty name then (Provider, []) else (Volume, name)

-- by what follows a move's number
abbrev pub named_in_move : List ℕ → List ℕ → Named
named_in_move actor said =
    if bytes_eq actor (codes "lane") then (Lane, word_of said)
    else if bytes_eq actor (codes "writer") then (Writer, word_of said)
    else if bytes_eq actor (codes "provider") then volume_or_provider (word_of (rest_of said))
    else (Time, [])

-- by what follows the sign of an effect
abbrev pub named_in_effect : List ℕ → List ℕ → Named
named_in_effect what said =
    if bytes_eq what (codes "evicted") then (Volume, word_of (rest_of said))
    else if bytes_eq what (codes "writer") then (Writer, word_of said)
    else (Provider, [])

abbrev pub named_in_other : List ℕ → List ℕ → Named
named_in_other first said =
    if bytes_eq first (codes "=") then named_in_effect (word_of said) (rest_of said)
    else if bytes_eq first (codes "volume") then (Volume, word_of said)
    else if bytes_eq first (codes "image") then (Volume, word_of (rest_of said))
    else if bytes_eq first (codes "writer") then (Writer, word_of said)
    else (Time, [])

abbrev pub named_in : List ℕ → Named
named_in line =
    if is_move line then named_in_move (word_of (rest_of line)) (rest_of (rest_of line)) else named_in_other (word_of line) (rest_of line)

-- What a picture takes of a scenario, and which report is refused beside it. (This project's own.)
use Rattle.std.specs.List.{flat_map, list_any, starts_with}
use Rattle.std.specs.Prelude.{ℕ, ◌-◌, ◌==◌, ◌&&◌, ◌||◌, Bool, List, [], ◌∷◌, nat_eq, slice_get, unwrap_or, codes, if◌then◌else◌, ◌+◌, true, not, Option, Some}
use Rattle.std.specs.Prelude.{None}
use Rattle.std.specs.Str.{bytes_eq}
use Rattle.std.specs.Str.Lines.{lines}
use Rattle.vss_tools.specs.Lines.{is_line, is_move, Named, named_in, is_empty, rest_of, word_of, number_of}
use Rattle.vss_tools.specs.declared.timeline.fault.Fault.{Fault}
use Rattle.vss_tools.specs.declared.timeline.fault.Fault.TheVariants.{NoLine, UnknownName, OtherLine}
use Rattle.vss_tools.specs.declared.timeline.refusal.Refusal.{Refusal}
use Rattle.vss_tools.specs.declared.timeline.row_kind.RowKind.{RowKind}
use Rattle.vss_tools.specs.declared.timeline.row_kind.RowKind.TheVariants.{Time, Lane, Provider, Writer, Volume}

-- ## What a picture takes of a scenario: its lines by their numbers, what it declares, and which lane each line is of. (This project's own.)

abbrev pub is_declaration : List ℕ → Bool
is_declaration word = bytes_eq word (codes "lane") || bytes_eq word (codes "writer") || bytes_eq word (codes "volume")

-- the lines that declare a lane, a writer or a volume
abbrev pub declaration_of : List ℕ → List (List ℕ)
declaration_of line = if is_declaration (word_of line) then line ∷ [] else []

abbrev pub declarations : List (List ℕ) → List (List ℕ)
declarations lines = flat_map declaration_of lines

abbrev pub is_of : List ℕ → List ℕ → List ℕ → Bool
is_of word name line = bytes_eq (word_of line) word && bytes_eq (word_of (rest_of line)) name

-- whether a name of this kind is declared
abbrev pub declares : List (List ℕ) → List ℕ → List ℕ → Bool
declares lines word name = list_any (is_of word name) (declarations lines)

-- the lane behind a line, where this one is before it
abbrev pub lane_after : List ℕ → List ℕ → List ℕ
lane_after lane line = if bytes_eq (word_of line) (codes "lane") then word_of (rest_of line) else lane

-- the lane that makes a line, where it is in that one's part: nobody makes the line that begins the part, an empty one, or a comment
abbrev pub maker_of : List ℕ → List ℕ → List ℕ
maker_of lane line = if bytes_eq (word_of line) (codes "lane") || is_empty line || starts_with nat_eq line (codes "#") then [] else lane

abbrev pub makers_from : List ℕ → List (List ℕ) → List (List ℕ)
makers_from lane [] = []
makers_from lane (line ∷ rest) = maker_of lane line ∷ makers_from (lane_after lane line) rest

-- who makes each line
abbrev pub makers : List (List ℕ) → List (List ℕ)
makers lines = makers_from [] lines

-- what a list has at a number, counted from 1
abbrev pub numbered : List (List ℕ) → ℕ → List ℕ
numbered lines number = unwrap_or (slice_get lines (number - 1)) []

-- what a lane's line says: number 0 is the `end` that a lane is given
abbrev pub said_at : List (List ℕ) → ℕ → List ℕ
said_at lines number = if number == 0 then codes "end" else numbered lines number

-- whether a lane makes the line of this number
abbrev pub makes : List (List ℕ) → List ℕ → ℕ → Bool
makes lines lane number = number == 0 || bytes_eq (numbered (makers lines) number) lane

-- ## Which report is refused: its first line that no report has, or that shows that the scenario beside it is another one's, by a name
-- that this does not declare, or by a lane's line that this does not have there. Where there is no scenario, names and lines are
-- free. (This project's own.)

-- the word that declares a name of a kind; empty where nothing has to
abbrev pub declaring : RowKind → List ℕ
declaring Time = []
declaring Lane = codes "lane"
declaring Provider = []
declaring Writer = codes "writer"
declaring Volume = codes "volume"

abbrev pub is_declared : List (List ℕ) → Named → Bool
is_declared script (kind, name) = is_empty (declaring kind) || declares script (declaring kind) name

-- whether a move is a lane's, by what follows its number
abbrev pub is_lanes : List ℕ → Bool
is_lanes said = bytes_eq (word_of said) (codes "lane")

-- whether a lane's move is of a line that the lane makes
abbrev pub is_lanes_line : List (List ℕ) → List ℕ → Bool
is_lanes_line script said = makes script (word_of (rest_of said)) (number_of (word_of (rest_of (rest_of said))))

abbrev pub is_as_scripted : List (List ℕ) → List ℕ → Bool
is_as_scripted script line = if is_move line && is_lanes (rest_of line) then is_lanes_line script (rest_of line) else true

-- why a line is refused
abbrev pub fault_of : List (List ℕ) → List ℕ → Option Fault
fault_of script line =
    if not (is_line line) then Some NoLine else if is_empty script then None
    else if not (is_declared script (named_in line)) then Some UnknownName
    else if not (is_as_scripted script line) then Some OtherLine else None

abbrev pub refused_at : ℕ → Option Fault → Option Refusal → Option Refusal
refused_at number (Some f) later = Some (record { line = number; fault = f })
refused_at number None later = later

-- the first refusal among lines that are counted from `number`
abbrev pub refusal_from : List (List ℕ) → ℕ → List (List ℕ) → Option Refusal
refusal_from script number [] = None
refusal_from script number (line ∷ rest) = refused_at number (fault_of script line) (refusal_from script (number + 1) rest)

-- of a report beside a scenario, two texts
abbrev pub refusal : List ℕ → List ℕ → Option Refusal
refusal scenario report = refusal_from (lines scenario) 1 (lines report)

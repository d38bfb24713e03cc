-- A report read back: which text tells which trail, or which of its lines is the first that is not of the form. The first line is
-- `report 1`; up to the `end` line each line is a move or an effect; what follows is not read. A line has its newline.
-- Where each line is of the form and none is the `end` line, the line after the last is missed. (This project's own.)
use Rattle.std.specs.Prelude.{ℕ, ◌≡◌, ◌+◌, List, [], ◌∷◌, ◌++◌, length, Result, Ok, Err, if◌then◌else◌, ◌&&◌, not, codes}
use Rattle.std.specs.Str.{bytes_eq}
use Rattle.write_history.specs.declared.move_item.Move.{Move as Step}
use Rattle.scenario.specs.Plan.{Plan}
use Rattle.vss_report.specs.declared.line_kind.LineKind.{LineKind}
use Rattle.vss_report.specs.declared.line_kind.LineKind.TheVariants.{Move, Effect, End, Bad}
use Rattle.vss_report.specs.declared.report_fault.ReportFault.{ReportFault}
use Rattle.vss_report.specs.declared.report_fault.ReportFault.TheVariants.{BadLine, OutOfMemory}
use Rattle.vss_report.specs.Pieces.{pieces, is_over}
use Rattle.vss_report.specs.Shapes.{kind_of}

-- the number of the move after these
abbrev pub next_number : List Step → ℕ
next_number moves = length moves + 1

-- what line `number` makes of the moves before it; `more` is what the lines after it make of moves
abbrev pub goes_on : ℕ → List Step → (List Step → Result (List Step) ℕ) → LineKind → Result (List Step) ℕ
goes_on number moves more (Move m) = more (moves ++ m ∷ [])
goes_on number moves more Effect = more moves
goes_on number moves more End = Ok moves
goes_on number moves more Bad = Err number

-- what these pieces of a text make of the moves before them; the first of them is line `number`. The last piece is no line
abbrev pub read_from : Plan → ℕ → List Step → List (List ℕ) → Result (List Step) ℕ
read_from s number moves [] = Err number
read_from s number moves (line ∷ rest) =
    if is_over rest then Err number
    else goes_on number moves (λ all. read_from s (number + 1) all rest) (kind_of s (next_number moves) line)

abbrev pub after_first : Plan → List (List ℕ) → Result (List Step) ℕ
after_first s [] = Err 1
after_first s (line ∷ rest) = if bytes_eq line (codes "report 1") && not (is_over rest) then read_from s 2 [] rest else Err 1

-- the trail that a text tells, or its first bad line
unfoldable pub reading_back : Plan → List ℕ → Result (List Step) ℕ
reading_back s text = after_first s (pieces 10 text)

-- ## the moves before the first bad line

abbrev pub tells_on : List Step → (List Step → List Step) → LineKind → List Step
tells_on moves more (Move m) = more (moves ++ m ∷ [])
tells_on moves more Effect = more moves
tells_on moves more End = moves
tells_on moves more Bad = moves

-- these moves, with those that these pieces of a text tell before the first that is no line of the form
abbrev pub moves_from : Plan → List Step → List (List ℕ) → List Step
moves_from s moves [] = moves
moves_from s moves (line ∷ rest) =
    if is_over rest then moves else tells_on moves (λ all. moves_from s all rest) (kind_of s (next_number moves) line)

abbrev pub moves_after_first : Plan → List (List ℕ) → List Step
moves_after_first s [] = []
moves_after_first s (line ∷ rest) = if bytes_eq line (codes "report 1") && not (is_over rest) then moves_from s [] rest else []

-- the moves that any text tells before its first bad line, or its `end` line
unfoldable pub moves_told : Plan → List ℕ → List Step
moves_told s text = moves_after_first s (pieces 10 text)

-- ## why a text tells no trail

-- its first bad line; want of memory says nothing of it
abbrev pub IsBadAt : Result (List Step) ℕ → ReportFault → Type 0
IsBadAt reading (BadLine line) = reading ≡ Err line
IsBadAt reading OutOfMemory = Unit {0}

-- the moves of what was read; where memory was wanted, they are left open
abbrev pub AreTold : Result Unit ReportFault → List Step → List Step → Type 0
AreTold (Err OutOfMemory) moves told = Unit {0}
AreTold _ moves told = moves ≡ told

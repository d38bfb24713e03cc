-- A text as its lines. A newline (byte 10) ends a line; where the last line has none, it is a line that is not ended.
-- Lines are told by where they stand in the text. (This project's own format.)
use Rattle.std.specs.Prelude.{ℕ, ◌+◌, ◌==◌, true, false, List, [], ◌∷◌, drop, if◌then◌else◌}
use Rattle.scenario.specs.declared.span.Span.{Span}
use Rattle.scenario.specs.declared.text_line.TextLine.{TextLine}

abbrev pub span_from : ℕ → ℕ → Span
span_from start end = record { start = start; end = end }

-- the lines of what follows place `at`, where the line at hand began at `start`
abbrev pub lines_from : ℕ → ℕ → List ℕ → List TextLine
lines_from start at [] = if start == at then [] else record { span = span_from start at; ended = false } ∷ []
lines_from start at (byte ∷ rest) =
    if byte == 10
    then record { span = span_from start at; ended = true } ∷ lines_from (at + 1) (at + 1) rest
    else lines_from start (at + 1) rest

-- the lines from place `at` on, where a line begins
abbrev pub lines_at : List ℕ → ℕ → List TextLine
lines_at text at = lines_from at at (drop at text)

abbrev pub lines_in : List ℕ → List TextLine
lines_in text = lines_from 0 0 text

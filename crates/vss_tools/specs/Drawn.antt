-- A drawing, of which only texts and numbers are not fixed, a text as it stands in it, and lines for a terminal. (This project's own.)
use Rattle.std.specs.Fmt.{decimal}
use Rattle.std.specs.List.{flat_map}
use Rattle.std.specs.Prelude.{ℕ, List, [], ◌∷◌, ◌==◌, ◌&&◌, nat_le, codes, if◌then◌else◌, ◌≡◌, ◌≤◌, ◌++◌, length, All}
use Rattle.vss_tools.specs.declared.timeline.part.Part.{Part}
use Rattle.vss_tools.specs.declared.timeline.part.Part.TheVariants.{Markup, Number, Words}

-- ## A text as it stands in a drawing: the five bytes that markup gives a meaning are written by their names, and a byte that is no
-- printable ASCII as a question mark. (The names are those of XML 1.0, section 4.6; the rest is this project's own.)

abbrev pub escaped_byte : ℕ → List ℕ
escaped_byte byte =
    if byte == 38 then codes "&amp;" else if byte == 60 then codes "&lt;" else if byte == 62 then codes "&gt;"
    else if byte == 39 then codes "&#39;" else if byte == 34 then codes "&quot;"
    else if nat_le 32 byte && nat_le byte 126 then byte ∷ [] else codes "?"

abbrev pub escaped : List ℕ → List ℕ
escaped text = flat_map escaped_byte text

-- ## A drawing: it is of parts, of which only texts and numbers are not fixed, and each text is escaped. (This project's own.)

abbrev pub part_text : Part → List ℕ
part_text (Markup t) = t.now
part_text (Number n) = decimal n
part_text (Words t) = escaped t.now

abbrev pub parts_text : List Part → List ℕ
parts_text parts = flat_map part_text parts

pub record IsDrawn (bytes : List ℕ) : Type 0 where
  pub parts : List Part
  pub whole : bytes ≡ parts_text parts

-- ## Lines for a terminal: each is at most 100 bytes long, and ends with a newline. What is longer goes on in the next line. A byte that is no
-- printable ASCII is a question mark there. (This project's own.)

abbrev pub with_newline : List ℕ → List ℕ
with_newline line = line ++ 10 ∷ []

abbrev pub printable_byte : ℕ → List ℕ
printable_byte byte = if nat_le 32 byte && nat_le byte 126 then byte ∷ [] else codes "?"

abbrev pub printable : List ℕ → List ℕ
printable text = flat_map printable_byte text

-- a text in lines of at most 100 bytes
pub record IsInLines (out text : List ℕ) : Type 0 where
  pub parts : List (List ℕ)
  pub each : All (λ part. length part ≤ 100) parts
  pub all : text ≡ flat_map (λ part. part) parts
  pub lines : out ≡ flat_map with_newline parts

-- a text that grew by the lines of another
pub record AddsLines (old new text : List ℕ) : Type 0 where
  pub bytes : List ℕ
  pub lines : IsInLines bytes text
  pub all : new ≡ old ++ bytes

pub record IsLines (bytes : List ℕ) : Type 0 where
  pub text : List ℕ
  pub lines : IsInLines bytes (printable text)

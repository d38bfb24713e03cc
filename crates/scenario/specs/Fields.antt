-- A line as a word and its fields, with one space (byte 32) before each field. Two spaces make an empty field. A field
-- may also be the rest of the line, spaces and all. A builder gives values in place of parts of a text. (This project's own format.)
use Rattle.std.specs.Prelude.{ℕ, ◌+◌, ◌≤◌, ◌==◌, List, [], ◌∷◌, slice_range, nat_lt, if◌then◌else◌}
use Rattle.scenario.specs.declared.span.Span.{Span}
use Rattle.scenario.specs.declared.field.Field.{Field}
use Rattle.scenario.specs.declared.field.Field.TheVariants.{Text}
use Rattle.scenario.specs.declared.fields.Fields.{Fields}
use Rattle.scenario.specs.declared.fields.Fields.TheVariants.{Zero, One, Two, Three, Four, Five, Many}
use Rattle.scenario.specs.declared.word.Word.{Word}
use Rattle.scenario.specs.Lines.{span_from}
use Rattle.scenario.specs.Words.{takes_rest}

-- the words of what follows place `at`, where the word at hand began at `start`
abbrev pub words_from : ℕ → ℕ → List ℕ → List Span
words_from start at [] = span_from start at ∷ []
words_from start at (byte ∷ rest) =
    if byte == 32 then span_from start at ∷ words_from (at + 1) (at + 1) rest else words_from start (at + 1) rest

-- the words of the text from `start` to `end`
abbrev pub words_at : List ℕ → ℕ → ℕ → List Span
words_at text start end = words_from start start (slice_range text start end)

-- the words that follow one which ends at `at`
abbrev pub words_after : List ℕ → ℕ → ℕ → List Span
words_after text at end = if at == end then [] else words_at text (at + 1) end

abbrev pub text_field : Span → Field
text_field span = Text span

-- as many fields as a line may have
abbrev pub fields_of : List Span → Fields
fields_of [] = Zero
fields_of (a ∷ []) = One (Text a)
fields_of (a ∷ b ∷ []) = Two (Text a) (Text b)
fields_of (a ∷ b ∷ c ∷ []) = Three (Text a) (Text b) (Text c)
fields_of (a ∷ b ∷ c ∷ d ∷ []) = Four (Text a) (Text b) (Text c) (Text d)
fields_of (a ∷ b ∷ c ∷ d ∷ e ∷ []) = Five (Text a) (Text b) (Text c) (Text d) (Text e)
fields_of _ = Many

-- a field, and what follows it up to the line's end, as it stands; an empty rest is no field
abbrev pub rest_fields : ℕ → List Span → Fields
rest_fields end [] = Zero
rest_fields end (first ∷ more) = if nat_lt (first.end + 1) end then Two (Text first) (Text (span_from (first.end + 1) end)) else One (Text first)

-- the fields of a line that begins with this word and ends at `end`, by the words that follow it
abbrev pub fields_for : Word → ℕ → List Span → Fields
fields_for word end words = if takes_rest word then rest_fields end words else fields_of words

-- the bytes of a part of the text
abbrev pub bytes_of : List ℕ → Span → List ℕ
bytes_of text span = slice_range text span.start span.end

-- ## parts of a text of n bytes

pub record IsPart (n : ℕ) (span : Span) : Type 0 where
  pub ordered : span.start ≤ span.end
  pub within : span.end ≤ n

-- the part of the text that a field is; an empty one where a value was given
abbrev pub span_of : Field → Span
span_of (Text span) = span
span_of _ = span_from 0 0

abbrev pub IsField : ℕ → Field → Type 0
IsField n (Text span) = IsPart n span
IsField n _ = Unit {0}

abbrev pub AreFields : ℕ → Fields → Type 0
AreFields n Zero = Unit {0}
AreFields n (One a) = IsField n a
AreFields n (Two a b) = IsField n a × IsField n b
AreFields n (Three a b c) = IsField n a × IsField n b × IsField n c
AreFields n (Four a b c d) = IsField n a × IsField n b × IsField n c × IsField n d
AreFields n (Five a b c d e) = IsField n a × IsField n b × IsField n c × IsField n d × IsField n e
AreFields n Many = Unit {0}

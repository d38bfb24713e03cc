-- What a name is; how a table of rows, each with a key of its own, is looked up; and what a contract sees of a `Text`. (This project's own.)
use Rattle.std.specs.Char.{is_ascii_alphabetic, is_ascii_alphanumeric}
use Rattle.std.specs.List.{list_all}
use Rattle.std.specs.Prelude.{ℕ, ◌==◌, ◌&&◌, ◌||◌, Bool, List, length, slice_index, nat_le, ◌≡◌, ◌≢◌, ◌↔◌, Option, Some, IfSome, IsNone}

-- ## Names of areas, volumes, writers and lanes: 1 to 32 letters, digits, underscores, hyphens and full stops, a letter first. (This
-- project's own format.)

abbrev pub is_name_byte : ℕ → Bool
is_name_byte byte = is_ascii_alphanumeric byte || (byte == 95) || (byte == 45) || (byte == 46)

unfoldable pub is_name : List ℕ → Bool
is_name name = nat_le 1 (length name) && nat_le (length name) 32 && is_ascii_alphabetic (slice_index name 0) && list_all is_name_byte name

-- ## A table of rows, each with a key of its own: a number, or a name. A row is looked up by its key.
-- (This project's own.)

-- what a look-up for `key` answers: the row that has it, and none exactly where no row has it
pub record IsLookUp {Row Key : Type 0} (key_of : Row → Key) (key : Key) (found : Option Row) : Type 0 where
  pub has : IfSome found (λ row. key_of row ≡ key)
  pub every : (row : Row) → key_of row ≡ key → found ≡ Some row
  pub none : IsNone found ↔ ((row : Row) → key_of row ≢ key)

-- ## What a contract sees of a `Text`: its bytes, and its spare, the number of bytes that it has room for beside
-- them. While the spare lasts, appending cannot fail. (This project's own.)

pub record TextValue : Type 0 where
  pub bytes : List ℕ
  pub spare : ℕ

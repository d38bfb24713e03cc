-- The kinds of data sources: members of the SDK's enumeration VSS_SOURCE_TYPE (vswriter.h), with their numbers and
-- names.
use Rattle.std.specs.Prelude.{ℕ, List, [], ◌∷◌, Option, codes, find, nat_eq}
use Rattle.std.specs.Str.{bytes_eq}
use Rattle.vss_names.specs.declared.source_kind.SourceKind.{SourceKind}
use Rattle.vss_names.specs.declared.source_kind.SourceKind.TheVariants.{TransactedDb, NonTransactedDb, Other}

abbrev pub number_of : SourceKind → ℕ
number_of TransactedDb = 1
number_of NonTransactedDb = 2
number_of Other = 3

abbrev pub name_of : SourceKind → List ℕ
name_of TransactedDb = codes "VSS_ST_TRANSACTEDDB"
name_of NonTransactedDb = codes "VSS_ST_NONTRANSACTEDDB"
name_of Other = codes "VSS_ST_OTHER"

-- all source kinds, in the order of their numbers
abbrev pub source_kinds : List SourceKind
source_kinds = TransactedDb ∷ NonTransactedDb ∷ Other ∷ []

-- the source kind with this number
unfoldable pub source_kind_of_number : ℕ → Option SourceKind
source_kind_of_number number = find (λ source_kind. nat_eq (number_of source_kind) number) source_kinds

-- the source kind with this name
unfoldable pub source_kind_of_name : List ℕ → Option SourceKind
source_kind_of_name name = find (λ source_kind. bytes_eq (name_of source_kind) name) source_kinds

-- The contexts of snapshots that are offered: members of the SDK's enumeration VSS_SNAPSHOT_CONTEXT (vss.h), with
-- their numbers and names.
use Rattle.std.specs.Prelude.{ℕ, List, [], ◌∷◌, Option, codes, find, nat_eq}
use Rattle.std.specs.Str.{bytes_eq}
use Rattle.vss_names.specs.declared.context.Context.{Context}
use Rattle.vss_names.specs.declared.context.Context.TheVariants.{Backup, AppRollback, NasRollback}

abbrev pub number_of : Context → ℕ
number_of Backup = 0
number_of AppRollback = 9
number_of NasRollback = 25

abbrev pub name_of : Context → List ℕ
name_of Backup = codes "VSS_CTX_BACKUP"
name_of AppRollback = codes "VSS_CTX_APP_ROLLBACK"
name_of NasRollback = codes "VSS_CTX_NAS_ROLLBACK"

-- all contexts, in the order of their numbers
abbrev pub contexts : List Context
contexts = Backup ∷ AppRollback ∷ NasRollback ∷ []

-- the context with this number
unfoldable pub context_of_number : ℕ → Option Context
context_of_number number = find (λ context. nat_eq (number_of context) number) contexts

-- the context with this name
unfoldable pub context_of_name : List ℕ → Option Context
context_of_name name = find (λ context. bytes_eq (name_of context) name) contexts

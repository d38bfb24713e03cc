-- The orders that a writer is sent, with the names that scenarios and reports write. They stand for the events of the
-- SDK's class CVssWriter (vswriter.h); the names and their spelling are this project's own.
use Rattle.std.specs.Prelude.{ℕ, List, [], ◌∷◌, Option, codes, find}
use Rattle.std.specs.Str.{bytes_eq}
use Rattle.vss_names.specs.declared.order.Order.{Order}
use Rattle.vss_names.specs.declared.order.Order.TheVariants.{Identify, PrepareBackup, PrepareSnapshot, Freeze, Thaw, PostSnapshot, BackupComplete}

abbrev pub name_of : Order → List ℕ
name_of Identify = codes "identify"
name_of PrepareBackup = codes "prepare_backup"
name_of PrepareSnapshot = codes "prepare_snapshot"
name_of Freeze = codes "freeze"
name_of Thaw = codes "thaw"
name_of PostSnapshot = codes "post_snapshot"
name_of BackupComplete = codes "backup_complete"

-- all orders, in the order in which a session sends them
abbrev pub orders : List Order
orders =
    Identify ∷ PrepareBackup ∷ PrepareSnapshot ∷ Freeze ∷ Thaw ∷ PostSnapshot ∷ BackupComplete ∷ []

-- the order with this name
unfoldable pub order_of_name : List ℕ → Option Order
order_of_name name = find (λ order. bytes_eq (name_of order) name) orders

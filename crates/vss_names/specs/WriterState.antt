-- The states of a writer: the SDK's enumeration VSS_WRITER_STATE (vss.h), with its numbers and names.
use Rattle.std.specs.Prelude.{ℕ, List, [], ◌∷◌, Option, codes, find, nat_eq}
use Rattle.std.specs.Str.{bytes_eq}
use Rattle.vss_names.specs.declared.writer_state.WriterState.{WriterState}
use Rattle.vss_names.specs.declared.writer_state.WriterState.TheVariants.{Unknown, Stable, WaitingForFreeze, WaitingForThaw, WaitingForPostSnapshot, WaitingForBackupComplete, FailedAtIdentify, FailedAtPrepareBackup, FailedAtPrepareSnapshot, FailedAtFreeze, FailedAtThaw, FailedAtPostSnapshot, FailedAtBackupComplete, FailedAtPreRestore, FailedAtPostRestore, FailedAtBackupShutdown}

abbrev pub number_of : WriterState → ℕ
number_of Unknown = 0
number_of Stable = 1
number_of WaitingForFreeze = 2
number_of WaitingForThaw = 3
number_of WaitingForPostSnapshot = 4
number_of WaitingForBackupComplete = 5
number_of FailedAtIdentify = 6
number_of FailedAtPrepareBackup = 7
number_of FailedAtPrepareSnapshot = 8
number_of FailedAtFreeze = 9
number_of FailedAtThaw = 10
number_of FailedAtPostSnapshot = 11
number_of FailedAtBackupComplete = 12
number_of FailedAtPreRestore = 13
number_of FailedAtPostRestore = 14
number_of FailedAtBackupShutdown = 15

abbrev pub name_of : WriterState → List ℕ
name_of Unknown = codes "VSS_WS_UNKNOWN"
name_of Stable = codes "VSS_WS_STABLE"
name_of WaitingForFreeze = codes "VSS_WS_WAITING_FOR_FREEZE"
name_of WaitingForThaw = codes "VSS_WS_WAITING_FOR_THAW"
name_of WaitingForPostSnapshot = codes "VSS_WS_WAITING_FOR_POST_SNAPSHOT"
name_of WaitingForBackupComplete = codes "VSS_WS_WAITING_FOR_BACKUP_COMPLETE"
name_of FailedAtIdentify = codes "VSS_WS_FAILED_AT_IDENTIFY"
name_of FailedAtPrepareBackup = codes "VSS_WS_FAILED_AT_PREPARE_BACKUP"
name_of FailedAtPrepareSnapshot = codes "VSS_WS_FAILED_AT_PREPARE_SNAPSHOT"
name_of FailedAtFreeze = codes "VSS_WS_FAILED_AT_FREEZE"
name_of FailedAtThaw = codes "VSS_WS_FAILED_AT_THAW"
name_of FailedAtPostSnapshot = codes "VSS_WS_FAILED_AT_POST_SNAPSHOT"
name_of FailedAtBackupComplete = codes "VSS_WS_FAILED_AT_BACKUP_COMPLETE"
name_of FailedAtPreRestore = codes "VSS_WS_FAILED_AT_PRE_RESTORE"
name_of FailedAtPostRestore = codes "VSS_WS_FAILED_AT_POST_RESTORE"
name_of FailedAtBackupShutdown = codes "VSS_WS_FAILED_AT_BACKUPSHUTDOWN"

-- all states, in the order of their numbers
abbrev pub states : List WriterState
states =
    Unknown ∷ Stable ∷ WaitingForFreeze ∷ WaitingForThaw ∷ WaitingForPostSnapshot ∷
    WaitingForBackupComplete ∷ FailedAtIdentify ∷ FailedAtPrepareBackup ∷ FailedAtPrepareSnapshot ∷
    FailedAtFreeze ∷ FailedAtThaw ∷ FailedAtPostSnapshot ∷ FailedAtBackupComplete ∷
    FailedAtPreRestore ∷ FailedAtPostRestore ∷ FailedAtBackupShutdown ∷ []

-- the state with this number
unfoldable pub state_of_number : ℕ → Option WriterState
state_of_number number = find (λ state. nat_eq (number_of state) number) states

-- the state with this name
unfoldable pub state_of_name : List ℕ → Option WriterState
state_of_name name = find (λ state. bytes_eq (name_of state) name) states

-- The results that a call of the service answers by name: codes of the SDK (vsserror.h), the writer errors among them.
-- They are told by name alone, so they have no numbers here.
use Rattle.std.specs.Prelude.{ℕ, List, [], ◌∷◌, ◌++◌, map, Option, codes, find}
use Rattle.std.specs.Str.{bytes_eq}
use Rattle.vss_names.specs.declared.vss_result.VssResult.{VssResult}
use Rattle.vss_names.specs.declared.vss_result.VssResult.TheVariants.{Writer, BadState, ObjectNotFound, ObjectAlreadyExists, UnsupportedContext, SnapshotSetInProgress, MaximumNumberOfVolumesReached, MaximumNumberOfSnapshotsReached, InsufficientStorage, HoldWritesTimeout, WriterNotResponding, UnexpectedProviderError, AsyncPending, AsyncFinished, AsyncCancelled}
use Rattle.vss_names.specs.WriterError as error

abbrev pub name_of : VssResult → List ℕ
name_of (Writer code) = error.name_of code
name_of BadState = codes "VSS_E_BAD_STATE"
name_of ObjectNotFound = codes "VSS_E_OBJECT_NOT_FOUND"
name_of ObjectAlreadyExists = codes "VSS_E_OBJECT_ALREADY_EXISTS"
name_of UnsupportedContext = codes "VSS_E_UNSUPPORTED_CONTEXT"
name_of SnapshotSetInProgress = codes "VSS_E_SNAPSHOT_SET_IN_PROGRESS"
name_of MaximumNumberOfVolumesReached = codes "VSS_E_MAXIMUM_NUMBER_OF_VOLUMES_REACHED"
name_of MaximumNumberOfSnapshotsReached = codes "VSS_E_MAXIMUM_NUMBER_OF_SNAPSHOTS_REACHED"
name_of InsufficientStorage = codes "VSS_E_INSUFFICIENT_STORAGE"
name_of HoldWritesTimeout = codes "VSS_E_HOLD_WRITES_TIMEOUT"
name_of WriterNotResponding = codes "VSS_E_WRITER_NOT_RESPONDING"
name_of UnexpectedProviderError = codes "VSS_E_UNEXPECTED_PROVIDER_ERROR"
name_of AsyncPending = codes "VSS_S_ASYNC_PENDING"
name_of AsyncFinished = codes "VSS_S_ASYNC_FINISHED"
name_of AsyncCancelled = codes "VSS_S_ASYNC_CANCELLED"

-- all results, the writer errors first
abbrev pub vss_results : List VssResult
vss_results =
    map Writer error.errors ++ (
    BadState ∷ ObjectNotFound ∷ ObjectAlreadyExists ∷ UnsupportedContext ∷
    SnapshotSetInProgress ∷ MaximumNumberOfVolumesReached ∷ MaximumNumberOfSnapshotsReached ∷
    InsufficientStorage ∷ HoldWritesTimeout ∷ WriterNotResponding ∷ UnexpectedProviderError ∷
    AsyncPending ∷ AsyncFinished ∷ AsyncCancelled ∷ [])

-- the result with this name
unfoldable pub vss_result_of_name : List ℕ → Option VssResult
vss_result_of_name name = find (λ vss_result. bytes_eq (name_of vss_result) name) vss_results

-- The errors with which a writer vetoes an order: the SDK's codes VSS_E_WRITERERROR_* (vsserror.h), each a 32-bit
-- HRESULT, with their names.
use Rattle.std.specs.Prelude.{ℕ, List, [], ◌∷◌, Option, codes, find, nat_eq}
use Rattle.std.specs.Str.{bytes_eq}
use Rattle.vss_names.specs.declared.writer_error.WriterError.{WriterError}
use Rattle.vss_names.specs.declared.writer_error.WriterError.TheVariants.{InconsistentSnapshot, OutOfResources, Timeout, Retryable, NonRetryable}

abbrev pub number_of : WriterError → ℕ
number_of InconsistentSnapshot = 0x800423F0
number_of OutOfResources = 0x800423F1
number_of Timeout = 0x800423F2
number_of Retryable = 0x800423F3
number_of NonRetryable = 0x800423F4

abbrev pub name_of : WriterError → List ℕ
name_of InconsistentSnapshot = codes "VSS_E_WRITERERROR_INCONSISTENTSNAPSHOT"
name_of OutOfResources = codes "VSS_E_WRITERERROR_OUTOFRESOURCES"
name_of Timeout = codes "VSS_E_WRITERERROR_TIMEOUT"
name_of Retryable = codes "VSS_E_WRITERERROR_RETRYABLE"
name_of NonRetryable = codes "VSS_E_WRITERERROR_NONRETRYABLE"

-- all errors, in the order of their numbers
abbrev pub errors : List WriterError
errors = InconsistentSnapshot ∷ OutOfResources ∷ Timeout ∷ Retryable ∷ NonRetryable ∷ []

-- the error with this number
unfoldable pub error_of_number : ℕ → Option WriterError
error_of_number number = find (λ error. nat_eq (number_of error) number) errors

-- the error with this name
unfoldable pub error_of_name : List ℕ → Option WriterError
error_of_name name = find (λ error. bytes_eq (name_of error) name) errors

-- What a move comes to: the reply that is told, which set ends, and whose images go. (This project's own.)
use Rattle.std.specs.Prelude.{ℕ, List, map, Option, Some, None, Result, Ok, Err}
use Rattle.vss_model.specs.Words.{AddFault, AlreadyExists, Backup, Context, Failed, History, NotFound, ObjectAlreadyExists, ObjectNotFound, Order, OutOfMemory, Running, SetOutcome, after_agenda}
use Rattle.vss_model.specs.Words.{dropped, lost_order, released, row_settled}
use Rattle.sessions.specs.Words.{Told}
use Rattle.component_doc.specs.declared.add_fault.AddFault.TheVariants as fault
use Rattle.vss_model.specs.declared.told.Told.TheVariants as told
use Rattle.sessions.specs.declared.ended.Ended.{Ended}
use Rattle.sessions.specs.declared.session_move.SessionMove.{SessionMove}
use Rattle.sessions.specs.Keeps.{SessionsValue}

-- ## which set ends

-- an agenda ended with this outcome, or the set failed
abbrev pub ended_so : SetOutcome → SessionsValue → SessionsValue
ended_so o x = record x { requestor = after_agenda o x.requestor; sets = map (row_settled o) x.sets }

abbrev pub nothing_ends : Ended
nothing_ends = record { set = 0; result = Running }

-- where an agenda ended with this outcome or the set failed: the set, where it was in progress and is no longer
abbrev pub ends_as : Option ℕ → SetOutcome → Ended
ends_as None o = nothing_ends
ends_as (Some n) Running = nothing_ends
ends_as (Some n) o = record { set = n; result = o }

-- ## whose images go

-- the set that failed, by its number and its end
abbrev pub failed_set : SetOutcome → ℕ → Option ℕ
failed_set (Failed why) n = Some n
failed_set _ n = None

-- of a context whose images go with the session, its set
abbrev pub released_by : Option Context → Option ℕ → Option ℕ
released_by (Some Backup) set = set
released_by _ set = None

-- the images of a set go, where there is one
abbrev pub without_images : Option ℕ → List History → List History
without_images None hs = hs
without_images (Some n) hs = map (dropped n) hs

-- ## what is told

-- with the writers that were lost, as bits, and their order
abbrev pub told_of : Told → ℕ → Option Order → Ended → SessionMove
told_of t lost order e = record { outcome = record { told = t; lost = lost; lost_order = order; set = e.set; result = e.result }; released = None }

abbrev pub told_alone : Told → SessionMove
told_alone t = told_of t 0 None nothing_ends

-- what is told of a component that was named, or was not; nothing where memory was wanting
abbrev pub told_named : Result (Unit {0}) AddFault → Option Told
told_named (Ok u) = Some told.Ok
told_named (Err NotFound) = Some (told.Result ObjectNotFound)
told_named (Err fault.NotSelectable) = Some told.NotSelectable
told_named (Err AlreadyExists) = Some (told.Result ObjectAlreadyExists)
told_named (Err OutOfMemory) = None

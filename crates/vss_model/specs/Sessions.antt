-- The session calls that pass the checks: what each is answered, with the refusals of its own, in their order. (The calls are
-- those of the SDK's IVssBackupComponents; which refusal answers which code is this project's own.)
use Rattle.std.specs.Prelude.{ℕ, ◌+◌, Bool, true, false, List, [], ◌∷◌, ◌++◌, length, nat_le, ◌==◌, ◌&&◌, not, if◌then◌else◌, Option, Some, None, slice_get}
use Rattle.std.specs.List.{list_any}
use Rattle.vss_names.specs.declared.context.Context.{Context}
use Rattle.vss_names.specs.declared.set_outcome.SetOutcome.TheVariants.{Running}
use Rattle.vss_names.specs.declared.writer_state.WriterState.{WriterState}
use Rattle.vss_names.specs.declared.writer_state.WriterState.TheVariants as state
use Rattle.vss_names.specs.declared.vss_result.VssResult.{VssResult}
use Rattle.vss_names.specs.declared.vss_result.VssResult.TheVariants.{BadState, ObjectNotFound, ObjectAlreadyExists, UnsupportedContext, MaximumNumberOfVolumesReached, MaximumNumberOfSnapshotsReached, AsyncPending}
use Rattle.writer_state.specs.declared.writer_row.WriterRow.{WriterRow}
use Rattle.writer_meta.specs.Metadata.{Meta}
use Rattle.component_doc.specs.Selection.{Selected, Named, all_of, Naming, IsNotFound, IsNotSelectable, IsNamedAlready, Names, naming}
use Rattle.component_doc.specs.Document.{document_text}
use Rattle.requestor.specs.declared.mode.Mode.{Mode}
use Rattle.requestor.specs.declared.mode.Mode.TheVariants.{Components, All}
use Rattle.requestor.specs.declared.verdict.Verdict.{Verdict}
use Rattle.requestor.specs.declared.verdict.Verdict.TheVariants.{Go, Blocked, Refused}
use Rattle.requestor.specs.Session.{Session, context_of}
use Rattle.scenario.specs.declared.op.Op.{Op}
use Rattle.scenario.specs.declared.op.Op.TheVariants.{Begin, Disable, Gather, Component, Document, Start, Add, Prepare, Snapshot, Await, Status, Complete, Abort, End}
use Rattle.scenario.specs.Plan.{Plan, WriterPlan, token, class_of}
use Rattle.vss_model.specs.Reply.{Reply, Fine, Coded, Numbered, NotSelectable, DocumentOf, StatusOf}
use Rattle.vss_model.specs.State.{State, SetRow, in_progress, history_of}
use Rattle.vss_model.specs.Images.{is_in_set}

-- ## who may be chosen, and who takes part

-- a writer whose class is that of a writer named by an accepted `disable`
abbrev pub is_disabled : Plan → State → ℕ → Bool
is_disabled s st w = list_any (λ x. class_of s x == class_of s w) st.course.disabled

abbrev pub is_identify_failure : WriterState → Bool
is_identify_failure state.FailedAtIdentify = true
is_identify_failure _ = false

abbrev pub has_failed_identify : Option WriterRow → Bool
has_failed_identify None = false
has_failed_identify (Some r) = is_identify_failure r.state

-- a writer whose metadata the session has: not disabled, and not failed at Identify
abbrev pub is_known : Plan → State → ℕ → Bool
is_known s st w = not (is_disabled s st w) && not (has_failed_identify (slice_get st.course.rows w))

abbrev pub meta_if : Bool → Meta → Option Meta
meta_if true m = Some m
meta_if false m = None

abbrev pub known_from : Plan → State → ℕ → List WriterPlan → List (Option Meta)
known_from s st w [] = []
known_from s st w (p ∷ ps) = meta_if (is_known s st w) p.meta ∷ known_from s st (w + 1) ps

-- the metadata that the session has, one for each writer
abbrev pub known_metas : Plan → State → List (Option Meta)
known_metas s st = known_from s st 0 s.writers

-- what the session selects: the components that it named, or all those of the known writers
abbrev pub selected_in : Mode → Plan → State → Selected
selected_in Components s st = Named st.explicit
selected_in All s st = all_of (known_metas s st)

abbrev pub selected : Plan → Session → State → Selected
selected s q st = selected_in q.mode s st

-- ## components

abbrev pub naming_reply : Naming → Reply
naming_reply IsNotFound = Coded ObjectNotFound
naming_reply IsNotSelectable = NotSelectable
naming_reply IsNamedAlready = Coded ObjectAlreadyExists
naming_reply (Names explicit) = Fine

abbrev pub component_reply : Mode → Plan → ℕ → List ℕ → State → Reply
component_reply All s w name st = Coded BadState
component_reply Components s w name st = naming_reply (naming (known_metas s st) w name st.explicit)

-- ## the set

abbrev pub new_number : State → ℕ
new_number st = length st.sets + 1

abbrev pub new_set : ℕ → Context → SetRow
new_set n c = record { number = n; context = c; volumes = []; result = Running; cut_at = None }

abbrev pub with_volume : ℕ → SetRow → SetRow
with_volume v r = record r { volumes = r.volumes ++ v ∷ [] }

-- a set has at most so many volumes
abbrev pub most_volumes : ℕ
most_volumes = 64

-- and a volume so many images, of which a new set's is one
abbrev pub most_images : ℕ
most_images = 512

abbrev pub add_refusal : ℕ → SetRow → State → Option VssResult
add_refusal v r st =
    if is_in_set v (Some r) then Some ObjectAlreadyExists
    else if nat_le most_volumes (length r.volumes) then Some MaximumNumberOfVolumesReached
    else if nat_le most_images (length (history_of st v).images) then Some MaximumNumberOfSnapshotsReached
    else None

abbrev pub fine_unless : Option VssResult → Reply
fine_unless None = Fine
fine_unless (Some why) = Coded why

abbrev pub add_reply : ℕ → Option SetRow → State → Reply
add_reply v None st = Coded BadState
add_reply v (Some r) st = fine_unless (add_refusal v r st)

abbrev pub has_no_volume : Option SetRow → Bool
has_no_volume None = true
has_no_volume (Some r) = length r.volumes == 0

abbrev pub volumes_of : Option SetRow → List ℕ
volumes_of None = []
volumes_of (Some r) = r.volumes

-- to `prepare` and `snapshot`
abbrev pub agenda_reply : Option SetRow → Reply
agenda_reply set = if has_no_volume set then Coded BadState else Coded AsyncPending

-- ## every session call

abbrev pub await_reply : Option VssResult → Reply
await_reply None = Coded BadState
await_reply (Some why) = Coded why

abbrev pub begin_reply : Option Context → Reply
begin_reply None = Coded UnsupportedContext
begin_reply (Some c) = Fine

abbrev pub session_reply : Plan → Op → Session → State → Reply
session_reply s (Disable w) q st = Fine
session_reply s Gather q st = Coded AsyncPending
session_reply s (Component w full) q st = component_reply q.mode s w (token s full) st
session_reply s Document q st = DocumentOf (document_text (known_metas s st) (selected s q st) q.context)
session_reply s Start q st = Numbered (new_number st)
session_reply s (Add v) q st = add_reply v (in_progress st) st
session_reply s Prepare q st = agenda_reply (in_progress st)
session_reply s Snapshot q st = agenda_reply (in_progress st)
session_reply s Await q st = await_reply q.last
session_reply s Status q st = StatusOf st.course.rows
session_reply s Complete q st = Coded AsyncPending
session_reply s Abort q st = Fine
session_reply s End q st = Fine
session_reply s _ q st = Coded BadState

-- without a session the checks let `begin` alone go
abbrev pub first_reply : Op → Reply
first_reply (Begin c all) = begin_reply (context_of c all)
first_reply _ = Coded BadState

abbrev pub call_reply : Plan → Op → Option Session → State → Reply
call_reply s op None st = first_reply op
call_reply s op (Some q) st = session_reply s op q st

-- the reply to a call that is blocked is never seen
abbrev pub judged_reply : Verdict → Plan → Op → State → Reply
judged_reply Go s op st = call_reply s op st.session st
judged_reply Blocked s op st = Coded BadState
judged_reply (Refused why) s op st = Coded why

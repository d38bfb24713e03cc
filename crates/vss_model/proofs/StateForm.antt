-- The state after an act as one value, by cases, beside its reply: what the changes of the act come to, as the lemmas take it.
-- That it is so is `after_is` of Changes.antt and `reply_is` of ByEvent.antt.
use Rattle.std.specs.Prelude.{ℕ, ◌+◌, Bool, true, false, List, [], ◌∷◌, ◌++◌, length, map, is_some, nat_lt, ◌≡◌, ◌&&◌, if◌then◌else◌, Option, Some, None}
use Rattle.std.specs.Prelude.{option_map}
use Rattle.vss_model.proofs.Terms.{Context, Backup, AppRollback, NasRollback, VssResult, BadState, ObjectNotFound, ObjectAlreadyExists, UnsupportedContext}
use Rattle.vss_model.proofs.Terms.{AsyncPending, AsyncCancelled, InsufficientStorage, payload_bytes, Mark, Clean, Fault, FaultAfter, History, Write}
use Rattle.vss_model.proofs.Terms.{written as with_write, dropped, reverted, reverted_in_part, Said, said_of, Group, Cut, Commit, open_group, next_volume}
use Rattle.vss_model.proofs.Terms.{is_working, Course, change_at, answered as course_answered, stepped as course_stepped, timed as course_timed}
use Rattle.vss_model.proofs.Terms.{failed as course_failed, gathered, prepared, snapshot_begun, completing, released, Pair, Naming, IsNotFound, IsNotSelectable}
use Rattle.vss_model.proofs.Terms.{IsNamedAlready, Names, naming, takers, Mode, Components, All, SessionCall, Verdict, Go, Blocked, Refused, check, Session}
use Rattle.vss_model.proofs.Terms.{makes_set, context_of, opened as session_opened, started as session_started, agenda_ended, set_failed, Reads, ShowsImage}
use Rattle.vss_model.proofs.Terms.{ShowsBlock, ShowsSets, ShowsProperties, DeletesSet, DeletesImage, Ticks, Calls, Op, Begin, Disable, Component, Document}
use Rattle.vss_model.proofs.Terms.{Start, Add, Await, Status, Abort, End, line_of, Plan, token, blocks_of, Event, Line, Provider, Idle, Reply, Fine, Faulted}
use Rattle.vss_model.proofs.Terms.{FaultedAfter, Numbered, Coded, NotSelectable, Deleted, StatusOf, Idled, State, SetRow, Kept, in_progress, row_changed}
use Rattle.vss_model.proofs.Terms.{left_now, is_held, kept_image, is_kept_set, Ending, NothingEnds, AgendaEnds, SetFails, ending, row_settled, runs}
use Rattle.vss_model.proofs.Terms.{reply_of_mark, cleared as cleared_volumes, set_loses_image, read_reply, block_reply, image_reply, query_reply}
use Rattle.vss_model.proofs.Terms.{properties_reply, count_images, is_in_set, revert_refusal, is_disabled, known_metas, selected, new_number, new_set}
use Rattle.vss_model.proofs.Terms.{with_volume, add_refusal, has_no_volume, volumes_of, await_reply, session_reply, row_cut, is_flush, is_failed_step, Act}
use Rattle.vss_model.proofs.Terms.{order_of_writer, idle_now, answer_reply, step_reply, LetsGo, Does, AnswerEvent, history_cut}
use Rattle.scenario.specs.declared.line.Line.TheVariants.{Writes, Reverts}
use Rattle.scenario.specs.declared.op.Op.TheVariants.{Gather, Prepare, Snapshot, Complete}
use Rattle.requestor.specs.declared.session_call.SessionCall.TheVariants as call

-- a reply, and the state after the act
abbrev pub Replied : Type 0
Replied = Reply × State

abbrev pub refused : VssResult → State → Replied
refused why st = (Coded why, st)

-- ## what ends with the course

abbrev pub images_dropped : Option SetRow → List History → List History
images_dropped None hs = hs
images_dropped (Some r) hs = map (dropped r.number) hs

abbrev pub concluded : Ending → State → State
concluded NothingEnds st = st
concluded AgendaEnds st = record st { session = option_map agenda_ended st.session; sets = map (row_settled st.course.outcome) st.sets }
concluded (SetFails why) st = record st {
  session = option_map (set_failed why) st.session;
  sets = map (row_settled st.course.outcome) st.sets;
  volumes = images_dropped (in_progress st) st.volumes;
}

-- the course goes on to c, with what follows; `ran` is whether an agenda ran, or began in this move
unfoldable pub followed : Bool → Course → State → State
followed ran c st = concluded (ending st.course.outcome c.outcome ran c.agenda) (record st { course = c })

abbrev pub failed_in : Option SetRow → VssResult → State → State
failed_in None why st = st
failed_in (Some r) why st = concluded (SetFails why) (record st { course = course_failed why st.course })

-- the set in progress, if there is one, fails
abbrev pub failed : VssResult → State → State
failed why st = failed_in (in_progress st) why st

-- ## writes and images

abbrev pub cleared : Plan → ℕ → ℕ → State → State
cleared s v b st = record st { volumes = cleared_volumes s v b st }

abbrev pub with_room_if : Bool → State → State
with_room_if true new = failed InsufficientStorage new
with_room_if false new = new

abbrev pub with_room : Plan → ℕ → ℕ → State → State
with_room s v b st = with_room_if (set_loses_image (in_progress st) st.volumes (cleared_volumes s v b st)) (cleared s v b st)

abbrev pub put : ℕ → Write → Mark → State → State
put v w Clean st = record st { volumes = change_at v (with_write w) st.volumes }
put v w _ st = st

unfoldable pub write : Plan → ℕ → Write → Mark → State → Replied
write s v w mark st = (reply_of_mark mark, put v w mark (with_room s v w.block st))

abbrev pub image_block : ℕ → ℕ → Option Kept → Mark → State → Replied
image_block v b kept mark st = (block_reply v b kept mark st, st)

abbrev pub image_blocks : Plan → ℕ → Option Kept → Mark → State → Replied
image_blocks s v kept mark st = (image_reply s v kept mark st, st)

abbrev pub properties : Plan → ℕ → Option Kept → State → Replied
properties s v kept st = (properties_reply s v kept st, st)

unfoldable pub delete_set : ℕ → State → Replied
delete_set n st =
    if is_kept_set st n && nat_lt 0 (count_images n st.volumes)
    then (Deleted (count_images n st.volumes), record st { volumes = map (dropped n) st.volumes })
    else refused ObjectNotFound st

abbrev pub delete_kept : ℕ → Option Kept → State → Replied
delete_kept v None st = refused ObjectNotFound st
delete_kept v (Some k) st = (Deleted 1, record st { volumes = change_at v (dropped k.row.number) st.volumes })

unfoldable pub delete_image : ℕ → ℕ → State → Replied
delete_image n v st = delete_kept v (kept_image st n v) st

abbrev pub reverted_as : Plan → ℕ → Kept → Mark → State → Replied
reverted_as s v k Clean st = (Fine, record st { volumes = change_at v (reverted k.row.number k.point) st.volumes })
reverted_as s v k Fault st = (Faulted, st)
reverted_as s v k (FaultAfter n) st = (FaultedAfter n, record st { volumes = change_at v (reverted_in_part (blocks_of s v) k.row.number k.point n) st.volumes })

abbrev pub revert_to : Plan → ℕ → Option VssResult → Option Kept → Mark → State → Replied
revert_to s v (Some why) k mark st = refused why st
revert_to s v None None mark st = refused ObjectNotFound st
revert_to s v None (Some k) mark st = reverted_as s v k mark st

unfoldable pub revert : Plan → ℕ → ℕ → Mark → State → Replied
revert s n v mark st = revert_to s v (revert_refusal v (kept_image st n v) st) (kept_image st n v) mark st

-- ## session calls

abbrev pub begin_in : ℕ → Bool → Option Context → State → Replied
begin_in lane all None st = refused UnsupportedContext st
begin_in lane all (Some c) st = (Fine, record st { session = Some (session_opened lane c all); explicit = [] })

abbrev pub disable : ℕ → State → Replied
disable w st = (Fine, let c = st.course in record st { course = record c { disabled = c.disabled ++ w ∷ [] } })

abbrev pub pending : Course → State → Replied
pending c st = (Coded AsyncPending, followed true c st)

abbrev pub gather : Plan → State → Replied
gather s st = pending (gathered (is_disabled s st) st.clock st.course) st

abbrev pub named_as : Naming → State → Replied
named_as IsNotFound st = refused ObjectNotFound st
named_as IsNotSelectable st = (NotSelectable, st)
named_as IsNamedAlready st = refused ObjectAlreadyExists st
named_as (Names explicit) st = (Fine, record st { explicit = explicit })

abbrev pub component_in : Mode → Plan → ℕ → List ℕ → State → Replied
component_in All s w name st = refused BadState st
component_in Components s w name st = named_as (naming (known_metas s st) w name st.explicit) st

abbrev pub start_set : Session → State → Replied
start_set q st = (
  Numbered (new_number st),
  record st {
    session = Some (session_started (new_number st) q);
    sets = st.sets ++ new_set (new_number st) q.context ∷ [];
  },
)

abbrev pub change_set : ℕ → (SetRow → SetRow) → State → State
change_set n f st = record st { sets = map (row_changed n f) st.sets }

abbrev pub add_to : ℕ → SetRow → Option VssResult → State → Replied
add_to v r (Some why) st = refused why st
add_to v r None st = (Fine, change_set r.number (with_volume v) st)

abbrev pub add : ℕ → Option SetRow → State → Replied
add v None st = refused BadState st
add v (Some r) st = add_to v r (add_refusal v r st) st

abbrev pub prepare : Plan → Session → State → Replied
prepare s q st =
    if has_no_volume (in_progress st) then refused BadState st
    else pending (prepared (takers (length s.writers) (selected s q st)) st.clock st.course) st

abbrev pub snapshot : State → Replied
snapshot st = if has_no_volume (in_progress st) then refused BadState st else pending (snapshot_begun (volumes_of (in_progress st)) st.clock st.course) st

abbrev pub complete : State → Replied
complete st = pending (completing st.clock st.course) st

abbrev pub await_last : Option VssResult → State → Replied
await_last last st = (await_reply last, st)

abbrev pub images_released : Context → Option ℕ → List History → List History
images_released Backup None hs = hs
images_released Backup (Some n) hs = map (dropped n) hs
images_released AppRollback set hs = hs
images_released NasRollback set hs = hs

-- the session is over
unfoldable pub closed : Session → State → State
closed q st = record st { session = None; explicit = []; course = released st.course; volumes = images_released q.context q.set st.volumes }

abbrev pub end_session : Session → State → Replied
end_session q st = (Fine, closed q (failed AsyncCancelled st))

abbrev pub session_line : Plan → ℕ → Op → Session → State → Replied
session_line s lane (Disable w) q st = disable w st
session_line s lane Gather q st = gather s st
session_line s lane (Component w full) q st = component_in q.mode s w (token s full) st
session_line s lane Document q st = (session_reply s Document q st, st)
session_line s lane Start q st = start_set q st
session_line s lane (Add v) q st = add v (in_progress st) st
session_line s lane Prepare q st = prepare s q st
session_line s lane Snapshot q st = snapshot st
session_line s lane Await q st = await_last q.last st
session_line s lane Status q st = (StatusOf st.course.rows, st)
session_line s lane Complete q st = complete st
session_line s lane Abort q st = (Fine, failed AsyncCancelled st)
session_line s lane End q st = end_session q st
session_line s lane _ q st = refused BadState st

abbrev pub line_without_session : ℕ → Op → State → Replied
line_without_session lane (Begin c all) st = begin_in lane all (context_of c all) st
line_without_session lane _ st = refused BadState st

abbrev pub line_in : Plan → ℕ → Op → Option Session → State → Replied
line_in s lane op None st = line_without_session lane op st
line_in s lane op (Some q) st = session_line s lane op q st

abbrev pub judged : Verdict → Plan → ℕ → Op → State → Replied
judged Go s lane op st = line_in s lane op st.session st
judged Blocked s lane op st = refused BadState st
judged (Refused why) s lane op st = refused why st

-- ## answers, steps and time

unfoldable pub answered : ℕ → Said → State → State
answered w said st = followed (runs st) (course_answered w said st.clock st.course) st

abbrev pub cut_set : Option SetRow → State → State
cut_set None st = st
cut_set (Some r) st = record st { sets = map (row_cut r.number st.clock) st.sets }

abbrev pub image_made : Option SetRow → Option ℕ → State → State
image_made (Some r) (Some v) st = record st { volumes = change_at v (history_cut r.number) st.volumes }
image_made _ _ st = st

abbrev pub step_made : Option Group → Option ℕ → State → State
step_made (Some Cut) v st = cut_set (in_progress st) st
step_made (Some Commit) v st = image_made (in_progress st) v st
step_made _ v st = st

abbrev pub stepped_as : Bool → Option Group → Option ℕ → State → State
stepped_as true g v st = followed (runs st) (course_stepped false st.clock st.course) st
stepped_as false g v st = followed (runs st) (course_stepped true st.clock st.course) (step_made g v st)

unfoldable pub stepped : Mark → State → State
stepped mark st = stepped_as (is_failed_step (is_flush (open_group (left_now st))) mark) (open_group (left_now st)) (next_volume (left_now st)) st

abbrev pub later : ℕ → State → State
later n st = record st { clock = st.clock + n }

unfoldable pub ticked : ℕ → State → State
ticked n st = followed (runs st) (course_timed (st.clock + n) st.course) (later n st)

-- ## every act

unfoldable pub called : SessionCall → Plan → ℕ → Op → State → Replied
called call s lane op st = judged (check st.session (runs st) lane call) s lane op st

abbrev pub does : Plan → ℕ → Op → Does → Mark → State → Replied
does s lane op (Writes v b payload) mark st = write s v (record { block = b; bytes = payload_bytes payload }) mark st
does s lane op (Reads v b) mark st = (read_reply v b mark st, st)
does s lane op (ShowsImage n v) mark st = image_blocks s v (kept_image st n v) mark st
does s lane op (ShowsBlock n v b) mark st = image_block v b (kept_image st n v) mark st
does s lane op (ShowsSets v) mark st = (query_reply v st, st)
does s lane op (ShowsProperties n v) mark st = properties s v (kept_image st n v) st
does s lane op (Reverts n v) mark st = revert s n v mark st
does s lane op (DeletesSet n) mark st = delete_set n st
does s lane op (DeletesImage n v) mark st = delete_image n v st
does s lane op (Ticks n) mark st = (Fine, ticked n st)
does s lane op (Calls c) mark st = called c s lane op st

abbrev pub line : Plan → ℕ → Op → Mark → State → Replied
line s lane op mark st = does s lane op (line_of op) mark st

abbrev pub happens : Plan → Event → Mark → State → Replied
happens s (Line lane op) mark st = line s lane op mark st
happens s (AnswerEvent w answer) mark st = (answer_reply (order_of_writer st w) answer, answered w (said_of answer) st)
happens s Provider mark st = (step_reply (open_group (left_now st)) (next_volume (left_now st)) mark, stepped mark st)
happens s Idle mark st = (Idled (idle_now st), ticked (idle_now st) st)

abbrev pub after_if : Bool → Plan → State → Act → State
after_if true s st act = (happens s act.event act.mark st).1
after_if false s st act = st

-- ## what is kept

-- `IsKeptByChanges` and `IsKeptByWrites` of Laws.antt, of these states
pub record IsKeptByChanges (P : State → Type 0) : Type 0 where
  -- the course
  pub answers : (w : ℕ) (said : Said) (st : State) → is_some (order_of_writer st w) ≡ true → P st → P (answered w said st)
  pub steps : (mark : Mark) (st : State) → is_working (left_now st) ≡ true → P st → P (stepped mark st)
  pub ticks : (n : ℕ) (st : State) → P st → P (ticked n st)
  pub fails : (why : VssResult) (st : State) → P st → P (failed why st)
  pub gathers : (s : Plan) (q : Session) (st : State) → LetsGo call.Gather q st → P st → P (gather s st).1
  pub prepares : (s : Plan) (q : Session) (st : State) → LetsGo call.Prepare q st → has_no_volume (in_progress st) ≡ false → P st
      → P (followed true (prepared (takers (length s.writers) (selected s q st)) st.clock st.course) st)
  pub snapshots : (q : Session) (st : State) → LetsGo call.Snapshot q st → has_no_volume (in_progress st) ≡ false → P st
      → P (followed true (snapshot_begun (volumes_of (in_progress st)) st.clock st.course) st)
  pub completes : (q : Session) (st : State) → LetsGo call.Complete q st → P st → P (complete st).1
  -- images
  pub clears : (s : Plan) (v b : ℕ) (st : State) → P st → P (cleared s v b st)
  pub deletes_set : (n : ℕ) (st : State) → P st → P (record st { volumes = map (dropped n) st.volumes })
  pub deletes_image : (n v : ℕ) (st : State) → P st → P (record st { volumes = change_at v (dropped n) st.volumes })
  -- the session
  pub begins : (lane : ℕ) (all : Bool) (c : Option Context) (st : State) → st.session ≡ None → P st → P (begin_in lane all c st).1
  pub names : (q : Session) (explicit : List Pair) (st : State) → LetsGo call.Component q st → P st → P (record st { explicit = explicit })
  pub disables : (w : ℕ) (q : Session) (st : State) → LetsGo call.Disable q st → P st → P (disable w st).1
  pub starts : (q : Session) (st : State) → LetsGo call.Start q st → makes_set q.stage ≡ false → P st → P (start_set q st).1
  pub adds : (v : ℕ) (r : SetRow) (q : Session) (st : State) → LetsGo call.Add q st → in_progress st ≡ Some r → add_refusal v r st ≡ None → P st → P (change_set r.number (with_volume v) st)
  pub ends : (q : Session) (st : State) → st.session ≡ Some q → P st → P (end_session q st).1

pub record IsKeptByWrites (P : State → Type 0) (st : State) : Type 0 where
  pub puts : (v : ℕ) → is_held st v ≡ false → (w : Write) (mark : Mark) (x : State) → P x → P (put v w mark x)
  pub reverts : (s : Plan) (n v : ℕ) (k : Kept) (mark : Mark) → kept_image st n v ≡ Some k → is_in_set v (in_progress st) ≡ false → P st → P (reverted_as s v k mark st).1

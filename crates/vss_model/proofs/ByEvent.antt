-- The rule of events: what holds of each kind of act, each with what is known where it comes, holds of every act that is enabled.
use Rattle.std.proofs.Common.{◌≡◌, ℕ, Option, Some, Bool, true, false, arith, ◌∙◌, List, [], None, refl, sym, subst}
use Rattle.std.specs.Prelude.{◌&&◌, not, length, map, is_some, if◌then◌else◌}
use Rattle.requestor.specs.Check.{allows}
use Rattle.scenario.specs.declared.line.Line.TheVariants.{Reverts}
use Rattle.scenario.specs.declared.op.Op.TheVariants.{Gather, Prepare, Snapshot, Complete}
use Rattle.scenario.specs.declared.span.Span.{Span}
use Rattle.vss_model.specs.Lines.{reply_to}
use Rattle.vss_model.proofs.StateForm.{failed, Replied, write, reverted_as, image_block, image_blocks, properties, delete_set, delete_kept, delete_image}
use Rattle.vss_model.proofs.StateForm.{revert_to, revert, disable, gather, pending, refused, complete, start_set, change_set, end_session, component_in, add}
use Rattle.vss_model.proofs.StateForm.{line_in, session_line, judged, answered, stepped, ticked, called, does, line, happens, add_to}
use Rattle.vss_model.proofs.Terms.{SessionCall, Verdict, Go, Session, makes_set, has_writers, verdict_of, owner_only, check_other, goes_beside_agenda, is_start}
use Rattle.vss_model.proofs.Terms.{nat_tests, common_steps, Context, VssResult, AsyncCancelled, Mark, Write, dropped, Answer, said_of, open_group, next_volume}
use Rattle.vss_model.proofs.Terms.{is_asking, is_working, change_at, Fill, Stamp, payload_bytes, Pair, Names, naming, Mode, Refused, context_of, opened, check}
use Rattle.vss_model.proofs.Terms.{Op, WriteFill, WriteStamp, Read, ImageDigest, ImageBlock, Query, Properties, Revert, DeleteSet, DeleteImage, Tick, Begin}
use Rattle.vss_model.proofs.Terms.{Disable, Component, Document, Start, Add, Await, Status, Abort, End, begins_agenda, DeletesSet, DeletesImage, Calls}
use Rattle.vss_model.proofs.Terms.{target_of, Plan, token, Event, Line, Provider, Idle, Reply, Fine, Deleted, Idled, State, SetRow, Kept, in_progress}
use Rattle.vss_model.proofs.Terms.{left_now, is_held, kept_image, is_kept_set, runs, revert_refusal, revert_reply, delete_image_reply, with_volume}
use Rattle.vss_model.proofs.Terms.{known_metas, add_refusal, component_reply, fine_unless, add_reply, call_reply, judged_reply, line_ticks, Act}
use Rattle.vss_model.proofs.Terms.{order_of_writer, line_enabled, enabled, idle_now, answer_reply, step_reply, reply, LetsGo, is_fine, is_numbered}
use Rattle.vss_model.proofs.Terms.{is_pending_code, is_pending, leaves_all, BadState, Coded, Course, has_no_volume, volumes_of, selected, takers, prepared}
use Rattle.vss_model.proofs.Terms.{snapshot_begun, Does, AnswerEvent}
use Rattle.requestor.specs.declared.session_call.SessionCall.TheVariants as call

-- ## What is known where the checks let a session call go.

-- the call is the owner's; no agenda runs but for the calls that go beside one, and `start` makes the first set
pub record Goes (session : Option Session) (running : Bool) (call : SessionCall) : Type 0 where
  pub own : Session
  pub is : session ≡ Some own
  pub quiet : goes_beside_agenda call ≡ false → running ≡ false
  pub free : is_start call ≡ true → makes_set own.stage ≡ false
  pub allowed : allows own.stage (has_writers own.context) call ≡ true

-- the four tests of a call that goes
record GoTests (busy waits may later : Bool) : Type 0 where
  free : busy ≡ false
  quiet : waits ≡ false
  allowed : may ≡ true

go_tests : (a b c d : Bool) → verdict_of a b c d ≡ Go → GoTests a b c d
go_tests a b c d e = grind arith

owner_goes : (b : Bool) (v : Verdict) → owner_only b v ≡ Go → v ≡ Go
owner_goes b v e = grind arith

pub running_off : (running beside : Bool) → (running && not beside) ≡ false → beside ≡ false → running ≡ false
running_off running beside e f = grind arith

set_off : (starts makes : Bool) → (starts && makes) ≡ false → starts ≡ true → makes ≡ false
set_off starts makes e f = grind arith

pub other_goes : (q : Option Session) (running : Bool) (lane : ℕ) (call : SessionCall) → check_other q running lane call ≡ Go → Goes q running call
other_goes q running lane call e = grind (arith, go_tests, owner_goes, running_off, set_off)

-- ## The rule of events: what holds of each kind of act, each with what is known where it comes, holds of every act that is enabled.

-- ## shorter steps of proofs by events

pub some_same : {X : Type 0} (x y : X) → Some x ≡ Some y → x ≡ y
some_same x y e = cc

pub by_if : (P : Replied → Type 0) (b : Bool) (x y : Replied) → P x → P y → P (if b then x else y)
by_if x0 b x y h i = grind arith

-- of the state after the event alone
abbrev pub Next : (State → Type 0) → Event → Mark → Replied → Type 0
Next R event mark r = R r.1

-- ## what an act does, by its event

-- a line that changes the session where it is answered `ok`
abbrev pub changes_session : Op → Bool
changes_session (Begin n all) = true
changes_session (Disable w) = true
changes_session (Component w full) = true
changes_session End = true
changes_session _ = false

-- the line that starts a set
abbrev pub starts_set : Op → Bool
starts_set Start = true
starts_set _ = false

-- the lines that do more than look
abbrev pub may_change : Op → Bool
may_change (Read v b) = false
may_change (ImageDigest n v) = false
may_change (ImageBlock n v b) = false
may_change (Query v) = false
may_change (Properties n v) = false
may_change Document = false
may_change Await = false
may_change Status = false
may_change _ = true

-- the reply of a line that changes nothing is not that of a line that does
pub record ChangesNothing (op : Op) (told : Reply) : Type 0 where
  pub agenda : begins_agenda op ≡ true → is_pending told ≡ false
  pub session : changes_session op ≡ true → is_fine told ≡ false
  pub set : starts_set op ≡ true → is_numbered told ≡ false
  pub refused : may_change op ≡ true → leaves_all told ≡ true

pub record Covers (P : Event → Mark → Replied → Type 0) (s : Plan) (st : State) : Type 0 where
  -- lines that change nothing
  pub stays : (lane : ℕ) (op : Op) (mark : Mark) (told : Reply) → line_ticks op ≡ None → ChangesNothing op told → P (Line lane op) mark (told, st)
  pub writes : (lane : ℕ) (op : Op) (v : ℕ) (w : Write) (mark : Mark) → target_of op ≡ Some (record { volume = v; block = w.block }) → is_held st v ≡ false → P (Line lane op) mark (write s v w mark st)
  pub reverts : (lane n v : ℕ) (k : Kept) (mark : Mark) → kept_image st n v ≡ Some k → revert_refusal v (Some k) st ≡ None → P (Line lane (Revert n v)) mark (reverted_as s v k mark st)
  pub deletes_set : (lane n c : ℕ) (mark : Mark) → is_kept_set st n ≡ true → P (Line lane (DeleteSet n)) mark (Deleted c, record st { volumes = map (dropped n) st.volumes })
  pub deletes_image : (lane n v : ℕ) (k : Kept) (mark : Mark) → kept_image st n v ≡ Some k → P (Line lane (DeleteImage n v)) mark (Deleted 1, record st { volumes = change_at v (dropped k.row.number) st.volumes })
  pub ticks : (lane n : ℕ) (mark : Mark) → P (Line lane (Tick n)) mark (Fine, ticked n st)
  -- session calls
  pub begins : (lane n : ℕ) (all : Bool) (c : Context) (mark : Mark) → st.session ≡ None → context_of n all ≡ Some c → P (Line lane (Begin n all)) mark (Fine, record st { session = Some (opened lane c all); explicit = [] })
  pub disables : (lane w : ℕ) (q : Session) (mark : Mark) → LetsGo call.Disable q st → P (Line lane (Disable w)) mark (disable w st)
  pub gathers : (lane : ℕ) (q : Session) (mark : Mark) → LetsGo call.Gather q st → P (Line lane Gather) mark (gather s st)
  pub names : (lane w : ℕ) (full : Span) (q : Session) (explicit : List Pair) (mark : Mark) → LetsGo call.Component q st → naming (known_metas s st) w (token s full) st.explicit ≡ Names explicit → P (Line lane (Component w full)) mark (Fine, record st { explicit = explicit })
  pub starts : (lane : ℕ) (q : Session) (mark : Mark) → LetsGo call.Start q st → makes_set q.stage ≡ false → P (Line lane Start) mark (start_set q st)
  pub adds : (lane v : ℕ) (r : SetRow) (q : Session) (mark : Mark) → LetsGo call.Add q st → in_progress st ≡ Some r → add_refusal v r st ≡ None → P (Line lane (Add v)) mark (Fine, change_set r.number (with_volume v) st)
  pub prepares : (lane : ℕ) (q : Session) (mark : Mark) → LetsGo call.Prepare q st → has_no_volume (in_progress st) ≡ false
      → P (Line lane Prepare) mark (pending (prepared (takers (length s.writers) (selected s q st)) st.clock st.course) st)
  pub snapshots : (lane : ℕ) (q : Session) (mark : Mark) → LetsGo call.Snapshot q st → has_no_volume (in_progress st) ≡ false
      → P (Line lane Snapshot) mark (pending (snapshot_begun (volumes_of (in_progress st)) st.clock st.course) st)
  pub completes : (lane : ℕ) (q : Session) (mark : Mark) → LetsGo call.Complete q st → P (Line lane Complete) mark (complete st)
  pub aborts : (lane : ℕ) (q : Session) (mark : Mark) → st.session ≡ Some q → P (Line lane Abort) mark (Fine, failed AsyncCancelled st)
  pub ends : (lane : ℕ) (q : Session) (mark : Mark) → st.session ≡ Some q → P (Line lane End) mark (end_session q st)
  -- the other events
  pub answers : (w : ℕ) (answer : Answer) (mark : Mark) → is_some (order_of_writer st w) ≡ true → P (AnswerEvent w answer) mark (answer_reply (order_of_writer st w) answer, answered w (said_of answer) st)
  pub steps : (mark : Mark) → is_working (left_now st) ≡ true → P Provider mark (step_reply (open_group (left_now st)) (next_volume (left_now st)) mark, stepped mark st)
  pub idles : (mark : Mark) → is_asking (left_now st) ≡ true → P Idle mark (Idled (idle_now st), ticked (idle_now st) st)

-- ## what the checks refuse

other_reason : (x why : VssResult) → is_pending_code x ≡ false → Refused x ≡ Refused why → is_pending_code why ≡ false
other_reason x why f e = grind (arith, common_steps, nat_tests)

verdict_refuses : (a b c d : Bool) (why : VssResult) → verdict_of a b c d ≡ Refused why → is_pending_code why ≡ false
verdict_refuses a b c d why e = grind arith

owner_refuses : (b : Bool) (v : Verdict) (why : VssResult) → (v ≡ Refused why → is_pending_code why ≡ false) → owner_only b v ≡ Refused why → is_pending_code why ≡ false
owner_refuses b v why f e = grind arith

other_refuses : (q : Option Session) (running : Bool) (lane : ℕ) (c : SessionCall) (why : VssResult) → check_other q running lane c ≡ Refused why → is_pending_code why ≡ false
other_refuses q running lane c why e = grind (arith, common_steps, other_reason, owner_refuses, verdict_refuses)

-- and one that changes no session
other_line : (op : Op) (told : Reply) → may_change op ≡ false → ChangesNothing op told
other_line op told e = grind arith

module _ (P : Event → Mark → Replied → Type 0) (s : Plan) (st : State) (k : Covers P s st) where
  -- ## images

  on_image_block : (lane n v b : ℕ) (kept : Option Kept) (mark : Mark) → P (Line lane (ImageBlock n v b)) mark (image_block v b kept mark st)
  on_image_block lane n v b kept mark = grind arith

  on_image_blocks : (lane n v : ℕ) (kept : Option Kept) (mark : Mark) → P (Line lane (ImageDigest n v)) mark (image_blocks s v kept mark st)
  on_image_blocks lane n v kept mark = grind arith

  on_properties : (lane n v : ℕ) (kept : Option Kept) (mark : Mark) → P (Line lane (Properties n v)) mark (properties s v kept st)
  on_properties lane n v kept mark = grind arith

  on_delete_set : (lane n : ℕ) (mark : Mark) → P (Line lane (DeleteSet n)) mark (delete_set n st)
  unfolding delete_set
  on_delete_set lane n mark = grind arith

  on_delete_kept : (lane n v : ℕ) (kept : Option Kept) (mark : Mark) → kept_image st n v ≡ kept → P (Line lane (DeleteImage n v)) mark (delete_kept v kept st)
  on_delete_kept lane n v kept mark e = grind arith

  on_delete_image : (lane n v : ℕ) (mark : Mark) → P (Line lane (DeleteImage n v)) mark (delete_image n v st)
  unfolding delete_image
  on_delete_image lane n v mark = on_delete_kept lane n v (kept_image st n v) mark refl

  on_revert : (lane n v : ℕ) (mark : Mark) → P (Line lane (Revert n v)) mark (revert s n v mark st)
  unfolding revert
  on_revert lane n v mark = grind (arith, common_steps, nat_tests)

  -- ## session calls

  -- a call that wants a volume in the set
  on_volumes : (lane : ℕ) (op : Op) (c : Course) (mark : Mark) (b : Bool) → line_ticks op ≡ None → (b ≡ false → P (Line lane op) mark (pending c st))
      → P (Line lane op) mark (if b then refused BadState st else pending c st)
  on_volumes lane op c mark true e goes = k.stays lane op mark (Coded BadState) e (record { agenda = λ f. refl; session = λ f. refl; set = λ f. refl; refused = λ f. refl })
  on_volumes lane op c mark false e goes = goes refl

  on_judged : (v : Verdict) (lane : ℕ) (op : Op) (mark : Mark) → line_ticks op ≡ None → ((why : VssResult) → v ≡ Refused why → is_pending_code why ≡ false)
      → (v ≡ Go → P (Line lane op) mark (line_in s lane op st.session st)) → P (Line lane op) mark (judged v s lane op st)
  on_judged v lane op mark e refuses goes = grind (arith, common_steps)

  on_called : (c : SessionCall) (lane : ℕ) (op : Op) (mark : Mark) → line_ticks op ≡ None → ((why : VssResult) → check st.session (runs st) lane c ≡ Refused why → is_pending_code why ≡ false)
      → (check st.session (runs st) lane c ≡ Go → P (Line lane op) mark (line_in s lane op st.session st)) → P (Line lane op) mark (called c s lane op st)
  unfolding called
  on_called c lane op mark e refuses goes = on_judged (check st.session (runs st) lane c) lane op mark e refuses goes

  -- a call that is the owner's alone, with its session
  on_owned : (c : SessionCall) (lane : ℕ) (op : Op) (mark : Mark) → line_ticks op ≡ None → check_other st.session (runs st) lane c ≡ check st.session (runs st) lane c
      → ((g : Goes st.session (runs st) c) → P (Line lane op) mark (session_line s lane op g.own st)) → P (Line lane op) mark (called c s lane op st)
  on_owned c lane op mark e same goes =
      on_called c lane op mark e (λ why f. other_refuses st.session (runs st) lane c why (same ∙ f)) (λ f. with_session (other_goes st.session (runs st) lane c (same ∙ f)))
    where
      with_session : Goes st.session (runs st) c → P (Line lane op) mark (line_in s lane op st.session st)
      with_session g = subst (λ (q : Option Session). P (Line lane op) mark (line_in s lane op q st)) (sym g.is) (goes g)

  quiet_of : (c : SessionCall) (g : Goes st.session (runs st) c) → goes_beside_agenda c ≡ false → LetsGo c g.own st
  quiet_of c g e = record { stands = g.is; quiet = g.quiet e; allowed = g.allowed }

  -- ## every act

  on_line : (lane : ℕ) (op : Op) (mark : Mark) → line_enabled s st lane op ≡ true → P (Line lane op) mark (line s lane op mark st)
  on_line lane (WriteFill v b x) mark e = k.writes lane (WriteFill v b x) v (record { block = b; bytes = payload_bytes (Fill x) }) mark refl (grind arith)
  on_line lane (WriteStamp v b n) mark e = k.writes lane (WriteStamp v b n) v (record { block = b; bytes = payload_bytes (Stamp n) }) mark refl (grind arith)
  on_line lane (Read v b) mark e = k.stays lane (Read v b) mark _ refl (other_line (Read v b) _ refl)
  on_line lane (ImageDigest n v) mark e = on_image_blocks lane n v (kept_image st n v) mark
  on_line lane (ImageBlock n v b) mark e = on_image_block lane n v b (kept_image st n v) mark
  on_line lane (Query v) mark e = k.stays lane (Query v) mark _ refl (other_line (Query v) _ refl)
  on_line lane (Properties n v) mark e = on_properties lane n v (kept_image st n v) mark
  on_line lane (Revert n v) mark e = on_revert lane n v mark
  on_line lane (DeleteSet n) mark e = on_delete_set lane n mark
  on_line lane (DeleteImage n v) mark e = on_delete_image lane n v mark
  on_line lane (Tick n) mark e = k.ticks lane n mark
  on_line lane (Begin n all) mark e = on_called (call.Begin n all) lane (Begin n all) mark refl (λ why y. grind (arith, other_reason)) (λ g. grind arith)
  on_line lane (Disable w) mark e = on_owned call.Disable lane (Disable w) mark refl refl (λ g. k.disables lane w g.own mark (quiet_of call.Disable g refl))
  on_line lane Gather mark e = on_owned call.Gather lane Gather mark refl refl (λ g. k.gathers lane g.own mark (quiet_of call.Gather g refl))
  on_line lane (Component w full) mark e = on_owned call.Component lane (Component w full) mark refl refl (λ g. grind (arith, quiet_of call.Component g refl))
  on_line lane Document mark e = on_owned call.Document lane Document mark refl refl (λ g. k.stays lane Document mark _ refl (other_line Document _ refl))
  on_line lane Start mark e = on_owned call.Start lane Start mark refl refl (λ g. k.starts lane g.own mark (quiet_of call.Start g refl) (g.free refl))
  on_line lane (Add v) mark e = on_owned call.Add lane (Add v) mark refl refl (λ g. grind (arith, quiet_of call.Add g refl))
  on_line lane Prepare mark e =
      on_owned call.Prepare lane Prepare mark refl refl (λ g. on_volumes lane Prepare _ mark (has_no_volume (in_progress st)) refl (k.prepares lane g.own mark (quiet_of call.Prepare g refl)))
  on_line lane Snapshot mark e =
      on_owned call.Snapshot lane Snapshot mark refl refl (λ g. on_volumes lane Snapshot _ mark (has_no_volume (in_progress st)) refl (k.snapshots lane g.own mark (quiet_of call.Snapshot g refl)))
  on_line lane Await mark e = on_owned call.Await lane Await mark refl refl (λ g. grind arith)
  on_line lane Status mark e = on_owned call.Status lane Status mark refl refl (λ g. k.stays lane Status mark _ refl (other_line Status _ refl))
  on_line lane Complete mark e = on_owned call.Complete lane Complete mark refl refl (λ g. k.completes lane g.own mark (quiet_of call.Complete g refl))
  on_line lane Abort mark e = on_owned call.Abort lane Abort mark refl refl (λ g. k.aborts lane g.own mark g.is)
  on_line lane End mark e = on_owned call.End lane End mark refl refl (λ g. k.ends lane g.own mark g.is)

  pub covered : (event : Event) (mark : Mark) → enabled s st event ≡ true → P event mark (happens s event mark st)
  covered event mark e = grind (arith, on_line)

-- ## its reply

module _ (s : Plan) (st : State) where
  told_revert : (v : ℕ) (kept : Option Kept) (mark : Mark) → revert_reply (revert_refusal v kept st) mark ≡ (revert_to s v (revert_refusal v kept st) kept mark st).0
  told_revert v kept mark = grind arith

  told_delete_kept : (v : ℕ) (kept : Option Kept) → delete_image_reply kept ≡ (delete_kept v kept st).0
  told_delete_kept v kept = grind arith

  told_component : (mode : Mode) (w : ℕ) (name : List ℕ) → component_reply mode s w name st ≡ (component_in mode s w name st).0
  told_component mode w name = grind arith

  told_add : (v : ℕ) (o : Option SetRow) → add_reply v o st ≡ (add v o st).0
  told_add v None = refl
  told_add v (Some r) = of_refusal (add_refusal v r st) where
    of_refusal : (why : Option VssResult) → fine_unless why ≡ (add_to v r why st).0
    of_refusal why = grind arith

  pub told_call : (lane : ℕ) (o : Op) (q : Option Session) → call_reply s o q st ≡ (line_in s lane o q st).0
  told_call lane o q = grind (arith, common_steps, nat_tests, told_component, told_add)

  told_judged : (v : Verdict) (lane : ℕ) (o : Op) → judged_reply v s o st ≡ (judged v s lane o st).0
  told_judged v lane o = grind (arith, told_call)

  told_line : (lane : ℕ) (o : Op) (l : Does) (mark : Mark) → reply_to s lane o l mark st ≡ (does s lane o l mark st).0
  unfolding write delete_set delete_image revert called
  told_line lane o (Reverts n v) mark = told_revert v (kept_image st n v) mark
  told_line lane o (DeletesSet n) mark = grind arith
  told_line lane o (DeletesImage n v) mark = told_delete_kept v (kept_image st n v)
  told_line lane o (Calls c) mark = told_judged (check st.session (runs st) lane c) lane o
  told_line lane o _ mark = refl

  pub reply_is : (act : Act) → reply s st act ≡ (happens s act.event act.mark st).0
  reply_is act = grind (arith, told_line)

-- ## reverts

-- What a call promises of an event: that it waits exactly as the definitions say, or that it is an enabled move, whose
-- reply and effects are those of the definitions, and after which what is kept stands for the state after it. (This
-- project's own.)
use Rattle.std.specs.Prelude.{ℕ, ◌≡◌, Bool, true, false, List, [], Option, Some, None, not, if◌then◌else◌}
use Rattle.vss_model.specs.Words.{Add, All, AsyncPending, Clean, Component, Components, Course, Document, EndsAs, Fits, Go, Group, HasLists, Held, History, IsOutcome, Kind, Mode, Op, Order, Plan}
use Rattle.vss_model.specs.Words.{Reply, Session, SessionCall, SetRow, Start, State, VssResult, WriterRow, after, check, document_text, enabled, ended_of, event_allows}
use Rattle.vss_model.specs.Words.{after_changes, call_reply, fails, goes_on, in_progress, known_metas, leaves_all, left_now, lost_after, lost_order_if, made_at, mark_of, next_volume, open_group, order_now, passes, released, selected, session_calls, steps, Change}
use Rattle.vss_model.specs.Words.{told_act, volumes_of, writers_of}
use Rattle.sessions.specs.Words.{Effects, Event, Provider, Tells, Told, begun_as, runs, works}
use Rattle.scenario.specs.declared.op.Op.TheVariants.{Gather, Prepare, Snapshot, Complete}
use Rattle.vss_model.specs.declared.told.Told.TheVariants as told
use Rattle.sessions.specs.declared.called.Called.{Called}
use Rattle.sessions.specs.declared.called.Called.TheVariants.{Waits, Moves}
use Rattle.sessions.specs.declared.session_move.SessionMove.{SessionMove}
use Rattle.sessions.specs.Keeps.{SessionsValue, Keeps, IsInOrder, IsAt}
use Rattle.sessions.specs.Concluded.{failed_set, without_images}
use Rattle.set_agenda.specs.declared.kind.Kind.TheVariants as kind

-- The images after a move, of those after what its event does itself: a set that fails in it loses its images, and so
-- does the set that is released with its session.
abbrev pub images_after : SessionMove → List History → List History
images_after m hs = without_images m.released (without_images (failed_set m.outcome.result m.outcome.set) hs)

-- what a step of the provider in this group does itself, where no device fails it
abbrev pub stepped_volumes : Bool → Group → Option ℕ → State → List History
stepped_volumes true g v st = st.volumes
stepped_volumes false g v st = (after_changes st (made_at (Some g) v st)).volumes

abbrev pub volumes_by_step : Told → State → List History
volumes_by_step (told.Step g v fails) st = stepped_volumes fails g v st
volumes_by_step _ st = st.volumes

-- what an event does itself to the volumes: a step of the provider alone does something
abbrev pub event_volumes : Event → Told → State → List History
event_volumes Provider t st = volumes_by_step t st
event_volumes _ t st = st.volumes

abbrev pub after_move : Plan → State → Event → SessionMove → State
after_move s st event m = after s st (told_act event m.outcome.told)

-- At each state of P, what was kept before is at which, the event is enabled, and this is what it comes to. A program
-- shows the rows as they are afterwards.
pub record IsMove (P : State → Type 0) (s : Plan) (new : SessionsValue) (event : Event) (m : SessionMove) : Type 0 where
  pub is_enabled : (st : State) → P st → enabled s st event ≡ true
  pub is_allowed : (st : State) → P st → event_allows s st event (mark_of m.outcome.told) ≡ true
  pub outcome : (st : State) (tells : List Bool) (listed : List ℕ) (rows : List WriterRow) → P st → rows ≡ (after_move s st event m).course.rows
      → IsOutcome tells s st event m.outcome listed [] rows
  pub keeps : (st : State) → P st → Keeps new (after_move s st event m)
  pub volumes : (st : State) → P st → (after_move s st event m).volumes ≡ images_after m (event_volumes event m.outcome.told st)

-- the event waits, and nothing changes
pub record IsWait (P : State → Type 0) (s : Plan) (old new : SessionsValue) (event : Event) : Type 0 where
  pub same : new ≡ old
  pub not_enabled : (st : State) → P st → enabled s st event ≡ false

abbrev pub IsCall : (State → Type 0) → Plan → SessionsValue → SessionsValue → Event → Called → Type 0
IsCall P s old new event Waits = IsWait P s old new event
IsCall P s old new event (Moves m) = IsMove P s new event m

-- ## what follows, whatever the event

-- The state went on to this one, after its event made these volumes and where this set was in progress: what is kept
-- stands for it, and the move tells the reply, the writers that were lost at an order, which set ended, and whose images
-- go.
pub record HasCome (t : Told) (gone : List ℕ) (at : Option Order) (found : Option SetRow) (made : List History) (after : State) (new : SessionsValue) (m : SessionMove) : Type 0 where
  pub told : m.outcome.told ≡ t
  pub lost : writers_of m.outcome.lost ≡ gone
  pub order : m.outcome.lost_order ≡ at
  pub ends : EndsAs (ended_of found after.sets) m.outcome.set m.outcome.result
  pub volumes : after.volumes ≡ images_after m made
  pub keeps : Keeps new after

-- no writer was lost, and the event did nothing to the volumes
abbrev pub CameTo : Told → State → State → SessionsValue → SessionMove → Type 0
CameTo t st after new m = HasCome t [] None (in_progress st) st.volumes after new m

-- The course went on from that of st to c, as these effects tell, and what follows from it was done.
abbrev pub Concludes : Told → Effects → SessionsValue → SessionsValue → SessionMove → Type 0
Concludes t e old new m = (st : State) (c : Course) (ran : Bool) (gone : List ℕ) (at : Option Order) → IsInOrder st
    → Keeps old (record st { course = c }) → Tells e ran gone at st.course c → HasCome t gone at (in_progress st) st.volumes (after_changes st (goes_on ran c st)) new m

-- ## the states of a call

-- these are the volumes of the set in progress
pub record IsAtOver (vs : List ℕ) (x : SessionsValue) (s : Plan) (st : State) : Type 0 where
  pub at : IsAt x s st
  pub volumes : vs ≡ volumes_of (in_progress st)

abbrev pub is_add : Op → Bool
is_add (Add v) = true
is_add _ = false

-- ## a session line that the checks let go

-- the checks let this lane make this call
abbrev pub LetsGo : SessionsValue → ℕ → SessionCall → Type 0
LetsGo x lane c = check x.requestor.session (runs x.coordinator) lane c ≡ Go

-- they do so where no agenda runs
abbrev pub LetsGoAtRest : SessionsValue → ℕ → SessionCall → Type 0
LetsGoAtRest x lane c = check x.requestor.session false lane c ≡ Go

-- what it changes: nothing if it is refused, or only looks
abbrev pub changes_of : Plan → ℕ → Op → State → List Change
changes_of s lane op st = if not (leaves_all (call_reply s op st.session st)) then session_calls s lane op st.session st else []

-- What the line comes to at a state, once the checks let it go: this reply, which is told so, and the state afterwards.
pub record ComesTo (s : Plan) (lane : ℕ) (op : Op) (st : State) (new : SessionsValue) (m : SessionMove) : Type 0 where
  pub told : Told
  pub reply : Reply
  pub after : State
  pub says : call_reply s op st.session st ≡ reply
  pub does : after_changes st (changes_of s lane op st) ≡ after
  pub fits : (tells : List Bool) → Fits tells reply told
  pub lists : (listed : List ℕ) (rows : List WriterRow) → rows ≡ after.course.rows → HasLists reply listed rows
  pub clean : mark_of told ≡ Clean
  pub came : CameTo told st after new m

-- at each state at which what was kept before is
abbrev pub IsGoneIn : Plan → SessionsValue → SessionsValue → ℕ → Op → SessionMove → Type 0
IsGoneIn s old new lane op m = (st : State) → IsAt old s st → ComesTo s lane op st new m

-- where these are the volumes of the set in progress
abbrev pub IsGoneAs : Plan → List ℕ → SessionsValue → SessionsValue → ℕ → Op → SessionMove → Type 0
IsGoneAs s vs old new lane op m = (st : State) → IsAtOver vs old s st → ComesTo s lane op st new m

-- the session is over, whatever becomes of the images
abbrev pub IsClosed : SessionsValue → SessionsValue → Type 0
IsClosed old new = (st : State) (hs : List History) → Keeps old st
    → Keeps new (record { session = None; explicit = []; sets = st.sets; course = released st.course; volumes = hs; clock = st.clock })

-- An agenda of this kind began, over this selection and these volumes, with what follows.
abbrev pub HasBegun : Kind → Held → List ℕ → SessionsValue → SessionsValue → SessionMove → Type 0
HasBegun kind h vs old new m = (st : State) (c : Course) → IsInOrder st → Keeps old st → c ≡ begun_as kind old.coordinator.writers h vs st.clock st.course
    → CameTo (told.Result AsyncPending) st (after_changes st (goes_on true c st)) new m

-- a volume may join the set in progress: there is one, and no agenda runs
pub record MayAdd (st : State) : Type 0 where
  pub row : SetRow
  pub is_in_progress : in_progress st ≡ Some row
  pub rests : st.course.agenda ≡ None

-- ## a step of the provider

-- the provider's next step is one of this group, for this volume
pub record IsNextStep (x : SessionsValue) (g : Group) (v : Option ℕ) : Type 0 where
  pub working : works x.coordinator ≡ true
  pub group : (st : State) → Keeps x st → open_group (left_now st) ≡ Some g
  pub volume : (st : State) → Keeps x st → next_volume (left_now st) ≡ v

-- what a step of this group does beside its entry in the log was done
abbrev pub HasCut : Group → SessionsValue → SessionsValue → Type 0
HasCut g old new = (st : State) (v : Option ℕ) → IsInOrder st → Keeps old st → Keeps new (after_changes st (made_at (Some g) v st))

-- the provider made its step, or a device failed it
abbrev pub HasStepped : Bool → Group → Option ℕ → SessionsValue → SessionsValue → SessionMove → Type 0
HasStepped fails g v old new m = (st : State) → IsInOrder st → Keeps old st → open_group (left_now st) ≡ Some g
    → HasCome (told.Step g v fails) [] None (in_progress st) (stepped_volumes fails g v st) (after_changes st (steps fails (Some g) v st)) new m

-- ## time

-- so many ticks went by from a state on, with what follows, and this is told
abbrev pub HasTicked : Told → ℕ → State → SessionsValue → SessionMove → Type 0
HasTicked t n st new m =
    HasCome t (lost_after (Some n) st) (lost_order_if (lost_after (Some n) st) (order_now (left_now st))) (in_progress st) st.volumes (after_changes st (passes n st)) new m

abbrev pub HasGoneOn : Told → ℕ → SessionsValue → SessionsValue → SessionMove → Type 0
HasGoneOn t n old new m = (st : State) → IsInOrder st → Keeps old st → HasTicked t n st new m

-- ## what the session selects

abbrev pub is_all : Mode → Bool
is_all Components = false
is_all All = true

-- the session takes all components of the writers that it knows
abbrev pub takes_all_of : Option Session → Bool
takes_all_of None = false
takes_all_of (Some q) = is_all q.mode

-- these are the bytes of the component document, at each state
abbrev pub IsDocumentIn : Plan → SessionsValue → List ℕ → Type 0
IsDocumentIn s x bytes = (st : State) (q : Session) → IsAt x s st → st.session ≡ Some q → bytes ≡ document_text (known_metas s st) (selected s q st) q.context

-- the session lines that may want memory
abbrev pub takes_memory : Op → Bool
takes_memory (Component w full) = true
takes_memory Document = true
takes_memory Start = true
takes_memory Gather = true
takes_memory Prepare = true
takes_memory Snapshot = true
takes_memory Complete = true
takes_memory _ = false

-- the set in progress failed, for this reason
abbrev pub IsFailed : SessionsValue → SessionsValue → VssResult → Type 0
IsFailed old new why = (st : State) → IsInOrder st → Keeps old st → Keeps new (after_changes st (fails (in_progress st) why st))

-- and this is the move in which it did
abbrev pub IsFailedSo : SessionsValue → SessionsValue → VssResult → SessionMove → Type 0
IsFailedSo old new why m = (st : State) → IsInOrder st → Keeps old st → CameTo told.Ok st (after_changes st (fails (in_progress st) why st)) new m

-- The state after an act is that after its changes, and what is known of each change where it comes: `e` and `m` are the event
-- and the mark of the act, `st` the state before it, and `x` that to which the change is applied.
use Rattle.std.proofs.Common.{◌≡◌, ◌∙◌, ℕ, List, [], ◌∷◌, ◌++◌, ◌+◌, fold, length, Option, Some, None, refl, Bool, true, false, sym, subst, ap, inl, inr, arith}
use Rattle.std.specs.Prelude.{◌⊎◌, ◌&&◌, not, if◌then◌else◌, option_map, is_some}
use Rattle.vss_model.proofs.Terms.{nat_tests, fold-append, common_steps, Context, Backup, AppRollback, NasRollback, SetOutcome, VssResult, AsyncCancelled}
use Rattle.vss_model.proofs.Terms.{AsyncPending, BadState, payload_bytes, Mark, Clean, FaultAfter, Write, Said, said_of, Group, Cut, Commit, Gather, Prepare}
use Rattle.vss_model.proofs.Terms.{Snapshot, Complete, Agenda, left, open_group, next_volume, is_working, IsKeptFrom, from_answered, from_stepped, from_timed}
use Rattle.vss_model.proofs.Terms.{from_begun, Course, posted, told, worked, answered as course_answered, stepped as course_stepped, timed, gathered, prepared}
use Rattle.vss_model.proofs.Terms.{snapshot_begun, completing, failed as course_failed, released, Pair, Naming, Names as NamesNow, naming, takers, SessionCall}
use Rattle.vss_model.proofs.Terms.{Mode, Session, makes_set, opened, started, agenda_ended, set_failed, Op, Target, target_in, line_of, Plan, token, Event}
use Rattle.vss_model.proofs.Terms.{Line, Provider, Idle, Reply, Coded, leaves_all, State, SetRow, Kept, in_progress, left_now, is_held, kept_image, Ending}
use Rattle.vss_model.proofs.Terms.{NothingEnds, AgendaEnds, SetFails, ending, runs, is_in_set, is_disabled, known_metas, selected, new_number, new_set}
use Rattle.vss_model.proofs.Terms.{add_refusal, has_no_volume, volumes_of, naming_reply, component_reply, add_reply, await_reply, session_reply, first_reply}
use Rattle.vss_model.proofs.Terms.{call_reply, is_flush, is_failed_step, ticks_of, Act, enabled, reply, changes, after, order_of_writer, idle_now, is_provider}
use Rattle.vss_model.proofs.Terms.{is_cut_group, LetsGo, Change, Passes, SessionIs, StartsSet, AddsVolume, IsCutAt, CourseIs, Settles, Writes, Reverts}
use Rattle.vss_model.proofs.Terms.{RevertsPart, DropsSet, Drops, apply, drops, ends, goes_on, fails, makes_room, puts, reverts, deletes, names, adds, releases}
use Rattle.vss_model.proofs.Terms.{closes, calls, session_calls, opens_as, passes, cuts, makes, steps, next_step, answers, does_change, event_changes}
use Rattle.vss_model.proofs.Terms.{after_changes, begins, made_at, Does, AnswerEvent}
use Rattle.block_data.specs.declared.payload.Payload.{Payload}
use Rattle.vss_model.proofs.StateForm.{followed, failed_in, failed, Replied, refused, write, reverted_as, pending, closed, cut_set, image_made}
use Rattle.vss_model.proofs.StateForm.{stepped_as, stepped, later, ticked, answered, does as line_does, happens, after_if, add, component_in, line_in}
use Rattle.vss_model.proofs.StateForm.{line_without_session, named_as, session_line, step_made}
use Rattle.vss_model.specs.Changes.{Names}
use Rattle.vss_model.proofs.ByEvent.{Covers, Next, covered, some_same, may_change, reply_is, told_call}
use Rattle.vss_model.proofs.Rows.{number-cut}
use Rattle.vss_model.proofs.Orderly.{find-map, find-settled_over}
use Rattle.requestor.specs.declared.session_call.SessionCall.TheVariants as call
use Rattle.scenario.specs.declared.line.Line.TheVariants as does
use Rattle.scenario.specs.declared.op.Op.TheVariants as op
use Rattle.vss_model.specs.Changes as change

-- ## what is known of a change

pub record IsStart (st x : State) (r : SetRow) : Type 0 where
  pub session : Session
  pub goes : LetsGo call.Start session st
  pub free : makes_set session.stage ≡ false
  pub row : r ≡ new_set (new_number st) session.context
  pub before : x.sets ≡ st.sets
  pub course : x.course ≡ st.course
  pub volumes : x.volumes ≡ st.volumes

pub record IsAdd (st x : State) (n v : ℕ) : Type 0 where
  pub row : SetRow
  pub session : Session
  pub goes : LetsGo call.Add session st
  pub found : in_progress st ≡ Some row
  pub number : n ≡ row.number
  pub allowed : add_refusal v row st ≡ None
  pub first : x ≡ st

pub record IsCut (e : Event) (st : State) (n : ℕ) : Type 0 where
  pub row : SetRow
  pub found : in_progress st ≡ Some row
  pub number : n ≡ row.number
  pub provider : is_provider e ≡ true
  pub group : is_cut_group (open_group (left_now st)) ≡ true

pub record IsMade (e : Event) (st : State) (n v : ℕ) : Type 0 where
  pub row : SetRow
  pub found : in_progress st ≡ Some row
  pub number : n ≡ row.number
  pub provider : is_provider e ≡ true
  pub group : open_group (left_now st) ≡ Some Commit
  pub volume : next_volume (left_now st) ≡ Some v

pub record IsWrite (e : Event) (m : Mark) (st : State) (v : ℕ) (w : Write) : Type 0 where
  pub lane : ℕ
  pub line : Op
  pub payload : Payload
  pub event : e ≡ Line lane line
  pub writes : line_of line ≡ does.Writes v w.block payload
  pub bytes : w.bytes ≡ payload_bytes payload
  pub clean : m ≡ Clean
  pub free : is_held st v ≡ false

pub record IsRevert (e : Event) (st : State) (v n p : ℕ) : Type 0 where
  pub lane : ℕ
  pub set : ℕ
  pub event : e ≡ Line lane (op.Revert set v)
  pub image : Kept
  pub kept : kept_image st set v ≡ Some image
  pub number : n ≡ image.row.number
  pub point : p ≡ image.point
  pub free : is_in_set v (in_progress st) ≡ false

-- the calls of the course
pub data CourseCall : Type 0 where
  Answers : ℕ → Said → CourseCall
  Steps : Bool → CourseCall
  Times : ℕ → CourseCall
  Gathers : CourseCall
  Prepares : Session → CourseCall
  Snapshots : CourseCall
  Completes : CourseCall
  Disables : ℕ → CourseCall
  Fails : VssResult → CourseCall
  Releases : CourseCall

-- the course after a call: `st` is the state before the act
abbrev pub called : Plan → State → CourseCall → Course → Course
called s st (Answers w said) c = course_answered w said st.clock c
called s st (Steps ok) c = course_stepped ok st.clock c
called s st (Times now) c = timed now c
called s st Gathers c = gathered (is_disabled s st) st.clock c
called s st (Prepares q) c = prepared (takers (length s.writers) (selected s q st)) st.clock c
called s st Snapshots c = snapshot_begun (volumes_of (in_progress st)) st.clock c
called s st Completes c = completing st.clock c
called s st (Disables w) c = record c { disabled = c.disabled ++ w ∷ [] }
called s st (Fails why) c = course_failed why c
called s st Releases c = released c

-- a session call, in the course that was before the act
pub record IsLetGo (call : SessionCall) (st : State) (c : Course) : Type 0 where
  pub session : Session
  pub goes : LetsGo call session st
  pub course : c ≡ st.course

-- what is known where the course c is called
abbrev pub IsDue : State → Course → CourseCall → Type 0
IsDue st c (Answers w said) = (is_some (order_of_writer st w) ≡ true) × (c ≡ st.course)
IsDue st c (Steps ok) = (is_working (left_now st) ≡ true) × (c ≡ st.course)
IsDue st c (Times now) = c ≡ st.course
IsDue st c Gathers = IsLetGo call.Gather st c
IsDue st c (Prepares q) = LetsGo call.Prepare q st × (c ≡ st.course)
IsDue st c Snapshots = IsLetGo call.Snapshot st c
IsDue st c Completes = IsLetGo call.Complete st c
IsDue st c (Disables w) = IsLetGo call.Disable st c
IsDue st c (Fails why) = (r : SetRow) × ((in_progress st ≡ Some r) × (c ≡ st.course))
IsDue st c Releases = (c ≡ st.course) ⊎ (c ≡ course_failed AsyncCancelled st.course)

-- and what of the other parts of the state
abbrev pub Stands : Event → State → State → CourseCall → Type 0
Stands e st x (Steps ok) = is_provider e ≡ true
Stands e st x Gathers = x ≡ st
Stands e st x (Prepares q) = x ≡ st
Stands e st x Snapshots = (x ≡ st) × (has_no_volume (in_progress st) ≡ false)
Stands e st x Completes = x ≡ st
Stands e st x (Disables w) = x ≡ st
Stands e st x Releases = (in_progress x ≡ None) × (x.explicit ≡ [])
Stands e st x _ = Unit {0}

pub record IsCalled (s : Plan) (e : Event) (st x : State) (c : Course) : Type 0 where
  pub call : CourseCall
  pub is : c ≡ called s st call x.course
  pub due : IsDue st x.course call
  pub stands : Stands e st x call

-- what becomes of the session
pub data SessionStep : Type 0 where
  Opens : ℕ → Context → Bool → SessionStep
  Starts : Session → SessionStep
  EndsAgenda : SessionStep
  FailsSet : VssResult → SessionStep
  Closes : SessionStep

abbrev pub session_after : State → SessionStep → Option Session → Option Session
session_after st (Opens lane c all) q = Some (opened lane c all)
session_after st (Starts own) q = Some (started (new_number st) own)
session_after st EndsAgenda q = option_map agenda_ended q
session_after st (FailsSet why) q = option_map (set_failed why) q
session_after st Closes q = None

abbrev pub IsStepDue : Event → State → State → SessionStep → Type 0
IsStepDue e st x (Opens lane c all) = (n : ℕ) × ((e ≡ Line lane (op.Begin n all)) × (st.session ≡ None) × (x ≡ st))
IsStepDue e st x (Starts own) = LetsGo call.Start own st × (x ≡ st)
IsStepDue e st x Closes = (x.explicit ≡ []) × (x.course.members ≡ []) × (x.course.agenda ≡ None)
IsStepDue e st x _ = Unit {0}

-- a component is named
pub record IsNamed (s : Plan) (st x : State) (pairs : List Pair) : Type 0 where
  pub session : Session
  pub goes : LetsGo call.Component session st
  pub writer : ℕ
  pub name : List ℕ
  pub named : naming (known_metas s st) writer name st.explicit ≡ NamesNow pairs
  pub first : x ≡ st

pub record IsSession (e : Event) (st x : State) (q : Option Session) : Type 0 where
  pub step : SessionStep
  pub is : q ≡ session_after st step x.session
  pub due : IsStepDue e st x step

abbrev pub Comes : Plan → Event → Mark → State → State → Change → Type 0
Comes s e m st x (Passes n) = ticks_of st e ≡ Some n
Comes s e m st x (StartsSet r) = IsStart st x r
Comes s e m st x (AddsVolume n v) = IsAdd st x n v
Comes s e m st x (CourseIs c) = IsCalled s e st x c
Comes s e m st x (SessionIs q) = IsSession e st x q
Comes s e m st x (Names pairs) = (pairs ≡ []) ⊎ IsNamed s st x pairs
Comes s e m st x (Settles o) = (x.course.agenda ≡ None) × (o ≡ x.course.outcome)
Comes s e m st x (IsCutAt n now) = IsCut e st n × (x ≡ st) × (now ≡ st.clock)
Comes s e m st x (change.Makes n v) = IsMade e st n v × (x ≡ st)
Comes s e m st x (Writes v w) = IsWrite e m st v w
Comes s e m st x (Reverts v n p) = IsRevert e st v n p × (m ≡ Clean) × (x ≡ st)
Comes s e m st x (RevertsPart v blocks n p k) = IsRevert e st v n p × (m ≡ FaultAfter k) × (x ≡ st)
Comes s e m st x _ = Unit {0}

-- of a list of changes, the first to x
abbrev pub Come : Plan → Event → Mark → State → State → List Change → Type 0
Come s e m st x [] = Unit {0}
Come s e m st x (c ∷ cs) = Comes s e m st x c × Come s e m st (apply x c) cs

come-append : (s : Plan) (e : Event) (m : Mark) (st x : State) (cs ds : List Change) → Come s e m st x cs → Come s e m st (fold apply x cs) ds → Come s e m st x (cs ++ ds)
come-append s e m st x [] ds h g = g
come-append s e m st x (c ∷ cs) ds h g = (h.0, come-append s e m st (apply x c) cs ds h.1 g)

-- ## where a set or an agenda ends, no agenda runs

abbrev EndsNone : Ending → Option Agenda → Type 0
EndsNone NothingEnds a = Unit {0}
EndsNone _ a = a ≡ None

-- a call leaves the outcome, or no agenda runs after it
abbrev Rests : Course → Course → Type 0
Rests c d = (d.outcome ≡ c.outcome) ⊎ (d.agenda ≡ None)

rests : (c : Course) → IsKeptFrom (Rests c) c
unfolding posted told worked course_failed
rests c = grind arith

rests_called : (s : Plan) (st : State) (call : CourseCall) (c : Course) → IsDue st c call → Rests c (called s st call c)
unfolding course_failed released
rests_called s st (Answers w said) c i = from_answered (Rests c) c (rests c) w said st.clock
rests_called s st (Steps ok) c i = from_stepped (Rests c) c (rests c) ok st.clock (subst (λ d. is_working (left d.agenda) ≡ true) (sym i.1) i.0)
rests_called s st (Times now) c i = from_timed (Rests c) c (rests c) now
rests_called s st Gathers c i = from_begun (Rests c) c (rests c) Gather _ [] st.clock _ (inl refl)
rests_called s st (Prepares q) c i = from_begun (Rests c) c (rests c) Prepare _ [] st.clock _ (inl refl)
rests_called s st Snapshots c i = from_begun (Rests c) c (rests c) Snapshot _ _ st.clock _ (inl refl)
rests_called s st Completes c i = from_begun (Rests c) c (rests c) Complete _ [] st.clock _ (inl refl)
rests_called s st (Disables w) c i = inl refl
rests_called s st _ c i = inr refl

-- ## the course goes on

pub goes_on_own : (ran : Bool) (c : Course) (x : State) → fold apply x (goes_on ran c x) ≡ followed ran c x
unfolding followed
goes_on_own ran c x = grind (arith, common_steps)

-- the session and the set in progress are the same
pub record IsAsBefore (x y : State) : Type 0 where
  pub course : x.course ≡ y.course
  pub session : x.session ≡ y.session
  pub set : drops (in_progress x) ≡ drops (in_progress y)

same_ends : (e : Ending) (o : SetOutcome) (x y : State) → x.session ≡ y.session → drops (in_progress x) ≡ drops (in_progress y) → ends e o y ≡ ends e o x
same_ends e o x y f g = grind (arith, common_steps)

goes_on_is : (ran : Bool) (c : Course) (x y : State) → IsAsBefore x y → fold apply x (goes_on ran c y) ≡ followed ran c x
goes_on_is ran c x y h =
    ap (λ (d : Course). fold apply x (CourseIs c ∷ ends (ending d.outcome c.outcome ran c.agenda) c.outcome y)) (sym h.course)
    ∙ ap (λ ds. fold apply x (CourseIs c ∷ ds)) (same_ends (ending x.course.outcome c.outcome ran c.agenda) c.outcome x y h.session h.set) ∙ goes_on_own ran c x

fails_is : (o : Option SetRow) (why : VssResult) (x y : State) → IsAsBefore x y → fold apply x (fails o why y) ≡ failed_in o why x
unfolding course_failed
fails_is o why x y h = grind (arith, common_steps, same_ends)

closes_is : (q : Session) (x : State) → fold apply x (closes q x) ≡ closed q x
unfolding closed
closes_is q x = grind (arith, common_steps)

pub fails_now : (why : VssResult) (st : State) → after_changes st (fails (in_progress st) why st) ≡ failed why st
fails_now why st = fails_is (in_progress st) why st st (record { course = refl; session = refl; set = refl })

pub answers_are : (w : ℕ) (said : Said) (st : State) → after_changes st (answers w said st) ≡ answered w said st
unfolding answered
answers_are w said st = goes_on_own (runs st) (course_answered w said st.clock st.course) st

pub passes_are : (n : ℕ) (st : State) → after_changes st (passes n st) ≡ ticked n st
unfolding ticked
passes_are n st = goes_on_is (runs st) (timed (st.clock + n) st.course) (later n st) st (record { course = refl; session = refl; set = refl })

pub ends_session : (s : Plan) (q : Session) (st : State) → after_changes st (calls s op.End q st) ≡ closed q (failed AsyncCancelled st)
ends_session s q st = grind (arith, fold-append, closes_is, fails_now)

pub made_are : (g : Option Group) (v : Option ℕ) (st : State) → after_changes st (made_at g v st) ≡ step_made g v st
made_are g v st = grind arith

as_before_cut : (o : Option SetRow) (st : State) → IsAsBefore (cut_set o st) st
as_before_cut o st = grind (arith, common_steps, find-map, number-cut)

as_before_made : (o : Option SetRow) (v : Option ℕ) (st : State) → IsAsBefore (image_made o v st) st
as_before_made o v st = grind arith

pub steps_are : (fault : Bool) (g : Option Group) (v : Option ℕ) (st : State) → after_changes st (steps fault g v st) ≡ stepped_as fault g v st
steps_are fault g v st = grind (arith, common_steps, goes_on_own, fold-append, made_are, goes_on_is, as_before_cut, as_before_made)

pub next_is : (mark : Mark) (st : State) → after_changes st (next_step mark st) ≡ stepped mark st
unfolding stepped
next_is mark st = steps_are (is_failed_step (is_flush (open_group (left_now st))) mark) (open_group (left_now st)) (next_volume (left_now st)) st

module _ (s : Plan) (e : Event) (m : Mark) (st : State) where
  come_ends : (g : Ending) (x y : State) → x.session ≡ y.session → EndsNone g x.course.agenda → Come s e m st x (ends g x.course.outcome y)
  come_ends NothingEnds x y same none = tt
  come_ends AgendaEnds x y same none = (record { step = EndsAgenda; is = ap (option_map agenda_ended) (sym same); due = tt }, ((none, refl), tt))
  come_ends (SetFails why) x y same
      none = (record { step = FailsSet why; is = ap (option_map (set_failed why)) (sym same); due = tt }, ((none, refl), by_set (in_progress y) _)) where
        by_set : (o : Option SetRow) (z : State) → Come s e m st z (drops o)
        by_set None z = tt
        by_set (Some r) z = (tt, tt)

  come_on : (ran : Bool) (c : Course) (x y : State) → x.session ≡ y.session → Rests y.course c → IsCalled s e st x c → Come s e m st x (goes_on ran c y)
  come_on ran c x y same h
      i = (i, come_ends (ending y.course.outcome c.outcome ran c.agenda) (record x { course = c }) y same (grind arith))

  come_fails : (o : Option SetRow) (why : VssResult) (x : State) → in_progress st ≡ o → x.course ≡ st.course → x.session ≡ st.session
      → Come s e m st x (fails o why st)
  unfolding course_failed
  come_fails None why x f same session = tt
  come_fails (Some r) why x f same session = (
    record { call = Fails why; is = ap (course_failed why) (sym same); due = (r, (f, same)); stands = tt },
    come_ends (SetFails why) (record x { course = course_failed why st.course }) st session refl,
  )

  come_closes : (q : Session) (x : State) → in_progress x ≡ None → (x.course ≡ st.course) ⊎ (x.course ≡ course_failed AsyncCancelled st.course)
      → Come s e m st x (closes q x)
  unfolding released
  come_closes q x none was = (
    inl refl,
    (
      record { call = Releases; is = refl; due = was; stands = (none, refl) },
      (
        record { step = Closes; is = refl; due = (refl, refl, refl) },
        by_context (apply (apply (apply x (Names [])) (CourseIs (released x.course))) (SessionIs None)) q.context q.set,
      ),
    ),
  )
    where
      by_context : (z : State) (c : Context) (set : Option ℕ) → Come s e m st z (releases c set)
      by_context z Backup None = tt
      by_context z Backup (Some n) = (tt, tt)
      by_context z AppRollback set = tt
      by_context z NasRollback set = tt

  -- ## each event

  -- the changes of an event lead to x, and what is known of each
  pub record Makes (x : State) (cs : List Change) : Type 0 where
    pub is : x ≡ fold apply st cs
    pub come : Come s e m st st cs

  makes_on : (ran : Bool) (c : CourseCall) → IsDue st st.course c → Stands e st st c
      → Makes (followed ran (called s st c st.course) st) (goes_on ran (called s st c st.course) st)
  makes_on ran c i k = grind (arith, goes_on_own, come_on, rests_called)

  makes_passes : (n : ℕ) → ticks_of st e ≡ Some n → Makes (ticked n st) (passes n st)
  makes_passes n f = record {
    is = sym (passes_are n st);
    come = (
      f,
      come_on
          (runs st) (timed (st.clock + n) st.course) (later n st) st refl (rests_called s st (Times (st.clock + n)) st.course refl)
          (record { call = Times (st.clock + n); is = refl; due = refl; stands = tt }),
    );
  }

  makes_fails : (why : VssResult) → Makes (failed why st) (fails (in_progress st) why st)
  makes_fails why = record { is = sym (fails_now why st); come = come_fails (in_progress st) why st refl refl refl }

  makes_end : (q : Session) → Makes (closed q (failed AsyncCancelled st)) (calls s op.End q st)
  makes_end q =
      let cs = fails (in_progress st) AsyncCancelled st in
      let x = fold apply st cs in
      record {
        is = sym (ends_session s q st);
        come = come-append s e m st st cs (closes q x) (come_fails (in_progress st) AsyncCancelled st refl refl refl)
            (come_closes q x (grind (arith, common_steps, find-settled_over)) (grind arith));
      }

  makes_write : (v : ℕ) (w : Write) → (m ≡ Clean → IsWrite e m st v w) → Makes (write s v w m st).1 (makes_room s v w.block st ++ puts v w m)
  unfolding write
  makes_write v w f = grind (arith, common_steps, fold-append, fails_is, come-append, come_fails)

  -- what a step makes
  abbrev next_of : Bool → Course
  next_of ok = called s st (Steps ok) st.course

  come_step : (x : State) → is_working (left_now st) ≡ true → is_provider e ≡ true → x.session ≡ st.session → x.course ≡ st.course → Come s e m st x (goes_on (runs st) (next_of true) st)
  come_step x w p f g =
      come_on (runs st) (next_of true) x st f (rests_called s st (Steps true) st.course (w, refl))
      (record { call = Steps true; is = ap (called s st (Steps true)) (sym g); due = (w, g); stands = p })

  pub makes_cut : (r : SetRow) → is_working (left_now st) ≡ true → in_progress st ≡ Some r → is_provider e ≡ true
      → is_cut_group (open_group (left_now st)) ≡ true
      → Makes (followed (runs st) (next_of true) (cut_set (Some r) st)) (IsCutAt r.number st.clock ∷ goes_on (runs st) (next_of true) st)
  makes_cut r w f g h =
      let c = next_of true in
      let x = cut_set (Some r) st in
      record {
        is = sym (goes_on_is (runs st) c x st (as_before_cut (Some r) st));
        come = ((record { row = r; found = f; number = refl; provider = g; group = h }, refl, refl), come_step x w g refl refl);
      }

  makes_cut_in : (o : Option SetRow) → is_working (left_now st) ≡ true → in_progress st ≡ o → is_provider e ≡ true → is_cut_group (open_group (left_now st)) ≡ true
      → Makes (followed (runs st) (next_of true) (cut_set o st)) (cuts o st.clock ++ goes_on (runs st) (next_of true) st)
  makes_cut_in None w f g h = makes_on (runs st) (Steps true) (w, refl) g
  makes_cut_in (Some r) w f g h = makes_cut r w f g h

  pub makes_image : (r : SetRow) (v : ℕ) → is_working (left_now st) ≡ true → in_progress st ≡ Some r → is_provider e ≡ true → open_group (left_now st) ≡ Some Commit
      → next_volume (left_now st) ≡ Some v → Makes (followed (runs st) (next_of true) (image_made (Some r) (Some v) st)) (change.Makes r.number v ∷ goes_on (runs st) (next_of true) st)
  makes_image r v w f g h i =
      let x = image_made (Some r) (Some v) st in
      record {
        is = sym (goes_on_is (runs st) (next_of true) x st (as_before_made (Some r) (Some v) st));
        come = ((record { row = r; found = f; number = refl; provider = g; group = h; volume = i }, refl), come_step x w g refl refl);
      }

  makes_image_in : (o : Option SetRow) (v : Option ℕ) → is_working (left_now st) ≡ true → in_progress st ≡ o → is_provider e ≡ true → open_group (left_now st) ≡ Some Commit
      → next_volume (left_now st) ≡ v → Makes (followed (runs st) (next_of true) (image_made o v st)) (makes o v ++ goes_on (runs st) (next_of true) st)
  makes_image_in (Some r) (Some v) w f g h i = makes_image r v w f g h i
  makes_image_in _ _ w f g h i = makes_on (runs st) (Steps true) (w, refl) g

  makes_steps : (b : Bool) (g : Option Group) → is_working (left_now st) ≡ true → is_provider e ≡ true → open_group (left_now st) ≡ g
      → Makes (stepped_as b g (next_volume (left_now st)) st) (steps b g (next_volume (left_now st)) st)
  makes_steps true g w f h = makes_on (runs st) (Steps false) (w, refl) f
  makes_steps false (Some Cut) w f h = makes_cut_in (in_progress st) w refl f (ap is_cut_group h)
  makes_steps false (Some Commit) w f h = makes_image_in (in_progress st) (next_volume (left_now st)) w refl f h refl
  makes_steps false _ w f h = makes_on (runs st) (Steps true) (w, refl) f

  makes_stepped : is_working (left_now st) ≡ true → is_provider e ≡ true → Makes (stepped m st) (next_step m st)
  unfolding stepped
  makes_stepped w f = makes_steps (is_failed_step (is_flush (open_group (left_now st))) m) (open_group (left_now st)) w f refl

  makes_answer : (w : ℕ) (said : Said) → is_some (order_of_writer st w) ≡ true → Makes (answered w said st) (answers w said st)
  unfolding answered
  makes_answer w said i = makes_on (runs st) (Answers w said) (i, refl) tt

-- ## every act

module _ (s : Plan) (st : State) where
  -- the changes of an event with this reply
  abbrev answered_by : Reply → List Change → List Change
  answered_by told cs = if not (leaves_all told) then cs else []

  abbrev Happens : Event → Mark → Replied → Type 0
  Happens e m r = r ≡ happens s e m st → Makes s e m st r.1 (answered_by r.0 (event_changes s st e m))

  nothing : (b : Bool) (cs : List Change) → cs ≡ [] → (if not b then cs else []) ≡ []
  nothing b cs e = grind arith

  stays_quiet : (told : Reply) (lane : ℕ) (o : Op) (m : Mark) (b : Bool) → may_change o ≡ b → (may_change o ≡ true → leaves_all told ≡ true) → answered_by told (event_changes s st (Line lane o) m) ≡ []
  stays_quiet told lane o m b e refused = grind (arith, common_steps, nothing)

  of_write : (v : ℕ) (w : Write) (m : Mark) (cs : List Change) → answered_by (write s v w m st).0 cs ≡ cs
  unfolding write
  of_write v w m cs = grind (arith, common_steps, nat_tests)

  does_write : (l : Does) (lane : ℕ) (o : Op) (v : ℕ) (b : ℕ) (m : Mark) (r : Replied) → line_of o ≡ l → target_in l ≡ Some (record { volume = v; block = b }) → is_held st v ≡ false → r ≡ line_does s lane o l m st
      → Makes s (Line lane o) m st r.1 (answered_by r.0 (does_change s lane o l m st))
  does_write (does.Writes u c payload) lane o v b m r d e f g =
      let w : Write = record { block = c; bytes = payload_bytes payload } in
      subst (λ (x : Replied). Makes s (Line lane o) m st x.1 (answered_by x.0 (does_change s lane o (does.Writes u c payload) m st))) (sym g)
      (subst (λ cs. Makes s (Line lane o) m st (write s u w m st).1 cs) (sym (of_write u w m (makes_room s u c st ++ puts u w m))) (makes_write s (Line lane o) m st u w known))
    where
      known : m ≡ Clean → IsWrite (Line lane o) m st u (record { block = c; bytes = payload_bytes payload })
      known clean = record { lane = lane; line = o; payload = payload; event = refl; writes = d; bytes = refl; clean = clean; free = subst (λ x. is_held st x ≡ false) (ap (λ (t : Target). t.volume) (sym (some_same _ _ e))) f }
  does_write _ lane o v b m r d e f g = absurd cc

  owned : (lane : ℕ) (o : Op) (m : Mark) (q : Session) (x : State) → st.session ≡ Some q → Makes s (Line lane o) m st x (calls s o q st) → Makes s (Line lane o) m st x (session_calls s lane o st.session st)
  owned lane o m q x e h = subst (λ p. Makes s (Line lane o) m st x (session_calls s lane o p st)) (sym e) h

  one : (e : Event) (m : Mark) (c : Change) → Comes s e m st st c → Makes s e m st (apply st c) (c ∷ [])
  one e m c h = record { is = refl; come = (h, tt) }

  covers : Covers Happens s st
  covers = record {
    stays = λ lane o m told e f i. subst (Makes s (Line lane o) m st st) (sym (stays_quiet told lane o m (may_change o) refl f.refused))
        (record { is = refl; come = tt });
    writes = λ lane o v w m e f i. does_write (line_of o) lane o v w.block m (write s v w m st) refl e f i;
    reverts = λ lane n v k m e f i.
        subst (Makes s (Line lane (op.Revert n v)) m st (reverted_as s v k m st).1) (sym (grind arith))
        (subst (λ x. Makes s (Line lane (op.Revert n v)) m st (reverted_as s v k m st).1 (reverts s v x m)) (sym e)
        (grind (arith, common_steps, nat_tests)));
    deletes_set = λ lane n c m e i. one (Line lane (op.DeleteSet n)) m (DropsSet n) tt;
    deletes_image = λ lane n v k m e i.
        subst (λ x. Makes s (Line lane (op.DeleteImage n v)) m st (apply st (Drops k.row.number v)) (deletes v x)) (sym e) (one (Line lane (op.DeleteImage n v)) m (Drops k.row.number v) tt);
    ticks = λ lane n m i. makes_passes s (Line lane (op.Tick n)) m st n refl;
    begins = λ lane n all c m e f i.
        let x = record st { session = Some (opened lane c all); explicit = [] } in
        subst (λ q. Makes s (Line lane (op.Begin n all)) m st x (session_calls s lane (op.Begin n all) q st)) (sym e)
        (subst (λ o. Makes s (Line lane (op.Begin n all)) m st x (opens_as lane all o)) (sym f)
        (record { is = refl; come = (record { step = Opens lane c all; is = refl; due = (n, (refl, e, refl)) }, (inl refl, tt)) }));
    disables = λ lane w q m g i. owned lane (op.Disable w) m q _ g.stands
        (one (Line lane (op.Disable w)) m (CourseIs (called s st (Disables w) st.course))
        (record { call = Disables w; is = refl; due = record { session = q; goes = g; course = refl }; stands = refl }));
    gathers = λ lane q m g i. owned lane op.Gather m q _ g.stands
        (makes_on s (Line lane op.Gather) m st true Gathers (record { session = q; goes = g; course = refl }) refl);
    names = λ lane w full q explicit m g e i.
        owned lane (op.Component w full) m q _ g.stands
        (subst (λ x. Makes s (Line lane (op.Component w full)) m st (apply st (Names explicit)) (names x)) (sym e)
        (one (Line lane (op.Component w full)) m (Names explicit)
        (inr (record { session = q; goes = g; writer = w; name = token s full; named = e; first = refl }))));
    starts = λ lane q m g e i. owned lane op.Start m q _ g.stands
        (record {
          is = refl;
          come = (
            record { step = Starts q; is = refl; due = (g, refl) },
            (record { session = q; goes = g; free = e; row = refl; before = refl; course = refl; volumes = refl }, tt),
          );
        });
    adds = λ lane v r q m g e f i.
        owned lane (op.Add v) m q _ g.stands
        (subst (λ x. Makes s (Line lane (op.Add v)) m st (apply st (AddsVolume r.number v)) (adds v x)) (sym e)
        (one (Line lane (op.Add v)) m (AddsVolume r.number v) (record { row = r; session = q; goes = g; found = e; number = refl; allowed = f; first = refl })));
    prepares = λ lane q m g f i. owned lane op.Prepare m q _ g.stands (makes_on s (Line lane op.Prepare) m st true (Prepares q) (g, refl) refl);
    snapshots = λ lane q m g f i. owned lane op.Snapshot m q _ g.stands
        (makes_on s (Line lane op.Snapshot) m st true Snapshots (record { session = q; goes = g; course = refl }) (refl, f));
    completes = λ lane q m g i. owned lane op.Complete m q _ g.stands
        (makes_on s (Line lane op.Complete) m st true Completes (record { session = q; goes = g; course = refl }) refl);
    aborts = λ lane q m e i. owned lane op.Abort m q _ e (makes_fails s (Line lane op.Abort) m st AsyncCancelled);
    ends = λ lane q m e i. owned lane op.End m q _ e (makes_end s (Line lane op.End) m st q);
    answers = λ w a m e i. subst (Makes s (AnswerEvent w a) m st _) (sym (grind arith)) (makes_answer s (AnswerEvent w a) m st w (said_of a) e);
    steps = λ m e i. subst (Makes s Provider m st _) (sym (grind arith)) (makes_stepped s Provider m st e refl);
    idles = λ m e i. makes_passes s Idle m st (idle_now st) refl;
  }

  made : (act : Act) → Makes s act.event act.mark st (after_if (enabled s st act.event) s st act) (changes s st act)
  made act = grind (arith, common_steps, nat_tests, reply_is, covered, covers)

-- ## the state after an act

pub none_if_blocked : (s : Plan) (st : State) (act : Act) → enabled s st act.event ≡ false → changes s st act ≡ []
none_if_blocked s st act e = ap (λ b. if b && not (leaves_all (reply s st act)) then event_changes s st act.event act.mark else []) e

pub none_if_refused : (s : Plan) (st : State) (act : Act) → leaves_all (reply s st act) ≡ true → changes s st act ≡ []
none_if_refused s st act e = grind (arith, common_steps, nat_tests)

pub stays : (s : Plan) (st : State) (act : Act) → changes s st act ≡ [] → after s st act ≡ st
unfolding after
stays s st act e = ap (fold apply st) e

pub after_is : (s : Plan) (st : State) (act : Act) → after s st act ≡ after_if (enabled s st act.event) s st act
unfolding after
after_is s st act = sym (made s st act).is

pub after_enabled : (s : Plan) (st : State) (act : Act) → enabled s st act.event ≡ true → after s st act ≡ (happens s act.event act.mark st).1
after_enabled s st act e = after_is s st act ∙ ap (λ b. after_if b s st act) e

pub after_not_enabled : (s : Plan) (st : State) (act : Act) → enabled s st act.event ≡ false → after s st act ≡ st
after_not_enabled s st act e = after_is s st act ∙ ap (λ b. after_if b s st act) e

-- an act that is not enabled changes nothing
pub after_by : (R : State → Type 0) (s : Plan) (st : State) (act : Act) → (enabled s st act.event ≡ true → R (happens s act.event act.mark st).1) → R st → R (after s st act)
after_by x0 s st act h stays = grind (arith, after_enabled, after_not_enabled)

-- with what the act is answered
pub told_covered : (P : Event → Mark → Replied → Type 0) (s : Plan) (st : State) → Covers P s st → (act : Act) → enabled s st act.event ≡ true
    → P act.event act.mark (reply s st act, after s st act)
told_covered x0 s st k act e = grind (arith, reply_is, after_enabled, covered)

pub after_covered : (R : State → Type 0) (s : Plan) (st : State) → Covers (Next R) s st → R st → (act : Act) → R (after s st act)
after_covered R s st k h act = after_by R s st act (covered (Next R) s st k act.event act.mark) h

-- ## a session call

module _ (s : Plan) (st : State) where
  abbrev pub after_call : Reply → List Change → State
  after_call told cs = after_changes st (if not (leaves_all told) then cs else [])

  call_begins : (b : Bool) (c : Course) → after_call (if b then Coded BadState else Coded AsyncPending) (goes_on true c st) ≡ (if b then refused BadState st else pending c st).1
  call_begins b c = grind (arith, goes_on_own)

  call_named : (n : Naming) → after_call (naming_reply n) (names n) ≡ (named_as n st).1
  call_named n = grind arith

  call_component : (mode : Mode) (w : ℕ) (name : List ℕ)
      → after_call (component_reply mode s w name st) (names (naming (known_metas s st) w name st.explicit)) ≡ (component_in mode s w name st).1
  call_component mode w name = grind (arith, call_named)

  call_add : (v : ℕ) (o : Option SetRow) → after_call (add_reply v o st) (adds v o) ≡ (add v o st).1
  call_add v None = refl
  call_add v (Some r) = grind arith

  call_own : (lane : ℕ) (o : Op) (q : Session) → after_call (session_reply s o q st) (calls s o q st) ≡ (session_line s lane o q st).1
  call_own lane op.Gather q = goes_on_own true (gathered (is_disabled s st) st.clock st.course) st
  call_own lane (op.Component w full) q = call_component q.mode w (token s full)
  call_own lane (op.Add v) q = call_add v (in_progress st)
  call_own lane op.Prepare q = call_begins (has_no_volume (in_progress st)) (prepared (takers (length s.writers) (selected s q st)) st.clock st.course)
  call_own lane op.Snapshot q = call_begins (has_no_volume (in_progress st)) (snapshot_begun (volumes_of (in_progress st)) st.clock st.course)
  call_own lane op.Complete q = goes_on_own true (completing st.clock st.course) st
  call_own lane op.Await q = ap (fold apply st) (nothing s st (leaves_all (await_reply q.last)) [] refl)
  call_own lane op.Abort q = fails_now AsyncCancelled st
  call_own lane op.End q = ends_session s q st
  call_own lane _ q = refl

  call_first : (lane : ℕ) (o : Op) → after_call (first_reply o) (begins lane o) ≡ (line_without_session lane o st).1
  call_first lane o = grind arith

  call_after : (lane : ℕ) (o : Op) (q : Option Session) → after_call (call_reply s o q st) (session_calls s lane o q st) ≡ (line_in s lane o q st).1
  call_after lane o None = call_first lane o
  call_after lane o (Some q) = call_own lane o q

  -- a call that goes is answered so, and changes this
  pub line_is : (lane : ℕ) (o : Op) (q : Option Session) → line_in s lane o q st ≡ (call_reply s o q st, after_call (call_reply s o q st) (session_calls s lane o q st))
  line_is lane o q = grind (arith, told_call, call_after)

-- ## the rule of changes

module _ (P : State → Type 0) (s : Plan) (e : Event) (m : Mark) (st : State) (keeps : (c : Change) (x : State) → Comes s e m st x c → P x → P (apply x c)) where
  pub by_list : (cs : List Change) (x : State) → Come s e m st x cs → P x → P (fold apply x cs)
  by_list [] x h p = p
  by_list (c ∷ cs) x h p = by_list cs (apply x c) h.1 (keeps c x h.0 p)

-- the changes with which an agenda or a set ends
abbrev pub is_end : Change → Bool
is_end (SessionIs q) = true
is_end (Settles o) = true
is_end (DropsSet n) = true
is_end _ = false

module _ (P : State → Type 0) (s : Plan) (e : Event) (m : Mark) (st : State) (keeps : (c : Change) (x : State) → is_end c ≡ true → Comes s e m st x c → P x → P (apply x c)) where
  by_drops : (o : Option SetRow) (x : State) → Come s e m st x (drops o) → P x → P (fold apply x (drops o))
  by_drops None x i h = h
  by_drops (Some r) x i h = keeps (DropsSet r.number) x refl i.0 h

  pub by_ends : (g : Ending) (o : SetOutcome) (x y : State) → Come s e m st x (ends g o y) → P x → P (fold apply x (ends g o y))
  by_ends NothingEnds o x y i h = h
  by_ends AgendaEnds o x y i h = keeps (Settles o) _ refl i.1.0 (keeps (SessionIs _) x refl i.0 h)
  by_ends (SetFails why) o x y i h = by_drops (in_progress y) _ i.1.1 (keeps (Settles o) _ refl i.1.0 (keeps (SessionIs _) x refl i.0 h))

-- what each change keeps, where it comes, every act keeps
pub by_changes : (P : State → Type 0) (s : Plan) (st : State) (act : Act) → ((c : Change) (x : State) → Comes s act.event act.mark st x c → P x → P (apply x c)) → P st → P (after s st act)
unfolding after
by_changes P s st act keeps h = by_list P s act.event act.mark st keeps (changes s st act) st (made s st act).come h

pub by_all_changes : (P : State → Type 0) (s : Plan) → ((e : Event) (m : Mark) (st : State) (c : Change) (x : State) → Comes s e m st x c → P x → P (apply x c)) → (st : State) (acts : List Act) → P st → P (fold (after s) st acts)
by_all_changes P s keeps st [] h = h
by_all_changes P s keeps st (act ∷ acts) h = by_all_changes P s keeps (after s st act) acts (by_changes P s st act (keeps act.event act.mark st) h)

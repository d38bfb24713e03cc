-- From what an event comes to at a state, what is promised of it; and each call of the coordinator as a step of the course.
use Rattle.std.proofs.Common.{◌≡◌, ◌⊎◌, ℕ, List, [], refl, ap, sym, ◌∙◌, subst, Bool, true, false, Option, Some, None, arith, ◌+◌, ◌<◌, map}
use Rattle.std.specs.Prelude.{not, All, is_some, option_map}
use Rattle.set_agenda.specs.Course.{Course, sent, lost_writers, answered as course_answered, stepped as course_stepped, timed as course_timed}
use Rattle.set_agenda.specs.declared.group.Group.TheVariants as group
use Rattle.writer_calls.specs.declared.answer.Answer.{Answer}
use Rattle.coordinator.specs.Coordinator.{CoordinatorState, Stands, runs as runs_kept, works}
use Rattle.scenario.specs.Calls.{call_in, call_of, line_of, target_of}
use Rattle.scenario.specs.declared.line.Line.{Line as Does}
use Rattle.vss_model.specs.Acts.{enabled, event_allows, after, reply, line_enabled, line_allows, may_call, is_blocked}
use Rattle.vss_model.specs.Changes.{after_changes, made_at, steps}
use Rattle.vss_model.specs.Effects.{evicted, evicted_at, line_ticks, ended_of, lost, lost_after, lost_order, lost_order_if}
use Rattle.vss_model.specs.Steps.{row_cut, with_cut, is_flush, is_failed_step}
use Rattle.vss_model.specs.declared.told.Told.TheVariants as told
use Rattle.vss_model.proofs.ByEvent.{reply_is}
use Rattle.vss_model.proofs.Changes.{line_is, goes_on_own, passes_are, made_are, steps_are}
use Rattle.vss_model.proofs.StateForm.{called, does, line, happens, answered, stepped, stepped_as, step_made, cut_set, image_made, later, ticked}
use Rattle.sessions.specs.Moves.{changes_of}
use Rattle.sessions.proofs.Concluding.{no_end, nobody, ended_mapped, keeps_course, keeps_rows}
use Rattle.sessions.proofs.Newest.{changed_bare, changed_by_number, changed_none}
use Rattle.sessions.proofs.Words.{Mark, Clean, WriterRow, VssResult, is_working, order_now, Verdict, Go, Blocked, Refused, SessionCall, check, check_other}
use Rattle.sessions.proofs.Words.{left-is, runs-is, Op, Plan, Event, Line, Told, Reply, Coded, State, in_progress, left_now, runs, EndsAs, Replied, judged}
use Rattle.sessions.proofs.Words.{Fits, mark_of, HasLists, IsOutcome, told_act, Goes, other_goes, SessionMove, told_alone, SessionsValue, Keeps, IsInOrder}
use Rattle.sessions.proofs.Words.{IsMove, CameTo, ComesTo, HasCome, after_move, event_volumes, images_after, after_enabled, length-map, Order, SetOutcome}
use Rattle.sessions.proofs.Words.{Standing, said_of, Group, left, open_order, open_group, next_volume, is_asking, Session, Effects, HasTicked, IsOnTime}
use Rattle.sessions.proofs.Words.{KeepsWriters, writer_count, Tells, lost_order_if as lost_order_kept, ticks_if, standing_in, number_in, Tick}
use Rattle.sessions.proofs.Words.{Answer as AnswerEvent, Provider, Idle, Fine, Answered, Stepped, Idled, SetRow, is_cut_group, followed, answer_reply}
use Rattle.sessions.proofs.Words.{step_reply, flush_allows, idle_now, IsOfSession, mark_if, IsSameRow, numbered-map, newest-map, find-map, same_changed, bare}
use Rattle.sessions.proofs.Words.{running_changed, Concludes, stepped_volumes}

-- ## From what an event comes to at a state, what is promised of it.

-- ## an event

-- what an enabled event comes to at a state
pub record Happens (s : Plan) (st : State) (event : Event) (new : SessionsValue) (m : SessionMove) : Type 0 where
  pub told : Told
  pub on : enabled s st event ≡ true
  pub allowed : event_allows s st event (mark_of told) ≡ true
  pub reply : Reply
  pub after : State
  pub does : happens s event (mark_of told) st ≡ (reply, after)
  pub fits : (tells : List Bool) → Fits tells reply told
  pub lists : (listed : List ℕ) (rows : List WriterRow) → rows ≡ after.course.rows → HasLists reply listed rows
  pub evicts : [] ≡ evicted s st event
  pub came : HasCome told (lost st event) (lost_order st event) (in_progress st) (event_volumes event told st) after new m

module _ (s : Plan) (st : State) (event : Event) (new : SessionsValue) (m : SessionMove) (h : Happens s st event new m) where
  does_so : happens s event (mark_of m.outcome.told) st ≡ (h.reply, h.after)
  does_so = ap (λ (t : Told). happens s event (mark_of t) st) h.came.told ∙ h.does

  after_is : after_move s st event m ≡ h.after
  after_is = after_enabled s st (told_act event m.outcome.told) h.on ∙ ap (λ (z : Replied). z.1) does_so

  outcome_is : (tells : List Bool) (listed : List ℕ) (rows : List WriterRow) → rows ≡ (after_move s st event m).course.rows → IsOutcome tells s st event m.outcome listed [] rows
  outcome_is tells listed rows e =
      let is : reply s st (told_act event m.outcome.told) ≡ h.reply = reply_is s st (told_act event m.outcome.told) ∙ ap (λ (z : Replied). z.0) does_so in
      record {
        fits = subst (λ r. Fits tells r m.outcome.told) (sym is) (subst (Fits tells h.reply) (sym h.came.told) (h.fits tells));
        lists = subst (λ r. HasLists r listed rows) (sym is) (h.lists listed rows (e ∙ ap (λ (z : State). z.course.rows) after_is));
        evicts = h.evicts;
        loses = h.came.lost;
        order = h.came.order;
        ends = subst (λ (x : State). EndsAs (ended_of (in_progress st) x.sets) m.outcome.set m.outcome.result) (sym after_is) h.came.ends;
      }

pub happens_moves : (P : State → Type 0) (s : Plan) (new : SessionsValue) (event : Event) (m : SessionMove) → ((st : State) → P st → Happens s st event new m) → IsMove P s new event m
happens_moves P s new event m all = record {
  is_enabled = λ st p. (all st p).on;
  is_allowed = λ st p. let h = all st p in ap (λ (t : Told). event_allows s st event (mark_of t)) h.came.told ∙ h.allowed;
  outcome = λ st tells listed rows p e. outcome_is s st event new m (all st p) tells listed rows e;
  keeps = λ st p. subst (Keeps new) (sym (after_is s st event new m (all st p))) (all st p).came.keeps;
  volumes = λ st p.
      let h = all st p in
      ap (λ (z : State). z.volumes) (after_is s st event new m h) ∙ h.came.volumes ∙ ap (λ (t : Told). images_after m (event_volumes event t st)) (sym h.came.told);
}

-- ## a coordinator that stands for a course

pub runs_same : (x : CoordinatorState) (st : State) → Stands x st.course → runs_kept x ≡ runs st
runs_same x st h = runs-is x.kept.running st.course.agenda h.follows.agenda

pub works_same : (x : CoordinatorState) (st : State) → Stands x st.course → works x ≡ is_working (left_now st)
works_same x st h = ap is_working (left-is x.kept st.course h.follows)

pub checked_same : (x : SessionsValue) (st : State) (lane : ℕ) (c : SessionCall) → Keeps x st → check x.requestor.session (runs_kept x.coordinator) lane c ≡ check st.session (runs st) lane c
checked_same x st lane c h = grind arith

-- the call is the owner's
pub owner_at : {x : SessionsValue} {st : State} {c : SessionCall} (lane : ℕ) → Keeps x st → check_other x.requestor.session (runs_kept x.coordinator) lane c ≡ Go → Goes st.session (runs st) c
owner_at lane kept goes = grind (arith, other_goes, runs_same)

-- ## a line that is a session call

-- it goes to the checks, its mark does not matter, it writes nothing and takes no time
record IsCallLine (op : Op) (c : SessionCall) : Type 0 where
  goes : (s : Plan) (st : State) (lane : ℕ) → line_enabled s st lane op ≡ may_call st lane (Some c)
  does : (s : Plan) (st : State) (lane : ℕ) (mark : Mark) → line s lane op mark st ≡ called c s lane op st
  target : target_of op ≡ None
  ticks : line_ticks op ≡ None

call_line_by : (op : Op) (l : Does) (c : SessionCall) → line_of op ≡ l → call_in l ≡ Some c → IsCallLine op c
call_line_by op l c is e = grind arith

call_line : (op : Op) (c : SessionCall) → call_of op ≡ Some c → IsCallLine op c
call_line op c e = call_line_by op (line_of op) c refl e

called_as : (c : SessionCall) (s : Plan) (lane : ℕ) (op : Op) (st : State) (v : Verdict) → check st.session (runs st) lane c ≡ v → called c s lane op st ≡ judged v s lane op st
unfolding called
called_as c s lane op st v e = ap (λ v. judged v s lane op st) e

module _ (s : Plan) (st : State) (lane : ℕ) (op : Op) (c : SessionCall) (is : call_of op ≡ Some c) (new : SessionsValue) (m : SessionMove) where
  -- what it comes to, from the verdict of the checks
  judged_happens : (v : Verdict) (t : Told) (reply : Reply) (after : State) → check st.session (runs st) lane c ≡ v → is_blocked v ≡ false → judged v s lane op st ≡ (reply, after)
      → ((tells : List Bool) → Fits tells reply t) → ((listed : List ℕ) (rows : List WriterRow) → rows ≡ after.course.rows → HasLists reply listed rows)
      → mark_of t ≡ Clean → CameTo t st after new m → Happens s st (Line lane op) new m
  judged_happens v t reply after verdict free does fits lists clean came =
      let h : IsCallLine op c = call_line op c is in
      record {
        told = t;
        on = h.goes s st lane ∙ ap (λ v. not (is_blocked v)) verdict ∙ ap not free;
        allowed = ap (line_allows s st op) clean;
        reply = reply;
        after = after;
        does = h.does s st lane (mark_of t) ∙ called_as c s lane op st v verdict ∙ does;
        fits = fits;
        lists = lists;
        evicts = ap (evicted_at s st) (sym h.target);
        came = subst (λ (k : Option ℕ). HasCome t (lost_after k st) (lost_order_if (lost_after k st) (order_now (left_now st))) (in_progress st) st.volumes after new m) (sym h.ticks) came;
      }

  pub line_happens : check st.session (runs st) lane c ≡ Go → ComesTo s lane op st new m → Happens s st (Line lane op) new m
  line_happens verdict h = judged_happens Go h.told h.reply h.after verdict refl
      (line_is s st lane op st.session ∙ ap (λ told. (told, after_changes st (changes_of s lane op st))) h.says ∙ ap (λ (x : State). (h.reply, x)) h.does) h.fits h.lists h.clean h.came

  pub line_waits : check st.session (runs st) lane c ≡ Blocked → enabled s st (Line lane op) ≡ false
  line_waits verdict = (call_line op c is).goes s st lane ∙ ap (λ v. not (is_blocked v)) verdict

-- nothing changes, and nothing is dropped
pub came_to_itself : (x : SessionsValue) (st : State) (t : Told) → IsInOrder st → Keeps x st → CameTo t st st x (told_alone t)
came_to_itself x st t order kept = record { told = refl; lost = nobody; order = refl; ends = no_end st order; volumes = refl; keeps = kept }

pub refused_happens : (s : Plan) (st : State) (lane : ℕ) (op : Op) (c : SessionCall) (is : call_of op ≡ Some c) (x : SessionsValue) (why : VssResult)
    → check st.session (runs st) lane c ≡ Refused why → IsInOrder st → Keeps x st → Happens s st (Line lane op) x (told_alone (told.Result why))
refused_happens s st lane op c is x why verdict order kept =
    judged_happens s st lane op c is x (told_alone (told.Result why)) (Refused why) (told.Result why) (Coded why) st verdict refl refl (λ tells. refl) (λ listed rows e. tt) refl
    (came_to_itself x st (told.Result why) order kept)

pub not_blocked : (v : Verdict) → (v ≡ Go) ⊎ ((x : VssResult) × (v ≡ Refused x)) → not (is_blocked v) ≡ true
not_blocked v x1 = grind arith

-- ## A call of the coordinator is a step of the course, with what follows from it: an answer, a step of the provider, an
-- agenda that begins, or time that goes by.

-- ## a step of the course

-- At the tick `now`, which the clock shows, the coordinator went on to k and the course to the one that `to` makes of the tick; the writers that were lost, and their order, are named by the tick.
pub goes_on : (x new : SessionsValue) (k : CoordinatorState) (st : State) (to : ℕ → Course) (gone : ℕ → List ℕ) (at : ℕ → Option Order) (now : ℕ) (ran : Bool) (t : Told) (e : Effects)
    (m : SessionMove)
    → now ≡ x.clock → IsInOrder st → Keeps x st → Stands k (to now) → KeepsWriters x.coordinator k → (IsOnTime now x.coordinator → IsOnTime now k) → (to now).disabled ≡ st.course.disabled
    → Tells e ran (gone now) (at now) st.course (to now) → Concludes t e (record x { coordinator = k }) new m
    → HasCome t (gone st.clock) (at st.clock) (in_progress st) st.volumes (followed ran (to st.clock) st) new m
goes_on x new k st to gone at now ran t e m tick order kept stands writers times disabled tells concludes =
    let on_time = subst (λ (n : ℕ). IsOnTime n k) tick (times (subst (λ (n : ℕ). IsOnTime n x.coordinator) (sym tick) kept.on_time)) in
    let mid = keeps_course x k st (to now) kept stands writers.count on_time (subst (λ (ds : List ℕ). All (λ w. w < writer_count x.coordinator) ds) (sym disabled) kept.disabled) in
    subst (λ (n : ℕ). HasCome t (gone n) (at n) (in_progress st) st.volumes (followed ran (to n) st) new m) (tick ∙ kept.clock)
    (subst (λ y. HasCome t (gone now) (at now) (in_progress st) st.volumes y new m) (goes_on_own ran (to now) st) (concludes st (to now) ran (gone now) (at now) order mid tells))

-- ## a writer answers

order_if_some : (c : Course) (w : ℕ) (o : Option Order) (s : Standing) → Some s ≡ option_map (λ (x : Order). record { number = number_in c.opened w; order = x; nth = sent c w x }) o → o ≡ Some s.order
order_if_some c w o s e = grind arith

pub answer_happens : (s : Plan) (new : SessionsValue) (w : ℕ) (a : Answer) (o : Standing) (m : SessionMove) (st : State) → Some o ≡ standing_in st.course w
    → CameTo (told.Answered o.order a) st (followed (runs st) (course_answered w (said_of a) st.clock st.course) st) new m → Happens s st (AnswerEvent w a) new m
unfolding answered
answer_happens s new w a o m st stands came =
    let order = order_if_some st.course w (open_order (left_now st) w) o stands in
    record {
      told = told.Answered o.order a;
      on = ap is_some order;
      allowed = refl;
      reply = Answered o.order a;
      after = answered w (said_of a) st;
      does = ap (λ (x : Option Order). (answer_reply x a, answered w (said_of a) st)) order;
      fits = λ tells. refl;
      lists = λ listed rows e. tt;
      evicts = refl;
      came = came;
    }

-- ## what a step does beside its entry

cut_same : (n now : ℕ) → IsSameRow (row_cut n now)
cut_same n now = same_changed n (with_cut now) (λ r. refl) (λ r. refl)

of_session : (q : Option Session) (o : SetOutcome) (f : SetRow → SetRow) (found : Option SetRow) → ((r : SetRow) → (f r).number ≡ r.number) → IsOfSession q o found
    → IsOfSession q o (option_map f found)
of_session q o f found same h = grind arith

-- whatever a step does beside its entry, it keeps the course, the clock and the session, and which set is in progress
pub record IsBesides (st x : State) : Type 0 where
  pub course : x.course ≡ st.course
  pub clock : x.clock ≡ st.clock
  pub order : IsInOrder x
  pub ended : (rows : List SetRow) → ended_of (in_progress x) rows ≡ ended_of (in_progress st) rows

besides_cut : (st : State) (o : Option SetRow) → in_progress st ≡ o → IsInOrder st → IsBesides st (cut_set o st)
besides_cut st o e order = grind (arith, cut_same, find-map, numbered-map, newest-map, of_session, ended_mapped)

besides_made : (st : State) (o : Option SetRow) (v : Option ℕ) → IsInOrder st → IsBesides st (image_made o v st)
besides_made st o v order = grind arith

besides : (st : State) (g : Group) (v : Option ℕ) → IsInOrder st → IsBesides st (step_made (Some g) v st)
besides st g v order = grind (arith, besides_cut, besides_made)

set_in : (x : SessionsValue) (st : State) (o : Option SetRow) (now : ℕ) → in_progress st ≡ o → now ≡ st.clock → IsInOrder st → Keeps x st
    → Keeps (record x { sets = map (running_changed (with_cut now)) x.sets }) (cut_set o st)
set_in x st None now e clock order kept = keeps_rows x st x.requestor st.session _ st.sets st.volumes kept kept.session kept.made
    (ap (map (running_changed (with_cut now))) kept.sets ∙ changed_bare (with_cut now) (λ q. refl) st.sets ∙ ap (map bare) (changed_none (with_cut now) st.sets e))
set_in x st (Some r) now e clock order kept = keeps_rows x st x.requestor st.session _ (map (row_cut r.number st.clock) st.sets) _ kept kept.session
    (kept.made ∙ sym (length-map st.sets (row_cut r.number st.clock)))
    (ap (map (running_changed (with_cut now))) kept.sets ∙ changed_bare (with_cut now) (λ q. refl) st.sets
    ∙ ap (map bare) (ap (λ (t : ℕ). map (running_changed (with_cut t)) st.sets) clock ∙ changed_by_number (with_cut st.clock) 1 st.sets r order.numbered order.newest e))

pub is_cut_now : (x : SessionsValue) (st : State) (g : Group) (v : Option ℕ) (now : ℕ) → is_cut_group (Some g) ≡ true → now ≡ x.clock → IsInOrder st → Keeps x st
    → Keeps (record x { sets = map (running_changed (with_cut now)) x.sets }) (after_changes st (made_at (Some g) v st))
is_cut_now x st g v now e clock order kept = subst (Keeps _) (sym (made_are (Some g) v st)) (made g e) where
  made : (g : Group) → is_cut_group (Some g) ≡ true → Keeps (record x { sets = map (running_changed (with_cut now)) x.sets }) (step_made (Some g) v st)
  made g e = grind (arith, set_in)

-- ## a step of the provider

step_made_goes : (st : State) (g : Group) (v : Option ℕ) (new : SessionsValue) (m : SessionMove) → IsInOrder st
    → ((x : State) → x ≡ step_made (Some g) v st → IsInOrder x → HasCome (told.Step g v false) [] None (in_progress x) x.volumes (followed (runs x) (course_stepped true x.clock x.course) x) new m)
    → HasCome (told.Step g v false) [] None (in_progress st) (step_made (Some g) v st).volumes (stepped_as false (Some g) v st) new m
step_made_goes st g v new m order comes = grind (arith, besides)

-- what a step that is made comes to, from the state after what it does beside its entry
pub step_goes : (st : State) (g : Group) (v : Option ℕ) (new : SessionsValue) (m : SessionMove) → IsInOrder st
    → ((x : State) → x ≡ step_made (Some g) v st → IsInOrder x → HasCome (told.Step g v false) [] None (in_progress x) x.volumes (followed (runs x) (course_stepped true x.clock x.course) x) new m)
    → HasCome (told.Step g v false) [] None (in_progress st) (stepped_volumes false g v st) (after_changes st (steps false (Some g) v st)) new m
step_goes st g v new m order comes =
    subst (λ x. HasCome (told.Step g v false) [] None (in_progress st) (stepped_volumes false g v st) x new m) (sym (steps_are false (Some g) v st))
    (subst (λ (x : State). HasCome (told.Step g v false) [] None (in_progress st) x.volumes (stepped_as false (Some g) v st) new m) (sym (made_are (Some g) v st))
    (step_made_goes st g v new m order comes))

stepped_is : (mark : Mark) (st : State) → stepped mark st ≡ stepped_as (is_failed_step (is_flush (open_group (left_now st))) mark) (open_group (left_now st)) (next_volume (left_now st)) st
unfolding stepped
stepped_is mark st = refl

failed_if : (b fails : Bool) → (fails ≡ true → b ≡ true) → is_failed_step b (mark_if fails) ≡ fails
failed_if b fails h = grind arith

allowed_if : (b fails : Bool) → (fails ≡ true → b ≡ true) → flush_allows b (mark_if fails) ≡ true
allowed_if b fails h = grind arith

pub step_happens : (s : Plan) (new : SessionsValue) (st : State) (g : Group) (v : Option ℕ) (fails : Bool) (m : SessionMove) → is_working (left_now st) ≡ true → open_group (left_now st) ≡ Some g
    → next_volume (left_now st) ≡ v
    → (fails ≡ true → is_flush (Some g) ≡ true) → HasCome (told.Step g v fails) [] None (in_progress st) (stepped_volumes fails g v st) (after_changes st (steps fails (Some g) v st)) new m
    → Happens s st Provider new m
step_happens s new st g v fails m works at volume flushes came = record {
  told = told.Step g v fails;
  on = works;
  allowed = ap (λ (o : Option Group). flush_allows (is_flush o) (mark_if fails)) at ∙ allowed_if (is_flush (Some g)) fails flushes;
  reply = Stepped g v fails;
  after = stepped_as fails (Some g) v st;
  does =
      ap (λ (x : State). (step_reply (open_group (left_now st)) (next_volume (left_now st)) (mark_if fails), x)) (stepped_is (mark_if fails) st)
      ∙ ap (λ (o : Option Group). (step_reply o (next_volume (left_now st)) (mark_if fails), stepped_as (is_failed_step (is_flush o) (mark_if fails)) o (next_volume (left_now st)) st)) at
      ∙ ap (λ (o : Option ℕ). (step_reply (Some g) o (mark_if fails), stepped_as (is_failed_step (is_flush (Some g)) (mark_if fails)) (Some g) o st)) volume
      ∙ ap (λ (b : Bool). (Stepped g v b, stepped_as b (Some g) v st)) (failed_if (is_flush (Some g)) fails flushes);
  fits = λ tells. refl;
  lists = λ listed rows e. tt;
  evicts = refl;
  came = subst (λ x. HasCome (told.Step g v fails) [] None (in_progress st) (stepped_volumes fails g v st) x new m) (steps_are fails (Some g) v st) came;
}

-- ## time goes by

pub later_order : (n : ℕ) (st : State) → IsInOrder st → IsInOrder (later n st)
later_order n st h = record { numbered = h.numbered; newest = h.newest; session = h.session }

pub later_keeps : (x : SessionsValue) (st : State) (n clock : ℕ) → clock ≡ x.clock + n → Keeps x st → Keeps (record x { clock = clock }) (later n st)
later_keeps x st n clock e kept = grind arith

pub time_goes : (new : SessionsValue) (st : State) (t : Told) (n : ℕ) (m : SessionMove)
    → HasCome t (lost_writers (st.clock + n) st.course) (lost_order_kept (lost_writers (st.clock + n) st.course) (order_now (left st.course.agenda))) (in_progress st) st.volumes
    (followed (runs st) (course_timed (st.clock + n) st.course) (later n st)) new m
    → HasTicked t n st new m
unfolding ticked
time_goes new st t n m came =
    subst (λ x. HasCome t (lost_after (Some n) st) (lost_order_if (lost_after (Some n) st) (order_now (left_now st))) (in_progress st) st.volumes x new m) (sym (passes_are n st)) (goes came) where
      goes : HasCome t (lost_writers (st.clock + n) st.course) (lost_order_kept (lost_writers (st.clock + n) st.course) (order_now (left st.course.agenda))) (in_progress st) st.volumes
          (followed (runs st) (course_timed (st.clock + n) st.course) (later n st)) new m
          → HasCome t (lost_after (Some n) st) (lost_order_if (lost_after (Some n) st) (order_now (left_now st))) (in_progress st) st.volumes (ticked n st) new m
      goes came = grind arith

at_ticked : (new : SessionsValue) (st : State) (t : Told) (n : ℕ) (m : SessionMove) → HasTicked t n st new m
    → HasCome t (lost_after (Some n) st) (lost_order_if (lost_after (Some n) st) (order_now (left_now st))) (in_progress st) st.volumes (ticked n st) new m
at_ticked new st t n m came =
    subst (λ x. HasCome t (lost_after (Some n) st) (lost_order_if (lost_after (Some n) st) (order_now (left_now st))) (in_progress st) st.volumes x new m) (passes_are n st) came

pub tick_happens : (s : Plan) (new : SessionsValue) (st : State) (lane n : ℕ) (m : SessionMove)
    → HasTicked told.Ok n st new m
    → Happens s st (Line lane (Tick n)) new m
tick_happens s new st lane n m came =
    record { told = told.Ok; on = refl; allowed = refl; reply = Fine; after = ticked n st; does = refl; fits = λ tells. refl; lists = λ listed rows e. tt; evicts = refl; came = at_ticked new st told.Ok n m came }

pub idle_happens : (s : Plan) (new : SessionsValue) (st : State) (n : ℕ) (m : SessionMove) → is_asking (left_now st) ≡ true → n ≡ idle_now st
    → HasTicked (told.Ticks n) n st new m → Happens s st Idle new m
idle_happens s new st n m asks is came = record {
  told = told.Ticks (idle_now st);
  on = asks;
  allowed = refl;
  reply = Idled (idle_now st);
  after = ticked (idle_now st) st;
  does = refl;
  fits = λ tells. refl;
  lists = λ listed rows e. tt;
  evicts = refl;
  came = at_ticked new st (told.Ticks (idle_now st)) (idle_now st) m (subst (λ (k : ℕ). HasTicked (told.Ticks k) k st new m) is came);
}

pub ticks_are : (b : Bool) (n m : ℕ) → Some n ≡ ticks_if b m → n ≡ m
ticks_are b n m e = grind arith

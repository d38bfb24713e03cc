-- The session lines that the checks let go: what each comes to, those that begin an agenda, and a volume that joins the set.
use Rattle.std.proofs.Common.{◌≡◌, ℕ, ◌+◌, ◌<◌, List, [], ◌∷◌, ◌++◌, length, refl, ap, sym, ◌∙◌, subst, arith, Bool, true, false, Option, Some, None, map, zero}
use Rattle.std.proofs.Common.{suc, ◌==◌, slice_get}
use Rattle.std.specs.Prelude.{is_some, option_map, option_and_then, unwrap_or, All, ◌||◌, IfOk, Result}
use Rattle.set_agenda.specs.declared.kind.Kind.TheVariants as kind
use Rattle.requestor.specs.declared.session_call.SessionCall.TheVariants as call
use Rattle.scenario.specs.declared.op.Op.TheVariants as op
use Rattle.vss_model.specs.Changes.{after_changes, goes_on}
use Rattle.vss_model.specs.Steps.{runs}
use Rattle.vss_model.specs.Sessions.{new_set, new_number, call_reply, has_no_volume, volumes_of, is_disabled}
use Rattle.vss_model.specs.declared.told.Told.TheVariants as told
use Rattle.vss_model.proofs.Changes.{line_is, goes_on_own}
use Rattle.vss_model.proofs.StateForm.{Replied, failed, line_in, session_line, begin_in, start_set, images_released, closed, await_last, pending}
use Rattle.sessions.specs.Moves.{changes_of}
use Rattle.sessions.proofs.Concluding.{no_end, nobody, ended_mapped, keeps_course, keeps_named, keeps_rows, closes}
use Rattle.sessions.proofs.CourseSteps.{Happens, line_happens}
use Rattle.sessions.proofs.Newest.{append_bare, unseen_bare}
use Rattle.sessions.proofs.Words.{All-push, Context, SetOutcome, Running, VssResult, BadState, AsyncCancelled, UnsupportedContext, Clean, History, WriterRow}
use Rattle.sessions.proofs.Words.{released, Go, Session, context_of, opened, started, makes_set, applied, ended as ended_session, check_begin, check_other}
use Rattle.sessions.proofs.Words.{CoordinatorState, KeepsWriters, Stands, IsOnTime, writer_count, named, Op, Plan, Told, Reply, Fine, Coded, Numbered, StatusOf}
use Rattle.sessions.proofs.Words.{State, SetRow, in_progress, ended_of, IsOfSession, HasLists, EndsAs, Fits, mark_of, Goes, SessionMove, bare, SessionsValue}
use Rattle.sessions.proofs.Words.{Keeps, IsAt, IsInOrder, nothing_named_in, failed_set, released_by, told_alone, without_images, CameTo, ComesTo, list_any}
use Rattle.sessions.proofs.Words.{OutOfMemory, AsyncPending, Course, gathered, Held, Registered, class_at, are_equal, is_disabled as is_disabled_kept}
use Rattle.sessions.proofs.Words.{members-agree, WriterPlan, class_of, class_in, followed, IsOf, classes_registered, classes_of, HasBegun, IsAtOver, cond-false}
use Rattle.sessions.proofs.Words.{cond-true, after, length-map, check, Line, row_changed, add_refusal, add_to, change_set, with_volume, IsSameRow, numbered-map}
use Rattle.sessions.proofs.Words.{same_changed, none_ends}

-- ## The session lines that the checks let go: what each comes to.

-- of an owner's call, the line is the session's
pub line_of : (s : Plan) (lane : ℕ) (op : Op) (st : State) (q : Session) → st.session ≡ Some q → line_in s lane op st.session st ≡ session_line s lane op q st
line_of s lane op st q e = ap (λ (o : Option Session). line_in s lane op o st) e

-- what it is answered, and the state to which its changes lead
pub says_so : (s : Plan) (lane : ℕ) (op : Op) (st : State) (reply : Reply) (after : State) → line_in s lane op st.session st ≡ (reply, after) → call_reply s op st.session st ≡ reply
says_so s lane op st reply after e = ap (λ (x : Replied). x.0) (sym (line_is s st lane op st.session) ∙ e)

pub does_so : (s : Plan) (lane : ℕ) (op : Op) (st : State) (reply : Reply) (after : State) → line_in s lane op st.session st ≡ (reply, after)
    → after_changes st (changes_of s lane op st) ≡ after
does_so s lane op st reply after e = ap (λ (x : Replied). x.1) (sym (line_is s st lane op st.session) ∙ e)

-- ## a line that ends nothing

pub alone : {s : Plan} {lane : ℕ} {op : Op} {st : State} {new : SessionsValue} {m : SessionMove} (t : Told) (reply : Reply) (after : State) → m ≡ told_alone t
    → line_in s lane op st.session st ≡ (reply, after)
    → ((tells : List Bool) → Fits tells reply t) → ((listed : List ℕ) (rows : List WriterRow) → rows ≡ after.course.rows → HasLists reply listed rows) → mark_of t ≡ Clean
    → EndsAs (ended_of (in_progress st) after.sets) 0 Running → after.volumes ≡ st.volumes → Keeps new after → ComesTo s lane op st new m
alone {s = s} {lane = lane} {op = op_} {st = st} {new = new} t reply after is does fits lists clean ends volumes keeps = record {
  told = t;
  reply = reply;
  after = after;
  says = says_so s lane op_ st reply after does;
  does = does_so s lane op_ st reply after does;
  fits = fits;
  lists = lists;
  clean = clean;
  came = subst (CameTo t st after new) (sym is) (record { told = refl; lost = nobody; order = refl; ends = ends; volumes = volumes; keeps = keeps });
}

-- a refusal of the call's own
pub refuses : {s : Plan} {lane : ℕ} {op : Op} {st : State} {x : SessionsValue} {m : SessionMove} (why : VssResult) → m ≡ told_alone (told.Result why)
    → line_in s lane op st.session st ≡ (Coded why, st) → IsAt x s st → ComesTo s lane op st x m
refuses {st = st} why is does at = alone (told.Result why) (Coded why) st is does (λ tells. refl) (λ listed rows e. tt) refl (no_end st at.order) refl at.keeps

-- ## begin

-- by the context of its number
begin_line : (s : Plan) (lane n : ℕ) (all : Bool) (o : Option Context) (x : SessionsValue) (st : State) → Keeps x st → check_begin x.requestor.session lane ≡ Go → context_of n all ≡ o
    → line_in s lane (op.Begin n all) st.session st ≡ begin_in lane all o st
begin_line s lane n all o x st kept goes is = grind arith

pub begins_not : {s : Plan} {lane n : ℕ} {all : Bool} {st : State} {x : SessionsValue} {m : SessionMove} → check_begin x.requestor.session lane ≡ Go → is_some (context_of n all) ≡ false
    → m ≡ told_alone (told.Result UnsupportedContext) → IsAt x s st
    → ComesTo s lane (op.Begin n all) st x m
begins_not {s = s} {lane = lane} {n = n} {all = all} {st = st} {x = x} goes none is at = refuses UnsupportedContext is
    (begin_line s lane n all None x st at.keeps goes (none_of (context_of n all) none)) at
  where
    none_of : (o : Option Context) → is_some o ≡ false → o ≡ None
    none_of None e = refl
    none_of (Some c) e = cc

pub begins : {s : Plan} {lane n : ℕ} {all : Bool} {st : State} {x y : SessionsValue} {m : SessionMove} → check_begin x.requestor.session lane ≡ Go → is_some (context_of n all) ≡ true
    → m ≡ told_alone told.Ok → IsAt x s st
    → y ≡ nothing_named_in (record x { requestor = applied lane (call.Begin n all) x.requestor }) → ComesTo s lane (op.Begin n all) st y m
begins {s = s} {lane = lane} {n = n} {all = all} {st = st} {x = x} {m = m} goes some is at new = subst (λ (z : SessionsValue). ComesTo s lane (op.Begin n all) st z m) (sym new)
    (by_context (context_of n all) refl some)
  where
    by_context : (o : Option Context) → context_of n all ≡ o → is_some o ≡ true
        → ComesTo s lane (op.Begin n all) st (nothing_named_in (record x { requestor = applied lane (call.Begin n all) x.requestor })) m
    by_context None e f = cc
    by_context (Some c) e f =
        alone told.Ok Fine (record st { session = Some (opened lane c all); explicit = [] }) is (begin_line s lane n all (Some c) x st at.keeps goes e) (λ tells. refl) (λ listed rows e. tt) refl
        (no_end st at.order) refl (keeps_named x st (applied lane (call.Begin n all) x.requestor) _ _ [] at.keeps (ap (option_map (λ (d : Context). opened lane d all)) e) refl refl refl)

-- ## start

pub not_started : (q : Session) (o : SetOutcome) (found : Option SetRow) → makes_set q.stage ≡ false → IsOfSession (Some q) o found → found ≡ None
not_started q o found e h = grind arith

pub at_rest : (st : State) → Goes st.session (runs st) call.Start → IsInOrder st → in_progress st ≡ None
at_rest st owner order = grind arith

length_more : (rows : List SetRow) (r : SetRow) → length (rows ++ r ∷ []) ≡ length rows + 1
length_more [] r = refl
length_more (q ∷ rows) r = let h = length_more rows r in omega (arith, h)

pub starts : {s : Plan} {lane : ℕ} {st : State} {x y : SessionsValue} {m : SessionMove} (number : ℕ) (context : Context) → Goes st.session (runs st) call.Start → IsAt x s st
    → number ≡ x.requestor.sets_made + 1 → Some context ≡ option_map (λ (q : Session). q.context) x.requestor.session → m ≡ told_alone (told.Set number)
    → y ≡ record x { requestor = applied lane call.Start x.requestor; sets = x.sets ++ new_set number context ∷ [] } → ComesTo s lane op.Start st y m
starts {s = s} {lane = lane} {st = st} {x = x} {y = y} {m = m} number context owner at made named is new =
    let q = owner.own in
    let kept = at.keeps in
    let counted : number ≡ new_number st = made ∙ ap (λ (n : ℕ). n + 1) kept.made in
    let same : context ≡ q.context = let e : Some context ≡ Some q.context = named ∙ ap (option_map (λ (z : Session). z.context)) (kept.session ∙ owner.is) in cc in
    subst (λ (z : SessionsValue). ComesTo s lane op.Start st z m) (sym new)
    (alone (told.Set number) (Numbered (new_number st)) (start_set q st).1 is (line_of s lane op.Start st q owner.is) (λ tells. ap told.Set counted) (λ listed rows e. tt) refl
    (subst (λ (o : Option SetRow). EndsAs (ended_of o (st.sets ++ new_set (new_number st) q.context ∷ [])) 0 Running) (sym (at_rest st owner at.order)) refl) refl
    (keeps_rows x st (applied lane call.Start x.requestor) _ _ _ st.volumes kept
    (ap (option_map (started (x.requestor.sets_made + 1))) (kept.session ∙ owner.is) ∙ ap (λ (n : ℕ). Some (started (n + 1) q)) kept.made)
    (ap (λ (n : ℕ). n + 1) kept.made ∙ sym (length_more st.sets (new_set (new_number st) q.context)))
    (ap (λ (rows : List SetRow). rows ++ new_set number context ∷ []) kept.sets ∙ ap (λ (n : ℕ). map bare st.sets ++ new_set n context ∷ []) counted
    ∙ ap (λ (c : Context). map bare st.sets ++ new_set (new_number st) c ∷ []) same ∙ sym (append_bare st.sets (new_set (new_number st) q.context)))))

-- ## await, status, disable

last_told : (last : Option VssResult) (st : State) → await_last last st ≡ (Coded (unwrap_or last BadState), st)
last_told last st = grind arith

pub awaits : {s : Plan} {lane : ℕ} {st : State} {x : SessionsValue} {m : SessionMove} (last : Option VssResult) (why : VssResult) → Goes st.session (runs st) call.Await → IsAt x s st
    → last ≡ option_and_then (λ (q : Session). q.last) x.requestor.session → why ≡ unwrap_or last BadState → m ≡ told_alone (told.Result why) → ComesTo s lane op.Await st x m
awaits {s = s} {lane = lane} {st = st} last why owner at lasts whys is =
    let same : last ≡ owner.own.last = lasts ∙ ap (option_and_then (λ (q : Session). q.last)) (at.keeps.session ∙ owner.is) in
    refuses why is (line_of s lane op.Await st owner.own owner.is ∙ ap (λ (o : Option VssResult). await_last o st) (sym same) ∙ last_told last st ∙ ap (λ (w : VssResult). (Coded w, st)) (sym whys)) at

pub shows : {s : Plan} {lane : ℕ} {st : State} {x : SessionsValue} {m : SessionMove} → Goes st.session (runs st) call.Status → IsAt x s st → m ≡ told_alone told.Status
    → ComesTo s lane op.Status st x m
shows {s = s} {lane = lane} {st = st} owner at is =
    alone told.Status (StatusOf st.course.rows) st is (line_of s lane op.Status st owner.own owner.is) (λ tells. refl) (λ listed rows e. e) refl (no_end st at.order) refl at.keeps

pub disables : {s : Plan} {lane w : ℕ} {st : State} {x : SessionsValue} {m : SessionMove} (k : CoordinatorState) → Goes st.session (runs st) call.Disable → IsAt x s st → w < writer_count x.coordinator
    → Stands k (named w st.course) → KeepsWriters x.coordinator k → IsOnTime x.clock k → m ≡ told_alone told.Ok → ComesTo s lane (op.Disable w) st (record x { coordinator = k }) m
disables {s = s} {lane = lane} {w = w} {st = st} {x = x} k owner at known stands writers times is =
    alone told.Ok Fine (record st { course = named w st.course }) is (line_of s lane (op.Disable w) st owner.own owner.is) (λ tells. refl) (λ listed rows e. tt) refl (no_end st at.order) refl
    (keeps_course x k st (named w st.course) at.keeps stands writers.count times (All-push (λ d. d < writer_count x.coordinator) st.course.disabled w at.keeps.disabled known))

-- ## abort and end

pub aborts : {s : Plan} {lane : ℕ} {st : State} {y : SessionsValue} {m : SessionMove} → Goes st.session (runs st) call.Abort → CameTo told.Ok st (failed AsyncCancelled st) y m
    → ComesTo s lane op.Abort st y m
aborts {s = s} {lane = lane} {st = st} owner came = record {
  told = told.Ok;
  reply = Fine;
  after = failed AsyncCancelled st;
  says = says_so s lane op.Abort st _ _ (line_of s lane op.Abort st owner.own owner.is);
  does = does_so s lane op.Abort st _ _ (line_of s lane op.Abort st owner.own owner.is);
  fits = λ tells. refl;
  lists = λ listed rows e. tt;
  clean = refl;
  came = came;
}

-- an owner may end its session at any time
pub may_end : (q p : Option Session) (running : Bool) (lane : ℕ) → check_other q running lane call.End ≡ Go → option_map (λ (z : Session). z.owner) p ≡ option_map (λ (z : Session). z.owner) q
    → check_other p false lane call.End ≡ Go
may_end q p running lane e same = grind arith

closed_is : (q : Session) (st : State)
    → closed q st ≡ record { session = None; explicit = []; sets = st.sets; course = released st.course; volumes = images_released q.context q.set st.volumes; clock = st.clock }
unfolding closed
closed_is q st = refl

released_is : (c : Context) (set : Option ℕ) (hs : List History) → images_released c set hs ≡ without_images (released_by (Some c) set) hs
released_is c set hs = grind arith

pub ends : {s : Plan} {lane : ℕ} {st : State} {x mid y : SessionsValue} (moved : SessionMove) (set : Option ℕ) → Goes st.session (runs st) call.End → Keeps x st
    → CameTo told.Ok st (failed AsyncCancelled st) mid moved → moved.released ≡ None
    → set ≡ released_by (option_map (λ (q : Session). q.context) x.requestor.session) (option_and_then (λ (q : Session). q.set) x.requestor.session)
    → ((hs : List History)
    → Keeps y (record {
      session = None;
      explicit = [];
      sets = (failed AsyncCancelled st).sets;
      course = released
          (failed AsyncCancelled st).course;
      volumes = hs;
      clock = (failed AsyncCancelled st).clock;
    }))
    → ComesTo s lane op.End st y (record { outcome = moved.outcome; released = set })
ends {s = s} {lane = lane} {st = st} {y = y} moved set owner kept came none is closes =
    let q = owner.own in
    let same : set ≡ released_by (Some q.context) q.set = is
    ∙ ap (λ (p : Option Session). released_by (option_map (λ (z : Session). z.context) p) (option_and_then (λ (z : Session). z.set) p)) (kept.session ∙ owner.is) in
    let mine = without_images (failed_set moved.outcome.result moved.outcome.set) st.volumes in
    record {
      told = told.Ok;
      reply = Fine;
      after = closed q (failed AsyncCancelled st);
      says = says_so s lane op.End st _ _ (line_of s lane op.End st q owner.is);
      does = does_so s lane op.End st _ _ (line_of s lane op.End st q owner.is);
      fits = λ tells. refl;
      lists = λ listed rows e. tt;
      clean = refl;
      came = subst (λ (z : State). CameTo told.Ok st z y (record { outcome = moved.outcome; released = set })) (sym (closed_is q (failed AsyncCancelled st))) (record {
        told = came.told;
        lost = came.lost;
        order = came.order;
        ends = came.ends;
        volumes = ap (images_released q.context q.set) (came.volumes ∙ ap (λ (o : Option ℕ). without_images o mine) none) ∙ released_is q.context q.set mine
            ∙ ap (λ (o : Option ℕ). without_images o mine) (sym same);
        keeps = closes (images_released q.context q.set (failed AsyncCancelled st).volumes);
      });
    }

pub owner_kept : (o : SetOutcome) (q : Option Session) → option_map (λ (z : Session). z.owner) (option_map (ended_session o) q) ≡ option_map (λ (z : Session). z.owner) q
owner_kept o q = grind arith

-- ## The session lines that begin an agenda.

-- what began, as a line
pub pends : {s : Plan} {lane : ℕ} {op_ : Op} {st : State} {new : SessionsValue} {m : SessionMove} (c : Course) → line_in s lane op_ st.session st ≡ pending c st
    → CameTo (told.Result AsyncPending) st (after_changes st (goes_on true c st)) new m → ComesTo s lane op_ st new m
pends {s = s} {lane = lane} {op_ = op_} {st = st} {new = new} {m = m} c does came = record {
  told = told.Result AsyncPending;
  reply = Coded AsyncPending;
  after = followed true c st;
  says = says_so s lane op_ st _ _ does;
  does = does_so s lane op_ st _ _ does;
  fits = λ tells. refl;
  lists = λ listed rows e. tt;
  clean = refl;
  came = subst (λ x. CameTo (told.Result AsyncPending) st x new m) (goes_on_own true c st) came;
}

-- ## complete and snapshot

pub volume_test : (o : Option SetRow) (vs : List ℕ) → vs ≡ volumes_of o → (length vs == 0) ≡ has_no_volume o
volume_test o vs e = grind arith

pub completes : {s : Plan} {lane : ℕ} {st : State} {old new : SessionsValue} {m : SessionMove} (h : Held) → Goes st.session (runs st) call.Complete → IsAt old s st
    → HasBegun kind.Complete h [] old new m → ComesTo s lane op.Complete st new m
completes {s = s} {lane = lane} {st = st} h owner at has = pends _ (line_of s lane op.Complete st owner.own owner.is) (has st _ at.order at.keeps refl)

pub snapshots : {s : Plan} {lane : ℕ} {st : State} {old new : SessionsValue} {m : SessionMove} (h : Held) (vs : List ℕ) → Goes st.session (runs st) call.Snapshot → IsAtOver vs old s st
    → (length vs == 0) ≡ false → HasBegun kind.Snapshot h vs old new m
    → ComesTo s lane op.Snapshot st new m
snapshots {s = s} {lane = lane} {st = st} {old = old} {new = new} {m = m} h vs owner at some has =
    pends _ (line_of s lane op.Snapshot st owner.own owner.is ∙ cond-false (has_no_volume (in_progress st)) _ _ (sym (volume_test (in_progress st) vs at.volumes) ∙ some))
    (subst (λ (xs : List ℕ). HasBegun kind.Snapshot h xs old new m) at.volumes has st _ at.at.order at.at.keeps refl)

pub snapshots_not : {s : Plan} {lane : ℕ} {st : State} {x : SessionsValue} {m : SessionMove} (vs : List ℕ) → Goes st.session (runs st) call.Snapshot → IsAtOver vs x s st → (length vs == 0) ≡ true
    → m ≡ told_alone (told.Result BadState) → ComesTo s lane op.Snapshot st x m
snapshots_not {s = s} {lane = lane} {st = st} vs owner at none is =
    refuses BadState is (line_of s lane op.Snapshot st owner.own owner.is ∙ cond-true (has_no_volume (in_progress st)) _ _ (sym (volume_test (in_progress st) vs at.volumes) ∙ none)) at.at

-- ## gather: who is disabled is told by the classes

class_same : (ws : List Registered) (ps : List WriterPlan) (w : ℕ) → classes_registered ws ≡ classes_of ps → w < length ps → class_at ws w ≡ Some (class_in (slice_get ps w))
class_same [] [] w e l = absurd (omega (arith, l))
class_same [] (p ∷ ps) w e l = cc
class_same (r ∷ ws) [] w e l = cc
class_same (r ∷ ws) (p ∷ ps) zero e l = let same : r.class ≡ p.meta.class = cc in ap Some same
class_same (r ∷ ws) (p ∷ ps) (suc w) e l = class_same ws ps w (let rest : classes_registered ws ≡ classes_of ps = cc in rest) (omega (arith, l))

disabled_same : (x : SessionsValue) (s : Plan) → IsOf x s → (ds : List ℕ) (w : ℕ) → All (λ d. d < writer_count x.coordinator) ds → w < writer_count x.coordinator
    → is_disabled_kept x.coordinator.writers ds w ≡ list_any (λ d. class_of s d == class_of s w) ds
disabled_same x s of [] w h l = refl
disabled_same x s of (d ∷ ds) w h l =
    let here = class_same x.coordinator.writers s.writers w of.classes (let n = of.count in omega (arith, l, n)) in
    let there = class_same x.coordinator.writers s.writers d of.classes (let n = of.count in let k : d < writer_count x.coordinator = h 0 0 (omega arith) in omega (arith, k, n)) in
    ap (λ (b : Bool). b || is_disabled_kept x.coordinator.writers ds w) (ap (λ (a : Option ℕ). are_equal a (class_at x.coordinator.writers w)) there ∙ ap (are_equal (Some (class_of s d))) here)
    ∙ ap (λ (b : Bool). (class_of s d == class_of s w) || b) (disabled_same x s of ds w (rest d ds h) l)
  where
    rest : (d : ℕ) (ds : List ℕ) → All (λ e. e < writer_count x.coordinator) (d ∷ ds) → All (λ e. e < writer_count x.coordinator) ds
    rest d ds h k e l = h (suc k) e (omega (arith, l))

pub is_disabled_same : (x : SessionsValue) (s : Plan) (st : State) (w : ℕ) → Keeps x st → IsOf x s → w < writer_count x.coordinator
    → is_disabled_kept x.coordinator.writers st.course.disabled w ≡ is_disabled s st w
is_disabled_same x s st w kept of l = disabled_same x s of st.course.disabled w kept.disabled l

gathered_same : (x : SessionsValue) (s : Plan) (st : State) → Keeps x st → IsOf x s
    → gathered (is_disabled_kept x.coordinator.writers st.course.disabled) st.clock st.course ≡ gathered (is_disabled s st) st.clock st.course
gathered_same x s st kept of = grind (arith, members-agree, is_disabled_same)

pub gathers : {s : Plan} {lane : ℕ} {st : State} {old new : SessionsValue} {m : SessionMove} (h : Held) → Goes st.session (runs st) call.Gather → IsAt old s st → HasBegun kind.Gather h [] old new m
    → ComesTo s lane op.Gather st new m
gathers {s = s} {lane = lane} {st = st} {old = old} h owner at has = pends _ (line_of s lane op.Gather st owner.own owner.is) (has st _ at.order at.keeps (sym (gathered_same old s st at.keeps at.of)))

-- ## an answer that is Ok

pub then_ok : {P Q : SessionMove → Type 0} (r : Result SessionMove OutOfMemory) → ((m : SessionMove) → P m → Q m) → IfOk r P → IfOk r Q
then_ok r f h = grind arith

-- ## A volume joins the set in progress: what is kept here does not change, and what the volume is refused for is the
-- provider's to say.

-- ## the checks let it go

-- ## what it comes to

module _ (s : Plan) (lane v : ℕ) (st : State) (x : SessionsValue) (r : SetRow) where
  add_line : check st.session (runs st) lane call.Add ≡ Go → in_progress st ≡ Some r → line_in s lane (op.Add v) st.session st ≡ add_to v r (add_refusal v r st) st
  add_line goes here = grind arith

  -- the change keeps numbers and results
  same : IsSameRow (row_changed r.number (with_volume v))
  same = same_changed r.number (with_volume v) (λ q. refl) (λ q. refl)

  -- the volume is refused
  pub adds_not : (why : VssResult) → check st.session (runs st) lane call.Add ≡ Go → IsInOrder st → Keeps x st → in_progress st ≡ Some r → add_refusal v r st ≡ Some why
      → Happens s st (Line lane (op.Add v)) x (told_alone (told.Result why))
  adds_not why goes order kept here refused =
      line_happens s st lane (op.Add v) call.Add refl x (told_alone (told.Result why)) goes
      (alone (told.Result why) (Coded why) st refl (add_line goes here ∙ ap (λ (o : Option VssResult). add_to v r o st) refused) (λ tells. refl) (λ listed rows e. tt) refl (no_end st order) refl kept)

  -- the volume joins the set
  pub adds : check st.session (runs st) lane call.Add ≡ Go → IsInOrder st → Keeps x st → in_progress st ≡ Some r → add_refusal v r st ≡ None
      → Happens s st (Line lane (op.Add v)) x (told_alone told.Ok)
  adds goes order kept here free =
      let rows = map (row_changed r.number (with_volume v)) st.sets in
      let none_ended : ended_of (in_progress st) rows ≡ None =
      sym (ended_mapped (row_changed r.number (with_volume v)) same st.sets rows) ∙ none_ends rows (numbered-map (row_changed r.number (with_volume v)) same.number 1 st.sets order.numbered) in
      line_happens s st lane (op.Add v) call.Add refl x (told_alone told.Ok) goes
      (alone told.Ok Fine (change_set r.number (with_volume v) st) refl (add_line goes here ∙ ap (λ (o : Option VssResult). add_to v r o st) free) (λ tells. refl) (λ listed rows e. tt) refl
      (subst (λ (o : Option SetRow). EndsAs o 0 Running) (sym none_ended) refl) refl
      (keeps_rows x st x.requestor st.session x.sets _ st.volumes kept kept.session (kept.made ∙ sym (length-map st.sets (row_changed r.number (with_volume v))))
      (kept.sets ∙ sym (unseen_bare (with_volume v) (λ q. refl) r.number st.sets))))

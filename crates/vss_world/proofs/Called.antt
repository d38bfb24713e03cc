-- A session line, against the acts, and what it does to the set in progress and its images that are still to come.
use Rattle.std.proofs.Common.{◌≡◌, ℕ, [], refl, subst, Bool, true, false, Option, Some, None, ◌⊎◌, inr, is_some, arith, List, ◌∷◌, ◌++◌, ap, sym}
use Rattle.std.proofs.Common.{◌∙◌, option_map, ◌==◌, ◌<◌, length, ◌||◌, not, Result, Ok, Err}
use Rattle.set_agenda.specs.Course.{released}
use Rattle.set_agenda.specs.declared.kind.Kind.TheVariants as kind
use Rattle.requestor.specs.declared.session_call.SessionCall.TheVariants as call
use Rattle.scenario.specs.declared.op.Op.TheVariants.{Snapshot}
use Rattle.scenario.specs.declared.op.Op.TheVariants as op
use Rattle.vss_model.specs.Words.{Reply}
use Rattle.vss_model.specs.declared.told.Told.TheVariants as told
use Rattle.vss_model.proofs.ByEvent.{reply_is}
use Rattle.vss_model.proofs.StateForm.{closed, called}
use Rattle.vss_world.proofs.Following.{at_of, course_of, set_move, ends_of, session_comes}
use Rattle.vss_world.proofs.Moved.{world_of, IsProviderAt, clean_devices, leaves_of, goes_on, in_order, after_line, goes_nowhere as goes_nowhere_moved}
use Rattle.vss_world.proofs.Prepared.{runs_number, IsUnended, none_of_zero, settled_comes, settled_keeps, unended}
use Rattle.vss_world.proofs.SetGoesOn.{GoesOn, IsOfAgenda, BeginsSnapshot, goes_nowhere, failed_goes, begun_goes, snapshot_begins}
use Rattle.vss_world.proofs.Words.{AsyncCancelled, AsyncPending, BadState, Coded, Covers, Event, Go, IsOfSession, Line, Mark, Op, Plan, Refused, Replied}
use Rattle.vss_world.proofs.Words.{Session, SetRow, Start, State, Verdict, VssResult, call_of, check, check_other, covered, enabled, failed}
use Rattle.vss_world.proofs.Words.{find-append_new, in_progress, is_add, judged, line, line_in, new_set, none_after, none_runs, not_started}
use Rattle.vss_world.proofs.Words.{other_goes, runs, Act, AreGroups, AreKept, EndsAs, Evicted, Fits, Ghosts, IfStands, IsAtOver, IsEndPrepared}
use Rattle.vss_world.proofs.Words.{IsMove, IsMoved, IsOf, IsOp, IsPrepared, IsSettled, IsStanding, Leaves, NumberedFrom, ProviderValue, SessionMove}
use Rattle.vss_world.proofs.Words.{SessionsValue, Told, after, after_move, are_distinct, begins_snapshot, counts_of, current_kept, current_of, ended_of}
use Rattle.vss_world.proofs.Words.{images_after, is_fault, line_allows, mark_of, none_over, number_prepared, orderly, state, state-append, told_act, volumes_of}
use Rattle.vss_world.proofs.Words.{IfStandFor, IsAt, IsInOrder, Keeps, MayAdd, add_refusal, add_to, adds, adds_not, and_from, and_parts, change_set, eq-eqb}
use Rattle.vss_world.proofs.Words.{eqb-false, fault_of, find-map, happens_moves, history_at, history_of, is_among, kept_same, ne_eqb, or_parts, refusal}
use Rattle.vss_world.proofs.Words.{refused_happens, simple_outcome, told_alone, with_volume}

-- ## What a session line does to the set in progress, and to its images that are still to come.

-- a set starts, without a volume, where none was in progress
pub record StartsSet (st next : State) : Type 0 where
  pub none : in_progress st ≡ None
  pub row : SetRow
  pub is : in_progress next ≡ Some row
  pub empty : row.volumes ≡ []
  pub rests : next.course.agenda ≡ None

-- a snapshot is refused, or it begins
abbrev pub SnapshotGoes : State → Replied → Type 0
SnapshotGoes st r = ((why : VssResult) × (r.0 ≡ Coded why) × ((why ≡ AsyncPending) → ⊥) × GoesOn st r.1) ⊎ (BeginsSnapshot st r.1 × (r.0 ≡ Coded AsyncPending))

-- a reply, with what becomes of the set
abbrev pub LineGoes : Op → State → Replied → Type 0
LineGoes Start st r = GoesOn st r.1 ⊎ StartsSet st r.1
LineGoes Snapshot st r = SnapshotGoes st r
LineGoes _ st r = GoesOn st r.1

-- ## the lines but `snapshot`

-- what a session line but `snapshot` and `add` does
abbrev CallGoes : Op → State → Replied → Type 0
CallGoes Start st r = GoesOn st r.1 ⊎ StartsSet st r.1
CallGoes Snapshot st r = Unit {0}
CallGoes _ st r = GoesOn st r.1

abbrev EventGoes : State → Event → Mark → Replied → Type 0
EventGoes st (Line lane op) mark r = is_some (call_of op) ≡ true → is_add op ≡ false → CallGoes op st r
EventGoes st _ mark r = Unit {0}

nothing_goes : (op : Op) (told : Reply) (st : State) → CallGoes op st (told, st)
nothing_goes op told st = grind arith

-- the session is over, and with it a set in progress
closed_goes : (q : Session) (st next : State) → in_progress next ≡ None → GoesOn st next → GoesOn st (closed q next)
unfolding closed released
closed_goes q st next none x4 = grind arith

module _ (s : Plan) (lane : ℕ) (st : State) (of : IsOfAgenda st) where
  events_go : IsOfSession st.session st.course.outcome (in_progress st) → Covers (EventGoes st) s st
  events_go session = record {
    stays = λ lane op mark told e c i j. nothing_goes op told st;
    writes = λ lane op v w mark e f i j. absurd (grind arith);
    reverts = λ lane n v k mark e f i j. cc;
    deletes_set = λ lane n c mark e i j. cc;
    deletes_image = λ lane n v k mark e i j. cc;
    ticks = λ lane n mark i j. cc;
    begins = λ lane n all c mark e f i j. goes_nowhere st;
    disables = λ lane w q mark g i j. goes_nowhere st;
    gathers = λ lane q mark g i j. begun_goes kind.Gather _ [] st.clock _ st of (none_runs st.course.agenda g.quiet) refl refl;
    names = λ lane w full q explicit mark g e i j. goes_nowhere st;
    starts = λ lane q mark g e i j.
        let none = not_started q st.course.outcome (in_progress st) e (subst (λ (x : Option Session). IsOfSession x st.course.outcome (in_progress st)) g.stands session) in
        inr (record { none = none; row = new_set _ q.context; is = find-append_new st.sets (new_set _ q.context) none refl; empty = refl; rests = none_runs st.course.agenda g.quiet });
    adds = λ lane v r q mark g e f i j. cc;
    prepares = λ lane q mark g f i j. begun_goes kind.Prepare _ [] st.clock _ st of (none_runs st.course.agenda g.quiet) refl refl;
    snapshots = λ lane q mark g f i j. tt;
    completes = λ lane q mark g i j. begun_goes kind.Complete _ [] st.clock st.course st of (none_runs st.course.agenda g.quiet) refl refl;
    aborts = λ lane q mark e i j. failed_goes AsyncCancelled st of.numbered;
    ends = λ lane q mark e i j. closed_goes q st (failed AsyncCancelled st) (none_after (in_progress st) AsyncCancelled st refl) (failed_goes AsyncCancelled st of.numbered);
    answers = λ w answer mark e. tt;
    steps = λ mark e. tt;
    idles = λ mark e. tt;
  }

  -- ## `snapshot`

  not_pending : BadState ≡ AsyncPending → ⊥
  not_pending e = cc

  refused_as : (why : VssResult) → check_other st.session (runs st) lane call.Snapshot ≡ Refused why → why ≡ AsyncPending → ⊥
  refused_as why e f = grind arith

  snapshot_in : check_other st.session (runs st) lane call.Snapshot ≡ Go → (o : Option Session) → SnapshotGoes st (line_in s lane Snapshot o st)
  snapshot_in go o = grind (arith, not_pending, goes_nowhere, snapshot_begins, none_runs, other_goes)

  judged_snapshot : (verdict : Verdict) → check_other st.session (runs st) lane call.Snapshot ≡ verdict → SnapshotGoes st (judged verdict s lane Snapshot st)
  judged_snapshot verdict e = grind (arith, snapshot_in, not_pending, goes_nowhere, refused_as)

  -- ## every line

  pub line_goes : (op : Op) (mark : Mark) → enabled s st (Line lane op) ≡ true → is_some (call_of op) ≡ true → is_add op ≡ false → IsOfSession st.session st.course.outcome (in_progress st)
      → LineGoes op st (line s lane op mark st)
  unfolding called
  line_goes Snapshot mark on e f session = judged_snapshot (check st.session (runs st) lane call.Snapshot) refl
  line_goes op mark on e f session = covered (EventGoes st) s st (events_go session) (Line lane op) mark on e f

-- ## A session line, against the acts.

is_clean : (s : Plan) (st : State) (op : Op) (mark : Mark) → is_some (call_of op) ≡ true → line_allows s st op mark ≡ true → is_fault mark ≡ false
is_clean s st op mark e f = grind arith

pub over_at : {D : Type 0} {blocks_told : D → Option (List (List ℕ))} {s : Plan} {p : ProviderValue D} {x : SessionsValue} {l : List ℕ} {e : List Evicted}
    → IsOf (world_of p x l e) s → IfStands blocks_told (world_of p x l e) s (IsAtOver p.volumes x s)
over_at of acts stands = record { at = at_of of acts stands; volumes = stands.at.prepared.volumes }

-- ## what becomes of the set

-- a line by what becomes of the set, and whether its snapshot begins
abbrev SetGoes : State → State → Bool → Type 0
SetGoes st next begins = (GoesOn st next × (begins ≡ false)) ⊎ ((StartsSet st next × (begins ≡ false)) ⊎ (BeginsSnapshot st next × (begins ≡ true)))

set_goes : (op : Op) (tells : List Bool) (st : State) (r : Replied) (t : Told) → Fits tells r.0 t → LineGoes op st r → SetGoes st r.1 (begins_snapshot op t)
set_goes op tells st r t fits goes = grind arith

-- ## what is left of the provider

same_end : {D : Type 0} (begins : Bool) (set : Option ℕ) (q r : ProviderValue D) → IsEndPrepared begins set q r → r.groups ≡ q.groups
same_end begins set q r h = grind arith

not_ended : {D : Type 0} (begins : Bool) (set : Option ℕ) (q r : ProviderValue D) → begins ≡ false → IsEndPrepared begins set q r → r ≡ q
not_ended begins set q r e h = grind arith

ended_with : {D : Type 0} (begins : Bool) (set : Option ℕ) (n : ℕ) (q r : ProviderValue D) → begins ≡ true → set ≡ Some n → IsEndPrepared begins set q r → r ≡ record q { set = n }
ended_with begins set n q r e f h = grind arith

module _ {D : Type 0} (device : Ghosts D) (s : Plan) (op : Op) (m : SessionMove) (p q r : ProviderValue D) (acts : List Act) (act : Act)
    (settled : IsSettled device m p q) (ended : IsEndPrepared (begins_snapshot op m.outcome.told) (current_of (state s acts).sets) q r) (prepared : IsPrepared p (state s acts))
    (groups : AreGroups device.told s p.groups (state s acts).volumes)
    (ends : EndsAs (ended_of (in_progress (state s acts)) (after s (state s acts) act).sets) m.outcome.set m.outcome.result)
    (volumes : (after s (state s acts) act).volumes ≡ images_after m (state s acts).volumes) where
  abbrev st : State
  st = state s acts

  abbrev next : State
  next = after s st act

  goes_left : GoesOn st next → begins_snapshot op m.outcome.told ≡ false → IsProviderAt device.told s r next
  goes_left goes plain =
      subst (λ (z : ProviderValue D). IsProviderAt device.told s z next) (sym (not_ended (begins_snapshot op m.outcome.told) (current_of st.sets) q r plain ended))
      (settled_comes device s p st next st.volumes (set_move s p acts act prepared goes) groups m q settled ends volumes)

  -- where no set ends
  quiet : ended_of (in_progress st) next.sets ≡ None → IsUnended device.told s p q next.volumes
  quiet none = unended device s p st.volumes (none_of_zero s acts) groups next m q settled
      (grind arith) volumes

  starts_left : StartsSet st next → begins_snapshot op m.outcome.told ≡ false → IsProviderAt device.told s r next
  starts_left starts plain = grind (arith, quiet, not_ended)

  begins_left : (w : SetRow) → in_progress st ≡ Some w → BeginsSnapshot st next → begins_snapshot op m.outcome.told ≡ true → IsProviderAt device.told s r next
  begins_left w here begins plain =
      let ran : in_progress next ≡ Some w = begins.set ∙ here in
      let numbered : NumberedFrom 1 next.sets = subst (λ (z : State). NumberedFrom 1 z.sets) (state-append s acts act) (orderly s (acts ++ act ∷ [])).numbered in
      let u = quiet (ap (λ (o : Option SetRow). ended_of o next.sets) here ∙ none_over 1 next.sets w numbered ran) in
      let is = ended_with (begins_snapshot op m.outcome.told) (current_of st.sets) w.number q r plain (ap (option_map (λ (z : SetRow). z.number)) here) ended in
      subst (λ (z : ProviderValue D). IsProviderAt device.told s z next) (sym is) (
        record {
          volumes = u.volumes ∙ prepared.volumes ∙ sym (ap volumes_of begins.set);
          set = sym (ap (λ (o : Option SetRow). number_prepared o next.course.agenda) ran ∙ runs_number w next.course.agenda begins.runs);
          distinct = ap are_distinct u.volumes ∙ prepared.distinct;
        },
        u.groups,
      )

  pub line_left : SetGoes st next (begins_snapshot op m.outcome.told) → IsProviderAt device.told s r next
  line_left x0 = grind (arith, goes_left, starts_left, begins_left)

-- ## a session line

pub call_moves : {D : Type 0} (device : Ghosts D) (s : Plan) (lane : ℕ) (op : Op) (q : ProviderValue D) {m : SessionMove} {set : Option ℕ} {p r : ProviderValue D} {x y : SessionsValue}
    {l : List ℕ} {e f : List Evicted} → IsOf (world_of p x l e) s → IsStanding device.told (world_of p x l e) s → is_some (call_of op) ≡ true → is_add op ≡ false → IsOp s op
    → set ≡ current_of x.sets → f ≡ [] → IsMove (IsAtOver p.volumes x s) s y (Line lane op) m → IsSettled device m p q
    → IsEndPrepared (begins_snapshot op m.outcome.told) set q r → Leaves x y → IsMoved device (world_of p x l e) (world_of r y l f) s (Line lane op) m.outcome
call_moves device s lane op q {m = m} {set = set} {p = p} {r = r} {x = x} {y = y} {l = l} {e = e} {f = f} of standing call no_add is_op set_is none move settled ended leaves =
    let mark = mark_of m.outcome.told in
    let to : IfStands device.told (world_of p x l e) s (λ st. after_move s st (Line lane op) m ≡ (line s lane op mark st).1)
    = λ acts stands. after_line s (state s acts) lane op mark (move.is_enabled (state s acts) (over_at of acts stands)) in
    let kept = settled_keeps device m p q settled in
    let same = same_end (begins_snapshot op m.outcome.told) set q r ended in
    let clean = is_clean s (state s standing.acts) op mark call (move.is_allowed (state s standing.acts) (over_at of standing.acts standing.stands)) in
    session_comes device s (Line lane op) m (IsAtOver p.volumes x s) none move (over_at of)
    (clean_devices device s (Line lane op) m.outcome p r x y l l e f of (subst (λ gs. AreKept device p.groups gs) (sym same) kept.0) (leaves_of s x y of.writers leaves)
    (ap (counts_of device.count) same ∙ kept.1) clean)
    (goes_on x y leaves)
    (λ acts stands.
    let st = state s acts in
    let act = told_act (Line lane op) m.outcome.told in
    let here = over_at of acts stands in
    let out = move.outcome st [] [] (after s st act).course.rows here refl in
    let current : set ≡ current_of st.sets = set_is ∙ current_kept x st stands.at.sessions in
    line_left device s op m p q r acts act settled (subst (λ (o : Option ℕ). IsEndPrepared (begins_snapshot op m.outcome.told) o q r) current ended)
    stands.at.prepared stands.at.groups (ends_of st move here) (move.volumes st here)
    (subst (λ (z : State). SetGoes st z (begins_snapshot op m.outcome.told)) (sym (to acts stands))
    (set_goes op [] st (line s lane op mark st) m.outcome.told (subst (λ told. Fits [] told m.outcome.told) (reply_is s st act) out.fits) (line_goes s lane st (course_of s acts) op mark (move.is_enabled st here) call no_add (in_order s acts).session))))
    of is_op

-- ## a volume that joins the set in progress, or is refused by the provider

-- ## volumes that are distinct

among_more : (u v : ℕ) (vs : List ℕ) → (u == v) ≡ false → is_among u (vs ++ v ∷ []) ≡ is_among u vs
among_more u v [] e = rw (ne_eqb v u (λ h. eqb-false u v e (sym h))) refl
among_more u v (w ∷ vs) e = ap (λ (t : Bool). (w == u) || t) (among_more u v vs e)

distinct_more : (v : ℕ) (vs : List ℕ) → is_among v vs ≡ false → are_distinct vs ≡ true → are_distinct (vs ++ v ∷ []) ≡ true
distinct_more v [] e d = refl
distinct_more v (w ∷ vs) e d =
    let none = or_parts (w == v) (is_among v vs) e in
    let parts = and_parts (not (is_among w vs)) (are_distinct vs) d in
    and_from (not (is_among w (vs ++ v ∷ []))) (are_distinct (vs ++ v ∷ [])) (ap not (among_more w v vs none.0) ∙ parts.0) (distinct_more v vs none.1 parts.1)

-- ## the line

add_line : (s : Plan) (lane v : ℕ) (mark : Mark) (st : State) (r : SetRow) → check st.session (runs st) lane call.Add ≡ Go → in_progress st ≡ Some r
    → line s lane (op.Add v) mark st ≡ add_to v r (add_refusal v r st) st
unfolding called
add_line s lane v mark st r goes here = grind arith

not_among : (v : ℕ) (vs : List ℕ) (n : ℕ) → None ≡ refusal v vs n → is_among v vs ≡ false
not_among v vs n e = grind arith

refused_line : (s : Plan) (lane v : ℕ) (why : VssResult) (mark : Mark) (st : State) → check st.session (runs st) lane call.Add ≡ Refused why → (line s lane (op.Add v) mark st).1 ≡ st
unfolding called
refused_line s lane v why mark st h = ap (λ (t : Verdict). (judged t s lane (op.Add v) st).1) h

-- the set with the volume is the one in progress
ran_more : (v : ℕ) (r : SetRow) (st : State) → in_progress st ≡ Some r → in_progress (change_set r.number (with_volume v) st) ≡ Some (with_volume v r)
ran_more v r st here = grind (arith, find-map, eq-eqb)

-- a state at which the provider answers
record IsAdding {D : Type 0} (blocks_told : D → Option (List (List ℕ))) (s : Plan) (p : ProviderValue D) (x : SessionsValue) (st : State) : Type 0 where
  at : IsAt x s st
  provider : IsProviderAt blocks_told s p st

module _ {D : Type 0} (device : Ghosts D) (s : Plan) {lane v : ℕ} {verdict : Verdict} {p : ProviderValue D} {x : SessionsValue} {l : List ℕ} {e f : List Evicted}
    (of : IsOf (world_of p x l e) s) (none : f ≡ []) (within : v < length s.volumes)
    (kept : (st : State) → Keeps x st → verdict ≡ check st.session (runs st) lane call.Add) (adds_if : verdict ≡ Go → call.Add ≡ call.Add → (st : State) → IsInOrder st → Keeps x st → MayAdd st) where
  abbrev Adding : State → Type 0
  Adding st = IsAdding device.told s p x st

  adding : IfStands device.told (world_of p x l e) s Adding
  adding acts stands = record { at = at_of of acts stands; provider = (stands.at.prepared, stands.at.groups) }

  -- an answer, from what it leaves of the provider
  answers : {q : ProviderValue D} (t : Told) → is_fault (mark_of t) ≡ false → q.groups ≡ p.groups → IsMove Adding s x (Line lane (op.Add v)) (told_alone t)
      → ((st : State) → Adding st → IsProviderAt device.told s q (line s lane (op.Add v) (mark_of t) st).1)
      → IsMoved device (world_of p x l e) (world_of q x l f) s (Line lane (op.Add v)) (simple_outcome t)
  answers {q = q} t clean same move left =
      let to : (st : State) → Adding st → after s st (told_act (Line lane (op.Add v)) t) ≡ (line s lane (op.Add v) (mark_of t) st).1
      = λ st at. after_line s st lane (op.Add v) (mark_of t) (move.is_enabled st at) in
      session_comes device s (Line lane (op.Add v)) (told_alone t) Adding none move adding
      (clean_devices device s (Line lane (op.Add v)) (simple_outcome t) p q x x l l e f of (subst (λ gs. AreKept device p.groups gs) (sym same) (kept_same device p.groups))
      of.writers (ap (counts_of device.count) same) clean)
      (goes_nowhere_moved x)
      (λ acts stands. let at = adding acts stands in subst (λ (z : State). IsProviderAt device.told s q z) (sym (to (state s acts) at)) (left (state s acts) at))
      of within

  -- one that changes nothing
  unchanged : {q : ProviderValue D} (t : Told) → is_fault (mark_of t) ≡ false → q ≡ p → IsMove Adding s x (Line lane (op.Add v)) (told_alone t)
      → ((st : State) → Adding st → (line s lane (op.Add v) (mark_of t) st).1 ≡ st)
      → IsMoved device (world_of p x l e) (world_of q x l f) s (Line lane (op.Add v)) (simple_outcome t)
  unchanged {q = q} t clean is move to =
      answers t clean (ap (λ (z : ProviderValue D). z.groups) is) move
      (λ st at. subst (λ (z : State). IsProviderAt device.told s q z) (sym (to st at)) (subst (λ (z : ProviderValue D). IsProviderAt device.told s z st) (sym is) at.provider))

  -- where the checks let it go
  module _ (go : verdict ≡ Go) (result : Result Unit VssResult) (refused : IfStandFor device.told s p.groups (λ hs. fault_of result ≡ refusal v p.volumes (length (history_at hs v).images))) where
    goes : (st : State) → Adding st → check st.session (runs st) lane call.Add ≡ Go
    goes st at = sym (kept st at.at.keeps) ∙ go

    may : (st : State) → Adding st → MayAdd st
    may st at = adds_if go refl st at.at.order at.at.keeps

    -- the provider has all images, since no agenda runs
    all_groups : (st : State) → Adding st → AreGroups device.told s p.groups st.volumes
    all_groups st at = at.provider.1

    volumes : (st : State) (at : Adding st) → p.volumes ≡ (may st at).row.volumes
    volumes st at = at.provider.0.volumes ∙ ap volumes_of (may st at).is_in_progress

    -- it refuses as the definitions do
    refuses : (st : State) (at : Adding st) → add_refusal v (may st at).row st ≡ fault_of result
    refuses st at = sym (refused st.volumes (all_groups st at) ∙ ap (λ (vs : List ℕ). refusal v vs (length (history_of st v).images)) (volumes st at))

    comes_to : (mark : Mark) (st : State) (at : Adding st) → line s lane (op.Add v) mark st ≡ add_to v (may st at).row (fault_of result) st
    comes_to mark st at = add_line s lane v mark st (may st at).row (goes st at) (may st at).is_in_progress ∙ ap (λ (o : Option VssResult). add_to v (may st at).row o st) (refuses st at)

    pub joined : {q : ProviderValue D} → result ≡ Ok tt → q ≡ record p { volumes = p.volumes ++ v ∷ [] }
        → IsMoved device (world_of p x l e) (world_of q x l f) s (Line lane (op.Add v)) (simple_outcome told.Ok)
    joined {q = q} ok is =
        answers told.Ok refl (ap (λ (z : ProviderValue D). z.groups) is)
        (happens_moves Adding s x (Line lane (op.Add v)) (told_alone told.Ok)
        (λ st at. adds s lane v st x (may st at).row (goes st at) at.at.order at.at.keeps (may st at).is_in_progress (refuses st at ∙ ap fault_of ok)))
        (λ st at.
        let r = may st at in
        let next = change_set r.row.number (with_volume v) st in
        let ran = ran_more v r.row st r.is_in_progress in
        let alone = not_among v p.volumes (length (history_of st v).images) (sym (ap fault_of ok) ∙ refused st.volumes (all_groups st at)) in
        subst (λ (z : State). IsProviderAt device.told s q z)
        (sym (ap (λ (z : Replied). z.1) (comes_to (mark_of told.Ok) st at ∙ ap (λ (t : Result Unit VssResult). add_to v r.row (fault_of t) st) ok)))
        (subst (λ (z : ProviderValue D). IsProviderAt device.told s z next) (sym is) (
          record {
            volumes = ap (λ (vs : List ℕ). vs ++ v ∷ []) (volumes st at) ∙ sym (ap volumes_of ran);
            set = at.provider.0.set ∙ ap (number_prepared (in_progress st)) r.rests ∙ (grind arith)
                ∙ sym (ap (λ (o : Option SetRow). number_prepared o st.course.agenda) ran ∙ ap (number_prepared (Some (with_volume v r.row))) r.rests);
            distinct = distinct_more v p.volumes alone at.provider.0.distinct;
          },
          all_groups st at,
        )))

    pub not_joined : {q : ProviderValue D} (why : VssResult) → result ≡ Err why → q ≡ p
        → IsMoved device (world_of p x l e) (world_of q x l f) s (Line lane (op.Add v)) (simple_outcome (told.Result why))
    not_joined {q = q} why why_not is =
        unchanged (told.Result why) refl is
        (happens_moves Adding s x (Line lane (op.Add v)) (told_alone (told.Result why))
        (λ st at. adds_not s lane v st x (may st at).row why (goes st at) at.at.order at.at.keeps (may st at).is_in_progress (refuses st at ∙ ap fault_of why_not)))
        (λ st at. ap (λ (z : Replied). z.1) (comes_to (mark_of (told.Result why)) st at ∙ ap (λ (t : Result Unit VssResult). add_to v (may st at).row (fault_of t) st) why_not))

  pub check_refuses : {q : ProviderValue D} (why : VssResult) → verdict ≡ Refused why → q ≡ p
      → IsMoved device (world_of p x l e) (world_of q x l f) s (Line lane (op.Add v)) (simple_outcome (told.Result why))
  check_refuses {q = q} why why_not is =
      let refused : (st : State) → Adding st → check st.session (runs st) lane call.Add ≡ Refused why = λ st at. sym (kept st at.at.keeps) ∙ why_not in
      unchanged (told.Result why) refl is
      (happens_moves Adding s x (Line lane (op.Add v)) (told_alone (told.Result why)) (λ st at. refused_happens s st lane (op.Add v) call.Add refl x why (refused st at) at.at.order at.at.keeps))
      (λ st at. refused_line s lane v why (mark_of (told.Result why)) st (refused st at))

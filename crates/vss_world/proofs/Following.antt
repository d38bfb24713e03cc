-- A move of the sessions, against the acts: what they come to, with the images that go.
use Rattle.std.proofs.Common.{◌≡◌, ℕ, ◌<◌, ◌≤◌, ◌^◌, ◌-◌, List, [], ◌∷◌, ◌++◌, length, refl, ap, sym, ◌∙◌, subst, arith, true, false, Bool, Option, Some}
use Rattle.std.proofs.Common.{None, map, ◌+◌}
use Rattle.vss_world.proofs.Words.{Act, EndsAs, Event, Evicted, Fault, FaultAfter, Ghosts, IfStands, IsAt, IsBlocked, IsMove, IsMoved, IsOf, IsOutcome}
use Rattle.vss_world.proofs.Words.{IsPrepared, IsSettled, IsStanding, IsStandingIn, IsWait, Mark, NumberedFrom, Plan, ProviderValue, SessionMove}
use Rattle.vss_world.proofs.Words.{SessionsValue, SetRow, State, after, after_move, devices_of, dropped, ended_of, event_volumes, images_after, in_progress}
use Rattle.vss_world.proofs.Words.{is_fault, is_snapshot, kind_is, Agenda, Tied, tied, length_bare, mark_of, named_known_components}
use Rattle.vss_world.proofs.Words.{number_prepared, orderly, outcome_is_running, state, state-append, tells_of, told_act, Answer as AnswerEvent, Idle, Leaves}
use Rattle.vss_world.proofs.Words.{LeavesWithin, Line, Tick, call_answered, call_timed, event_allows, happens, idle_now, later, later_by, said_of}
use Rattle.vss_world.proofs.Words.{timed as course_timed}
use Rattle.vss_world.specs.Words.{IsOf as IsSessionsOf, IsStanding as IsSessionsStanding}
use Rattle.vss_world.proofs.Moved.{world_of, IsProviderAt, OfDevices, Goes, in_order, moved, clean_devices, leaves_of, later_of, goes_on, goes_later, after_on}
use Rattle.vss_world.proofs.InPlan.{IsEventIn, in_plan_after}
use Rattle.vss_world.proofs.Prepared.{IsSetMove, none_of_zero, number_dropped, settled_comes, settled_keeps}
use Rattle.vss_world.proofs.SetGoesOn.{GoesOn, IsOfAgenda, followed_goes}
use Rattle.writer_calls.specs.declared.answer.Answer.{Answer}
use Rattle.vss_model.proofs.StateForm.{answered, ticked}

-- ## where the sessions stand

pub at_of : {D : Type 0} {blocks_told : D → Option (List (List ℕ))} {s : Plan} {p : ProviderValue D} {x : SessionsValue} {l : List ℕ} {e : List Evicted}
    → IsOf (world_of p x l e) s → IfStands blocks_told (world_of p x l e) s (IsAt x s)
at_of {s = s} of acts stands = record { keeps = stands.at.sessions; of = of.writers; order = in_order s acts; named = named_known_components s acts }

few_posts : (n m : ℕ) → n ≤ m → m < 2097152 → n < 2 ^ 32 - 1
few_posts n m l k = omega arith

pub standing_in : {D : Type 0} {blocks_told : D → Option (List (List ℕ))} {s : Plan} {p : ProviderValue D} {x : SessionsValue} {l : List ℕ} {e : List Evicted}
    → IsOf (world_of p x l e) s → IsStanding blocks_told (world_of p x l e) s → IsStandingIn s x
standing_in {s = s} {x = x} of standing =
    let st = state s standing.acts in
    let n = length standing.acts in
    let stands = standing.stands in
    record {
      state = st;
      at = at_of of standing.acts stands;
      posts = few_posts x.coordinator.posts n stands.posts standing.few;
      sets = few_posts (length st.sets) n (subst (λ k. k ≤ n) (ap length stands.at.sessions.sets ∙ length_bare st.sets) stands.sets) standing.few;
      early = omega (arith, stands.early, standing.few);
    }

pub standing_of : {D : Type 0} {blocks_told : D → Option (List (List ℕ))} {s : Plan} {p : ProviderValue D} {x : SessionsValue} {l : List ℕ} {e : List Evicted}
    → IsOf (world_of p x l e) s → IsStanding blocks_told (world_of p x l e) s → IsSessionsStanding x
standing_of {s = s} of standing = let h = standing_in of standing in record { plan = s; standing = h }

-- ## the set of a snapshot's agenda

-- the running snapshot agenda has the volumes of the set in progress
pub agenda_volumes : (s : Plan) (acts : List Act) (a : Agenda) (r : SetRow) → (state s acts).course.agenda ≡ Some a → is_snapshot a.kind ≡ true → in_progress (state s acts) ≡ Some r
    → a.volumes ≡ r.volumes
agenda_volumes s acts a r runs snapshot e =
    let st = state s acts in
    grind (arith, (kind_is a.kind snapshot), (subst (λ (o : Option Agenda). Tied o st.course.members (in_progress st)) runs (tied s acts)))

-- it has a set in progress
pub has_snapshot_set : (s : Plan) (acts : List Act) (a : Agenda) → (state s acts).course.agenda ≡ Some a → is_snapshot a.kind ≡ true → in_progress (state s acts) ≡ None → ⊥
has_snapshot_set s acts a runs snapshot e =
    let st = state s acts in
    grind (arith, (kind_is a.kind snapshot), (subst (λ (o : Option Agenda). Tied o st.course.members (in_progress st)) runs (tied s acts)))

-- ## the move

-- an act at which no device can fail
pub fault_free : (allows : Mark → Bool) → allows Fault ≡ false → ((k : ℕ) → allows (FaultAfter k) ≡ false) → (mark : Mark) → allows mark ≡ true → is_fault mark ≡ false
fault_free allows none never mark e = grind arith

-- what the sets of a state are known to be
pub course_of : (s : Plan) (acts : List Act) → IsOfAgenda (state s acts)
course_of s acts = grind (arith, orderly, outcome_is_running, agenda_volumes, has_snapshot_set)

-- the volumes of each state, which no event changed
pub set_move : {D : Type 0} (s : Plan) (p : ProviderValue D) (acts : List Act) (act : Act) → IsPrepared p (state s acts) → GoesOn (state s acts) (after s (state s acts) act)
    → IsSetMove p (state s acts) (after s (state s acts) act) (state s acts).volumes
set_move s p acts act prepared goes =
    let st = state s acts in
    record {
      goes = goes;
      numbered = subst (λ (z : State). NumberedFrom 1 z.sets) (state-append s acts act) (orderly s (acts ++ act ∷ [])).numbered;
      prepared = prepared;
      above = none_of_zero s acts;
      same = λ r e. ap (λ (n : ℕ). map (dropped n) st.volumes) (prepared.set ∙ ap (λ (o : Option SetRow). number_prepared o st.course.agenda) e) ∙ number_dropped s acts r e;
    }

-- which set ends in a move
pub ends_of : {P : State → Type 0} {s : Plan} {event : Event} {m : SessionMove} {y : SessionsValue} (st : State) → IsMove P s y event m → P st
    → EndsAs (ended_of (in_progress st) (after_move s st event m).sets) m.outcome.set m.outcome.result
ends_of {s = s} {event = event} {m = m} st move here = (move.outcome st [] [] (after_move s st event m).course.rows here refl).ends

module _ {D : Type 0} (device : Ghosts D) (s : Plan) (event : Event) (m : SessionMove) (P : State → Type 0) {p : ProviderValue D} {x y : SessionsValue} {l : List ℕ}
    {e f : List Evicted} (none : f ≡ []) (move : IsMove P s y event m) (at : IfStands device.told (world_of p x l e) s P) where
  -- a move, from what it leaves of the devices and of the provider
  pub session_comes : {q : ProviderValue D} → OfDevices device s event m.outcome (world_of p x l e) (world_of q y l f) → Goes x y
      → IfStands device.told (world_of p x l e) s (λ st. IsProviderAt device.told s q (after_move s st event m))
      → IsOf (world_of p x l e) s → IsEventIn s event → IsMoved device (world_of p x l e) (world_of q y l f) s event m.outcome
  session_comes {q = q} devices goes comes of within =
      moved device s event m.outcome p q x y l l e f devices goes
      (λ acts stands.
      let st = state s acts in
      let here = at acts stands in
      let tells = tells_of device.told s (devices_of p.groups) in
      record {
        is_enabled = move.is_enabled st here;
        is_allowed = move.is_allowed st here;
        outcome = λ rows are. subst (λ (z : List Evicted). IsOutcome tells s st event m.outcome l z rows) (sym none) (move.outcome st tells l rows here are);
        parts = record {
          groups = (comes acts stands).1;
          prepared = (comes acts stands).0;
          sessions = move.keeps st here;
          plan = in_plan_after s st (told_act event m.outcome.told)
              (sym (ap length stands.at.sessions.course.follows.rows) ∙ of.writers.count) within stands.at.plan;
        };
      })

  -- one in which the set in progress goes on, or is over
  pub session_moves : {q : ProviderValue D} → IsOf (world_of p x l e) s → ((st : State) → event_volumes event m.outcome.told st ≡ st.volumes) → IsSettled device m p q
      → IsSessionsOf y s → Goes x y → is_fault (mark_of m.outcome.told) ≡ false
      → IfStands device.told (world_of p x l e) s (λ st. GoesOn st (after_move s st event m)) → IsEventIn s event
      → IsMoved device (world_of p x l e) (world_of q y l f) s event m.outcome
  session_moves {q = q} of still settled writers goes clean on within =
      let kept = settled_keeps device m p q settled in
      session_comes (clean_devices device s event m.outcome p q x y l l e f of kept.0 writers kept.1 clean) goes
      (λ acts stands.
      let st = state s acts in
      let here = at acts stands in
      settled_comes device s p st (after_move s st event m) st.volumes
      (set_move s p acts (told_act event m.outcome.told) stands.at.prepared (on acts stands)) stands.at.groups m q settled (ends_of st move here)
      (move.volumes st here ∙ ap (images_after m) (still st)))
      of within

pub session_waits : {D : Type 0} {blocks_told : D → Option (List (List ℕ))} {s : Plan} {event : Event} {P : State → Type 0} {p : ProviderValue D} {x y : SessionsValue}
    {l : List ℕ} {e : List Evicted} → IsWait P s x y event → IfStands blocks_told (world_of p x l e) s P → IsBlocked blocks_told (world_of p x l e) (world_of p y l e) s event
session_waits wait at = grind arith

-- ## time that goes by, and what writers answer, against the acts

-- ## what it leaves

ticked_goes : (s : Plan) (acts : List Act) (n : ℕ) → GoesOn (state s acts) (ticked n (state s acts))
unfolding ticked
ticked_goes s acts n =
    let st = state s acts in
    let of = course_of s acts in
    followed_goes (course_timed (st.clock + n) st.course) (later n st) (record { numbered = of.numbered; outcome = of.outcome; volumes = of.volumes })
    (call_timed (st.clock + n) st.course)

said_goes : (s : Plan) (w : ℕ) (answer : Answer) (acts : List Act) → GoesOn (state s acts) (answered w (said_of answer) (state s acts))
unfolding answered
said_goes s w answer acts = grind (arith, followed_goes, course_of, call_answered)

-- ## the moves

module _ {D : Type 0} (device : Ghosts D) (s : Plan) {p q : ProviderValue D} {x y : SessionsValue} {l : List ℕ} {e f : List Evicted} {m : SessionMove}
    (of : IsOf (world_of p x l e) s) (standing : IsStanding device.told (world_of p x l e) s) (none : f ≡ []) (settled : IsSettled device m p q) where
  -- one of an event after which the state is that which its course leaves
  comes : (event : Event) (next : State → State) → IsMove (IsAt x s) s y event m → ((st : State) → event_volumes event m.outcome.told st ≡ st.volumes) → IsSessionsOf y s → Goes x y
      → ((st : State) → event_allows s st event (mark_of m.outcome.told) ≡ true → is_fault (mark_of m.outcome.told) ≡ false)
      → ((st : State) → (happens s event (mark_of m.outcome.told) st).1 ≡ next st)
      → ((acts : List Act) → GoesOn (state s acts) (next (state s acts))) → IsEventIn s event
      → IsMoved device (world_of p x l e) (world_of q y l f) s event m.outcome
  comes event next move still writers goes clean is on within =
      let to : IfStands device.told (world_of p x l e) s (λ st. after_move s st event m ≡ next st)
      = λ acts stands. after_on s (state s acts) event (mark_of m.outcome.told) (move.is_enabled (state s acts) (at_of of acts stands)) ∙ is (state s acts) in
      session_moves device s event m (IsAt x s) none move (at_of of) of still settled writers goes
      (clean (state s standing.acts) (move.is_allowed (state s standing.acts) (at_of of standing.acts standing.stands)))
      (λ acts stands. subst (GoesOn (state s acts)) (sym (to acts stands)) (on acts)) within

  pub tick_moves : (lane n : ℕ) → n ≤ 1000000000 → IsMove (IsAt x s) s y (Line lane (Tick n)) m → Leaves (later_by n x) y
      → IsMoved device (world_of p x l e) (world_of q y l f) s (Line lane (Tick n)) m.outcome
  tick_moves lane n few move leaves =
      comes (Line lane (Tick n)) (ticked n) move (λ st. refl) (leaves_of s (later_by n x) y (later_of s n x of.writers) leaves) (goes_later n x y few leaves)
      (λ st. fault_free (event_allows s st (Line lane (Tick n))) refl (λ k. refl) (mark_of m.outcome.told)) (λ st. refl) (λ acts. ticked_goes s acts n) few

  pub answer_moves : (w : ℕ) (answer : Answer) → IsMove (IsAt x s) s y (AnswerEvent w answer) m → Leaves x y
      → IsMoved device (world_of p x l e) (world_of q y l f) s (AnswerEvent w answer) m.outcome
  answer_moves w answer move leaves =
      comes (AnswerEvent w answer) (answered w (said_of answer)) move (λ st. refl) (leaves_of s x y of.writers leaves) (goes_on x y leaves)
      (λ st. fault_free (event_allows s st (AnswerEvent w answer)) refl (λ k. refl) (mark_of m.outcome.told)) (λ st. refl) (said_goes s w answer) tt

  pub idle_moves : IsMove (IsAt x s) s y Idle m → LeavesWithin (300000 + 1) x y → IsMoved device (world_of p x l e) (world_of q y l f) s Idle m.outcome
  idle_moves move within =
      let few = within.few in
      comes Idle (λ st. ticked (idle_now st) st) move (λ st. refl) (leaves_of s (later_by within.ticks x) y (later_of s within.ticks x of.writers) within.leaves)
      (goes_later within.ticks x y (omega (arith, few)) within.leaves)
      (λ st. fault_free (event_allows s st Idle) refl (λ k. refl) (mark_of m.outcome.told)) (λ st. refl) (λ acts. ticked_goes s acts (idle_now (state s acts))) tt

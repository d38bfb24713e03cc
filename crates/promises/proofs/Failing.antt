-- Each cause fails the set in progress in the act that gives it; a write does just where it has no slot unless the set's image goes.
use Rattle.std.proofs.Common.{◌≡◌, ◌∙◌, ℕ, ◌+◌, ◌==◌, List, Option, Some, refl, Bool, true, false, ap, sym, subst, map, arith, ◌<◌, ◌≤◌, zero, suc, [], ◌∷◌}
use Rattle.std.proofs.Common.{None, find, length}
use Rattle.std.proofs.lemmas.Bool.{and_parts, false_from_ne_true}
use Rattle.std.specs.Prelude.{◌&&◌, not, ◌||◌, unwrap_or, if◌then◌else◌, slice_get}
use Rattle.vss_names.specs.declared.set_outcome.SetOutcome.TheVariants.{Running as RunningSet, Failed as FailedSet}
use Rattle.set_agenda.specs.Course.{Course, failed as course_failed, is_decisive, decided, answered_to, answered as course_answered, timed as course_timed}
use Rattle.writer_calls.specs.declared.answer.Answer.{Answer}
use Rattle.requestor.specs.declared.session_call.SessionCall.TheVariants as call
use Rattle.scenario.specs.declared.op.Op.TheVariants as op
use Rattle.vss_model.specs.Steps.{row_settled, runs}
use Rattle.vss_model.specs.Images.{set_loses_image}
use Rattle.vss_model.specs.declared.event.Event.TheVariants.{Line, Answer as AnswerEvent, Provider, Idle}
use Rattle.vss_model.proofs.StateForm.{followed, failed_in, failed, cleared, with_room_if, with_room, put, write, closed, line_in, judged, answered}
use Rattle.vss_model.proofs.StateForm.{ticked, later, called, line}
use Rattle.promises.proofs.GoneImages.{fails_as, gone_group, left_in_group, least_sets}
use Rattle.promises.proofs.Limits.{is_due_in, posted_fails, timed_fails}
use Rattle.promises.proofs.Times.{late_is_due}
use Rattle.promises.proofs.Words.{Fill, Stamp, payload_bytes, Order, SetOutcome, VssResult, InsufficientStorage, AsyncCancelled, Said, is_ok, Mark, Fault}
use Rattle.promises.proofs.Words.{Write, said_of, left, open_order, Go, Session, makes_set, check_other, owner_only, verdict_of, Op, Plan, Event}
use Rattle.promises.proofs.Words.{State, SetRow, in_progress, Act, enabled, happens, order_of_writer, idle_now, after, state, NumberedFrom, IsOrderly}
use Rattle.promises.proofs.Words.{has_failed, needs_consent, is_veto, is_refused, is_late_in, is_late, is_fault, loses_own_image, owns}
use Rattle.promises.proofs.Words.{line_gives_cause, gives_cause, IsFailed, fails_with_cause, outcome_is_running, flush_fails, orderly, FailsForCause}
use Rattle.promises.proofs.Words.{after_enabled, range_with_len, or_right, History, Placed, lacks_slot, gone_up_to, evicted_up_to, Target, target_of, slots_of}
use Rattle.promises.proofs.Words.{group_of, has_image, going_up_to, has_lost_image, true_not_false, at, HasNoSlot, WritesFailForSlots, within, some_same}

-- ## Each cause fails the set in progress in the act that gives it.

-- ## a veto

decided_fails : (b : Bool) (said : Said) (c : Course) → b ≡ true → has_failed (decided b said c).outcome ≡ true
unfolding course_failed
decided_fails b said c e = grind arith

pub same_consent : (o : Order) → needs_consent o ≡ is_decisive o
same_consent o = grind arith

pub same_veto : (answer : Answer) → is_veto answer ≡ not (is_ok (said_of answer))
same_veto answer = grind arith

refused_to : (o : Option Order) (w : ℕ) (answer : Answer) (now : ℕ) (c : Course) → is_refused o answer ≡ true → has_failed (answered_to o w (said_of answer) now c).outcome ≡ true
refused_to o w answer now c e = grind (arith, decided_fails, same_consent, same_veto)

pub refused_fails : (w : ℕ) (answer : Answer) (now : ℕ) (c : Course) → is_refused (open_order (left c.agenda) w) answer ≡ true → has_failed (course_answered w (said_of answer) now c).outcome ≡ true
refused_fails w answer now c e = posted_fails c _ (refused_to (open_order (left c.agenda) w) w answer now c e)

-- ## the state

module _ (s : Plan) (st : State) (r : SetRow) (e : in_progress st ≡ Some r) (num : NumberedFrom 1 st.sets) (run : st.course.outcome ≡ RunningSet) where
  pub followed_sets : (ran : Bool) (c : Course) (x : State) → x.course.outcome ≡ RunningSet → has_failed c.outcome ≡ true → (followed ran c x).sets ≡ map (row_settled c.outcome) x.sets
  unfolding followed
  followed_sets ran c x f g = grind arith

  pub falls : (x : State) (p : SetOutcome) → x.sets ≡ map (row_settled p) st.sets → has_failed p ≡ true → IsFailed x r.number
  falls x p f g = (fails_as st x r p r.number e num f g refl).failed

  answer_fails : (w : ℕ) (answer : Answer) → is_refused (order_of_writer st w) answer ≡ true → IsFailed (answered w (said_of answer) st) r.number
  unfolding answered
  answer_fails w answer f =
      let c = course_answered w (said_of answer) st.clock st.course in
      let failed_so = refused_fails w answer st.clock st.course f in
      falls (followed (runs st) c st) c.outcome (followed_sets (runs st) c st run failed_so) failed_so

  ticks_fail : (due : (now : ℕ) → is_late_in now st.course st.course.agenda ≡ true → is_due_in now st.course st.course.agenda ≡ true) (n : ℕ) → is_late st n ≡ true → IsFailed (ticked n st) r.number
  unfolding ticked
  ticks_fail due n f =
      let c = course_timed (st.clock + n) st.course in
      let failed_so = timed_fails (st.clock + n) st.course (due (st.clock + n) f) in
      falls (followed (runs st) c (later n st)) c.outcome (followed_sets (runs st) c (later n st) run failed_so) failed_so

  failed_sets : (o : Option SetRow) (why : VssResult) (x : State) → o ≡ Some r → (failed_in o why x).sets ≡ map (row_settled (FailedSet why)) x.sets
  unfolding course_failed
  failed_sets o why x f = grind arith

  pub failed_fails : (why : VssResult) → IsFailed (failed why st) r.number
  failed_fails why = falls (failed why st) (FailedSet why) (failed_sets (in_progress st) why st e) refl

  pub closed_fails : (q : Session) (why : VssResult) → IsFailed (closed q (failed why st)) r.number
  unfolding closed
  closed_fails q why = falls (closed q (failed why st)) (FailedSet why) (failed_sets (in_progress st) why st e) refl

  room_sets : (b : Bool) (x : State) → x.sets ≡ st.sets → b ≡ true → (with_room_if b x).sets ≡ map (row_settled (FailedSet InsufficientStorage)) st.sets
  room_sets b x f g = grind (arith, failed_sets)

  pub write_fails : (v : ℕ) (w : Write) (mark : Mark) → loses_own_image s st v w.block ≡ true → IsFailed (write s v w mark st).1 r.number
  unfolding write
  write_fails v w mark f =
      falls (put v w mark (with_room s v w.block st)) (FailedSet InsufficientStorage)
      ((grind arith)
      ∙ room_sets (set_loses_image (in_progress st) st.volumes (cleared s v w.block st).volumes) (cleared s v w.block st) refl f) refl

  -- `abort` and `end` of the owner
  own_session : (q : Option Session) (lane : ℕ) (X : Type 0) → st.session ≡ q → owns q lane ≡ true → ((p : Session) → st.session ≡ Some p → (p.owner == lane) ≡ true → X) → X
  own_session q lane x2 f g h = grind arith

  goes_on : (b m run : Bool) → b ≡ true → m ≡ true → owner_only b (verdict_of false (run && false) m (false && run)) ≡ Go
  goes_on b m run f g = grind arith

  abort_goes : (q : Session) (lane : ℕ) → (q.owner == lane) ≡ true → makes_set q.stage ≡ true → check_other (Some q) (runs st) lane call.Abort ≡ Go
  abort_goes q lane f g = goes_on (q.owner == lane) (makes_set q.stage) (runs st) f g

  end_goes : (q : Session) (lane : ℕ) → (q.owner == lane) ≡ true → check_other (Some q) (runs st) lane call.End ≡ Go
  end_goes q lane f = goes_on (q.owner == lane) true (runs st) f refl

  abort_does : (q : Session) (lane : ℕ) → st.session ≡ Some q → check_other st.session (runs st) lane call.Abort ≡ Go → (called call.Abort s lane op.Abort st).1 ≡ failed AsyncCancelled st
  unfolding called
  abort_does q lane f g = ap (λ v. (judged v s lane op.Abort st).1) g ∙ ap (λ p. (line_in s lane op.Abort p st).1) f

  end_does : (q : Session) (lane : ℕ) → st.session ≡ Some q → check_other st.session (runs st) lane call.End ≡ Go → (called call.End s lane op.End st).1 ≡ closed q (failed AsyncCancelled st)
  unfolding called
  end_does q lane f g = ap (λ v. (judged v s lane op.End st).1) g ∙ ap (λ p. (line_in s lane op.End p st).1) f

  abort_fails : (lane : ℕ) → IsOrderly st → owns st.session lane ≡ true → IsFailed (called call.Abort s lane op.Abort st).1 r.number
  abort_fails lane o f = grind (arith, own_session, abort_does, abort_goes, failed_fails)

  end_fails : (lane : ℕ) → owns st.session lane ≡ true → IsFailed (called call.End s lane op.End st).1 r.number
  end_fails lane f =
      own_session st.session lane (IsFailed (called call.End s lane op.End st).1 r.number) refl f
      (λ q g h. subst (λ x. IsFailed x r.number) (sym (end_does q lane g (ap (λ p. check_other p (runs st) lane call.End) g ∙ end_goes q lane h))) (closed_fails q AsyncCancelled))

  line_fails_set : (due : (now : ℕ) → is_late_in now st.course st.course.agenda ≡ true → is_due_in now st.course st.course.agenda ≡ true) (lane : ℕ) (o : Op)
      (mark : Mark) → IsOrderly st → line_gives_cause s st lane o ≡ true → IsFailed (line s lane o mark st).1 r.number
  line_fails_set due lane (op.WriteFill v b x) mark i f = write_fails v (record { block = b; bytes = payload_bytes (Fill x) }) mark f
  line_fails_set due lane (op.WriteStamp v b x) mark i f = write_fails v (record { block = b; bytes = payload_bytes (Stamp x) }) mark f
  line_fails_set due lane (op.Tick n) mark i f = ticks_fail due n f
  line_fails_set due lane op.Abort mark i f = abort_fails lane i f
  line_fails_set due lane op.End mark i f = end_fails lane f
  line_fails_set due lane o mark i f = absurd cc

fault_mark : (m : Mark) → is_fault m ≡ true → m ≡ Fault
fault_mark m e = grind arith

happens_fails : (event : Event) (s : Plan) (so_far : List Act) (act : Act) (r : SetRow) → act.event ≡ event → in_progress (state s so_far) ≡ Some r
    → enabled s (state s so_far) act.event ≡ true → gives_cause s (state s so_far) event act.mark ≡ true → IsFailed (after s (state s so_far) act) r.number
happens_fails (Line lane o) s so_far act r f e on g =
    let st = state s so_far in
    subst (λ x. IsFailed x r.number) (sym (after_enabled s st act on ∙ ap (λ x. (happens s x act.mark st).1) f))
    (line_fails_set s st r e (orderly s so_far).numbered (outcome_is_running s so_far r e) (late_is_due s so_far) lane o act.mark (orderly s so_far) g)
happens_fails (AnswerEvent w answer) s so_far act r f e on g =
    let st = state s so_far in
    subst (λ x. IsFailed x r.number) (sym (after_enabled s st act on ∙ ap (λ x. (happens s x act.mark st).1) f))
    (answer_fails s st r e (orderly s so_far).numbered (outcome_is_running s so_far r e) w answer g)
happens_fails Provider s so_far act r f e on g = grind (arith, and_parts, flush_fails, fault_mark)
happens_fails Idle s so_far act r f e on g =
    let st = state s so_far in
    subst (λ x. IsFailed x r.number) (sym (after_enabled s st act on ∙ ap (λ x. (happens s x act.mark st).1) f))
    (ticks_fail s st r e (orderly s so_far).numbered (outcome_is_running s so_far r e) (late_is_due s so_far) (idle_now st) g)

pub fails_for_cause : (s : Plan) (so_far : List Act) (act : Act) → FailsForCause s so_far act
fails_for_cause s so_far act = grind (arith, happens_fails, fails_with_cause)

-- ## A write fails the set in progress just where it has no slot unless the set's image goes.

-- ## an image that goes

-- a volume on which the image of set n was, and is not any more
record IsLost (n : ℕ) (hs ks : List History) : Type 0 where
  volume : ℕ
  was : has_image n (at hs volume) ≡ true
  gone : has_image n (at ks volume) ≡ false

lost_there : (n : ℕ) (hs ks : List History) → has_lost_image n hs ks ≡ true → IsLost n hs ks
lost_there n [] ks e = absurd cc
lost_there n (h ∷ hs) [] e = absurd cc
lost_there n (h ∷ hs) (k ∷ ks) e = by_head (has_image n h) (has_image n k) refl refl e (lost_there n hs ks) where
  later : IsLost n hs ks → IsLost n (h ∷ hs) (k ∷ ks)
  later more = record { volume = suc more.volume; was = more.was; gone = more.gone }

  by_head : (a b : Bool) → has_image n h ≡ a → has_image n k ≡ b → ((a && not b) || has_lost_image n hs ks) ≡ true → (has_lost_image n hs ks ≡ true → IsLost n hs ks) → IsLost n (h ∷ hs) (k ∷ ks)
  by_head a b f g e ih = grind (arith, later)

-- of those up to m, in a group
lost_in_group : (m n : ℕ) (ps : List Placed) (hs : List History) (v : ℕ) → within (slice_get ps v) ≡ true → has_image n (at hs v) ≡ true → n ≤ m → has_lost_image n hs (gone_up_to m ps hs) ≡ true
lost_in_group m n [] hs v w e l = absurd cc
lost_in_group m n (p ∷ ps) [] v w e l = absurd (true_not_false (has_image n (at [] v)) e (no_image v)) where
  no_image : (v : ℕ) → has_image n (at [] v) ≡ false
  no_image zero = refl
  no_image (suc v) = refl
lost_in_group m n (p ∷ ps) (h ∷ hs) zero w e l = by_parts (has_image n h) (has_image n (at (gone_up_to m (p ∷ ps) (h ∷ hs)) 0)) e refl where
  over : (m n : ℕ) → m < n → n ≤ m → ⊥
  over m n l h = omega arith

  by_parts : (a b : Bool) → a ≡ true → has_image n (at (gone_up_to m (p ∷ ps) (h ∷ hs)) 0) ≡ b → ((a && not b) || has_lost_image n hs (gone_up_to m ps hs)) ≡ true
  by_parts true true f g = absurd (over m n (left_in_group m n (p ∷ ps) (h ∷ hs) 0 w g) l)
  by_parts true false f g = refl
  by_parts false b f g = absurd cc
lost_in_group m n (p ∷ ps) (h ∷ hs) (suc v) w e l = or_right _ _ (lost_in_group m n ps hs v w e l)

-- ## how many sets go

reaches : (test : ℕ → Bool) (a len bound : ℕ) → bound ≤ a + len → ((m : ℕ) → a ≤ m → m < bound → test m ≡ false) → bound ≤ unwrap_or (find test (range_with_len a len)) (a + len)
reaches test a zero bound l h = l
reaches test a (suc len) bound l h = grind (arith, true_not_false, reaches test (a + 1) len bound (grind arith) (grind arith))

-- as many go, at least, as leave no slot
goes_so_far : (sets slots : ℕ) (ps : List Placed) (v b : ℕ) (hs : List History) (n : ℕ) → n ≤ sets
    → ((m : ℕ) → m < n → lacks_slot slots ps v b (gone_up_to m ps hs) ≡ true) → n ≤ evicted_up_to sets slots ps v b hs
goes_so_far sets slots ps v b hs n l h =
    subst (λ k. n ≤ unwrap_or (find (λ m. not (lacks_slot slots ps v b (gone_up_to m ps hs))) (range_with_len 0 sets)) k) (from_none sets)
    (reaches (λ m. not (lacks_slot slots ps v b (gone_up_to m ps hs))) 0 sets n (subst (λ k. n ≤ k) (sym (from_none sets)) l) (λ m i j. ap not (h m j))) where
      from_none : (k : ℕ) → 0 + k ≡ k
      from_none k = omega arith

-- the numbers of sets are no greater than there are sets
numbered_within : (k : ℕ) (rows : List SetRow) (test : SetRow → Bool) (r : SetRow) → NumberedFrom k rows → find test rows ≡ Some r → r.number + 1 ≤ k + length rows
numbered_within k [] test r num e = absurd cc
numbered_within k (q ∷ rows) test r num e = grind (arith, some_same, numbered_within (k + 1) rows test r num.1)

-- ## both ways

module _ (s : Plan) (st : State) (r : SetRow) (is : in_progress st ≡ Some r) (v b : ℕ) where
  abbrev most : ℕ
  most = going_up_to s v b st

  loses_of : loses_own_image s st v b ≡ has_lost_image r.number st.volumes (cleared s v b st).volumes
  loses_of = ap (λ o. set_loses_image o st.volumes (cleared s v b st).volumes) is

  pub no_slot : loses_own_image s st v b ≡ true → HasNoSlot s st r.number v b
  no_slot e =
      let lost = lost_there r.number st.volumes (cleared s v b st).volumes (sym loses_of ∙ e) in
      let went = gone_group most r.number (group_of s v) st.volumes lost.volume lost.was lost.gone in
      record {
        volume = lost.volume;
        shared = went.0;
        stands_there = lost.was;
        full = λ m l. least_sets (length st.sets) (slots_of s v) (group_of s v) v b st.volumes m (grind (arith, went.1));
      }

  pub loses : NumberedFrom 1 st.sets → HasNoSlot s st r.number v b → loses_own_image s st v b ≡ true
  loses num h =
      loses_of
      ∙ lost_in_group most r.number (group_of s v) st.volumes h.volume h.shared h.stands_there
      (goes_so_far (length st.sets) (slots_of s v) (group_of s v) v b st.volumes r.number (grind (arith, numbered_within 1 st.sets _ r num is)) h.full)

-- where no set is in progress, or its images need not go
pub loses_none : (s : Plan) (st : State) (v b : ℕ) → ((r : SetRow) → in_progress st ≡ Some r → HasNoSlot s st r.number v b → ⊥) → loses_own_image s st v b ≡ false
loses_none s st v b h = by_set (in_progress st) refl where
  by_set : (o : Option SetRow) → in_progress st ≡ o → loses_own_image s st v b ≡ false
  by_set None e = ap (λ o. set_loses_image o st.volumes (cleared s v b st).volumes) e
  by_set (Some r) e = false_from_ne_true (loses_own_image s st v b) (λ f. h r e (no_slot s st r e v b f))

cause_of_write : (s : Plan) (st : State) (lane : ℕ) (o : Op) (t : Target) (act : Act) → act.event ≡ Line lane o → target_of o ≡ Some t
    → gives_cause s st act.event act.mark ≡ loses_own_image s st t.volume t.block
cause_of_write s st lane o t act e f = grind arith

pub writes_fail_for_slots : (s : Plan) (so_far : List Act) (act : Act) → WritesFailForSlots s so_far act
writes_fail_for_slots s so_far act = record {
  fails = λ lane o t r e f i on h. (fails_for_cause s so_far act).fails r i on
      (cause_of_write s (state s so_far) lane o t act e f ∙ loses s (state s so_far) r i t.volume t.block (orderly s so_far).numbered h);
  only = λ lane o t r q e f i g h. no_slot s (state s so_far) r i t.volume t.block (sym (cause_of_write s (state s so_far) lane o t act e f) ∙ (fails_for_cause s so_far act).only r q i g h);
}

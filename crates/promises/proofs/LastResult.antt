-- The last result of a session is what the acts have made of it.
use Rattle.promises.proofs.Words.{and_left, Context, VssResult, AsyncFinished, AsyncPending, AsyncCancelled, Mark, Clean, Write, said_of, open_group}
use Rattle.promises.proofs.Words.{next_volume, Course, Session, makes_set, opened, agenda_ended, set_failed, Op, is_begin, begins_agenda, Target, target_of}
use Rattle.promises.proofs.Words.{Plan, Event, Reply, Fine, Coded, Deleted, Idled, State, start, in_progress, left_now, runs, failed, Replied, write}
use Rattle.promises.proofs.Words.{reverted_as, has_failed, Act, order_of_writer, enabled, answer_reply, step_reply, idle_now, after, state, state-append}
use Rattle.promises.proofs.Words.{set_failure, begins_session, begins, result_by, result_after, result_if, result_from, last_result, Covers}
use Rattle.promises.proofs.Words.{after_not_enabled, told_covered, some_same, by_last, check, is_blocked, reply_is, Owns, result_told, AwaitTells, called}
use Rattle.std.proofs.Common.{◌≡◌, ◌∙◌, ℕ, List, [], ◌∷◌, ◌++◌, Option, Some, None, refl, Bool, true, false, ap, sym, inl, inr, fold, arith}
use Rattle.std.specs.Prelude.{◌&&◌, ◌||◌, not, option_map}
use Rattle.vss_model.specs.declared.event.Event.TheVariants.{Line, Answer as AnswerEvent, Provider, Idle}
use Rattle.vss_model.proofs.StateForm.{start_set, pending, closed}
use Rattle.promises.proofs.Turns.{Turn, quiet_turn, write_turn, revert_turn, begun_turn, answer_turn, tick_turn, step_turn, abort_turn, add_turn, none_started}
use Rattle.promises.proofs.CalmStages.{calm_begun}
use Rattle.promises.proofs.Contexts.{failure_at}
use Rattle.set_agenda.specs.declared.kind.Kind.TheVariants as kind
use Rattle.scenario.specs.declared.op.Op.TheVariants as op
use Rattle.requestor.specs.declared.session_call.SessionCall.TheVariants as call

-- ## lines that end nothing

write_begins : (o : Op) (t : Target) → target_of o ≡ Some t → (is_begin o ≡ false) × (begins_agenda o ≡ false)
write_begins o t e = grind arith

same_running : (b : Bool) → (b && not b) ≡ false
same_running b = grind arith

-- ## every act

module _ (s : Plan) (so_far : List Act) (last : Option VssResult) where
  abbrev pub st : State
  st = state s so_far

  -- a session that stands has this last result
  abbrev pub IsLast : State → Option VssResult → Type 0
  IsLast x result = (q : Session) → x.session ≡ Some q → q.last ≡ result

  failed_last : (why : VssResult) (o : Option Session) (q : Session) → option_map (set_failed why) o ≡ Some q → q.last ≡ Some why
  failed_last why o q e = grind arith

  ended_last : (o : Option Session) (q : Session) → option_map agenda_ended o ≡ Some q → q.last ≡ Some AsyncFinished
  ended_last o q e = grind arith

  -- what an act comes to, by its parts
  comes_to : (event : Event) (told : Reply) (x : State) (ran : Bool) (why : Option VssResult) (ended : Bool) → begins_session event told ≡ false
      → (runs st || begins event told) ≡ ran → set_failure (in_progress st) x ≡ why → (ran && not (runs x)) ≡ ended
      → result_after st event told x last ≡ result_by why ended last
  comes_to event told x ran why ended e f g i = grind arith

  module _ (h : IsLast st last) where
    abbrev Next : Event → Mark → Replied → Type 0
    Next event mark x = IsLast x.1 (result_after st event x.0 x.1 last)

    by_turn : (event : Event) (told : Reply) (x : State) (ran : Bool) → begins_session event told ≡ false → (runs st || begins event told) ≡ ran → Turn st x ran
        → IsLast x (result_after st event told x last)
    by_turn event told x ran e f (inl t) q i =
        failed_last t.why st.session q (sym t.session ∙ i) ∙ sym (comes_to event told x ran (Some t.why) _ e f t.failure refl)
    by_turn event told x ran e f (inr (inl t)) q i =
        ended_last st.session q (sym t.session ∙ i) ∙ sym (comes_to event told x ran None true e f t.failure (ap (λ b. b && not (runs x)) t.ran_is ∙ ap not t.quiet))
    by_turn event told x ran e f (inr (inr t)) q i =
        h q (sym t.session ∙ i) ∙ sym (comes_to event told x ran None false e f t.failure (ap (λ b. ran && not b) t.runs_is ∙ same_running ran))

    or_true : (b : Bool) → (b || true) ≡ true
    or_true b = grind arith

    or_false : (b c : Bool) → c ≡ false → (b || c) ≡ b
    or_false b c e = grind arith

    -- no agenda begins
    goes : (event : Event) (told : Reply) (x : State) → begins_session event told ≡ false → begins event told ≡ false → Turn st x (runs st) → IsLast x (result_after st event told x last)
    goes event told x e f t = by_turn event told x (runs st) e (or_false (runs st) (begins event told) f) t

    -- nothing that is read here changes
    quiet : (event : Event) (told : Reply) (x : State) → begins_session event told ≡ false → begins event told ≡ false → x.session ≡ st.session
        → ((n : ℕ) → failure_at x.sets n ≡ failure_at st.sets n) → runs x ≡ runs st → IsLast x (result_after st event told x last)
    quiet event told x e f g i l = goes event told x e f (quiet_turn s so_far x g i l)

    on_write : (lane : ℕ) (o : Op) (t : Target) (v : ℕ) (w : Write) (mark : Mark) → target_of o ≡ Some t → Next (Line lane o) mark (write s v w mark st)
    on_write lane o t v w mark e = let no = write_begins o t e in goes (Line lane o) _ _ (and_left (is_begin o) _ no.0) (and_left (begins_agenda o) _ no.1) (write_turn s so_far v w mark)

    on_close : (event : Event) (told : Reply) (q : Session) (x : State) → IsLast (closed q x) (result_after st event told (closed q x) last)
    unfolding closed
    on_close event told q x p e = absurd cc

    on_begun : (lane : ℕ) (o : Op) (mark : Mark) (c : Course) → is_begin o ≡ false → begins_agenda o ≡ true
        → (has_failed st.course.outcome ≡ false → has_failed c.outcome ≡ false) → Next (Line lane o) mark (pending c st)
    on_begun lane o mark c e f calm = by_turn (Line lane o) (Coded AsyncPending) _ true (and_left (is_begin o) _ e)
        (ap (λ b. runs st || (b && true)) f ∙ or_true (runs st)) (begun_turn s so_far c calm)

    on_start : (lane : ℕ) (q : Session) → st.session ≡ Some q → makes_set q.stage ≡ false → IsLast (start_set q st).1 (result_after st (Line lane op.Start) (start_set q st).0 (start_set q st).1 last)
    on_start lane q e f p g = grind (arith, some_same, comes_to, or_false, none_started, same_running)

    on_opened : (lane n : ℕ) (all : Bool) (x : Context) → Next (Line lane (op.Begin n all)) Clean (Fine, record st { session = Some (opened lane x all); explicit = [] })
    on_opened lane n all x q e = sym (ap (λ (y : Session). y.last) (some_same (opened lane x all) q e))

    lasts : Covers Next s st
    lasts = record {
      stays = λ lane o mark told e f. quiet (Line lane o) told st (grind arith) (grind arith) refl (λ n. refl) refl;
      writes = λ lane o v w mark e f. on_write lane o _ v w mark e;
      reverts = λ lane n v k mark e f. goes (Line lane (op.Revert n v)) (reverted_as s v k mark st).0 _ refl refl (revert_turn s so_far v k mark);
      deletes_set = λ lane n c mark e. quiet (Line lane (op.DeleteSet n)) (Deleted c) _ refl refl refl (λ m. refl) refl;
      deletes_image = λ lane n v k mark e. quiet (Line lane (op.DeleteImage n v)) (Deleted 1) _ refl refl refl (λ m. refl) refl;
      ticks = λ lane n mark. goes (Line lane (op.Tick n)) Fine _ refl refl (tick_turn s so_far n);
      begins = λ lane n all x mark e ctx. on_opened lane n all x;
      disables = λ lane w q mark g. quiet (Line lane (op.Disable w)) Fine _ refl refl refl (λ m. refl) refl;
      gathers = λ lane q mark g. on_begun lane op.Gather mark _ refl refl (calm_begun kind.Gather _ [] st.clock _);
      names = λ lane w full q explicit mark g named. quiet (Line lane (op.Component w full)) Fine _ refl refl refl (λ m. refl) refl;
      starts = λ lane q mark g e. on_start lane q g.stands e;
      adds = λ lane v r q mark g e f. goes (Line lane (op.Add v)) Fine _ refl refl (add_turn s so_far v r);
      prepares = λ lane q mark g f. on_begun lane op.Prepare mark _ refl refl (calm_begun kind.Prepare _ [] st.clock _);
      snapshots = λ lane q mark g f. on_begun lane op.Snapshot mark _ refl refl (calm_begun kind.Snapshot st.course.members _ st.clock st.course);
      completes = λ lane q mark g. on_begun lane op.Complete mark _ refl refl (calm_begun kind.Complete _ [] st.clock st.course);
      aborts = λ lane q mark e. goes (Line lane op.Abort) Fine _ refl refl (abort_turn s so_far);
      ends = λ lane q mark e. on_close (Line lane op.End) Fine q (failed AsyncCancelled st);
      answers = λ w answer mark e. goes (AnswerEvent w answer) (answer_reply (order_of_writer st w) answer) _ refl refl (answer_turn s so_far w (said_of answer));
      steps = λ mark e. goes Provider (step_reply (open_group (left_now st)) (next_volume (left_now st)) mark) _ refl refl (step_turn s so_far mark e);
      idles = λ mark e. goes Idle (Idled (idle_now st)) _ refl refl (tick_turn s so_far (idle_now st));
    }

    last_if : (b : Bool) (act : Act) → enabled s st act.event ≡ b → IsLast (after s st act) (result_if b s st last act)
    last_if b act e = grind (arith, told_covered, lasts, after_not_enabled)

-- ## every list of acts

result_from-append : (s : Plan) (x : State) (last : Option VssResult) (acts : List Act) (act : Act)
    → result_from s x last (acts ++ act ∷ []) ≡ result_if (enabled s (fold (after s) x acts) act.event) s (fold (after s) x acts) (result_from s x last acts) act
result_from-append s x last [] act = refl
result_from-append s x last (a ∷ acts) act = result_from-append s (after s x a) (result_if (enabled s x a.event) s x last a) acts act

abbrev StandsLast : Plan → List Act → Type 0
StandsLast s so_far = (q : Session) → (state s so_far).session ≡ Some q → q.last ≡ last_result s so_far

last_next : (s : Plan) (so_far : List Act) (act : Act) → StandsLast s so_far → StandsLast s (so_far ++ act ∷ [])
last_next s so_far act h q e =
    last_if s so_far (last_result s so_far) h (enabled s (state s so_far) act.event) act refl q (ap (λ (x : State). x.session) (sym (state-append s so_far act)) ∙ e)
    ∙ sym (result_from-append s (start s) None so_far act)

pub last_all : (s : Plan) (so_far : List Act) → StandsLast s so_far
last_all s so_far = by_last (StandsLast s) (last_next s) (λ q e. absurd cc) so_far

-- ## `await` tells the last result

module _ (s : Plan) (st : State) (lane : ℕ) (q : Session) (own : Owns st lane q) where
  await_reply : (b : Bool) → runs st ≡ b → not (is_blocked (check st.session (runs st) lane call.Await)) ≡ true → (called call.Await s lane op.Await st).0 ≡ result_told q.last
  unfolding called
  await_reply b e f = grind arith

pub await_tells : (s : Plan) (so_far : List Act) (act : Act) → AwaitTells s so_far act
await_tells s so_far act lane q e on own = grind (arith, reply_is, await_reply, last_all)

-- What one act may be: who may call and what waits, what moves the clock and how far, which marks may come, and that a refusal changes nothing.
use Rattle.std.proofs.Common.{◌≡◌, ◌∙◌, ℕ, List, Option, Some, None, Bool, true, false, ap, arith, ◌+◌, refl, sym, ◌<◌, [], ◌∷◌, fold, min}
use Rattle.std.specs.Prelude.{is_some, unwrap_or, if◌then◌else◌}
use Rattle.writer_meta.proofs.Laws.{and_left}
use Rattle.vss_model.proofs.StateForm.{answered, stepped}
use Rattle.promises.proofs.Words.{BadState, SessionCall, Refused, Session, check, check_other, is_await as awaits, Op, Target, target_of, Plan, Line, Coded}
use Rattle.promises.proofs.Words.{State, runs, judged, Act, is_blocked, enabled, happens, after, state, owns, orderly, is_owners, CallsAreOwned, WaitsAreFew}
use Rattle.promises.proofs.Words.{WaitsAreDue, StandsQuiet, FrozenDoNotWrite, after_enabled, after_not_enabled, called, line, not_false, VssResult}
use Rattle.promises.proofs.Words.{AsyncCancelled, Said, Mark, Write, said_of, Group, Course, Event, SetRow, in_progress, line_ticks, ticks_of, idle_now}
use Rattle.promises.proofs.Words.{ticks_if, ClockMoves, Covers, covered, followed, failed_in, failed, Replied, write, closed, step_made, stepped_as, ticked}
use Rattle.promises.proofs.Words.{later, Running, spent_of, running_until, ticks_to_spend, idle_spends, IdlesShortest, Clean, FaultAfter, event_allows}
use Rattle.promises.proofs.Words.{MarksAreDue, may_stop, RefusalsChangeNothing, none_if_refused, stays}

-- ## Who may call, and what waits.

-- ## a call of another lane

called_refused : (c : SessionCall) (s : Plan) (lane : ℕ) (op : Op) (st : State) → check st.session (runs st) lane c ≡ Refused BadState → called c s lane op st ≡ (Coded BadState, st)
unfolding called
called_refused c s lane op st e = ap (λ v. judged v s lane op st) e

line_refused : (s : Plan) (lane : ℕ) (op : Op) (act : Act) (st : State) → is_owners op ≡ true → owns st.session lane ≡ false → line s lane op act.mark st ≡ (Coded BadState, st)
line_refused s lane op act st e f = grind (arith, called_refused)

happens_refused : (s : Plan) (st : State) (act : Act) (lane : ℕ) (op : Op) → act.event ≡ Line lane op → is_owners op ≡ true → owns st.session lane ≡ false
    → happens s act.event act.mark st ≡ (Coded BadState, st)
happens_refused s st act lane op e f g = ap (λ x. happens s x act.mark st) e ∙ line_refused s lane op act st f g

pub calls_are_owned : (s : Plan) (so_far : List Act) (act : Act) → CallsAreOwned s so_far act
calls_are_owned s so_far act lane op e f g = grind (arith, happens_refused, after_enabled, after_not_enabled)

-- ## what waits

other_waits : (q : Option Session) (running : Bool) (lane : ℕ) (c : SessionCall) → is_blocked (check_other q running lane c) ≡ true → awaits c ≡ true
other_waits q running lane c e = grind (arith, and_left)

pub waits_are_few : (s : Plan) (so_far : List Act) → WaitsAreFew s so_far
waits_are_few s so_far lane op e = grind (arith, other_waits, not_false)

-- ## without a session

pub stands_quiet : (s : Plan) (so_far : List Act) → StandsQuiet s so_far
stands_quiet s so_far e = grind (arith, (orderly s so_far).agenda)

-- ## a frozen writer

pub frozen_do_not_write : (s : Plan) (so_far : List Act) → FrozenDoNotWrite s so_far
frozen_do_not_write s so_far lane w op t e f g = grind arith

-- ## who waits, and who need not

pub waits_are_due : (s : Plan) (so_far : List Act) → WaitsAreDue s so_far
waits_are_due s so_far = grind arith

-- ## What moves the clock.

pub clock-followed : (ran : Bool) (c : Course) (st : State) → (followed ran c st).clock ≡ st.clock
unfolding followed
clock-followed ran c st = grind arith

clock-failed_in : (o : Option SetRow) (why : VssResult) (st : State) → (failed_in o why st).clock ≡ st.clock
clock-failed_in o why st = grind arith

clock-write : (s : Plan) (v : ℕ) (w : Write) (mark : Mark) (st : State) → (write s v w mark st).1.clock ≡ st.clock
unfolding write
clock-write s v w mark st = grind arith

pub clock-made : (g : Option Group) (v : Option ℕ) (st : State) → (step_made g v st).clock ≡ st.clock
clock-made g v st = grind arith

pub clock-answered : (w : ℕ) (said : Said) (st : State) → (answered w said st).clock ≡ st.clock
unfolding answered
clock-answered w said st = clock-followed (runs st) _ st

pub clock-stepped_as : (fails : Bool) (g : Option Group) (v : Option ℕ) (st : State) → (stepped_as fails g v st).clock ≡ st.clock
clock-stepped_as fails g v st = grind (arith, clock-followed, clock-made)

pub clock-stepped : (mark : Mark) (st : State) → (stepped mark st).clock ≡ st.clock
unfolding stepped
clock-stepped mark st = clock-stepped_as _ _ _ st

pub clock-ticked : (n : ℕ) (st : State) → (ticked n st).clock ≡ st.clock + n
unfolding ticked
clock-ticked n st = clock-followed (runs st) _ (later n st)

clock-closed : (q : Session) (st : State) → (closed q st).clock ≡ st.clock
unfolding closed
clock-closed q st = refl

-- a line that writes a block is no `tick` line
pub write_ticks : (op : Op) (t : Target) → target_of op ≡ Some t → line_ticks op ≡ None
write_ticks op t e = grind arith

abbrev Moves : State → Event → Mark → Replied → Type 0
Moves st event mark x = x.1.clock ≡ st.clock + unwrap_or (ticks_of st event) 0

no_ticks : (n : ℕ) → n ≡ n + 0
no_ticks n = omega arith

stands_still : (st : State) (now : ℕ) (o : Option ℕ) → now ≡ st.clock → o ≡ None → now ≡ st.clock + unwrap_or o 0
stands_still st now o e f = e ∙ no_ticks st.clock ∙ ap (λ p. st.clock + unwrap_or p 0) (sym f)

module _ (s : Plan) (st : State) where
  moves : Covers (Moves st) s st
  moves = record {
    stays = λ lane op mark told e f. stands_still st st.clock (line_ticks op) refl e;
    writes = λ lane op v w mark e f. stands_still st _ (line_ticks op) (clock-write s v w mark st) (write_ticks op _ e);
    reverts = λ lane n v k mark e f. stands_still st _ None (grind arith) refl;
    deletes_set = λ lane n c mark e. no_ticks st.clock;
    deletes_image = λ lane n v k mark e. no_ticks st.clock;
    ticks = λ lane n mark. clock-ticked n st;
    begins = λ lane n all c mark e ctx. no_ticks st.clock;
    disables = λ lane w q mark g. no_ticks st.clock;
    gathers = λ lane q mark g. stands_still st _ None (clock-followed true _ st) refl;
    names = λ lane w full q explicit mark g named. no_ticks st.clock;
    starts = λ lane q mark g e. no_ticks st.clock;
    adds = λ lane v r q mark g e f. no_ticks st.clock;
    prepares = λ lane q mark g f. stands_still st _ None (clock-followed true _ st) refl;
    snapshots = λ lane q mark g f. stands_still st _ None (clock-followed true _ st) refl;
    completes = λ lane q mark g. stands_still st _ None (clock-followed true _ st) refl;
    aborts = λ lane q mark e. stands_still st _ None (clock-failed_in (in_progress st) AsyncCancelled st) refl;
    ends = λ lane q mark e. stands_still st _ None (clock-closed q (failed AsyncCancelled st) ∙ clock-failed_in (in_progress st) AsyncCancelled st) refl;
    answers = λ w answer mark e. stands_still st _ None (clock-answered w (said_of answer) st) refl;
    steps = λ mark e. stands_still st _ None (clock-stepped mark st) refl;
    idles = λ mark e. clock-ticked (idle_now st) st;
  }

clock_if : (b : Bool) (s : Plan) (st : State) (act : Act) → enabled s st act.event ≡ b → (after s st act).clock ≡ st.clock + ticks_if b st act.event
clock_if true s st act e = ap (λ (x : State). x.clock) (after_enabled s st act e) ∙ covered (Moves st) s st (moves s st) act.event act.mark e
clock_if false s st act e = ap (λ (x : State). x.clock) (after_not_enabled s st act e) ∙ no_ticks st.clock

pub clock_after : (s : Plan) (st : State) (act : Act) → (after s st act).clock ≡ st.clock + ticks_if (enabled s st act.event) st act.event
clock_after s st act = clock_if (enabled s st act.event) s st act refl

pub clock_moves : (s : Plan) (so_far : List Act) (act : Act) → ClockMoves s so_far act
clock_moves s so_far act = clock_after s (state s so_far) act

-- ## An idle stretch is the shortest that spends a limit that runs.

abbrev Least : ℕ → ℕ → List Running → ℕ
Least now t ls = fold (λ t (m : Running). min t (running_until now m)) t ls

-- each of these has more than n ticks left
abbrev AllMore : ℕ → ℕ → List Running → Type 0
AllMore now n [] = Unit {0}
AllMore now n (l ∷ ls) = (n < running_until now l) × AllMore now n ls

least_first : (now n t : ℕ) (ls : List Running) → n < Least now t ls → n < t
least_first now n t [] h = h
least_first now n t (l ∷ ls) h = grind (arith, least_first now n (min t (running_until now l)) ls h)

least_all : (now n t : ℕ) (ls : List Running) → n < Least now t ls → AllMore now n ls
least_all now n t [] h = tt
least_all now n t (l ∷ ls) h = ((grind (arith, least_first now n (min t (running_until now l)) ls h)), least_all now n (min t (running_until now l)) ls h)

none_spent : (now n : ℕ) (ls : List Running) → AllMore now n ls → is_some (spent_of (now + n) ls) ≡ false
none_spent now n [] h = refl
none_spent now n (l ∷ ls) h = grind (arith, none_spent now n ls h.1)

shorter_spends_none : (now n : ℕ) (ls : List Running) → n < ticks_to_spend now ls → is_some (spent_of (now + n) ls) ≡ false
shorter_spends_none now n [] h = refl
shorter_spends_none now n (l ∷ ls) h = none_spent now n (l ∷ ls) (least_first now n (running_until now l) ls h, least_all now n (running_until now l) ls h)

pub idles_shortest : (s : Plan) (so_far : List Act) → IdlesShortest s so_far
idles_shortest s so_far = grind (arith, idle_spends, shorter_spends_none)

-- ## A device fails only where it is called.

module _ (s : Plan) (st : State) where
  clean : (event : Event) → event_allows s st event Clean ≡ true
  clean event = grind arith

  stopped : (event : Event) (k : ℕ) → event_allows s st event (FaultAfter k) ≡ true → may_stop st event ≡ true
  stopped event k e = grind arith

pub marks_are_due : (s : Plan) (so_far : List Act) → MarksAreDue s so_far
marks_are_due s so_far = record { clean = clean s (state s so_far); failed = grind arith; stopped = stopped s (state s so_far) }

-- ## A refusal changes nothing, and neither does a line that only looks: such an act has no changes.

pub refusals_change_nothing : (s : Plan) (so_far : List Act) (act : Act) → RefusalsChangeNothing s so_far act
refusals_change_nothing s so_far act e = stays s (state s so_far) act (none_if_refused s (state s so_far) act e)

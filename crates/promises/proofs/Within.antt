-- No limit that would fail the set is outrun as the clock stands, and no order is open for more than the answer limit.
use Rattle.std.proofs.Common.{◌≡◌, ◌∙◌, ℕ, ◌+◌, zero, suc, List, [], ◌∷◌, Option, Some, None, refl, Bool, true, false, ap, sym, subst, fold, min, arith}
use Rattle.std.specs.Prelude.{◌&&◌, not, option_map, slice_get}
use Rattle.set_agenda.specs.Course.{failed as course_failed}
use Rattle.set_agenda.specs.declared.limit.Limit.TheVariants.{Hold as HoldLimit, Freeze as FreezeLimit}
use Rattle.vss_model.proofs.Rules.{Running}
use Rattle.vss_model.proofs.StateForm.{answered, stepped}
use Rattle.promises.proofs.Moves.{clock-made}
use Rattle.promises.proofs.Limits.{is_due_in, due_in, spent_runs, passed_spent}
use Rattle.promises.proofs.Lost.{lost_in_time}
use Rattle.promises.proofs.NotSpent.{at_once, none_both, unspent_if, is_mild, mild_order, none_second, is_unspent, Ordered, Unspent, InTime, said_in_time}
use Rattle.promises.proofs.Speaks.{Speaks, now_group}
use Rattle.promises.proofs.Times.{late_is_due}
use Rattle.promises.proofs.Words.{Order, VssResult, AsyncCancelled, Said, Ok, Lost, WriterRow, is_ok, row_after, default_freeze, Mark, Write, said_of, Group}
use Rattle.promises.proofs.Words.{Kind, Limit, Member, Agenda, Open, order_of, is_orders, groups_left, left, waits_now, order_now, is_among, open_order}
use Rattle.promises.proofs.Words.{is_working, next_member, all_say, Running as RunningLimit, answer_runs, running_at, running_limits, spent_of, none_and_some}
use Rattle.promises.proofs.Words.{spent_here, Session, Plan, Event, State, SetRow, start, in_progress, left_now, Act, enabled, idle_now, after, state}
use Rattle.promises.proofs.Words.{is_late_in, asked_if, asked_waits, StandsWithinLimits, Covers, covered, after_enabled, after_not_enabled, false_from_ne_true}
use Rattle.promises.proofs.Words.{Answer as AnswerLimit, Course, posted, rows_where, limit_of, freeze_limit, limits_now, settled, begun, told, is_decisive}
use Rattle.promises.proofs.Words.{decided, answered_to, answered as course_answered, worked, stepped as course_stepped, lost_to, lost, fails_set, lost_decided}
use Rattle.promises.proofs.Words.{treated_as, treated, timed as course_timed, released, runs, followed, failed_in, failed, Replied, write, closed, step_made}
use Rattle.promises.proofs.Words.{stepped_as, ticked, unspoken, head_waits, true_not_false, informs_writers, is_overdue_at, OrdersEnd, answer_since, and_parts}

-- ## No limit that would fail the set is outrun as the clock stands.

-- ## the course

abbrev Keeps : ℕ → Course → Type 0
Keeps now c = Running (InTime now (freeze_limit c)) c.agenda

keeps_failed : (now : ℕ) (why : VssResult) (c : Course) → Keeps now (course_failed why c)
unfolding course_failed
keeps_failed now why c = tt

keeps_posted : (now : ℕ) (prior c : Course) → Keeps now c → Keeps now (posted prior c)
unfolding posted
keeps_posted now prior c h = h

keeps_settled : (now : ℕ) (c : Course) → Keeps now c → Keeps now (settled c)
unfolding settled
keeps_settled now c h = grind arith

-- what is said leaves time-outs as they are
limit_stays : (o : Order) (said : Said) (test : ℕ → Bool) (k : ℕ) (rows : List WriterRow) (w : ℕ) → limit_of (slice_get (rows_where (row_after o said) test k rows) w) ≡ limit_of (slice_get rows w)
limit_stays o said test k [] w = refl
limit_stays o said test k (r ∷ rows) zero = grind arith
limit_stays o said test k (r ∷ rows) (suc w) = limit_stays o said test (k + 1) rows w

least_stays : (rows newer : List WriterRow) → ((w : ℕ) → limit_of (slice_get newer w) ≡ limit_of (slice_get rows w)) → (least : ℕ) (ms : List Member)
    → fold (λ l (m : Member). min l (limit_of (slice_get rows m.writer))) least ms
    ≡ fold (λ l (m : Member). min l (limit_of (slice_get newer m.writer))) least ms
least_stays rows newer same least ms = grind arith

-- who speaks, and what holds before
abbrev MaySay : ℕ → ℕ → List ℕ → Option Agenda → Type 0
MaySay now f ws None = Unit {0}
MaySay now f ws (Some a) = Speaks a ws × Unspent now f a × Ordered a

says_at : (now f : ℕ) (said : Said) (ws : List ℕ) (x : Option Agenda) → MaySay now f ws x → Running (InTime now f) (option_map (all_say said now ws) x)
says_at now f said ws None h = tt
says_at now f said ws (Some a) h = said_in_time now said ws a h.0 h.2 f h.1

keeps_told : (o : Order) (said : Said) (now : ℕ) (ws : List ℕ) (c : Course) → Running (InTime now (freeze_limit c)) (option_map (all_say said now ws) c.agenda) → Keeps now (told o said now ws c)
unfolding told
keeps_told o said now ws c h =
    subst (λ f. Running (InTime now f) (option_map (all_say said now ws) c.agenda))
    (least_stays c.rows (rows_where (row_after o said) (λ w. is_among w ws) 0 c.rows) (limit_stays o said (λ w. is_among w ws) 0 c.rows) default_freeze c.members)
    h

keeps_decided : (now : ℕ) (b : Bool) (said : Said) (c : Course) → Keeps now c → Keeps now (decided b said c)
keeps_decided now true said c h = keeps_failed now _ c
keeps_decided now false said c h = keeps_settled now c h

keeps_answered_to : (x : Option Order) (w : ℕ) (said : Said) (now : ℕ) (c : Course) → open_order (left c.agenda) w ≡ x → Keeps now c → Keeps now (answered_to x w said now c)
keeps_answered_to None w said now c e h = h
keeps_answered_to (Some o) w said now c e h = keeps_decided now (is_decisive o && not (is_ok said)) said _
    (keeps_told o said now (w ∷ []) c (says_at now (freeze_limit c) said (w ∷ []) c.agenda (grind (arith, asked_waits, asked_if))))

keeps_answered : (w : ℕ) (said : Said) (now : ℕ) (c : Course) → Keeps now c → Keeps now (course_answered w said now c)
keeps_answered w said now c h = keeps_posted now c _ (keeps_answered_to (open_order (left c.agenda) w) w said now c refl h)

keeps_worked : (now : ℕ) (c : Course) → is_working (left c.agenda) ≡ true → Keeps now c → Keeps now (worked now c)
unfolding worked
keeps_worked now c e h = says_at now (freeze_limit c) Ok (next_member (left c.agenda) ∷ []) c.agenda (grind (arith, head_waits))

keeps_stepped : (ok : Bool) (now : ℕ) (c : Course) → is_working (left c.agenda) ≡ true → Keeps now c → Keeps now (course_stepped ok now c)
keeps_stepped true now c e h = keeps_posted now c _ (keeps_settled now (worked now c) (keeps_worked now c e h))
keeps_stepped false now c e h = keeps_posted now c _ (keeps_failed now _ c)

-- ## time

-- where the answer limit is spent, writers are asked
asks : (now f : ℕ) (a : Agenda) (o : Open) (os : List Open) (l : RunningLimit) → spent_of now (running_at f a (o ∷ os)) ≡ Some l → l.limit ≡ AnswerLimit → answer_runs o.place.group ≡ true
asks now f a o os l e k = grind (arith, spent_runs, spent_here)

answers_order : (g : Group) → answer_runs g ≡ true → order_of g ≡ None → ⊥
answers_order g e f = grind arith

nobody_asked : (now f : ℕ) (x : Option Agenda) (l : RunningLimit) → spent_of now (running_limits f x) ≡ Some l → l.limit ≡ AnswerLimit → order_now (left x) ≡ None → ⊥
nobody_asked now f None l e k i = none_and_some None l refl e
nobody_asked now f (Some a) l e k i = at_list (groups_left a) e i where
  at_list : (os : List Open) → spent_of now (running_at f a os) ≡ Some l → order_now os ≡ None → ⊥
  at_list os e i = grind (arith, none_and_some, answers_order, asks)

all_lost : (now f : ℕ) (x : Option Agenda) (o : Order) → order_now (left x) ≡ Some o → is_decisive o ≡ false → Running Ordered x
    → Running (InTime now f) (option_map (all_say Lost now (waits_now (left x))) x)
all_lost now f None o e d h = tt
all_lost now f (Some a) o e d h = let group = now_group (groups_left a) o e in lost_in_time now a (ap is_orders group) h (ap is_mild group ∙ mild_order o d) f

keeps_lost_to : (now : ℕ) (c : Course) (l : RunningLimit) (x : Option Order) → order_now (left c.agenda) ≡ x → fails_set x ≡ false
    → spent_of now (limits_now c) ≡ Some l → l.limit ≡ AnswerLimit → Running Ordered c.agenda → Keeps now (lost_to x now c)
keeps_lost_to now c l None i d e k h = absurd (nobody_asked now (freeze_limit c) c.agenda l e k i)
keeps_lost_to now c l (Some o) i d e k h = keeps_told o Lost now (waits_now (left c.agenda)) c (all_lost now (freeze_limit c) c.agenda o i d h)

keeps_lost : (b : Bool) (now : ℕ) (c : Course) (l : RunningLimit) → fails_set (order_now (left c.agenda)) ≡ b → spent_of now (limits_now c) ≡ Some l
    → l.limit ≡ AnswerLimit → Running Ordered c.agenda → Keeps now (lost_decided b (lost now c))
keeps_lost true now c l d e k h = keeps_failed now _ (lost now c)
keeps_lost false now c l d e k h = keeps_settled now (lost now c) (keeps_lost_to now c l (order_now (left c.agenda)) refl d e k h)

keeps_treated_as : (x : Limit) (now : ℕ) (c : Course) (l : RunningLimit) → spent_of now (limits_now c) ≡ Some l → l.limit ≡ x → Running Ordered c.agenda → Keeps now (treated_as x now c)
keeps_treated_as HoldLimit now c l e k h = keeps_failed now _ c
keeps_treated_as FreezeLimit now c l e k h = keeps_failed now _ (lost now c)
keeps_treated_as AnswerLimit now c l e k h = keeps_lost (fails_set (order_now (left c.agenda))) now c l refl e k h

keeps_treated : (o : Option RunningLimit) (now : ℕ) (c : Course) → spent_of now (limits_now c) ≡ o → Running Ordered c.agenda → Keeps now (treated o now c)
keeps_treated None now c e h = grind arith
keeps_treated (Some l) now c e h = keeps_treated_as l.limit now c l e refl h

keeps_timed : (now : ℕ) (c : Course) → Running Ordered c.agenda → Keeps now (course_timed now c)
keeps_timed now c h = keeps_posted now c _ (keeps_treated (spent_of now (limits_now c)) now c refl h)

-- ## an agenda begins

new_agenda : (k : Kind) (ms : List Member) (vs : List ℕ) (now f : ℕ) (os : List Open) → spent_of now (running_at f (unspoken k ms vs now) os) ≡ None
new_agenda k ms vs now f os = grind (arith, none_both, unspent_if, at_once)

keeps_begun : (k : Kind) (ms : List Member) (vs : List ℕ) (now : ℕ) (c : Course) → Keeps now (begun k ms vs now c)
unfolding begun
keeps_begun k ms vs now c =
    keeps_posted now c _ (keeps_settled now (record c { agenda = Some (unspoken k ms vs now) })
    (record { unspent = new_agenda k ms vs now (freeze_limit c) (groups_left (unspoken k ms vs now)); ordered = λ e f. absurd cc }))

-- ## every act

abbrev InTimeNow : State → Type 0
InTimeNow st = Keeps st.clock st.course

followed_in_time : (ran : Bool) (c : Course) (x : State) → Keeps x.clock c → InTimeNow (followed ran c x)
unfolding followed
followed_in_time ran c x h = grind arith

failed_in_time : (o : Option SetRow) (why : VssResult) (x : State) → InTimeNow x → InTimeNow (failed_in o why x)
failed_in_time None why x h = h
failed_in_time (Some r) why x h = keeps_failed x.clock why x.course

module _ (s : Plan) (st : State) (h : InTimeNow st) where
  on_write : (v : ℕ) (w : Write) (mark : Mark) → InTimeNow (write s v w mark st).1
  unfolding write
  on_write v w mark = grind (arith, failed_in_time)

  on_close : (q : Session) (x : State) → InTimeNow (closed q x)
  unfolding closed released
  on_close q x = tt

  on_answer : (w : ℕ) (said : Said) → InTimeNow (answered w said st)
  unfolding answered
  on_answer w said = followed_in_time (runs st) (course_answered w said st.clock st.course) st (keeps_answered w said st.clock st.course h)

  on_tick : (n : ℕ) → InTimeNow (ticked n st)
  unfolding ticked
  on_tick n = grind (arith, followed_in_time, keeps_timed)

  on_step_as : (b : Bool) (g : Option Group) (v : Option ℕ) → is_working (left_now st) ≡ true → InTimeNow (stepped_as b g v st)
  on_step_as true g v e = followed_in_time (runs st) (course_stepped false st.clock st.course) st (keeps_stepped false st.clock st.course e h)
  on_step_as false g v e =
      followed_in_time (runs st) (course_stepped true st.clock st.course) (step_made g v st)
      (subst (λ n. Keeps n (course_stepped true st.clock st.course)) (sym (clock-made g v st)) (keeps_stepped true st.clock st.course e h))

  on_step : (mark : Mark) → is_working (left_now st) ≡ true → InTimeNow (stepped mark st)
  unfolding stepped
  on_step mark e = on_step_as _ _ _ e

  abbrev Next : Event → Mark → Replied → Type 0
  Next event mark x = InTimeNow x.1

  in_time : Covers Next s st
  in_time = record {
    stays = λ lane o mark told e f. h;
    writes = λ lane o v w mark e f. on_write v w mark;
    reverts = λ lane n v k mark e f. grind arith;
    deletes_set = λ lane n c mark e. h;
    deletes_image = λ lane n v k mark e. h;
    ticks = λ lane n mark. on_tick n;
    begins = λ lane n all c mark e ctx. h;
    disables = λ lane w q mark g. h;
    gathers = λ lane q mark g. followed_in_time true _ st (keeps_begun _ _ _ st.clock _);
    names = λ lane w full q explicit mark g named. h;
    starts = λ lane q mark g e. h;
    adds = λ lane v r q mark g e f. h;
    prepares = λ lane q mark g f. followed_in_time true _ st (keeps_begun _ _ _ st.clock _);
    snapshots = λ lane q mark g f. followed_in_time true _ st (keeps_begun _ _ _ st.clock _);
    completes = λ lane q mark g. followed_in_time true _ st (keeps_begun _ _ _ st.clock _);
    aborts = λ lane q mark e. failed_in_time (in_progress st) AsyncCancelled st h;
    ends = λ lane q mark e. on_close q (failed AsyncCancelled st);
    answers = λ w answer mark e. on_answer w (said_of answer);
    steps = λ mark e. on_step mark e;
    idles = λ mark e. on_tick (idle_now st);
  }

  in_time_if : (b : Bool) (act : Act) → enabled s st act.event ≡ b → InTimeNow (after s st act)
  in_time_if true act e = subst InTimeNow (sym (after_enabled s st act e)) (covered Next s st in_time act.event act.mark e)
  in_time_if false act e = subst InTimeNow (sym (after_not_enabled s st act e)) h

in_time_from : (s : Plan) (st : State) (acts : List Act) → InTimeNow st → InTimeNow (fold (after s) st acts)
in_time_from s st [] h = h
in_time_from s st (act ∷ acts) h = in_time_from s (after s st act) acts (in_time_if s st h (enabled s st act.event) act refl)

-- ## nothing is late

-- no limit that runs is spent
pub none_spent : (s : Plan) (so_far : List Act) → Running (InTime (state s so_far).clock (freeze_limit (state s so_far).course)) (state s so_far).course.agenda
none_spent s so_far = in_time_from s (start s) so_far tt

not_late : (now : ℕ) (c : Course) (x : Option Agenda) → Running (InTime now (freeze_limit c)) x → (is_late_in now c x ≡ true → is_due_in now c x ≡ true) → is_late_in now c x ≡ false
not_late now c None h due = refl
not_late now c (Some a) h due = false_from_ne_true _ (λ late. let spends = due_in now c (Some a) (due late) in none_and_some _ spends.one h.unspent spends.is)

pub stands_within_limits : (s : Plan) (so_far : List Act) → StandsWithinLimits s so_far
stands_within_limits s so_far =
    let st = state s so_far in
    subst (λ n. is_late_in n st.course st.course.agenda ≡ false) (omega arith) (not_late st.clock st.course st.course.agenda (none_spent s so_far) (late_is_due s so_far st.clock))

-- ## No order is open for more than the answer limit.

informing_runs : (g : Group) → informs_writers g ≡ true → answer_runs g ≡ true
informing_runs g e = grind arith

not_overdue_at : (now f : ℕ) (a : Agenda) (os : List Open) → spent_of now (running_at f a os) ≡ None → is_overdue_at now a os ≡ false
not_overdue_at now f a os e = grind (arith, false_from_ne_true, and_parts, passed_spent, answer_since, none_second, true_not_false, is_unspent, informing_runs)

pub orders_end : (s : Plan) (so_far : List Act) → OrdersEnd s so_far
orders_end s so_far = grind (arith, not_overdue_at, none_spent s so_far)

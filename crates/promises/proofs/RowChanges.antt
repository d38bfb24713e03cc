-- A writer's row changes by what is said, by its set's failure, by `gather` and by `end`, and by nothing else.
use Rattle.std.proofs.Common.{◌≡◌, ◌∙◌, ℕ, ◌+◌, List, [], ◌∷◌, Option, Some, None, refl, Bool, true, false, ap, sym, subst, inl, inr, map, arith}
use Rattle.std.specs.Prelude.{◌&&◌, is_some, find, ◌==◌, if◌then◌else◌}
use Rattle.promises.proofs.Words.{SetOutcome, VssResult, InsufficientStorage, AsyncCancelled, AsyncPending, WriterState, Order, Said, WriterRow, is_failed}
use Rattle.promises.proofs.Words.{stable_again, row_after, row_aborted, row_ended, row_gathered, one_more, Mark, Clean, Fault, FaultAfter, Write, said_of}
use Rattle.promises.proofs.Words.{Group, Gather, Prepare, Snapshot, Complete, Open, open_group, open_order, next_volume, order_of, order_if, order_now}
use Rattle.promises.proofs.Words.{is_among, is_orders, is_working, waits_now, Running as RunningLimit, spent_of, Session, Op, Plan, Event, State, SetRow, Kept}
use Rattle.promises.proofs.Words.{is_running, in_progress, left_now, row_of, row_settled, followed, runs, failed_in, failed, Reply, Fine, Coded, Deleted, Idled}
use Rattle.promises.proofs.Words.{line_ticks, Act, order_of_writer, answer_reply, step_reply, idle_now, after, state, is_refused, is_late, is_fault}
use Rattle.promises.proofs.Words.{loses_own_image, gives_cause, NumberedFrom, has_failed, IsFailed, outcome_is_running, orderly, running_found, row_running}
use Rattle.promises.proofs.Words.{row_fails, set_fails, row_said, at_rest, row_told, row_asked, row_over, speaks, said_by, asks_anew, ends_session, row_by}
use Rattle.promises.proofs.Words.{row_next, RowsChange, Covers, told_covered, and_parts, false_from_ne_true, Lost, Course, posted, released, row_if, limits_now}
use Rattle.promises.proofs.Words.{lost_at, is_member, answered as course_answered, stepped as course_stepped, timed as course_timed, Line, Provider, Idle}
use Rattle.promises.proofs.Words.{set_loses_image, Replied, cleared, with_room_if, put, write, reverted_as, disable, start_set, closed, end_session, step_made}
use Rattle.promises.proofs.Words.{stepped_as, ticked, later, is_flush, is_failed_step, number_is, or-false, true_not_false}
use Rattle.vss_names.specs.declared.set_outcome.SetOutcome.TheVariants.{Running as RunningSet}
use Rattle.writer_calls.specs.declared.answer.Answer.{Answer}
use Rattle.set_agenda.specs.Course.{failed as course_failed}
use Rattle.scenario.specs.declared.op.Op.TheVariants as op
use Rattle.vss_model.specs.declared.event.Event.TheVariants.{Answer as AnswerEvent}
use Rattle.vss_model.proofs.StateForm.{answered, stepped}
use Rattle.promises.proofs.CourseRows.{Becomes, as_it_is, and_told, same_rows, rows_map_are, rise_failed, stay_begun, say_to, refuses, comes_answered, Comes}
use Rattle.promises.proofs.CourseRows.{stay_stepped, rise_stepped, lost_by, PassesOrFails, over_timed, IsBusy, busy_step, busy_set, course_followed}
use Rattle.promises.proofs.Failing.{fails_for_cause, same_consent, same_veto, refused_fails, falls, followed_sets, failed_fails, write_fails}
use Rattle.promises.proofs.Limits.{timed_fails}
use Rattle.promises.proofs.Times.{late_is_due}

module _ (s : Plan) (so_far : List Act) where
  abbrev st : State
  st = state s so_far

  abbrev rows : List WriterRow
  rows = st.course.rows

  -- the set in progress has failed afterwards
  abbrev falls_in : State → Bool
  falls_in x = set_fails (in_progress st) x

  abbrev Says : Type 0
  Says = ℕ → WriterRow → WriterRow

  -- said, and told of the failure where the set fails
  abbrev Told : Says → State → Type 0
  Told say x = Becomes (λ w r. row_if (falls_in x && is_member st.course.members w) row_aborted (say w r)) rows x.course.rows

  told_none : (say : Says) (x : State) → falls_in x ≡ false → Becomes say rows x.course.rows → Told say x
  told_none say x e h w r f = h w r f ∙ ap (λ b. Some (row_if (b && is_member st.course.members w) row_aborted (say w r))) (sym e)

  told_all : (say : Says) (x : State) → falls_in x ≡ true → Becomes (and_told st.course.members say) rows x.course.rows → Told say x
  told_all say x e h w r f = h w r f ∙ ap (λ b. Some (row_if (b && is_member st.course.members w) row_aborted (say w r))) (sym e)

  is_busy : IsBusy st.course.agenda → is_some (in_progress st) ≡ true
  is_busy b = busy_set st.course.agenda st.session st.course.outcome (in_progress st) b (orderly s so_far).agenda (orderly s so_far).session

  with_set : (o : Option SetRow) (X : Type 0) → is_some o ≡ true → ((r : SetRow) → o ≡ Some r → X) → X
  with_set o x1 e f = grind arith

  -- ## whether the set fails

  falls_true : (x : State) (r : SetRow) → in_progress st ≡ Some r → IsFailed x r.number → falls_in x ≡ true
  falls_true x r e f = ap (λ o. set_fails o x) e ∙ ap row_fails f.is ∙ f.failed

  cause_of : (event : Event) (mark : Mark) (x : State) (o : Option SetRow) → in_progress st ≡ o → after s st (record { event = event; mark = mark }) ≡ x
      → set_fails o x ≡ true → gives_cause s st event mark ≡ true
  cause_of event mark x None e h f = absurd cc
  cause_of event mark x (Some r) e h f = by_row (row_of x r.number) refl f where
    by_row : (q : Option SetRow) → row_of x r.number ≡ q → row_fails q ≡ true → gives_cause s st event mark ≡ true
    by_row None g i = absurd cc
    by_row (Some q) g i = (fails_for_cause s so_far (record { event = event; mark = mark })).only r q e (ap (λ (y : State). row_of y r.number) h ∙ g) i

  no_cause : (event : Event) (mark : Mark) (x : State) → after s st (record { event = event; mark = mark }) ≡ x → gives_cause s st event mark ≡ false → falls_in x ≡ false
  no_cause event mark x h e = grind (arith, false_from_ne_true, true_not_false, cause_of)

  running_calm : (o : SetOutcome) → is_running o ≡ true → has_failed o ≡ false
  running_calm o e = grind arith

  calm_at : (x : State) (o : Option SetRow) → in_progress st ≡ o → x.sets ≡ st.sets → set_fails o x ≡ false
  calm_at x None e f = refl
  calm_at x (Some r) e f =
      ap row_fails (ap (find (λ (q : SetRow). q.number == r.number)) f ∙ row_running 1 st.sets r (orderly s so_far).numbered e) ∙ running_calm r.result (running_found st.sets r e)

  -- the sets are as they were
  calm_sets : (x : State) → x.sets ≡ st.sets → falls_in x ≡ false
  calm_sets x f = calm_at x (in_progress st) refl f

  same_sets : (x : State) → x.sets ≡ st.sets → Becomes as_it_is rows x.course.rows → Told as_it_is x
  same_sets x f h = told_none as_it_is x (calm_sets x f) h

  quiet_course : (say : Says) (event : Event) (mark : Mark) (ran : Bool) (c : Course) (x : State) → gives_cause s st event mark ≡ false
      → Becomes say rows c.rows → after s st (record { event = event; mark = mark }) ≡ followed ran c x → Told say (followed ran c x)
  quiet_course say event mark ran c x e h i = told_none say (followed ran c x) (no_cause event mark (followed ran c x) i e)
      (subst (λ (d : Course). Becomes say rows d.rows) (sym (course_followed ran c x)) h)

  loud_course : (say : Says) (ran : Bool) (c : Course) (x : State) (r : SetRow) → in_progress st ≡ Some r → x.sets ≡ st.sets → x.course ≡ st.course
      → has_failed c.outcome ≡ true → Becomes (and_told st.course.members say) rows c.rows → Told say (followed ran c x)
  loud_course say ran c x r e sets course failing h =
      let num = (orderly s so_far).numbered in
      let run = outcome_is_running s so_far r e in
      let fallen : IsFailed (followed ran c x) r.number =
      falls s st r e num run (followed ran c x) c.outcome
      (followed_sets s st r e num run ran c x (ap (λ (d : Course). d.outcome) course ∙ run) failing ∙ ap (map (row_settled c.outcome)) sets) failing in
      told_all say (followed ran c x) (falls_true (followed ran c x) r e fallen) (subst (λ (d : Course). Becomes (and_told st.course.members say) rows d.rows) (sym (course_followed ran c x)) h)

  -- ## the set in progress fails at once

  failed_rows : (o : Option SetRow) (why : VssResult) (x : State) → x.course ≡ st.course → is_some o ≡ true → Becomes (and_told st.course.members as_it_is) rows (failed_in o why x).course.rows
  failed_rows None why x e f = absurd cc
  failed_rows (Some r) why x e f = rise_failed as_it_is why st.course x.course (subst (λ (c : Course). Becomes as_it_is rows c.rows) (sym e) (same_rows rows)) (ap (λ (c : Course). c.members) e)

  by_abort : (o : Option SetRow) (why : VssResult) → in_progress st ≡ o → Told as_it_is (failed_in o why st)
  by_abort None why e = same_sets st refl (same_rows rows)
  by_abort (Some r) why e =
      let num = (orderly s so_far).numbered in
      let run = outcome_is_running s so_far r e in
      let fallen = subst (λ o. IsFailed (failed_in o why st) r.number) e (failed_fails s st r e num run why) in
      told_all as_it_is (failed_in (Some r) why st) (falls_true (failed_in (Some r) why st) r e fallen) (failed_rows (Some r) why st refl refl)

  closed_rows : (q : Session) (x : State) → (closed q x).course.rows ≡ map row_ended x.course.rows
  unfolding closed released
  closed_rows q x = refl

  falls_closed : (q : Session) (x : State) → falls_in (closed q x) ≡ falls_in x
  unfolding closed
  falls_closed q x = grind arith

  -- the session's end comes upon that
  by_end : (q : Session) (x : State) → Told as_it_is x → Becomes (λ w r. row_ended (row_if (falls_in (closed q x) && is_member st.course.members w) row_aborted r)) rows (closed q x).course.rows
  by_end q x h =
      subst (Becomes (λ w r. row_ended (row_if (falls_in (closed q x) && is_member st.course.members w) row_aborted r)) rows) (sym (closed_rows q x))
      (subst (λ b. Becomes (λ w r. row_ended (row_if (b && is_member st.course.members w) row_aborted r)) rows (map row_ended x.course.rows)) (sym (falls_closed q x))
      (rows_map_are row_ended (λ w r. row_if (falls_in x && is_member st.course.members w) row_aborted r) rows x.course.rows h))

  -- ## a write

  course_put : (v : ℕ) (w : Write) (mark : Mark) (x : State) → (put v w mark x).course ≡ x.course
  course_put v w mark x = grind arith

  write_falls : (v : ℕ) (w : Write) (mark : Mark) (r : SetRow) (e : in_progress st ≡ Some r) (num : NumberedFrom 1 st.sets)
      (run : st.course.outcome ≡ RunningSet) → loses_own_image s st v w.block ≡ true
      → IsFailed (put v w mark (with_room_if (loses_own_image s st v w.block) (cleared s v w.block st))) r.number
  unfolding write
  write_falls v w mark r e num run f = write_fails s st r e num run v w mark f

  roomy_rows : (v : ℕ) (w : Write) (mark : Mark) (b : Bool) (o : Option SetRow) → in_progress st ≡ o → loses_own_image s st v w.block ≡ b
      → Told as_it_is (put v w mark (with_room_if b (cleared s v w.block st)))
  roomy_rows v w mark false o e f = grind (arith, same_sets, course_put, same_rows)
  roomy_rows v w mark true None e f = absurd (true_not_false (loses_own_image s st v w.block) f (ap (λ o. set_loses_image o st.volumes (cleared s v w.block st).volumes) e))
  roomy_rows v w mark true (Some r) e f =
      let num = (orderly s so_far).numbered in
      let run = outcome_is_running s so_far r e in
      let x : State = put v w mark (with_room_if true (cleared s v w.block st)) in
      let fallen : IsFailed x r.number = subst (λ b. IsFailed (put v w mark (with_room_if b (cleared s v w.block st))) r.number) f (write_falls v w mark r e num run f) in
      told_all as_it_is x (falls_true x r e fallen)
      (subst (λ (c : Course). Becomes (and_told st.course.members as_it_is) rows c.rows)
      (sym (course_put v w mark (with_room_if true (cleared s v w.block st))))
      (failed_rows (in_progress st) InsufficientStorage (cleared s v w.block st) refl (ap is_some e)))

  write_rows : (v : ℕ) (w : Write) (mark : Mark) → Told as_it_is (write s v w mark st).1
  unfolding write
  write_rows v w mark = roomy_rows v w mark (loses_own_image s st v w.block) (in_progress st) refl refl

  -- ## answers

  refused_is : (o : Option Order) (answer : Answer) → is_refused o answer ≡ refuses o (said_of answer)
  refused_is o answer = grind (arith, same_consent, same_veto)

  abbrev says_answer : ℕ → Answer → Says
  says_answer w answer = say_to (order_of_writer st w) (said_of answer) (w ∷ [])

  answer_rows : (w : ℕ) (answer : Answer) (mark : Mark) → after s st (record { event = AnswerEvent w answer; mark = mark }) ≡ answered w (said_of answer) st
      → Told (says_answer w answer) (answered w (said_of answer) st)
  unfolding answered
  answer_rows w answer mark i = by_refusal (refuses (order_of_writer st w) (said_of answer)) refl (comes_answered w (said_of answer) st.clock st.course) where
    by_refusal : (b : Bool) → refuses (order_of_writer st w) (said_of answer) ≡ b
        → Comes (says_answer w answer) (refuses (order_of_writer st w) (said_of answer)) st.course (course_answered w (said_of answer) st.clock st.course)
        → Told (says_answer w answer) (followed (runs st) (course_answered w (said_of answer) st.clock st.course) st)
    by_refusal true e h =
        with_set (in_progress st) (Told (says_answer w answer) (followed (runs st) (course_answered w (said_of answer) st.clock st.course) st))
        (is_busy (grind (arith, and_parts)))
        (λ r f. loud_course (says_answer w answer) (runs st) (course_answered w (said_of answer) st.clock st.course) st r f refl refl
        (refused_fails w answer st.clock st.course (refused_is (order_of_writer st w) answer ∙ e))
        (subst (λ c. Comes (says_answer w answer) c st.course (course_answered w (said_of answer) st.clock st.course)) e h))
    by_refusal false e h =
        quiet_course (says_answer w answer) (AnswerEvent w answer) mark (runs st) (course_answered w (said_of answer) st.clock st.course) st (refused_is (order_of_writer st w) answer ∙ e)
        (subst (λ c. Comes (says_answer w answer) c st.course (course_answered w (said_of answer) st.clock st.course)) e h) i

  -- ## steps

  step_fails : (b : Bool) (mark : Mark) → (b && is_fault mark) ≡ is_failed_step b mark
  step_fails b mark = grind arith

  cause_of_step : (mark : Mark) → gives_cause s st Provider mark ≡ is_failed_step (is_flush (open_group (left_now st))) mark
  cause_of_step mark = ap (λ b. b && is_fault mark) (grind arith) ∙ step_fails (is_flush (open_group (left_now st))) mark

  outcome_stepped : has_failed (course_stepped false st.clock st.course).outcome ≡ true
  unfolding posted course_failed
  outcome_stepped = refl

  step_rows_as : (b : Bool) (mark : Mark) → is_working (left_now st) ≡ true → gives_cause s st Provider mark ≡ b
      → after s st (record { event = Provider; mark = mark }) ≡ stepped_as b (open_group (left_now st)) (next_volume (left_now st)) st
      → Told as_it_is (stepped_as b (open_group (left_now st)) (next_volume (left_now st)) st)
  step_rows_as true mark on e i =
      with_set (in_progress st) (Told as_it_is (stepped_as true (open_group (left_now st)) (next_volume (left_now st)) st)) (is_busy (busy_step st.course.agenda on))
      (λ r f. loud_course as_it_is (runs st) (course_stepped false st.clock st.course) st r f refl refl outcome_stepped (rise_stepped st.clock st.course))
  step_rows_as false mark on e i = quiet_course as_it_is Provider mark (runs st) (course_stepped true st.clock st.course)
      (step_made (open_group (left_now st)) (next_volume (left_now st)) st) e (stay_stepped st.clock st.course) i

  step_rows : (mark : Mark) → is_working (left_now st) ≡ true → after s st (record { event = Provider; mark = mark }) ≡ stepped mark st → Told as_it_is (stepped mark st)
  unfolding stepped
  step_rows mark on i = step_rows_as (is_failed_step (is_flush (open_group (left_now st))) mark) mark on (cause_of_step mark) i

  -- ## time

  time_passes : (event : Event) (mark : Mark) (n : ℕ) (x : State) → gives_cause s st event mark ≡ is_late st n → after s st (record { event = event; mark = mark }) ≡ x
      → (has_failed st.course.outcome ≡ false → has_failed (course_timed (st.clock + n) st.course).outcome ≡ false) → falls_in x ≡ false
  time_passes event mark n x cause i calm = grind (arith, false_from_ne_true, with_set, true_not_false, timed_fails, late_is_due, cause_of, outcome_is_running)

  -- those are lost that a limit loses which is spent then
  abbrev spends : ℕ → Says
  spends n = lost_by (spent_of (st.clock + n) (limits_now st.course)) st.course

  time_rows : (event : Event) (mark : Mark) (n : ℕ) → gives_cause s st event mark ≡ is_late st n → after s st (record { event = event; mark = mark }) ≡ ticked n st → Told (spends n) (ticked n st)
  unfolding ticked
  time_rows event mark n cause i = by_result (over_timed (st.clock + n) st.course) where
    by_result : PassesOrFails (spends n) st.course (course_timed (st.clock + n) st.course) → Told (spends n) (followed (runs st) (course_timed (st.clock + n) st.course) (later n st))
    by_result (inl h) =
        told_none (spends n) (followed (runs st) (course_timed (st.clock + n) st.course) (later n st))
        (time_passes event mark n (followed (runs st) (course_timed (st.clock + n) st.course) (later n st)) cause i h.calm)
        (subst (λ (d : Course). Becomes (spends n) rows d.rows) (sym (course_followed (runs st) (course_timed (st.clock + n) st.course) (later n st))) h.stay)
    by_result (inr h) =
        with_set (in_progress st) (Told (spends n) (followed (runs st) (course_timed (st.clock + n) st.course) (later n st))) (is_busy h.busy)
        (λ r f. loud_course (spends n) (runs st) (course_timed (st.clock + n) st.course) (later n st) r f refl refl h.failed h.rise)

  -- ## in the words of the promise

  rests : (x : WriterState) → stable_again x ≡ at_rest x
  rests x = grind arith

  over_is : (r : WriterRow) → row_ended r ≡ row_over r
  over_is r = ap (λ x. record r { state = x }) (rests r.state)

  told_is : (r : WriterRow) → row_aborted r ≡ row_told r
  told_is r = ap (λ x. if is_failed r.state then r else record r { state = x; aborts = one_more r.aborts }) (rests r.state)

  told_by : (b : Bool) (r : WriterRow) → row_if b row_aborted r ≡ row_by b row_told r
  told_by b r = grind (arith, told_is)

  said_is : (o : Order) (said : Said) (r : WriterRow) → row_after o said r ≡ row_said (Some o) said r
  said_is o said r = grind arith

  nothing_said : (b : Bool) (said : Said) (r : WriterRow) → r ≡ row_by b (row_said None said) r
  nothing_said b said r = grind arith

  -- whoever is lost has the open order
  lost_said : (l : Option RunningLimit) (w : ℕ) (r : WriterRow)
      → lost_by l st.course w r ≡ row_by (is_among w (lost_at l (order_now (left_now st)) (waits_now (left_now st)))) (row_said (order_of_writer st w) Lost) r
  lost_said None w r = refl
  lost_said (Some l) w r = by_list (left_now st) where
    by_test : (p : Order) (b : Bool) → row_if b (row_after p Lost) r ≡ row_by b (row_said (order_if b (Some p)) Lost) r
    by_test p b = grind (arith, said_is)

    by_group : (g : Group) (ws : List ℕ) → say_to (order_of g) Lost ws w r
        ≡ row_by (is_among w (lost_at (Some l) (order_of g) ws)) (row_said (order_if (is_orders g && is_among w ws) (order_of g)) Lost) r
    by_group g ws = grind (arith, by_test)

    by_list : (os : List Open) → say_to (order_now os) Lost (waits_now os) w r ≡ row_by (is_among w (lost_at (Some l) (order_now os) (waits_now os))) (row_said (open_order os w) Lost) r
    by_list os = grind (arith, by_group)

  answer_said : (u w : ℕ) (said : Said) (r : WriterRow) → say_to (order_of_writer st u) said (u ∷ []) w r ≡ row_by (u == w) (row_said (order_of_writer st w) said) r
  answer_said u w said r = own (order_of_writer st u) (u == w) (or-false (u == w)) ∙ same_writer (u == w) refl where
    own : (o : Option Order) (b : Bool) → is_among w (u ∷ []) ≡ b → say_to o said (u ∷ []) w r ≡ row_by b (row_said o said) r
    own o b e = grind (arith, nothing_said, said_is)

    same_writer : (b : Bool) → (u == w) ≡ b → row_by b (row_said (order_of_writer st u) said) r ≡ row_by b (row_said (order_of_writer st w) said) r
    same_writer b e = grind (arith, number_is)

  -- ## every act

  abbrev Next : Event → Mark → Replied → Type 0
  Next event mark x = after s st (record { event = event; mark = mark }) ≡ x.1 → Becomes (row_next st event x.0 x.1) rows x.1.course.rows

  abbrev says_in : Event → Reply → Says
  says_in event told w r = row_by (speaks st event w) (row_said (order_of_writer st w) (said_by event)) (row_by (asks_anew event told) row_asked r)

  in_words : (say : Says) (event : Event) (told : Reply) (x : State) → ((w : ℕ) (r : WriterRow) → say w r ≡ says_in event told w r)
      → ends_session event told ≡ false → Told say x → Becomes (row_next st event told x) rows x.course.rows
  in_words say event told x same ends h w r f = grind (arith, told_by)

  by_line : (lane : ℕ) (o : Op) (told : Reply) (x : State) → line_ticks o ≡ None → asks_anew (Line lane o) told ≡ false
      → ends_session (Line lane o) told ≡ false → Told as_it_is x → Becomes (row_next st (Line lane o) told x) rows x.course.rows
  by_line lane o told x e f g h = in_words as_it_is (Line lane o) told x (λ w r. grind arith) g h

  same_line : (lane : ℕ) (o : Op) (told : Reply) (x : State) → line_ticks o ≡ None → asks_anew (Line lane o) told ≡ false
      → ends_session (Line lane o) told ≡ false → x.sets ≡ st.sets → x.course ≡ st.course → Becomes (row_next st (Line lane o) told x) rows x.course.rows
  same_line lane o told x e f g i j = grind (arith, by_line, same_sets, same_rows)

  on_revert : (lane n v : ℕ) (k : Kept) (mark : Mark) → Next (Line lane (op.Revert n v)) mark (reverted_as s v k mark st)
  on_revert lane n v k Clean i = same_line lane (op.Revert n v) (reverted_as s v k Clean st).0 _ refl refl refl refl refl
  on_revert lane n v k Fault i = same_line lane (op.Revert n v) (reverted_as s v k Fault st).0 _ refl refl refl refl refl
  on_revert lane n v k (FaultAfter j) i = same_line lane (op.Revert n v) (reverted_as s v k (FaultAfter j) st).0 _ refl refl refl refl refl

  over_by : (b c : Bool) (r : WriterRow) → row_ended (row_if b row_aborted r) ≡ row_over (row_by b row_told r)
  over_by b c r = over_is (row_if b row_aborted r) ∙ ap row_over (told_by b r)

  on_end : (lane : ℕ) (q : Session) (mark : Mark) → Next (Line lane op.End) mark (end_session q st)
  on_end lane q mark i w r f =
      by_end q (failed AsyncCancelled st) (by_abort (in_progress st) AsyncCancelled refl) w r f
      ∙ ap Some (over_by (falls_in (closed q (failed AsyncCancelled st)) && is_member st.course.members w) true r)

  changes : Covers Next s st
  changes = record {
    stays = λ lane o mark told e f i. same_line lane o told st e (grind arith) (grind arith) refl refl;
    writes = λ lane o v w mark e f i. grind (arith, by_line, write_rows);
    reverts = λ lane n v k mark e f i. on_revert lane n v k mark i;
    deletes_set = λ lane n c mark e i. same_line lane (op.DeleteSet n) (Deleted c) _ refl refl refl refl refl;
    deletes_image = λ lane n v k mark e i. same_line lane (op.DeleteImage n v) (Deleted 1) _ refl refl refl refl refl;
    ticks = λ lane n mark i. in_words (spends n) (Line lane (op.Tick n)) Fine _ (λ w r. lost_said _ w r) refl (time_rows (Line lane (op.Tick n)) mark n refl i);
    begins = λ lane n all c mark e ctx i. same_line lane (op.Begin n all) Fine _ refl refl refl refl refl;
    disables = λ lane w q mark g i. by_line lane (op.Disable w) Fine (disable w st).1 refl refl refl (same_sets (disable w st).1 refl (same_rows rows));
    gathers = λ lane q mark g i. in_words (λ w r. row_gathered r) (Line lane op.Gather) (Coded AsyncPending) _ (λ w r. refl) refl
        (quiet_course (λ w r. row_gathered r) (Line lane op.Gather) mark true _ st refl
        (stay_begun (λ w r. row_gathered r) Gather _ _ st.clock st.course _ (rows_map_are row_gathered as_it_is rows rows (same_rows rows))) i);
    names = λ lane w full q explicit mark g named i. same_line lane (op.Component w full) Fine _ refl refl refl refl refl;
    starts = λ lane q mark g e i. by_line lane op.Start (start_set q st).0 _ refl refl refl (told_none as_it_is _ (no_cause (Line lane op.Start) mark _ i refl) (same_rows rows));
    adds = λ lane v r q mark g e f i. by_line lane (op.Add v) Fine _ refl refl refl (told_none as_it_is _ (no_cause (Line lane (op.Add v)) mark _ i refl) (same_rows rows));
    prepares = λ lane q mark g f i. by_line lane op.Prepare (Coded AsyncPending) _ refl refl refl
        (quiet_course as_it_is (Line lane op.Prepare) mark true _ st refl (stay_begun as_it_is Prepare _ _ st.clock st.course _ (same_rows rows)) i);
    snapshots = λ lane q mark g f i. by_line lane op.Snapshot (Coded AsyncPending) _ refl refl refl
        (quiet_course as_it_is (Line lane op.Snapshot) mark true _ st refl (stay_begun as_it_is Snapshot _ _ st.clock st.course _ (same_rows rows)) i);
    completes = λ lane q mark g i. by_line lane op.Complete (Coded AsyncPending) _ refl refl refl
        (quiet_course as_it_is (Line lane op.Complete) mark true _ st refl (stay_begun as_it_is Complete _ _ st.clock st.course _ (same_rows rows)) i);
    aborts = λ lane q mark e i. by_line lane op.Abort Fine _ refl refl refl (by_abort (in_progress st) AsyncCancelled refl);
    ends = λ lane q mark e i. on_end lane q mark i;
    answers = λ w answer mark e i. in_words (says_answer w answer) (AnswerEvent w answer) (answer_reply (order_of_writer st w) answer) _
        (λ u r. answer_said w u (said_of answer) r) refl (answer_rows w answer mark i);
    steps = λ mark e i. in_words as_it_is Provider (step_reply (open_group (left_now st)) (next_volume (left_now st)) mark) _ (λ w r. refl) refl (step_rows mark e i);
    idles = λ mark e i. in_words (spends (idle_now st)) Idle (Idled (idle_now st)) _ (λ w r. lost_said _ w r) refl (time_rows Idle mark (idle_now st) refl i);
  }

  pub rows_change : (act : Act) → RowsChange s so_far act
  rows_change act w r on e = told_covered Next s st changes act on refl w r e

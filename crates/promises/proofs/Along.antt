-- The rule of snapshots: a fact of a running snapshot agenda that holds where it begins, and is kept by what is said, holds in every
-- state, and beside it the deeds since the `snapshot` line are those of the log; and a set completes only where such an agenda,
-- with what the last act tells, has no group left.
use Rattle.std.proofs.Common.{◌≡◌, ◌∙◌, ℕ, ◌+◌, ◌==◌, List, [], ◌∷◌, ◌++◌, ◌⊎◌, Option, Some, None, refl, Bool, true, false, ap, sym, subst, inl, inr, map}
use Rattle.std.proofs.Common.{fold, arith}
use Rattle.std.specs.Prelude.{is_some, ◌&&◌, not, if◌then◌else◌, length}
use Rattle.promises.proofs.Words.{append_nothing, Order, SetOutcome, VssResult, InsufficientStorage, AsyncPending, AsyncCancelled, Said, is_ok, Mark}
use Rattle.promises.proofs.Words.{Write, dropped, said_of, Group, Kind, Gather, Prepare, Snapshot, Complete, Member, Agenda, order_of, groups_left, left}
use Rattle.promises.proofs.Words.{open_group, next_volume, open_place, open_order, order_now, is_done, is_working, all_say, spent_of, takers, Session, opened}
use Rattle.promises.proofs.Words.{Op, begins_agenda, Plan, Event, Reply, Fine, Coded, Deleted, Idled, Stepped, State, SetRow, start}
use Rattle.promises.proofs.Words.{is_complete, in_progress, row_of, row_changed, left_now, Act, enabled, order_of_writer, answer_reply, step_reply, idle_now}
use Rattle.promises.proofs.Words.{happens, reply_is, reply, after, state, is_pending, Settles, outcome_is_running, true_not_false, orderly, has_complete}
use Rattle.promises.proofs.Words.{running_incomplete, incomplete_map, incomplete_append, complete_found, Deed, Spoke, Made, deeds_lost, deeds_of, deeds_if}
use Rattle.promises.proofs.Words.{is_snapshot_line, way_after, way_from, way, Covers, covered, after_enabled, after_not_enabled, not_complete, Course, posted}
use Rattle.promises.proofs.Words.{settled, begun, gathered, prepared, snapshot_begun, completing, change_at, stepped as course_stepped, limits_now, fails_set}
use Rattle.promises.proofs.Words.{released, Line, Provider, Idle, runs, followed, failed_in, failed, Replied, cleared, with_room_if, write}
use Rattle.promises.proofs.Words.{reverted_as, start_set, change_set, disable, closed, step_made, stepped_as, ticked, later, set_loses_image, new_set}
use Rattle.promises.proofs.Words.{new_number, with_volume, volumes_of, is_disabled, selected, is_flush, is_failed_step, line_ticks, lost_after}
use Rattle.promises.proofs.Words.{lost_order, lost_order_if, unspoken, changed_number, changed_result, begun_incomplete}
use Rattle.vss_names.specs.declared.set_outcome.SetOutcome.TheVariants.{Running as RunningSet}
use Rattle.writer_calls.specs.declared.answer.Answer.{Answer}
use Rattle.set_agenda.specs.Course.{failed as course_failed}
use Rattle.scenario.specs.declared.op.Op.TheVariants as op
use Rattle.vss_model.specs.declared.event.Event.TheVariants.{Answer as AnswerEvent}
use Rattle.vss_model.proofs.StateForm.{answered, stepped}
use Rattle.vss_model.specs.Effects.{lost}
use Rattle.vss_model.proofs.Rules.{Running}
use Rattle.promises.proofs.CourseRows.{course_followed}
use Rattle.promises.proofs.Moves.{clock-answered, clock-stepped_as, clock-ticked, write_ticks}
use Rattle.promises.proofs.OpenGroup.{done_followed, incomplete_closed, incomplete_failed, incomplete_made, incomplete_revert, incomplete_write}
use Rattle.promises.proofs.Speaks.{deed_in, said_at, Speaks, Grows, made_now, lost_told, grows_answered, grows_stepped, grows_timed}
use Rattle.promises.proofs.Stages.{deeds_append}

pub record IsKeptAlong (G : Agenda → Type 0) : Type 0 where
  pub begins : (ms : List Member) (vs : List ℕ) (now : ℕ) → G (unspoken Snapshot ms vs now)
  pub says : (said : Said) (now : ℕ) (ws : List ℕ) (a : Agenda) → a.kind ≡ Snapshot → Speaks a ws
      → (fails_set (order_of (open_place (groups_left a)).group) && not (is_ok said)) ≡ false → G a → G (all_say said now ws a)

-- the last stand of a snapshot agenda: what was said is the whole way
pub record IsLast (G : Agenda → Type 0) (so_far : List Deed) (running : Option Agenda) : Type 0 where
  pub before : Agenda
  pub is : running ≡ Some before
  pub kind : before.kind ≡ Snapshot
  pub last : Agenda
  pub last_kind : last.kind ≡ Snapshot
  pub members : last.members ≡ before.members
  pub volumes : last.volumes ≡ before.volumes
  pub done : is_done (groups_left last) ≡ true
  pub deeds_are : map deed_in last.log ≡ so_far
  pub good : G last

module _ (G : Agenda → Type 0) (k : IsKeptAlong G) where
  abbrev pub Tells : List Deed → Agenda → Type 0
  Tells so_far a = a.kind ≡ Snapshot → (map deed_in a.log ≡ so_far) × G a

  -- ## one call

  tells_on : (so_far news : List Deed) (said : Said) (now : ℕ) (ws : List ℕ) (a : Agenda) → Speaks a ws → (fails_set (order_of (open_place (groups_left a)).group) && not (is_ok said)) ≡ false
      → news ≡ map deed_in (said_at (groups_left a) said now ws) → Tells so_far a → Tells (so_far ++ news) (all_say said now ws a)
  tells_on so_far news said now ws a who mild told h e = grind (arith, deeds_append)

  tells_rests : (so_far news : List Deed) (a : Agenda) → news ≡ [] → Tells so_far a → Tells (so_far ++ news) a
  tells_rests so_far news a e h f = ((h f).0 ∙ sym (append_nothing so_far) ∙ ap (λ ds. so_far ++ ds) (sym e), (h f).1)

  grow : (so_far news : List Deed) (a : Option Agenda) (o : SetOutcome) (b : Option Agenda) (p : SetOutcome) → Grows a o b p news → Running (Tells so_far) a → Running (Tells (so_far ++ news)) b
  grow so_far news a o b p c h = grind (arith, tells_rests, tells_on)

  settled_last : (done : Bool) (so_far : List Deed) (before a : Agenda) (running : Option Agenda) (o : SetOutcome) (b : Option Agenda) (p : SetOutcome)
      → running ≡ Some before → a.kind ≡ before.kind → a.members ≡ before.members → a.volumes ≡ before.volumes
      → (done ≡ true → is_done (groups_left a) ≡ true) → o ≡ RunningSet → is_complete p ≡ true → Settles done a o b p → Tells so_far a → IsLast G so_far running
  settled_last done so_far before a running o b p r i m v d e f s h = grind arith

  completes : (so_far news : List Deed) (a : Option Agenda) (o : SetOutcome) (b : Option Agenda) (p : SetOutcome) → o ≡ RunningSet → is_complete p ≡ true
      → Grows a o b p news → Running (Tells so_far) a → IsLast G (so_far ++ news) a
  completes so_far news None o b p e f c h = absurd (true_not_false (is_complete p) f (ap is_complete (c.1 ∙ e)))
  completes so_far news (Some a) o b p e f (inl c) h = absurd (true_not_false (is_complete p) f (not_complete p c.failed))
  completes so_far news (Some a) o b p e f (inr (inl c)) h =
      settled_last c.done (so_far ++ news) a a (Some a) o b p refl refl refl refl c.is_done e f c.settles (tells_rests so_far news a c.told h)
  completes so_far news (Some a) o b p e f (inr (inr c)) h =
      settled_last (is_done (groups_left (all_say c.said c.now c.ws a))) (so_far ++ news) a (all_say c.said c.now c.ws a) (Some a) o b p refl refl refl refl (λ d. d) e f c.settles
      (tells_on so_far news c.said c.now c.ws a c.who c.mild c.told h)

  -- ## an agenda begins

  on_begun : (j : Kind) (ms : List Member) (vs : List ℕ) (now : ℕ) (so_far : List Deed) (c : Course) → (j ≡ Snapshot → so_far ≡ []) → Running (Tells so_far) (begun j ms vs now c).agenda
  unfolding begun posted settled
  on_begun j ms vs now so_far c e = grind arith

  -- ## the state

  abbrev Stands : List Deed → State → Type 0
  Stands so_far st = Running (Tells so_far) st.course.agenda

  on_followed : (so_far : List Deed) (ran : Bool) (c : Course) (st : State) → Running (Tells so_far) c.agenda → Stands so_far (followed ran c st)
  on_followed so_far ran c st h = subst (λ (d : Course). Running (Tells so_far) d.agenda) (sym (course_followed ran c st)) h

  on_failed_in : (so_far : List Deed) (o : Option SetRow) (why : VssResult) (st : State) → Stands so_far st → Stands so_far (failed_in o why st)
  unfolding course_failed
  on_failed_in so_far o why st h = grind arith

  on_room : (so_far : List Deed) (b : Bool) (x : State) → Stands so_far x → Stands so_far (with_room_if b x)
  on_room so_far true x h = on_failed_in so_far (in_progress x) InsufficientStorage x h
  on_room so_far false x h = h

  on_write : (so_far : List Deed) (s : Plan) (v : ℕ) (w : Write) (mark : Mark) (st : State) → Stands so_far st → Stands so_far (write s v w mark st).1
  unfolding write
  on_write so_far s v w mark st h = grind (arith, on_room so_far (set_loses_image (in_progress st) st.volumes (cleared s v w.block st).volumes) (cleared s v w.block st) h)

  on_closes : (so_far : List Deed) (q : Session) (st : State) → Stands so_far (closed q st)
  unfolding closed released
  on_closes so_far q st = tt

  -- ## what an act tells

  -- the way after an enabled act
  abbrev next_way : State → List Deed → Event → Replied → List Deed
  next_way st so_far event x = if is_snapshot_line event && is_pending x.0 then [] else so_far ++ deeds_of st event x.1.clock x.0

  not_pending : (b p : Bool) → (b ≡ true → p ≡ false) → (b && p) ≡ false
  not_pending b p f = grind arith

  first_off : (b p : Bool) → b ≡ false → (b && p) ≡ false
  first_off b p f = grind arith

  no_lost : (st : State) (lane now : ℕ) (o : Op) → line_ticks o ≡ None → deeds_lost now (lost_order st (Line lane o)) (lost st (Line lane o)) ≡ []
  no_lost st lane now o e = ap (λ x. deeds_lost now (lost_order_if (lost_after x st) (order_now (left_now st))) (lost_after x st)) e

  line_way : (so_far xs : List Deed) (b : Bool) → b ≡ false → xs ≡ [] → so_far ≡ (if b then [] else so_far ++ xs)
  line_way so_far xs b e f = grind (arith, append_nothing)

  quiet : (st : State) (so_far : List Deed) (lane : ℕ) (o : Op) (x : Replied) → line_ticks o ≡ None → (is_snapshot_line (Line lane o) && is_pending x.0) ≡ false
      → Stands so_far x.1 → Stands (next_way st so_far (Line lane o) x) x.1
  quiet st so_far lane o x e f h = grind (arith, line_way, no_lost)

  -- ## every act

  module _ (s : Plan) (st : State) (so_far : List Deed) (h : Stands so_far st) (n : ℕ) where
    abbrev Completes : List Deed → State → Type 0
    Completes ds x = st.course.outcome ≡ RunningSet → has_complete st.sets n ≡ false → (has_complete x.sets n ≡ false) ⊎ IsLast G ds st.course.agenda

    abbrev Next : Event → Mark → Replied → Type 0
    Next event mark x = Stands (next_way st so_far event x) x.1 × Completes (next_way st so_far event x) x.1

    -- a line that tells nothing
    tells_none : (lane : ℕ) (o : Op) (mark : Mark) (told : Reply) (x : State) → line_ticks o ≡ None → (is_snapshot_line (Line lane o) && is_pending told) ≡ false → Stands so_far x
        → (has_complete st.sets n ≡ false → has_complete x.sets n ≡ false) → Next (Line lane o) mark (told, x)
    tells_none lane o mark told x e f t inc = (quiet st so_far lane o (told, x) e f t, λ run i. inl (inc i))

    -- an agenda of another kind begins
    begins_other : (lane : ℕ) (o : Op) (mark : Mark) (c : Course) → is_snapshot_line (Line lane o) ≡ false → line_ticks o ≡ None
        → Running (Tells so_far) c.agenda → (st.course.outcome ≡ RunningSet → is_complete c.outcome ≡ true → ⊥)
        → Next (Line lane o) mark (Coded AsyncPending, followed true c st)
    begins_other lane o mark c e f t d = (
      quiet st so_far lane o (Coded AsyncPending, followed true c st) f (first_off (is_snapshot_line (Line lane o)) (is_pending (Coded AsyncPending)) e) (on_followed so_far true c st t),
      λ run inc. done_followed n _ true c st inc (λ x. absurd (d run x)),
    )

    begins_own : (lane : ℕ) (mark : Mark) (c : Course) → Running (Tells []) c.agenda → (st.course.outcome ≡ RunningSet → is_complete c.outcome ≡ true → ⊥)
        → Next (Line lane op.Snapshot) mark (Coded AsyncPending, followed true c st)
    begins_own lane mark c t d = (on_followed [] true c st t, λ run inc. done_followed n _ true c st inc (λ x. absurd (d run x)))

    line_stays : (lane : ℕ) (o : Op) (mark : Mark) (told : Reply) → line_ticks o ≡ None → (begins_agenda o ≡ true → is_pending told ≡ false) → Next (Line lane o) mark (told, st)
    line_stays lane o mark told e f =
        (quiet st so_far lane o (told, st) e (not_pending (is_snapshot_line (Line lane o)) (is_pending told) (λ b. f (grind arith))) h, λ run inc. inl inc)

    -- time
    on_ticks : (k : ℕ) → Stands (so_far ++ lost_told (st.clock + k) (spent_of (st.clock + k) (limits_now st.course)) (left st.course.agenda)) (ticked k st)
    unfolding ticked
    on_ticks k = on_followed _ (runs st) _ (later k st) (grow so_far _ st.course.agenda st.course.outcome _ _ (grows_timed (st.clock + k) st.course) h)

    done_ticks : (k : ℕ) → Completes (so_far ++ lost_told (st.clock + k) (spent_of (st.clock + k) (limits_now st.course)) (left st.course.agenda)) (ticked k st)
    unfolding ticked
    done_ticks k run inc = done_followed n _ (runs st) _ (later k st) inc (λ d. completes so_far _ st.course.agenda st.course.outcome _ _ run d (grows_timed (st.clock + k) st.course) h)

    ticks_line : (lane k : ℕ) (mark : Mark) → Next (Line lane (op.Tick k)) mark (Fine, ticked k st)
    ticks_line lane k mark = grind (arith, on_ticks, done_ticks, clock-ticked)

    idles : (mark : Mark) (told : Reply) → Next Idle mark (told, ticked (idle_now st) st)
    idles mark told = grind (arith, on_ticks, done_ticks, clock-ticked)

    -- answers
    on_answers : (w : ℕ) (said : Said) (order : Order) → open_order (left st.course.agenda) w ≡ Some order → Stands (so_far ++ Spoke order w said st.clock ∷ []) (answered w said st)
    unfolding answered
    on_answers w said order e = on_followed _ (runs st) _ st (grow so_far _ st.course.agenda st.course.outcome _ _ (grows_answered w order said st.clock st.course e) h)

    done_answers : (w : ℕ) (said : Said) (order : Order) → open_order (left st.course.agenda) w ≡ Some order → Completes (so_far ++ Spoke order w said st.clock ∷ []) (answered w said st)
    unfolding answered
    done_answers w said order e run inc = done_followed n _ (runs st) _ st inc
        (λ d. completes so_far _ st.course.agenda st.course.outcome _ _ run d (grows_answered w order said st.clock st.course e) h)

    answers_at : (o : Option Order) (w : ℕ) (answer : Answer) (mark : Mark) → order_of_writer st w ≡ o → is_some o ≡ true
        → Next (AnswerEvent w answer) mark (answer_reply o answer, answered w (said_of answer) st)
    answers_at o w answer mark e f = grind (arith, clock-answered, on_answers, done_answers)

    -- steps
    step_fails : (now : ℕ) (c : Course) → ((course_stepped false now c).agenda ≡ None) × (is_complete (course_stepped false now c).outcome ≡ false)
    unfolding posted course_failed
    step_fails now c = (refl, refl)

    step_as : (f : Bool) (g : Group) (mark : Mark) → open_group (left_now st) ≡ Some g → is_working (left_now st) ≡ true
        → Next Provider mark (Stepped g (next_volume (left_now st)) f, stepped_as f (Some g) (next_volume (left_now st)) st)
    step_as true g mark e w =
        let c = course_stepped false st.clock st.course in (
          on_followed _ (runs st) c st (subst (Running (Tells (so_far ++ []))) (sym (step_fails st.clock st.course).0) tt),
          λ run inc. done_followed n _ (runs st) c st inc (λ d. absurd (true_not_false (is_complete c.outcome) d (step_fails st.clock st.course).1)),
        )
    step_as false g mark e w =
        let c = course_stepped true st.clock st.course in
        let x = stepped_as false (Some g) (next_volume (left_now st)) st in
        let made : so_far ++ made_now (left_now st) st.clock (open_group (left_now st)) ≡ so_far ++ Made g (next_volume (left_now st)) x.clock ∷ [] =
        ap (λ o. so_far ++ made_now (left_now st) st.clock o) e ∙ ap (λ t. so_far ++ Made g (next_volume (left_now st)) t ∷ []) (sym (clock-stepped_as false (Some g) (next_volume (left_now st)) st)) in (
          subst (λ ds. Stands ds x) made (on_followed _ (runs st) c (step_made (Some g) (next_volume (left_now st)) st) (grow so_far _ st.course.agenda st.course.outcome _ _ (grows_stepped true st.clock st.course w) h)),
          λ run inc. done_followed n _ (runs st) c (step_made (Some g) (next_volume (left_now st)) st) (incomplete_made n (Some g) (next_volume (left_now st)) st inc)
              (λ d. subst (λ ds. IsLast G ds st.course.agenda) made (completes so_far _ st.course.agenda st.course.outcome _ _ run d (grows_stepped true st.clock st.course w) h)),
        )

    step_at : (o : Option Group) (mark : Mark) → open_group (left_now st) ≡ o → is_working (left_now st) ≡ true
        → Next Provider mark (step_reply o (next_volume (left_now st)) mark, stepped_as (is_failed_step (is_flush o) mark) o (next_volume (left_now st)) st)
    step_at None mark e w = absurd (grind arith)
    step_at (Some g) mark e w = step_as (is_failed_step (is_flush (Some g)) mark) g mark e w

    steps : (mark : Mark) → is_working (left_now st) ≡ true → Next Provider mark (step_reply (open_group (left_now st)) (next_volume (left_now st)) mark, stepped mark st)
    unfolding stepped
    steps mark w = step_at (open_group (left_now st)) mark refl w

    all_next : Covers Next s st
    all_next = record {
      stays = λ lane o mark told e f. line_stays lane o mark told e f.agenda;
      writes = λ lane o v w mark e f. tells_none lane o mark (write s v w mark st).0 (write s v w mark st).1 (write_ticks o _ e)
          (first_off (is_snapshot_line (Line lane o)) (is_pending (write s v w mark st).0) (grind arith)) (on_write so_far s v w mark st h)
          (incomplete_write n s v w mark st);
      reverts = λ lane m v x mark e f. tells_none lane (op.Revert m v) mark (reverted_as s v x mark st).0 (reverted_as s v x mark st).1 refl refl
          (grind arith) (incomplete_revert n s v x mark st);
      deletes_set = λ lane m c mark e. tells_none lane (op.DeleteSet m) mark (Deleted c) (record st { volumes = map (dropped m) st.volumes }) refl refl h (λ i. i);
      deletes_image = λ lane m v x mark e. tells_none lane (op.DeleteImage m v) mark (Deleted 1) (record st { volumes = change_at v (dropped x.row.number) st.volumes }) refl refl h (λ i. i);
      ticks = λ lane k mark. ticks_line lane k mark;
      begins = λ lane m all c mark e ctx. tells_none lane (op.Begin m all) mark Fine (record st { session = Some (opened lane c all); explicit = [] }) refl refl h (λ i. i);
      disables = λ lane w q mark g. tells_none lane (op.Disable w) mark Fine (disable w st).1 refl refl h (λ i. i);
      gathers = λ lane q mark g. begins_other lane op.Gather mark (gathered (is_disabled s st) st.clock st.course) refl refl
          (on_begun Gather _ [] st.clock so_far _ (λ x. absurd cc)) (λ run. begun_incomplete Gather _ [] st.clock _ run);
      names = λ lane w full q explicit mark g named. tells_none lane (op.Component w full) mark Fine (record st { explicit = explicit }) refl refl h (λ i. i);
      starts = λ lane q mark g e. tells_none lane op.Start mark (start_set q st).0 (start_set q st).1 refl refl h (incomplete_append st.sets (new_set (new_number st) q.context) n refl);
      adds = λ lane v r q mark g e f. tells_none lane (op.Add v) mark Fine (change_set r.number (with_volume v) st) refl refl h
          (incomplete_map (row_changed r.number (with_volume v)) (λ y. changed_number (y.number == r.number) (with_volume v) y refl)
          (λ y. changed_result (y.number == r.number) (with_volume v) y refl) n st.sets);
      prepares = λ lane q mark g f. begins_other lane op.Prepare mark (prepared (takers (length s.writers) (selected s q st)) st.clock st.course) refl refl
          (on_begun Prepare _ [] st.clock so_far _ (λ x. absurd cc)) (λ run. begun_incomplete Prepare _ [] st.clock _ run);
      snapshots = λ lane q mark g f. begins_own lane mark (snapshot_begun (volumes_of (in_progress st)) st.clock st.course)
          (on_begun Snapshot st.course.members _ st.clock [] st.course (λ x. refl)) (λ run. begun_incomplete Snapshot st.course.members _ st.clock st.course run);
      completes = λ lane q mark g. begins_other lane op.Complete mark (completing st.clock st.course) refl refl
          (on_begun Complete _ [] st.clock so_far _ (λ x. absurd cc)) (λ run. begun_incomplete Complete _ [] st.clock _ run);
      aborts = λ lane q mark e. tells_none lane op.Abort mark Fine (failed AsyncCancelled st) refl refl
          (on_failed_in so_far (in_progress st) AsyncCancelled st h) (incomplete_failed n (in_progress st) AsyncCancelled st);
      ends = λ lane q mark e. tells_none lane op.End mark Fine (closed q (failed AsyncCancelled st)) refl refl (on_closes so_far q (failed AsyncCancelled st))
          (λ i. incomplete_closed n q (failed AsyncCancelled st) (incomplete_failed n (in_progress st) AsyncCancelled st i));
      answers = λ w answer mark e. answers_at (order_of_writer st w) w answer mark refl e;
      steps = λ mark e. steps mark e;
      idles = λ mark e. idles mark (Idled (idle_now st));
    }

    abbrev way_if : Bool → Act → List Deed
    way_if b act = if b && is_snapshot_line act.event && is_pending (reply s st act) then [] else so_far ++ deeds_if b s st act

    next_not : (act : Act) → enabled s st act.event ≡ false → way_after s st so_far act ≡ so_far
    next_not act e = ap (λ b. way_if b act) e ∙ append_nothing so_far

    abbrev pub After : List Deed → State → Type 0
    After ds x = Stands ds x × Completes ds x

    after_by : (b : Bool) (act : Act) → enabled s st act.event ≡ b → After (way_after s st so_far act) (after s st act)
    after_by true act e =
        let A : List Deed → State → Type 0 = λ ds x. After ds x in
        subst (λ ds. A ds (after s st act)) (sym (grind (arith, after_enabled, reply_is)))
        (subst (λ (x : State). A (next_way st so_far act.event (happens s act.event act.mark st)) x) (sym (after_enabled s st act e))
        (covered Next s st all_next act.event act.mark e))
    after_by false act e = grind (arith, next_not, after_not_enabled)

    pub after_act : (act : Act) → After (way_after s st so_far act) (after s st act)
    after_act act = after_by (enabled s st act.event) act refl

  -- ## every list of acts

  along_from : (s : Plan) (st : State) (so_far : List Deed) (acts : List Act) → Stands so_far st → Stands (way_from s st so_far acts) (fold (after s) st acts)
  along_from s st so_far [] h = h
  along_from s st so_far (act ∷ acts) h = along_from s (after s st act) (way_after s st so_far act) acts (after_act s st so_far h 0 act).0

  pub along : (s : Plan) (acts : List Act) → Running (Tells (way s acts)) (state s acts).course.agenda
  along s acts = along_from s (start s) [] acts tt

  way_from-append : (s : Plan) (st : State) (so_far : List Deed) (acts : List Act) (act : Act)
      → way_from s st so_far (acts ++ act ∷ []) ≡ way_after s (fold (after s) st acts) (way_from s st so_far acts) act
  way_from-append s st so_far [] act = refl
  way_from-append s st so_far (x ∷ acts) act = way_from-append s (after s st x) (way_after s st so_far x) acts act

  pub way-append : (s : Plan) (acts : List Act) (act : Act) → way s (acts ++ act ∷ []) ≡ way_after s (state s acts) (way s acts) act
  way-append s acts act = way_from-append s (start s) [] acts act

  pub last_stand : (s : Plan) (so_far : List Act) (act : Act) (r q : SetRow) → in_progress (state s so_far) ≡ Some r
      → row_of (after s (state s so_far) act) r.number ≡ Some q → is_complete q.result ≡ true
      → IsLast G (way s (so_far ++ act ∷ [])) (state s so_far).course.agenda
  last_stand s so_far act r q e f g =
      let st = state s so_far in
      subst (λ ds. IsLast G ds st.course.agenda) (sym (way-append s so_far act))
      (by_cases ((after_act s st (way s so_far) (along s so_far) r.number act).1 (outcome_is_running s so_far r e) (running_incomplete st.sets r (orderly s so_far).numbered e)))
    where
      by_cases : (has_complete (after s (state s so_far) act).sets r.number ≡ false)
          ⊎ IsLast G (way_after s (state s so_far) (way s so_far) act) (state s so_far).course.agenda
          → IsLast G (way_after s (state s so_far) (way s so_far) act) (state s so_far).course.agenda
      by_cases e = grind (arith, true_not_false, complete_found)

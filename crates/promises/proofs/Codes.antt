-- A set that fails has the code of its cause.
use Rattle.std.proofs.Common.{◌≡◌, ◌∙◌, ℕ, ◌+◌, List, [], ◌∷◌, Option, Some, None, refl, Bool, true, false, ap, sym, subst, arith}
use Rattle.std.specs.Prelude.{◌&&◌, not, if◌then◌else◌}
use Rattle.promises.proofs.Words.{next_volume, both_ways, Order, SetOutcome, Failed as FailedSet, VssResult, Timeout, is_ok, Mark, Write, said_of, Group, Limit}
use Rattle.promises.proofs.Words.{Agenda, Open, groups_left, open_group, open_order, is_working, left, Running as RunningLimit, first_hold, running_at}
use Rattle.promises.proofs.Words.{running_limits, spent_of, held_here, frozen_here, IsSpentHere, spent_here, Session, Plan, Event, Line, State, SetRow}
use Rattle.promises.proofs.Words.{in_progress, left_now, followed, runs, failed_in, failed, has_failed, Act, idle_now, state, holds_volumes, held_too_long}
use Rattle.promises.proofs.Words.{frozen_too_long, outcome_is_running, hold_late, freeze_late, set_failure, Rising, late_code_at, late_code_in, late_code}
use Rattle.promises.proofs.Words.{IsAnswerCode, IsCode, FailsByCode, Covers, covered, after_enabled, some_same, none_settled as calm_settled}
use Rattle.promises.proofs.Words.{false_from_ne_true, AsyncCancelled, UnexpectedProviderError, InsufficientStorage, HoldWritesTimeout, WriterNotResponding}
use Rattle.promises.proofs.Words.{Answer as AnswerLimit, Course, posted, settled, told, is_decisive, decided, answered_to, answered as course_answered}
use Rattle.promises.proofs.Words.{stepped as course_stepped, freeze_limit, limits_now, lost, lost_decided, treated_as, treated, timed as course_timed}
use Rattle.promises.proofs.Words.{set_loses_image, Replied, cleared, with_room_if, put, write, start_set, closed, step_made, stepped_as, ticked, later}
use Rattle.promises.proofs.Words.{is_flush, is_failed_step}
use Rattle.vss_names.specs.declared.vss_result.VssResult.TheVariants.{Writer as WriterFault}
use Rattle.writer_state.specs.declared.said.Said.TheVariants as said
use Rattle.writer_calls.specs.declared.answer.Answer.{Answer}
use Rattle.writer_calls.specs.declared.answer.Answer.TheVariants.{Ok, Veto}
use Rattle.set_agenda.specs.declared.kind.Kind.TheVariants as kind
use Rattle.set_agenda.specs.declared.limit.Limit.TheVariants.{Hold as HoldLimit, Freeze as FreezeLimit}
use Rattle.set_agenda.specs.Course.{failed as course_failed}
use Rattle.scenario.specs.declared.op.Op.TheVariants as op
use Rattle.vss_model.proofs.StateForm.{answered, stepped}
use Rattle.vss_model.proofs.Rules.{Running}
use Rattle.promises.proofs.CourseRows.{course_followed}
use Rattle.promises.proofs.CalmStages.{calm_begun, told_outcome}
use Rattle.promises.proofs.GoneImages.{none_stepped}
use Rattle.promises.proofs.Limits.{held_since_first, none_found, held_finds, frozen_finds}
use Rattle.promises.proofs.Contexts.{failure_at}
use Rattle.promises.proofs.Times.{times, held_is_first, logs_rise}
use Rattle.promises.proofs.Turns.{Turn, no_failure, write_turn, revert_turn, begun_turn, answer_turn, tick_turn, step_turn, abort_turn, add_turn, none_started}

same_reason : (x y : VssResult) → FailedSet x ≡ FailedSet y → x ≡ y
same_reason x y e = cc

-- an outcome that is no failure
calm_reason : {X : Type 0} (o : SetOutcome) (why : VssResult) → has_failed o ≡ false → o ≡ FailedSet why → X
calm_reason o why e f = absurd (both_ways (has_failed o) e (ap has_failed f))

posted_outcome : (prior c : Course) → (posted prior c).outcome ≡ c.outcome
unfolding posted
posted_outcome prior c = refl

failed_outcome : (why : VssResult) (c : Course) → (course_failed why c).outcome ≡ FailedSet why
unfolding course_failed
failed_outcome why c = refl

-- ## which limit is spent

abbrev code_of_limit : Limit → VssResult
code_of_limit HoldLimit = HoldWritesTimeout
code_of_limit FreezeLimit = WriterFault Timeout
code_of_limit AnswerLimit = WriterNotResponding

module _ (now : ℕ) (c : Course) (a : Agenda) (o : Open) (l : RunningLimit) where
  abbrev code : Bool → Bool → VssResult
  code held frozen = if held then HoldWritesTimeout else if frozen then WriterFault Timeout else WriterNotResponding

  -- what is too long held is so since the first Hold step
  abbrev FromFirst : Type 0
  FromFirst = held_too_long now o.place.group a ≡ true → (holds_volumes o.place.group ≡ true) × (held_since_first now a ≡ true)

  not_held : FromFirst → spent_of now (held_here a o) ≡ None → held_too_long now o.place.group a ≡ false
  not_held first e = false_from_ne_true (held_too_long now o.place.group a) (λ i. let parts = first i in none_found now (held_here a o) HoldLimit e (held_finds now o.place.group a parts.0 parts.1))

  not_frozen : spent_of now (frozen_here (freeze_limit c) a o) ≡ None → frozen_too_long now o.place.group c a ≡ false
  not_frozen e = false_from_ne_true (frozen_too_long now o.place.group c a) (λ i. none_found now (frozen_here (freeze_limit c) a o) FreezeLimit e (frozen_finds now o.place.group c a i))

  by_limit : (x : Limit) → FromFirst → IsSpentHere now (freeze_limit c) a o l x → code_of_limit x ≡ code (held_too_long now o.place.group a) (frozen_too_long now o.place.group c a)
  by_limit HoldLimit first e = ap (λ b. code b (frozen_too_long now o.place.group c a)) (sym (hold_late now o.place.group a (first_hold a.log) l refl e))
  by_limit FreezeLimit first e = grind (arith, freeze_late, not_held)
  by_limit AnswerLimit first e = ap (λ b. code false b) (sym (not_frozen e.1)) ∙ ap (λ b. code b (frozen_too_long now o.place.group c a)) (sym (not_held first e.0))

code_left : (now : ℕ) (c : Course) (a : Agenda) (os : List Open) (l : RunningLimit) → groups_left a ≡ os → spent_of now (running_at (freeze_limit c) a os) ≡ Some l
    → (a.kind ≡ kind.Snapshot → Rising (times a.log)) → code_of_limit l.limit ≡ late_code_at now c a os
code_left now c a [] l same e rising = absurd cc
code_left now c a (o ∷ os) l same e rising = by_limit now c a o l l.limit (held_is_first now a o os same rising) (spent_here now (freeze_limit c) a o os l e)

limit_code : (now : ℕ) (c : Course) (x : Option Agenda) (l : RunningLimit) → spent_of now (running_limits (freeze_limit c) x) ≡ Some l
    → Running (λ (a : Agenda). a.kind ≡ kind.Snapshot → Rising (times a.log)) x → code_of_limit l.limit ≡ late_code_in now c x
limit_code now c x l e rising = grind (arith, code_left)

-- ## what a call of the course fails with

module _ (why : VssResult) (c : Course) (run : has_failed c.outcome ≡ false) where
  settled_reason : {X : Type 0} (d : Course) → d.outcome ≡ c.outcome → (settled d).outcome ≡ FailedSet why → X
  settled_reason d e f = calm_reason (settled d).outcome why (calm_settled d (ap has_failed e ∙ run)) f

  answer_reason : (o : Option Order) (w : ℕ) (answer : Answer) (now : ℕ) → (answered_to o w (said_of answer) now c).outcome ≡ FailedSet why → IsAnswerCode answer why
  answer_reason None w answer now e = calm_reason c.outcome why run e
  answer_reason (Some o) w answer now e = by_answer answer (is_decisive o) e where
    by_answer : (a : Answer) (b : Bool) → (decided (b && not (is_ok (said_of a))) (said_of a) (told o (said_of a) now (w ∷ []) c)).outcome ≡ FailedSet why → IsAnswerCode a why
    by_answer Ok true e = settled_reason (told o said.Ok now (w ∷ []) c) (told_outcome o said.Ok now (w ∷ []) c) e
    by_answer Ok false e = settled_reason (told o said.Ok now (w ∷ []) c) (told_outcome o said.Ok now (w ∷ []) c) e
    by_answer (Veto error) true e = same_reason why (WriterFault error) (sym e ∙ failed_outcome (WriterFault error) (told o (said.Veto error) now (w ∷ []) c))
    by_answer (Veto error) false e = settled_reason (told o (said.Veto error) now (w ∷ []) c) (told_outcome o (said.Veto error) now (w ∷ []) c) e

  time_reason : (l : Option RunningLimit) (now : ℕ) → (treated l now c).outcome ≡ FailedSet why → (m : RunningLimit) → l ≡ Some m → why ≡ code_of_limit m.limit
  time_reason None now e m f = absurd cc
  time_reason (Some l) now e m f = subst (λ (x : RunningLimit). why ≡ code_of_limit x.limit) (some_same l m f) (by_limit l.limit e) where
    by_order : (b : Bool) → (lost_decided b (lost now c)).outcome ≡ FailedSet why → why ≡ WriterNotResponding
    by_order true e = same_reason why WriterNotResponding (sym e ∙ failed_outcome WriterNotResponding (lost now c))
    by_order false e = settled_reason (lost now c) (grind (arith, told_outcome)) e

    by_limit : (x : Limit) → (treated_as x now c).outcome ≡ FailedSet why → why ≡ code_of_limit x
    by_limit x e = grind (arith, same_reason, failed_outcome, by_order)

  -- time fails nothing where no limit is spent
  late_reason : (now : ℕ) → Running (λ (x : Agenda). x.kind ≡ kind.Snapshot → Rising (times x.log)) c.agenda
      → (treated (spent_of now (limits_now c)) now c).outcome ≡ FailedSet why → why ≡ late_code_in now c c.agenda
  late_reason now rising e = by_spent (spent_of now (limits_now c)) refl e where
    by_spent : (l : Option RunningLimit) → spent_of now (limits_now c) ≡ l → (treated l now c).outcome ≡ FailedSet why → why ≡ late_code_in now c c.agenda
    by_spent None f e = calm_reason c.outcome why run e
    by_spent (Some l) f e = time_reason (Some l) now e l refl ∙ limit_code now c c.agenda l f rising

-- ## every act

module _ (s : Plan) (so_far : List Act) (why : VssResult) where
  abbrev st : State
  st = state s so_far

  not_none : {X : Type 0} (o : Option VssResult) → o ≡ None → o ≡ Some why → X
  not_none o e f = grind arith

  -- the course has the code, where the turn is a failure
  of_turn : (x : State) (ran : Bool) → Turn st x ran → set_failure (in_progress st) x ≡ Some why → x.course.outcome ≡ FailedSet why
  of_turn x ran x2 e = grind (arith, some_same, not_none)

  -- a set was in progress
  was_running : (x : State) → set_failure (in_progress st) x ≡ Some why → has_failed st.course.outcome ≡ false
  was_running x e = grind (arith, outcome_is_running)

  abbrev Next : Event → Mark → Replied → Type 0
  Next event mark x = set_failure (in_progress st) x.1 ≡ Some why → IsCode st event why

  -- the sets are as they were
  same_sets : (event : Event) (x : State) → ((n : ℕ) → failure_at x.sets n ≡ failure_at st.sets n) → set_failure (in_progress st) x ≡ Some why → IsCode st event why
  same_sets event x f e = not_none (set_failure (in_progress st) x) (no_failure s so_far x f) e

  abort_reason : (o : Option SetRow) (code : VssResult) → in_progress st ≡ o → has_failed st.course.outcome ≡ false → (failed_in o code st).course.outcome ≡ FailedSet why
      → why ≡ code
  unfolding course_failed
  abort_reason o code e f g = grind (arith, calm_reason, same_reason)

  course_put : (v : ℕ) (w : Write) (mark : Mark) (x : State) → (put v w mark x).course ≡ x.course
  course_put v w mark x = grind arith

  room_reason : (b : Bool) (v block : ℕ) → has_failed st.course.outcome ≡ false → (with_room_if b (cleared s v block st)).course.outcome ≡ FailedSet why → why ≡ InsufficientStorage
  unfolding course_failed
  room_reason b v block f g = grind (arith, calm_reason, same_reason)

  write_reason : (v : ℕ) (w : Write) (mark : Mark) → set_failure (in_progress st) (write s v w mark st).1 ≡ Some why → why ≡ InsufficientStorage
  unfolding write
  write_reason v w mark e =
      room_reason (set_loses_image (in_progress st) st.volumes (cleared s v w.block st).volumes) v w.block (was_running _ e)
      (ap (λ (c : Course). c.outcome) (sym (course_put v w mark _)) ∙ of_turn _ (runs st) (write_turn s so_far v w mark) e)

  begun_code : (event : Event) (c : Course) → (has_failed st.course.outcome ≡ false → has_failed c.outcome ≡ false) → set_failure (in_progress st) (followed true c st) ≡ Some why
      → IsCode st event why
  begun_code event c calm e =
      calm_reason c.outcome why (calm (was_running (followed true c st) e))
      (ap (λ (d : Course). d.outcome) (sym (course_followed true c st)) ∙ of_turn (followed true c st) true (begun_turn s so_far c calm) e)

  answer_code : (w : ℕ) (answer : Answer) → set_failure (in_progress st) (answered w (said_of answer) st) ≡ Some why → IsAnswerCode answer why
  unfolding answered
  answer_code w answer e =
      let c = course_answered w (said_of answer) st.clock st.course in
      answer_reason why st.course (was_running (followed (runs st) c st) e) (open_order (left st.course.agenda) w) w answer st.clock
      (sym (posted_outcome st.course _) ∙ ap (λ (d : Course). d.outcome) (sym (course_followed (runs st) c st))
      ∙ of_turn (followed (runs st) c st) (runs st) (answer_turn s so_far w (said_of answer)) e)

  tick_code : (n : ℕ) → set_failure (in_progress st) (ticked n st) ≡ Some why → why ≡ late_code st n
  unfolding ticked
  tick_code n e =
      let c = course_timed (st.clock + n) st.course in
      late_reason why st.course (was_running (followed (runs st) c (later n st)) e) (st.clock + n) (logs_rise s so_far)
      (sym (posted_outcome st.course _) ∙ ap (λ (d : Course). d.outcome) (sym (course_followed (runs st) c (later n st)))
      ∙ of_turn (followed (runs st) c (later n st)) (runs st) (tick_turn s so_far n) e)

  step_reason : (b : Bool) (g : Option Group) (v : Option ℕ) → has_failed st.course.outcome ≡ false → (stepped_as b g v st).course.outcome ≡ FailedSet why → why ≡ UnexpectedProviderError
  step_reason true g v f e =
      same_reason why UnexpectedProviderError
      (sym (ap (λ (d : Course). d.outcome) (sym (course_followed (runs st) (course_stepped false st.clock st.course) st)) ∙ e)
      ∙ (posted_outcome st.course _ ∙ failed_outcome UnexpectedProviderError st.course))
  step_reason false g v f e =
      calm_reason (course_stepped true st.clock st.course).outcome why (none_stepped st.clock st.course f)
      (ap (λ (d : Course). d.outcome) (sym (course_followed (runs st) (course_stepped true st.clock st.course) (step_made g v st))) ∙ e)

  step_code : (mark : Mark) → is_working (left_now st) ≡ true → set_failure (in_progress st) (stepped mark st) ≡ Some why → why ≡ UnexpectedProviderError
  unfolding stepped
  step_code mark on e = step_reason (is_failed_step (is_flush (open_group (left_now st))) mark) (open_group (left_now st)) (next_volume (left_now st)) (was_running _ e) (of_turn _ (runs st) (step_turn s so_far mark on) e)

  abort_code : set_failure (in_progress st) (failed AsyncCancelled st) ≡ Some why → why ≡ AsyncCancelled
  abort_code e = abort_reason (in_progress st) AsyncCancelled refl (was_running (failed AsyncCancelled st) e) (of_turn (failed AsyncCancelled st) (runs st) (abort_turn s so_far) e)

  closed_failure : (q : Session) (x : State) → set_failure (in_progress st) (closed q x) ≡ set_failure (in_progress st) x
  unfolding closed
  closed_failure q x = grind arith

  unchanged : (event : Event) → set_failure (in_progress st) st ≡ Some why → IsCode st event why
  unchanged event e = same_sets event st (λ n. refl) e

  codes : Covers Next s st
  codes = record {
    stays = λ lane o mark told e f. unchanged (Line lane o);
    writes = λ lane o v w mark e f g. grind (arith, write_reason v w mark g);
    reverts = λ lane n v k mark e f g. calm_reason st.course.outcome why (was_running _ g) (sym (grind arith) ∙ of_turn _ (runs st) (revert_turn s so_far v k mark) g);
    deletes_set = λ lane n c mark e. same_sets (Line lane (op.DeleteSet n)) _ (λ m. refl);
    deletes_image = λ lane n v k mark e. same_sets (Line lane (op.DeleteImage n v)) _ (λ m. refl);
    ticks = λ lane n mark. tick_code n;
    begins = λ lane n all c mark e ctx. same_sets (Line lane (op.Begin n all)) _ (λ m. refl);
    disables = λ lane w q mark g. same_sets (Line lane (op.Disable w)) _ (λ m. refl);
    gathers = λ lane q mark g. begun_code (Line lane op.Gather) _ (calm_begun kind.Gather _ [] st.clock _);
    names = λ lane w full q explicit mark g named. same_sets (Line lane (op.Component w full)) _ (λ m. refl);
    starts = λ lane q mark g e f. not_none (set_failure (in_progress st) (start_set q st).1) (none_started s so_far q (start_set q st).1 g.stands e) f;
    adds = λ lane v r q mark g e f i. calm_reason st.course.outcome why (was_running _ i) (of_turn _ (runs st) (add_turn s so_far v r) i);
    prepares = λ lane q mark g f. begun_code (Line lane op.Prepare) _ (calm_begun kind.Prepare _ [] st.clock _);
    snapshots = λ lane q mark g f. begun_code (Line lane op.Snapshot) _ (calm_begun kind.Snapshot st.course.members _ st.clock st.course);
    completes = λ lane q mark g. begun_code (Line lane op.Complete) _ (calm_begun kind.Complete _ [] st.clock st.course);
    aborts = λ lane q mark e. abort_code;
    ends = λ lane q mark e f. abort_code (sym (closed_failure q (failed AsyncCancelled st)) ∙ f);
    answers = λ w answer mark e. answer_code w answer;
    steps = λ mark e. step_code mark e;
    idles = λ mark e. tick_code (idle_now st);
  }

pub fails_by_code : (s : Plan) (so_far : List Act) (act : Act) → FailsByCode s so_far act
fails_by_code s so_far act why on e =
    let st = state s so_far in
    covered (Next s so_far why) s st (codes s so_far why) act.event act.mark on (ap (set_failure (in_progress st)) (sym (after_enabled s st act on)) ∙ e)

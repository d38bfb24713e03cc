-- What an act makes of a session: its set fails, its agenda ends, or it stays as it is.
use Rattle.std.proofs.Common.{◌≡◌, ◌∙◌, ℕ, List, ◌⊎◌, Option, Some, None, refl, Bool, true, false, ap, inl, inr, map, arith}
use Rattle.std.specs.Prelude.{is_some, option_map}
use Rattle.promises.proofs.Words.{SetOutcome, VssResult, AsyncCancelled, Said, Mark, Write, Group, Agenda, is_working, Session, makes_set, agenda_ended}
use Rattle.promises.proofs.Words.{set_failed, Plan, State, SetRow, Kept, is_running, in_progress, left_now, change_set, with_volume, IsOfSession, has_failed}
use Rattle.promises.proofs.Words.{Act, state, outcome_is_running, course-step_made, MovesOn, moves_answered, moves_stepped, moves_timed, orderly, running_found}
use Rattle.promises.proofs.Words.{row_running, row_settles, result-settled, failure_of, failure_in, set_failure, Failed as FailedSet, Course}
use Rattle.promises.proofs.Words.{stepped as course_stepped, AgendaEnds, SetFails, ending, row_settled, runs, concluded, followed, failed_in, failed}
use Rattle.promises.proofs.Words.{put, write, reverted_as, step_made, stepped_as, ticked, true_not_false}
use Rattle.vss_names.specs.declared.set_outcome.SetOutcome.TheVariants.{Running as RunningSet, Complete as CompleteSet}
use Rattle.set_agenda.specs.Course.{failed as course_failed}
use Rattle.vss_model.proofs.StateForm.{answered, stepped}
use Rattle.promises.proofs.CourseRows.{IsBusy, busy_set, busy_step}
use Rattle.promises.proofs.CalmStages.{CalmOrBusy, calm_answered, calm_stepped, calm_timed}
use Rattle.promises.proofs.Contexts.{settled_number, changed_number, failure_at, failure_map, running_calm, settled_calm, changed_result, failures_made}
use Rattle.promises.proofs.GoneImages.{none_stepped}
use Rattle.promises.proofs.Members.{session_made}

-- the set in progress fails, and the session with it
pub record Falls (st x : State) : Type 0 where
  pub why : VssResult
  pub session : x.session ≡ option_map (set_failed why) st.session
  pub failure : set_failure (in_progress st) x ≡ Some why
  pub outcome : x.course.outcome ≡ FailedSet why

-- an agenda ends
pub record AgendaOver (st x : State) (ran : Bool) : Type 0 where
  pub ran_is : ran ≡ true
  pub session : x.session ≡ option_map agenda_ended st.session
  pub failure : set_failure (in_progress st) x ≡ None
  pub quiet : runs x ≡ false

-- neither; an agenda runs where one ran or began
pub record StaysSo (st x : State) (ran : Bool) : Type 0 where
  pub session : x.session ≡ st.session
  pub failure : set_failure (in_progress st) x ≡ None
  pub runs_is : runs x ≡ ran

abbrev pub Turn : State → State → Bool → Type 0
Turn st x ran = Falls st x ⊎ (AgendaOver st x ran ⊎ StaysSo st x ran)

module _ (s : Plan) (so_far : List Act) where
  abbrev pub st : State
  st = state s so_far

  none_in : (x : State) (o : Option SetRow) → in_progress st ≡ o → ((n : ℕ) → failure_at x.sets n ≡ failure_at st.sets n) → set_failure o x ≡ None
  none_in x None e f = refl
  none_in x (Some r) e f = f r.number ∙ ap failure_in (row_running 1 st.sets r (orderly s so_far).numbered e) ∙ running_calm r.result (running_found st.sets r e)

  pub no_failure : (x : State) → ((n : ℕ) → failure_at x.sets n ≡ failure_at st.sets n) → set_failure (in_progress st) x ≡ None
  no_failure x f = none_in x (in_progress st) refl f

  -- nothing ends
  pub quiet_turn : (x : State) → x.session ≡ st.session → ((n : ℕ) → failure_at x.sets n ≡ failure_at st.sets n) → runs x ≡ runs st → Turn st x (runs st)
  quiet_turn x e f g = inr (inr (record { session = e; failure = no_failure x f; runs_is = g }))

  -- ## the course goes on

  set_there : (o : Option SetRow) (X : Type 0) → is_some o ≡ true → ((r : SetRow) → o ≡ Some r → X) → X
  set_there o x1 e f = grind arith

  busy_there : IsBusy st.course.agenda → is_some (in_progress st) ≡ true
  busy_there b = busy_set st.course.agenda st.session st.course.outcome (in_progress st) b (orderly s so_far).agenda (orderly s so_far).session

  failing_set : (c : Course) (why : VssResult) → st.course.outcome ≡ RunningSet → c.outcome ≡ FailedSet why → CalmOrBusy st.course c → is_some (in_progress st) ≡ true
  failing_set c why e f x4 = grind (arith, busy_there)

  -- its row has the result
  fallen : (x : State) (p : SetOutcome) (why : VssResult) → x.sets ≡ map (row_settled p) st.sets → p ≡ FailedSet why → is_some (in_progress st) ≡ true → set_failure (in_progress st) x ≡ Some why
  fallen x p why e f g =
      set_there (in_progress st) (set_failure (in_progress st) x ≡ Some why) g
      (λ r i. ap (λ o. set_failure o x) i
      ∙ ap (λ rows. failure_at rows r.number) e
      ∙ ap failure_in (row_settles p r.number st.sets ∙ ap (option_map (row_settled p)) (row_running 1 st.sets r (orderly s so_far).numbered i))
      ∙ ap failure_of (result-settled (is_running r.result) p r (running_found st.sets r i) ∙ f))

  -- no set is in progress where the outcome is an end
  no_set : (x : State) → (st.course.outcome ≡ RunningSet → ⊥) → set_failure (in_progress st) x ≡ None
  no_set x f = grind (arith, outcome_is_running)

  -- from a state with the same session and the same failures; and with the same sets, where the course fails
  module _ (c : Course) (y : State) (session : y.session ≡ st.session) (failures : (n : ℕ) → failure_at y.sets n ≡ failure_at st.sets n)
      (calm : CalmOrBusy st.course c) (sets : has_failed c.outcome ≡ true → y.sets ≡ st.sets) where
    abbrev z : State
    z = record y { course = c }

    settled_failures : failure_of c.outcome ≡ None → (n : ℕ) → failure_at (map (row_settled c.outcome) y.sets) n ≡ failure_at st.sets n
    settled_failures e n = failure_map (row_settled c.outcome) (settled_number c.outcome) (settled_calm c.outcome e) y.sets n ∙ failures n

    not_running : (o : SetOutcome) → st.course.outcome ≡ o → is_running o ≡ false → st.course.outcome ≡ RunningSet → ⊥
    not_running o e f g = grind arith

    over : c.agenda ≡ None → set_failure (in_progress st) (concluded AgendaEnds z) ≡ None → Turn st (concluded AgendaEnds z) true
    over e f = inr (inl (record { ran_is = refl; session = ap (option_map agenda_ended) session; failure = f; quiet = ap is_some e }))

    nothing : (ran : Bool) → is_some c.agenda ≡ ran → set_failure (in_progress st) z ≡ None → Turn st z ran
    nothing ran e f = inr (inr (record { session = session; failure = f; runs_is = e }))

    by_ending : (o n : SetOutcome) (ran : Bool) (a : Option Agenda) → st.course.outcome ≡ o → c.outcome ≡ n → c.agenda ≡ a
        → (ran ≡ false → is_some c.agenda ≡ false) → Turn st (concluded (ending o n ran a) z) ran
    by_ending RunningSet (FailedSet why) ran a e f g idle =
        inl (record {
          why = why;
          session = ap (option_map (set_failed why)) session;
          failure = fallen (concluded (SetFails why) z) c.outcome why
              (ap (map (row_settled c.outcome)) (sets (ap has_failed f))) f (failing_set c why e f calm);
          outcome = f;
        })
    by_ending RunningSet RunningSet true None e f g idle = over g (no_failure (concluded AgendaEnds z) (settled_failures (ap failure_of f)))
    by_ending RunningSet RunningSet true (Some a) e f g idle = nothing true (ap is_some g) (no_failure z failures)
    by_ending RunningSet RunningSet false a e f g idle = nothing false (idle refl) (no_failure z failures)
    by_ending RunningSet CompleteSet true None e f g idle = over g (no_failure (concluded AgendaEnds z) (settled_failures (ap failure_of f)))
    by_ending RunningSet CompleteSet true (Some a) e f g idle = nothing true (ap is_some g) (no_failure z failures)
    by_ending RunningSet CompleteSet false a e f g idle = nothing false (idle refl) (no_failure z failures)
    by_ending CompleteSet n true None e f g idle = over g (no_set (concluded AgendaEnds z) (not_running CompleteSet e refl))
    by_ending CompleteSet n true (Some a) e f g idle = nothing true (ap is_some g) (no_set z (not_running CompleteSet e refl))
    by_ending CompleteSet n false a e f g idle = nothing false (idle refl) (no_set z (not_running CompleteSet e refl))
    by_ending (FailedSet x) n true None e f g idle = over g (no_set (concluded AgendaEnds z) (not_running (FailedSet x) e refl))
    by_ending (FailedSet x) n true (Some a) e f g idle = nothing true (ap is_some g) (no_set z (not_running (FailedSet x) e refl))
    by_ending (FailedSet x) n false a e f g idle = nothing false (idle refl) (no_set z (not_running (FailedSet x) e refl))

    followed_turn : (ran : Bool) → y.course ≡ st.course → (ran ≡ false → is_some c.agenda ≡ false) → Turn st (followed ran c y) ran
    unfolding followed
    followed_turn ran g idle = grind (arith, by_ending)

  -- no agenda comes where none ran
  still_idle : (c : Course) → MovesOn st.course c → runs st ≡ false → is_some c.agenda ≡ false
  still_idle c m e = grind arith

  -- ## the set fails at once

  failed_turn : (o : Option SetRow) (why : VssResult) (y : State) → in_progress st ≡ o → y.sets ≡ st.sets → y.session ≡ st.session → y.course ≡ st.course → Turn st (failed_in o why y) (runs st)
  unfolding course_failed
  failed_turn None why y e sets session course = quiet_turn y session (λ n. ap (λ rows. failure_at rows n) sets) (ap (λ (d : Course). is_some d.agenda) course)
  failed_turn (Some r) why y e sets session course =
      inl (record {
        why = why;
        session = ap (option_map (set_failed why)) session;
        failure = fallen (failed_in (Some r) why y) (FailedSet why) why (ap (map (row_settled (FailedSet why))) sets) refl (ap is_some e);
        outcome = refl;
      })

  pub abort_turn : Turn st (failed AsyncCancelled st) (runs st)
  abort_turn = failed_turn (in_progress st) AsyncCancelled st refl refl refl refl

  -- ## writes and reverts

  put_turn : (v : ℕ) (w : Write) (mark : Mark) (x : State) → Turn st x (runs st) → Turn st (put v w mark x) (runs st)
  put_turn v w mark x i = grind arith

  pub write_turn : (v : ℕ) (w : Write) (mark : Mark) → Turn st (write s v w mark st).1 (runs st)
  unfolding write
  write_turn v w mark = put_turn v w mark _ (grind (arith, failed_turn, quiet_turn))

  pub revert_turn : (v : ℕ) (k : Kept) (mark : Mark) → Turn st (reverted_as s v k mark st).1 (runs st)
  revert_turn v k mark = grind (arith, quiet_turn)

  -- ## agendas

  pub begun_turn : (c : Course) → (has_failed st.course.outcome ≡ false → has_failed c.outcome ≡ false) → Turn st (followed true c st) true
  begun_turn c calm = followed_turn c st refl (λ n. refl) (inl calm) (λ g. refl) true refl (λ e. absurd cc)

  pub answer_turn : (w : ℕ) (said : Said) → Turn st (answered w said st) (runs st)
  unfolding answered
  answer_turn w said = grind (arith, followed_turn, calm_answered, still_idle, moves_answered)

  pub tick_turn : (n : ℕ) → Turn st (ticked n st) (runs st)
  unfolding ticked
  tick_turn n = grind (arith, followed_turn, calm_timed, still_idle, moves_timed)

  -- a step that is made fails nothing
  step_calm : is_working (left_now st) ≡ true → has_failed (course_stepped true st.clock st.course).outcome ≡ true → ⊥
  step_calm e f = grind (arith, set_there, calm_stepped, none_stepped, outcome_is_running, true_not_false, busy_there, busy_step)

  step_as : (b : Bool) (g : Option Group) (v : Option ℕ) → is_working (left_now st) ≡ true → Turn st (stepped_as b g v st) (runs st)
  step_as true g v e =
      let c = course_stepped false st.clock st.course in
      followed_turn c st refl (λ n. refl) (calm_stepped false st.clock st.course e) (λ f. refl) (runs st) refl (still_idle c (moves_stepped false st.clock st.course e))
  step_as false g v e =
      let c = course_stepped true st.clock st.course in
      followed_turn c (step_made g v st) (session_made g v st) (failures_made g v st) (calm_stepped true st.clock st.course e) (λ f. absurd (step_calm e f)) (runs st)
      (course-step_made g v st) (still_idle c (moves_stepped true st.clock st.course e))

  pub step_turn : (mark : Mark) → is_working (left_now st) ≡ true → Turn st (stepped mark st) (runs st)
  unfolding stepped
  step_turn mark e = step_as _ _ _ e

  -- ## a set starts, or a volume is added

  pub none_started : (q : Session) (x : State) → st.session ≡ Some q → makes_set q.stage ≡ false → set_failure (in_progress st) x ≡ None
  none_started q x f g = by_set (in_progress st) refl (orderly s so_far).session where
    by_set : (o : Option SetRow) → in_progress st ≡ o → IsOfSession st.session st.course.outcome (in_progress st) → set_failure o x ≡ None
    by_set o e i = grind (arith, true_not_false)

  pub add_turn : (v : ℕ) (r : SetRow) → Turn st (change_set r.number (with_volume v) st) (runs st)
  add_turn v r = grind (arith, quiet_turn, failure_map, changed_number, changed_result)

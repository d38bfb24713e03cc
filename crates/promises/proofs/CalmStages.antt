-- Where the set of a session has failed, the session says so: in every other stage the course's set has not failed.
use Rattle.std.proofs.Common.{◌≡◌, ℕ, ◌+◌, List, [], ◌⊎◌, Option, Some, refl, Bool, true, false, inl, inr, map, arith}
use Rattle.std.specs.Prelude.{option_map}
use Rattle.promises.proofs.Words.{AsyncCancelled, Said, row_gathered, Mark, Group, Gather, Prepare, Snapshot, Complete, is_working, Session, agenda_ended, Plan}
use Rattle.promises.proofs.Words.{State, left_now, by_acts, has_failed, IsOrderly, Act, state, IsKeptByChanges, IsKeptByWrites, kept_by_changes as orderly_kept}
use Rattle.promises.proofs.Words.{kept_by_writes as orderly_writes, orderly, on_after, course-step_made, Course, answered as course_answered}
use Rattle.promises.proofs.Words.{stepped as course_stepped, timed as course_timed, runs, followed, failed, closed, stepped_as, ticked, later, true_not_false}
use Rattle.promises.proofs.Words.{Order, Kind, Member, left, open_order, none_settled as calm_settled, now_if, and_parts, posted, begun, told, answered_to}
use Rattle.requestor.specs.declared.stage.Stage.TheVariants.{Failed}
use Rattle.vss_model.proofs.StateForm.{answered, stepped}
use Rattle.promises.proofs.CourseRows.{IsBusy, busy_order, busy_step, over_timed}
use Rattle.promises.proofs.Members.{session_made}

-- ## a call of the course fails it only while an agenda runs that makes a set

abbrev pub CalmOrBusy : Course → Course → Type 0
CalmOrBusy c d = (has_failed c.outcome ≡ false → has_failed d.outcome ≡ false) ⊎ IsBusy c.agenda

calm_posted : (prior c d : Course) → CalmOrBusy c d → CalmOrBusy c (posted prior d)
unfolding posted
calm_posted prior c d h = h

pub told_outcome : (o : Order) (said : Said) (now : ℕ) (ws : List ℕ) (c : Course) → (told o said now ws c).outcome ≡ c.outcome
unfolding told
told_outcome o said now ws c = refl

calm_answered_to : (x : Option Order) (w : ℕ) (said : Said) (now : ℕ) (c : Course) → open_order (left c.agenda) w ≡ x → CalmOrBusy c (answered_to x w said now c)
calm_answered_to x w said now c e = grind (arith, busy_order, now_if, and_parts, calm_settled, told_outcome)

pub calm_answered : (w : ℕ) (said : Said) (now : ℕ) (c : Course) → CalmOrBusy c (course_answered w said now c)
calm_answered w said now c = grind (arith, calm_posted, calm_answered_to)

pub calm_stepped : (ok : Bool) (now : ℕ) (c : Course) → is_working (left c.agenda) ≡ true → CalmOrBusy c (course_stepped ok now c)
calm_stepped ok now c e = inr (busy_step c.agenda e)

pub calm_timed : (now : ℕ) (c : Course) → CalmOrBusy c (course_timed now c)
calm_timed now c = grind (arith, over_timed now c)

-- an agenda that begins fails nothing
pub calm_begun : (k : Kind) (ms : List Member) (vs : List ℕ) (now : ℕ) (c : Course) → has_failed c.outcome ≡ false → has_failed (begun k ms vs now c).outcome ≡ false
unfolding begun posted
calm_begun k ms vs now c e = calm_settled (record c { agenda = Some (record { kind = k; members = ms; volumes = vs; begun = now; log = [] }) }) e

-- ## where the set of a session has failed, the session says so: in every other stage the course's set has not failed

abbrev pub IsCalm : State → Type 0
IsCalm x = (q : Session) → x.session ≡ Some q → (q.stage ≡ Failed → ⊥) → has_failed x.course.outcome ≡ false

abbrev pub IsCalmOrderly : State → Type 0
IsCalmOrderly x = IsOrderly x × IsCalm x

-- ## the course goes on

module _ (st : State) (h : IsCalmOrderly st) where
  -- the session of a failed set before an agenda ended
  was_failed : (o : Option Session) (q : Session) → st.session ≡ o → option_map agenda_ended o ≡ Some q → (q.stage ≡ Failed → ⊥) → has_failed st.course.outcome ≡ false
  was_failed o q e f g = grind arith

  calm_followed : (ran : Bool) (c : Course) (y : State) → y.session ≡ st.session → y.course.outcome ≡ st.course.outcome → CalmOrBusy st.course c → IsCalm (followed ran c y)
  unfolding followed
  calm_followed ran c y session same calm = grind (arith, true_not_false, was_failed)

  on_answers : (w : ℕ) (said : Said) → IsCalm (answered w said st)
  unfolding answered
  on_answers w said = calm_followed (runs st) (course_answered w said st.clock st.course) st refl refl (calm_answered w said st.clock st.course)

  on_ticks : (n : ℕ) → IsCalm (ticked n st)
  unfolding ticked
  on_ticks n = calm_followed (runs st) (course_timed (st.clock + n) st.course) (later n st) refl refl (calm_timed (st.clock + n) st.course)

  on_step : (b : Bool) (g : Option Group) (v : Option ℕ) → is_working (left_now st) ≡ true → IsCalm (stepped_as b g v st)
  on_step b g v e = grind (arith, calm_followed, calm_stepped, session_made, course-step_made)

  on_steps : (mark : Mark) → is_working (left_now st) ≡ true → IsCalm (stepped mark st)
  unfolding stepped
  on_steps mark e = on_step _ _ _ e

  on_begun : (c : Course) → (has_failed st.course.outcome ≡ false → has_failed c.outcome ≡ false) → IsCalm (followed true c st)
  on_begun c calm = calm_followed true c st refl refl (inl calm)

  on_closed : (q : Session) (x : State) → IsCalm (closed q x)
  unfolding closed
  on_closed q x = λ p e f. absurd cc

pub calm_kept : IsKeptByChanges IsCalmOrderly
calm_kept = record {
  answers = λ w said st e h. (orderly_kept.answers w said st e h.0, on_answers st h w said);
  steps = λ mark st e h. (orderly_kept.steps mark st e h.0, on_steps st h mark e);
  ticks = λ n st h. (orderly_kept.ticks n st h.0, on_ticks st h n);
  fails = λ why st h. (orderly_kept.fails why st h.0, grind arith);
  gathers = λ s q st g h. (orderly_kept.gathers s q st g h.0, on_begun st h _ (calm_begun Gather _ [] st.clock (record st.course { rows = map row_gathered st.course.rows })));
  prepares = λ s q st g f h. (orderly_kept.prepares s q st g f h.0, on_begun st h _ (calm_begun Prepare _ [] st.clock _));
  snapshots = λ q st g f h. (orderly_kept.snapshots q st g f h.0, on_begun st h _ (calm_begun Snapshot st.course.members _ st.clock st.course));
  completes = λ q st g h. (orderly_kept.completes q st g h.0, on_begun st h _ (calm_begun Complete _ [] st.clock st.course));
  clears = λ s v b st h. (orderly_kept.clears s v b st h.0, h.1);
  deletes_set = λ n st h. (orderly_kept.deletes_set n st h.0, h.1);
  deletes_image = λ n v st h. (orderly_kept.deletes_image n v st h.0, h.1);
  begins = λ lane all c st e h. (orderly_kept.begins lane all c st e h.0, grind arith);
  names = λ q explicit st g h. (orderly_kept.names q explicit st g h.0, h.1);
  disables = λ w q st g h. (orderly_kept.disables w q st g h.0, h.1);
  starts = λ q st g e h. let x = orderly_kept.starts q st g e h.0 in (x, grind arith);
  adds = λ v r q st g e f h. (orderly_kept.adds v r q st g e f h.0, h.1);
  ends = λ q st e h. (orderly_kept.ends q st e h.0, on_closed st h q (failed AsyncCancelled st));
}

calm_writes : (st : State) → IsKeptByWrites IsCalmOrderly st
calm_writes st =
    let own = orderly_writes st in
    record {
      puts = λ v e w mark x h. (own.puts v e w mark x h.0, grind (arith, h.1));
      reverts = λ s n v k mark e f h. (own.reverts s n v k mark e f h.0, grind (arith, h.1));
    }

pub calm_always : (s : Plan) (acts : List Act) → IsCalmOrderly (state s acts)
calm_always s acts = by_acts IsCalmOrderly s (λ past act h. on_after IsCalmOrderly calm_kept s (state s past) act (calm_writes (state s past)) h) (orderly s [], λ q e f. absurd cc) acts

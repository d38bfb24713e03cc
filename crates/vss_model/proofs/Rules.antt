-- The rules by which every act keeps a fact: of the state, of the course alone, and of the running agenda's log.
use Rattle.std.proofs.Common.{ℕ, List, [], ◌∷◌, ◌++◌, Some, Bool, length, fold, map, sym, subst, ◌≡◌, ◌==◌, Option, None, true, false, arith}
use Rattle.std.specs.Prelude.{◌&&◌, not}
use Rattle.vss_model.proofs.Changes.{CourseCall, Answers, Steps, Times, Gathers, Prepares, Snapshots, Completes, Disables, Fails, Releases, called, IsDue}
use Rattle.vss_model.proofs.Changes.{Comes, by_all_changes, after_covered, answers_are, next_is, passes_are, fails_now, goes_on_own, ends_session}
use Rattle.vss_model.proofs.CourseCalls.{Call, call_answered, call_stepped, call_timed}
use Rattle.vss_model.proofs.StateForm.{with_room_if, put, write, reverted_as, IsKeptByChanges, IsKeptByWrites, step_made}
use Rattle.vss_model.proofs.Terms.{Kind, Gather, Prepare, Snapshot, Complete, Member, is_among, Course, members_from, released, IsKeptInCourse, course_answered}
use Rattle.vss_model.proofs.Terms.{course_stepped, course_timed, course_begun, row_gathered, takers, Plan, Mark, Event, State, start, selected, Act, after}
use Rattle.vss_model.proofs.Terms.{state, Change, CourseIs, apply, common_steps, AsyncCancelled, Write, said_of, Line, Kept, in_progress, is_begin}
use Rattle.vss_model.proofs.Terms.{IsKeptByChanges as KeptByChanges, IsKeptByWrites as KeptByWrites, after_changes, reverts, is_disabled, volumes_of, gathered}
use Rattle.vss_model.proofs.Terms.{prepared, snapshot_begun, completing, idle_now, nat_tests, SetOutcome, Said, is_ok, Group, Agenda, left}
use Rattle.vss_model.proofs.Terms.{groups_left, open_place, is_freeze, waits_now, is_working, all_say, posted, failed as course_failed, settled, begun}

-- ## A fact of the course alone: what the calls of the course keep, every act keeps.

pub record IsKeptByCalls (P : Course → Type 0) : Type 0 where
  pub within : IsKeptInCourse P
  pub begins : (k : Kind) (ms : List Member) (vs : List ℕ) (now : ℕ) (c : Course) → P c → P (record c { agenda = Some (record { kind = k; members = ms; volumes = vs; begun = now; log = [] }) })
  pub gathers : (c : Course) → P c → P (record c { rows = map row_gathered c.rows })
  pub takes : (test : ℕ → Bool) (c : Course) → P c → P (record c { members = members_from test 0 c.rows })
  pub disables : (w : ℕ) (c : Course) → P c → P (record c { disabled = c.disabled ++ w ∷ [] })
  pub releases : (c : Course) → P c → P (released c)

-- what each call keeps, where it is due
pub of_calls : (P : Course → Type 0) (s : Plan) → ((st : State) (call : CourseCall) (c : Course) → IsDue st c call → P c → P (called s st call c)) → (st : State) (acts : List Act) → P st.course → P (fold (after s) st acts).course
of_calls P s keeps st acts h = by_all_changes (λ x. P x.course) s by_change st acts h where
  by_change : (e : Event) (m : Mark) (old : State) (c : Change) (x : State) → Comes s e m old x c → P x.course → P (apply x c).course
  by_change e m old (CourseIs c) x i h = subst P (sym i.is) (keeps old i.call x.course i.due h)
  by_change e m old _ x i h = h

module _ (P : Course → Type 0) (k : IsKeptByCalls P) where
  by_call : (s : Plan) (st : State) (call : CourseCall) (c : Course) → P c → P (called s st call c)
  by_call s st (Answers w said) c h = course_answered P k.within w said st.clock c h
  by_call s st (Steps ok) c h = course_stepped P k.within ok st.clock c h
  by_call s st (Times now) c h = course_timed P k.within now c h
  by_call s st Gathers c h = let d = record c { rows = map row_gathered c.rows } in course_begun P k.within Gather _ [] st.clock d (k.begins Gather _ [] st.clock d (k.gathers c h))
  by_call s st (Prepares q) c h =
      let test : ℕ → Bool = λ w. is_among w (takers (length s.writers) (selected s q st)) in
      let d = record c { members = members_from test 0 c.rows } in
      course_begun P k.within Prepare _ [] st.clock d (k.begins Prepare _ [] st.clock d (k.takes test c h))
  by_call s st Snapshots c h = course_begun P k.within Snapshot _ _ st.clock c (k.begins Snapshot _ _ st.clock c h)
  by_call s st Completes c h = course_begun P k.within Complete _ [] st.clock c (k.begins Complete _ [] st.clock c h)
  by_call s st (Disables w) c h = k.disables w c h
  by_call s st (Fails why) c h = k.within.fails why c h
  by_call s st Releases c h = k.releases c h

  -- what holds of the course at the start, holds of it after all acts
  pub of_course : (s : Plan) (acts : List Act) → P (start s).course → P (state s acts).course
  of_course s acts h = of_calls P s (λ st call c i g. by_call s st call c g) (start s) acts h

-- ## The rule of cases: a fact of the state that each named change keeps is kept by every act.

-- ## a session's beginning

-- the event is a `begin` line of this lane
abbrev pub begins_at : ℕ → Event → Bool
begins_at lane (Line l op) = is_begin op && (l == lane)
begins_at lane _ = false

-- ## every act

module _ (P : State → Type 0) (k : IsKeptByChanges P) where
  on_room : (b : Bool) (x : State) → P x → P (with_room_if b x)
  on_room b x h = grind arith

  on_write : (s : Plan) (v : ℕ) (w : Write) (mark : Mark) (st : State) → ((x : State) → P x → P (put v w mark x)) → P st → P (write s v w mark st).1
  unfolding write
  on_write s v w mark st puts h = grind (arith, on_room)

  pub on_after : (s : Plan) (st : State) (act : Act) → IsKeptByWrites P st → P st → P (after s st act)
  on_after s st act at h = after_covered P s st (record {
    stays = λ lane op mark told e c. h;
    writes = λ lane op v w mark e f. on_write s v w mark st (at.puts v f w mark) h;
    reverts = λ lane n v x mark e f. at.reverts s n v x mark e (grind (arith, common_steps, nat_tests)) h;
    deletes_set = λ lane n c mark e. k.deletes_set n st h;
    deletes_image = λ lane n v x mark e. k.deletes_image x.row.number v st h;
    ticks = λ lane n mark. k.ticks n st h;
    begins = λ lane n all c mark e f. k.begins lane all (Some c) st e h;
    disables = λ lane w q mark g. k.disables w q st g h;
    gathers = λ lane q mark g. k.gathers s q st g h;
    names = λ lane w full q explicit mark g e. k.names q explicit st g h;
    starts = λ lane q mark g e. k.starts q st g e h;
    adds = λ lane v r q mark g e f. k.adds v r q st g e f h;
    prepares = λ lane q mark g f. k.prepares s q st g f h;
    snapshots = λ lane q mark g f. k.snapshots q st g f h;
    completes = λ lane q mark g. k.completes q st g h;
    aborts = λ lane q mark e. k.fails AsyncCancelled st h;
    ends = λ lane q mark e. k.ends q st e h;
    answers = λ w answer mark e. k.answers w (said_of answer) st e h;
    steps = λ mark e. k.steps mark st e h;
    idles = λ mark e. k.ticks (idle_now st) st h;
  }) h act

-- ## the rule, of the changes themselves

module _ (P : State → Type 0) where
  pub of_changes : Plan → KeptByChanges P → IsKeptByChanges P
  of_changes plan k = record {
    answers = λ w said st e h. subst P (answers_are w said st) (k.answers w said st e h);
    steps = λ mark st e h. subst P (next_is mark st) (k.steps mark st e h);
    ticks = λ n st h. subst P (passes_are n st) (k.ticks n st h);
    fails = λ why st h. subst P (fails_now why st) (k.fails why st h);
    gathers = λ s q st g h. subst P (goes_on_own true (gathered (is_disabled s st) st.clock st.course) st) (k.gathers s q st g h);
    prepares = λ s q st g e h. subst P (goes_on_own true (prepared (takers (length s.writers) (selected s q st)) st.clock st.course) st) (k.prepares s q st g e h);
    snapshots = λ q st g e h. subst P (goes_on_own true (snapshot_begun (volumes_of (in_progress st)) st.clock st.course) st) (k.snapshots plan q st g e h);
    completes = λ q st g h. subst P (goes_on_own true (completing st.clock st.course) st) (k.completes plan q st g h);
    clears = k.clears;
    deletes_set = k.deletes_set;
    deletes_image = k.deletes_image;
    begins = λ lane all c y z j. grind arith;
    names = k.names;
    disables = λ w q st g h. k.disables plan w q st g h;
    starts = λ q st g e h. k.starts plan q st g e h;
    adds = k.adds;
    ends = λ q st e h. subst P (ends_session plan q st) (k.ends plan q st e h);
  }

  revert_kept : (s : Plan) (v : ℕ) (k : Kept) (mark : Mark) (st : State) → P (after_changes st (reverts s v (Some k) mark)) → P (reverted_as s v k mark st).1
  revert_kept s v k mark st h = grind arith

  pub of_writes : (st : State) → KeptByWrites P st → IsKeptByWrites P st
  of_writes st k = grind (arith, common_steps, revert_kept)

-- The rule of logs: a fact of the running agenda holds in every state where it holds of an agenda that begins, and is kept by what
-- members say that are waited for at the open place.

-- nothing is said yet
abbrev pub unspoken : Kind → List Member → List ℕ → ℕ → Agenda
unspoken k ms vs now = record { kind = k; members = ms; volumes = vs; begun = now; log = [] }

pub record IsKeptInLog (P : Agenda → Type 0) : Type 0 where
  pub begins : (k : Kind) (ms : List Member) (vs : List ℕ) (now : ℕ) → P (unspoken k ms vs now)
  pub says : (said : Said) (now : ℕ) (ws : List ℕ) (a : Agenda) → ((w : ℕ) → is_among w ws ≡ true → is_among w (waits_now (groups_left a)) ≡ true) → (is_freeze (open_place (groups_left a)).group && not (is_ok said)) ≡ false → P a → P (all_say said now ws a)

abbrev pub Running : (Agenda → Type 0) → Option Agenda → Type 0
Running P None = Unit {0}
Running P (Some a) = P a

pub course-step_made : (g : Option Group) (v : Option ℕ) (st : State) → (step_made g v st).course ≡ st.course
course-step_made g v st = grind arith

module _ (P : Agenda → Type 0) (k : IsKeptInLog P) where
  on_call : (writers : Bool) (a : Option Agenda) (o : SetOutcome) (b : Option Agenda) (p : SetOutcome) → Call writers a o b p → Running P a → Running P b
  on_call writers a o b p c h = grind arith

  on_begun : (j : Kind) (ms : List Member) (vs : List ℕ) (now : ℕ) (c : Course) → Running P (begun j ms vs now c).agenda
  unfolding begun posted settled
  on_begun j ms vs now c = grind (arith, common_steps, nat_tests)

  -- ## every act

  on_called : (s : Plan) (st : State) (call : CourseCall) (c : Course) → IsDue st c call → Running P c.agenda → Running P (called s st call c).agenda
  unfolding course_failed released
  on_called s st (Answers w said) c i h = on_call true c.agenda c.outcome _ _ (call_answered w said st.clock c) h
  on_called s st (Steps ok) c i h = on_call false c.agenda c.outcome _ _ (call_stepped ok st.clock c (subst (λ d. is_working (left d.agenda) ≡ true) (sym i.1) i.0)) h
  on_called s st (Times now) c i h = on_call true c.agenda c.outcome _ _ (call_timed now c) h
  on_called s st Gathers c i h = on_begun Gather _ [] st.clock _
  on_called s st (Prepares q) c i h = on_begun Prepare _ [] st.clock _
  on_called s st Snapshots c i h = on_begun Snapshot _ _ st.clock _
  on_called s st Completes c i h = on_begun Complete _ [] st.clock _
  on_called s st (Disables w) c i h = h
  on_called s st _ c i h = tt

  pub in_log : (s : Plan) (acts : List Act) → Running P (state s acts).course.agenda
  in_log s acts = of_calls (λ c. Running P c.agenda) s (on_called s) (start s) acts tt

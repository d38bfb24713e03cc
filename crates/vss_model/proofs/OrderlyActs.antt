-- Every act keeps the state orderly.
use Rattle.std.proofs.Common.{◌≡◌, ℕ, ◌+◌, ◌==◌, List, [], ◌∷◌, Option, Some, None, refl, Bool, true, false, map, ap, sym, subst, find, inl, inr, length, arith}
use Rattle.std.specs.Prelude.{option_map, is_some, ◌⊎◌, not}
use Rattle.vss_model.proofs.Terms.{and_parts, common_steps, Context, Backup, AppRollback, NasRollback, Order, VssResult, AsyncCancelled, SetOutcome, Running}
use Rattle.vss_model.proofs.Terms.{Failed as FailedSet, Said, Mark, History, fresh, dropped, Placed, gone_up_to, Group, Cut, Commit, Kind, Gather, Prepare}
use Rattle.vss_model.proofs.Terms.{Snapshot, Complete, Member, Agenda, groups_left, left, is_done, is_working, Course, posted, nat_tests}
use Rattle.vss_model.proofs.Terms.{failed as course_failed, outcome_after, settled_if, settled, begun, told, answered as course_answered, worked}
use Rattle.vss_model.proofs.Terms.{stepped as course_stepped, timed as course_timed, released, Stage, Opened, Started, Done, Session, has_writers, makes_set}
use Rattle.vss_model.proofs.Terms.{stage_after, agenda_ended, set_failed, is_stage, VolumeRow, Plan, State, SetRow, is_running, in_progress, row_changed}
use Rattle.vss_model.proofs.Terms.{left_now, Ending, NothingEnds, AgendaEnds, SetFails, ending, row_settled, runs, new_set, with_volume, with_cut, Act}
use Rattle.vss_model.proofs.Terms.{state, LetsGo, is_early, IsOfStage, IsOfSession, WaitsFor, IsAgendaOf, has_failed, AreLive, AllLive, IsOrderly, IsKeptFrom}
use Rattle.vss_model.proofs.Terms.{from_answered, from_stepped, from_timed, history_cut, CompleteSet}
use Rattle.vss_model.proofs.StateForm.{concluded, followed, failed_in, failed, start_set, images_released, closed, answered, cut_set}
use Rattle.vss_model.proofs.StateForm.{image_made, step_made, stepped_as, stepped, ticked, later, IsKeptByChanges, IsKeptByWrites}
use Rattle.vss_model.proofs.Rows.{none_runs}
use Rattle.vss_model.proofs.Rules.{on_after}
use Rattle.vss_model.proofs.Orderly.{IsSameRow, numbered-map, newest-map, find-map, live-map, all_live_along, live-filter, live-append, all_live-map}
use Rattle.vss_model.proofs.Orderly.{all_live-change_at, numbered-settled, newest-settled, find-settled_over, find-settled_running, live-settled}
use Rattle.vss_model.proofs.Orderly.{all_live-fails, numbered-append, newest-append, find-append_new, all_live-append, live_found, true_not_false}
use Rattle.vss_model.proofs.Appending.{by_acts}
use Rattle.requestor.specs.declared.session_call.SessionCall.TheVariants as call

-- ## what calls do to the agenda and the outcome

abbrev pub EndsIn : Kind → SetOutcome → SetOutcome → Type 0
EndsIn k o p = (p ≡ outcome_after k o) ⊎ (has_failed p ≡ true)

-- an agenda goes on with its kind and the outcome, or it ends; where none ran, nothing changes
abbrev pub Moves : Option Agenda → SetOutcome → Option Agenda → SetOutcome → Type 0
Moves None o None p = p ≡ o
Moves None o (Some b) p = ⊥
Moves (Some a) o None p = EndsIn a.kind o p
Moves (Some a) o (Some b) p = (b.kind ≡ a.kind) × (p ≡ o)

abbrev pub MovesOn : Course → Course → Type 0
MovesOn c d = Moves c.agenda c.outcome d.agenda d.outcome

moves_told : (o : Order) (said : Said) (now : ℕ) (ws : List ℕ) (c : Course) → MovesOn c (told o said now ws c)
unfolding told
moves_told o said now ws c = grind arith

moves_worked : (now : ℕ) (c : Course) → MovesOn c (worked now c)
unfolding worked
moves_worked now c = grind arith

moves_failed : (why : VssResult) (a : Option Agenda) (o : SetOutcome) (d : Course) → is_some a ≡ true → Moves a o (course_failed why d).agenda (course_failed why d).outcome
unfolding course_failed
moves_failed why a o d e = grind arith

moves_posted : (before c d : Course) → MovesOn c d → MovesOn c (posted before d)
unfolding posted
moves_posted before c d h = h

moves_kept : (c : Course) → IsKeptFrom (MovesOn c) c
moves_kept c = record {
  stays = grind arith;
  posts = λ before d h. moves_posted before c d h;
  says = λ o said now ws e. moves_told o said now ws c;
  works = λ now. moves_worked now c;
  fails = λ why d e h. moves_failed why c.agenda c.outcome d e;
  closes = λ a d e f h. grind (arith, subst (λ x. Moves c.agenda c.outcome x d.outcome) e h);
}

pub moves_answered : (w : ℕ) (said : Said) (now : ℕ) (c : Course) → MovesOn c (course_answered w said now c)
moves_answered w said now c = from_answered (MovesOn c) c (moves_kept c) w said now

pub moves_stepped : (ok : Bool) (now : ℕ) (c : Course) → is_working (left c.agenda) ≡ true → MovesOn c (course_stepped ok now c)
moves_stepped ok now c e = from_stepped (MovesOn c) c (moves_kept c) ok now e

pub moves_timed : (now : ℕ) (c : Course) → MovesOn c (course_timed now c)
moves_timed now c = from_timed (MovesOn c) c (moves_kept c) now

-- ## what follows

agenda_none : (a : Option Agenda) (q : Option Session) → a ≡ None → IsAgendaOf a q
agenda_none a q e = grind arith

fails : (why : VssResult) (c : Course) (st : State) (q : Session) → st.session ≡ Some q → c.agenda ≡ None → has_failed c.outcome ≡ true → IsOrderly st → IsOrderly (concluded (SetFails why) (record st { course = c }))
fails why c st q e f g h =
    let none = find-settled_over c.outcome (grind arith) st.sets in
    let Q : Option SetRow → Type 0 = λ x. IsOfSession (option_map (set_failed why) st.session) c.outcome x in
    record {
      numbered = numbered-settled c.outcome 1 st.sets h.numbered;
      newest = newest-settled c.outcome st.sets h.newest;
      session = subst Q (sym none) (grind arith);
      agenda = agenda_none c.agenda _ f;
      live = all_live-fails c.outcome st.sets (in_progress st) h.newest refl st.volumes h.live;
    }

-- ## an agenda ends

-- the set in progress once the rows have the outcome of a session whose set was still running
abbrev found_after : Kind → Option SetRow → Option SetRow
found_after Snapshot found = None
found_after _ found = option_map (λ (r : SetRow). record r { result = Running }) found

find-after : (k : Kind) (rows : List SetRow) → find (λ r. is_running r.result) (map (row_settled (outcome_after k Running)) rows) ≡ found_after k (find (λ r. is_running r.result) rows)
find-after k rows = grind (arith, find-settled_over, find-settled_running)

session_along : (q : Option Session) (s : Session) (o : SetOutcome) (found : Option SetRow) → q ≡ Some s → IsOfSession q o found → IsOfStage s.stage s.set o found
session_along q s o found e h = let Q : Option Session → Type 0 = λ x. IsOfSession x o found in subst Q e h

session_back : (q : Option Session) (s : Session) (o : SetOutcome) (found : Option SetRow) → q ≡ Some s → IsOfStage (stage_after s.context s.stage) s.set o found → IsOfSession (option_map agenda_ended q) o found
session_back q s o found e h = let Q : Option Session → Type 0 = λ x. IsOfSession (option_map agenda_ended x) o found in subst Q (sym e) h

-- the agenda ends, and the set was not over
ends_running : (k : Kind) (c : Course) (st : State) (q : Session) → st.session ≡ Some q → WaitsFor k q.context q.stage → c.agenda ≡ None
    → st.course.outcome ≡ Running → c.outcome ≡ outcome_after k Running → IsOrderly st → IsOrderly (concluded AgendaEnds (record st { course = c }))
ends_running k c st q e w f g i h =
    let was : IsOfStage q.stage q.set Running (in_progress st) =
    (let R : SetOutcome → Type 0 = λ o. IsOfStage q.stage q.set o (in_progress st) in subst R g (session_along st.session q st.course.outcome (in_progress st) e h.session)) in
    let now : IsOfStage (stage_after q.context q.stage) q.set (outcome_after k Running) (find (λ r. is_running r.result) (map (row_settled (outcome_after k Running)) st.sets)) =
    (let R : Option SetRow
    → Type 0 = λ x. IsOfStage (stage_after q.context q.stage) q.set (outcome_after k Running) x in subst R (sym (find-after k st.sets)) (grind arith)) in
    let P : SetOutcome → Type 0 = λ o. IsOfStage (stage_after q.context q.stage) q.set o (find (λ r. is_running r.result) (map (row_settled o) st.sets)) in
    let L : SetOutcome → Type 0 = λ o. AllLive (map (row_settled o) st.sets) st.volumes in
    record {
      numbered = numbered-settled c.outcome 1 st.sets h.numbered;
      newest = newest-settled c.outcome st.sets h.newest;
      session = session_back st.session q c.outcome _ e (subst P (sym i) now);
      agenda = agenda_none c.agenda _ f;
      live = subst L (sym i) (all_live_along st.sets _ (λ n live. live-settled (outcome_after k Running) (grind arith) st.sets n live) st.volumes h.live);
    }

stage_over : (k : Kind) (c : Context) (s : Stage) (set : Option ℕ) (o p : SetOutcome) → is_running o ≡ false → WaitsFor k c s → IsOfStage s set o None → IsOfStage (stage_after c s) set p None
stage_over k c s set o p e w h = grind arith

ends_over : (k : Kind) (c : Course) (st : State) (q : Session) → st.session ≡ Some q → WaitsFor k q.context q.stage → c.agenda ≡ None → is_running st.course.outcome ≡ false → is_running c.outcome ≡ false → IsOrderly st → IsOrderly (concluded AgendaEnds (record st { course = c }))
ends_over k c st q e w f g i h =
    let was = session_along st.session q st.course.outcome (in_progress st) e h.session in
    let found : in_progress st ≡ None = grind arith in
    let P : Option SetRow → Type 0 = λ x. IsOfStage (stage_after q.context q.stage) q.set c.outcome x in
    record {
      numbered = numbered-settled c.outcome 1 st.sets h.numbered;
      newest = newest-settled c.outcome st.sets h.newest;
      session = session_back st.session q c.outcome _ e
          (subst P (sym (find-settled_over c.outcome i st.sets)) (stage_over k q.context q.stage q.set st.course.outcome c.outcome g w (grind arith)));
      agenda = agenda_none c.agenda _ f;
      live = all_live-fails c.outcome st.sets None h.newest found st.volumes h.live;
    }

ending_regular : (k : Kind) → ending Running (outcome_after k Running) true None ≡ AgendaEnds
ending_regular k = grind arith

-- by how the set stood, and by what ended the agenda
fails_at : (p : SetOutcome) (c : Course) (st : State) (q : Session) → c.outcome ≡ p → has_failed p ≡ true → st.session ≡ Some q → c.agenda ≡ None → IsOrderly st → IsOrderly (concluded (ending Running p true None) (record st { course = c }))
fails_at (FailedSet why) c st q d g e f h = fails why c st q e f (ap has_failed d) h
fails_at _ c st q d g e f h = absurd (true_not_false false g refl)

ends_at : (o : SetOutcome) (k : Kind) (c : Course) (st : State) (q : Session) → st.course.outcome ≡ o → EndsIn k o c.outcome → st.session ≡ Some q
    → WaitsFor k q.context q.stage → c.agenda ≡ None → IsOrderly st → IsOrderly (concluded (ending o c.outcome true None) (record st { course = c }))
ends_at Running k c st q d (inl i) e w f h =
    let Q : SetOutcome → Type 0 = λ p. IsOrderly (concluded (ending Running p true None) (record st { course = c })) in
    let R : Ending → Type 0 = λ x. IsOrderly (concluded x (record st { course = c })) in
    subst Q (sym i) (subst R (sym (ending_regular k)) (ends_running k c st q e w f d i h))
ends_at Running k c st q d (inr g) e w f h = fails_at c.outcome c st q refl g e f h
ends_at CompleteSet k c st q d i e w f h = ends_over k c st q e w f (ap is_running d) (grind arith) h
ends_at (FailedSet why) k c st q d i e w f h = ends_over k c st q e w f (ap is_running d) (grind arith) h

ends_well : (k : Kind) (c : Course) (st : State) (q : Session) → EndsIn k st.course.outcome c.outcome → st.session ≡ Some q → WaitsFor k q.context q.stage
    → c.agenda ≡ None → IsOrderly st → IsOrderly (concluded (ending st.course.outcome c.outcome true None) (record st { course = c }))
ends_well k c st q i e w f h = ends_at st.course.outcome k c st q refl i e w f h

-- ## the course goes on to another

pub ending_idle : (o p : SetOutcome) → p ≡ o → ending o p false None ≡ NothingEnds
ending_idle o p e = grind arith

pub ending_on : (o p : SetOutcome) (ran : Bool) (b : Agenda) → p ≡ o → ending o p ran (Some b) ≡ NothingEnds
ending_on o p ran b e = grind arith

pub ends_settle : (o p : SetOutcome) (st : State)
    → in_progress (concluded (ending o p true None) st) ≡ find (λ r. is_running r.result) (map (row_settled st.course.outcome) st.sets)
ends_settle o p st = grind arith

ends_session : (q : Option Session) (a : Agenda) (c : Course) (st : State) → st.session ≡ q → IsAgendaOf (Some a) q → EndsIn a.kind st.course.outcome c.outcome
    → c.agenda ≡ None → IsOrderly st → IsOrderly (concluded (ending st.course.outcome c.outcome true None) (record st { course = c }))
ends_session None a c st e w i f h = absurd w
ends_session (Some q) a c st e w i f h = ends_well a.kind c st q i e w f h

orderly_at : (a b : Option Agenda) (c : Course) (st : State) → st.course.agenda ≡ a → c.agenda ≡ b → Moves a st.course.outcome b c.outcome → IsOrderly st → IsOrderly (concluded (ending st.course.outcome c.outcome (is_some a) b) (record st { course = c }))
orderly_at None None c st e f m h = grind (arith, common_steps, ending_idle, agenda_none)
orderly_at None (Some b) c st e f m h = absurd m
orderly_at (Some a) (Some b) c st e f m h = grind (arith, common_steps, ending_on)
orderly_at (Some a) None c st e f m h =
    let A : Option Agenda → Type 0 = λ x. IsAgendaOf x st.session in
    ends_session st.session a c st refl (subst A e h.agenda) m f h

orderly_followed : (c : Course) (st : State) → MovesOn st.course c → IsOrderly st → IsOrderly (followed (runs st) c st)
unfolding followed
orderly_followed c st m h = orderly_at st.course.agenda c.agenda c st refl refl m h

-- ## an agenda begins

begun_at : (done : Bool) (a : Agenda) (before d : Course) (st : State) (q : Session) → d.agenda ≡ Some a → d.outcome ≡ st.course.outcome → st.session ≡ Some q → WaitsFor a.kind q.context q.stage → IsOrderly st
    → IsOrderly (concluded (ending st.course.outcome (settled_if done a.kind d).outcome true (settled_if done a.kind d).agenda) (record st { course = posted before (settled_if done a.kind d) }))
unfolding posted
begun_at true a before d st q e f g w h = ends_well a.kind (posted before (settled_if true a.kind d)) st q (inl (ap (λ o. outcome_after a.kind o) f)) g w refl h
begun_at false a before d st q e f g w h = grind (arith, common_steps, ending_on)

begun_well : (k : Kind) (ms : List Member) (vs : List ℕ) (now : ℕ) (c : Course) (st : State) (q : Session) → c.outcome ≡ st.course.outcome → st.session ≡ Some q → WaitsFor k q.context q.stage → IsOrderly st → IsOrderly (followed true (begun k ms vs now c) st)
unfolding followed begun posted settled
begun_well k ms vs now c st q f g w h =
    let a : Agenda = record { kind = k; members = ms; volumes = vs; begun = now; log = [] } in
    begun_at (is_done (groups_left a)) a c (record c { agenda = Some a }) st q refl f g w h

-- ## what the table of calls says

pub is_opened : (s : Stage) → is_stage s Opened ≡ true → s ≡ Opened
is_opened s e = grind arith

pub is_started : (s : Stage) → is_stage s Started ≡ true → s ≡ Started
is_started s e = grind arith

pub is_done_stage : (s : Stage) → is_stage s Done ≡ true → s ≡ Done
is_done_stage s e = grind arith

volumes_orderly : (hs : List History) (st : State) → AllLive st.sets hs → IsOrderly st → IsOrderly (record st { volumes = hs })
volumes_orderly hs st live h = record { numbered = h.numbered; newest = h.newest; session = h.session; agenda = h.agenda; live = live }

-- ## steps

pub same_changed : (n : ℕ) (f : SetRow → SetRow) → ((r : SetRow) → (f r).number ≡ r.number) → ((r : SetRow) → (f r).result ≡ r.result) → IsSameRow (row_changed n f)
same_changed n f number result = grind arith

on_cut : (o : Option SetRow) (c : Course) (st : State) → in_progress st ≡ o → MovesOn st.course c → IsOrderly st → IsOrderly (followed (runs st) c (cut_set o st))
on_cut None c st e m h = orderly_followed c st m h
on_cut (Some r) c st e m h = orderly_followed c (cut_set (Some r) st) m
    (grind (
      arith,
      common_steps,
      numbered-map,
      newest-map,
      find-map,
      all_live_along,
      live-map,
      (same_changed r.number (with_cut st.clock) (λ x. refl)
          (λ x. refl)),
      h.live,
    ))

on_made : (o : Option SetRow) (v : Option ℕ) (c : Course) (st : State) → in_progress st ≡ o → MovesOn st.course c → IsOrderly st → IsOrderly (followed (runs st) c (image_made o v st))
on_made (Some r) (Some v) c st e m h =
    orderly_followed c (image_made (Some r) (Some v) st) m
    (volumes_orderly _ st (all_live-change_at (history_cut r.number) st.sets (λ x g. live-append st.sets x.images _ g (live_found st.sets r e)) v st.volumes h.live) h)
on_made _ _ c st e m h = orderly_followed c st m h

on_step_made : (g : Option Group) (v : Option ℕ) (c : Course) (st : State) → MovesOn st.course c → IsOrderly st → IsOrderly (followed (runs st) c (step_made g v st))
on_step_made (Some Cut) v c st m h = on_cut (in_progress st) c st refl m h
on_step_made (Some Commit) v c st m h = on_made (in_progress st) v c st refl m h
on_step_made _ v c st m h = orderly_followed c st m h

on_stepped_as : (fails : Bool) (g : Option Group) (v : Option ℕ) (st : State) → is_working (left_now st) ≡ true → IsOrderly st → IsOrderly (stepped_as fails g v st)
on_stepped_as true g v st w h = orderly_followed _ st (moves_stepped false st.clock st.course w) h
on_stepped_as false g v st w h = on_step_made g v _ st (moves_stepped true st.clock st.course w) h

on_steps : (mark : Mark) (st : State) → is_working (left_now st) ≡ true → IsOrderly st → IsOrderly (stepped mark st)
unfolding stepped
on_steps mark st w h = on_stepped_as _ _ _ st w h

on_answers : (w : ℕ) (said : Said) (st : State) → IsOrderly st → IsOrderly (answered w said st)
unfolding answered
on_answers w said st h = orderly_followed _ st (moves_answered w said st.clock st.course) h

on_ticks : (n : ℕ) (st : State) → IsOrderly st → IsOrderly (ticked n st)
unfolding ticked
on_ticks n st h = orderly_followed _ (later n st) (moves_timed (st.clock + n) st.course)
    (record { numbered = h.numbered; newest = h.newest; session = h.session; agenda = h.agenda; live = h.live })

-- ## the set fails

fails_session : (x : Option Session) (r : SetRow) (why : VssResult) (st : State) → st.session ≡ x → in_progress st ≡ Some r → IsOfSession x st.course.outcome (Some r) → IsOrderly st → IsOrderly (concluded (SetFails why) (record st { course = course_failed why st.course }))
unfolding course_failed
fails_session None r why st e f s h = absurd s
fails_session (Some q) r why st e f s h = fails why (course_failed why st.course) st q e refl refl h

on_failed_in : (o : Option SetRow) (why : VssResult) (st : State) → in_progress st ≡ o → IsOrderly st → IsOrderly (failed_in o why st)
on_failed_in None why st e h = h
on_failed_in (Some r) why st e h =
    let Q : Option SetRow → Type 0 = λ x. IsOfSession st.session st.course.outcome x in
    fails_session st.session r why st refl e (subst Q e h.session) h

pub none_after : (o : Option SetRow) (why : VssResult) (st : State) → in_progress st ≡ o → in_progress (failed_in o why st) ≡ None
unfolding course_failed
none_after o why st e = grind (arith, find-settled_over)

-- ## volumes and sessions

live_gone : (m : ℕ) (rows : List SetRow) (ps : List Placed) (hs : List History) → AllLive rows hs → AllLive rows (gone_up_to m ps hs)
live_gone m rows (p ∷ ps) (x ∷ hs) h = (grind (arith, live-filter, h.0), live_gone m rows ps hs h.1)
live_gone m rows ps hs h = grind (arith, common_steps, nat_tests, live-filter)

live_dropped : (n : ℕ) (rows : List SetRow) (x : History) → AreLive rows x.images → AreLive rows (dropped n x).images
live_dropped n rows x h = live-filter (λ i. not (i.set == n)) rows x.images h

stage_none : (s : Stage) (set : Option ℕ) (o : SetOutcome) (found : Option SetRow) → makes_set s ≡ false → IsOfStage s set o found → (found ≡ None) × (is_early s ≡ true → o ≡ Running)
stage_none s set o found e h = grind arith

on_starts : (q : Session) (st : State) → LetsGo call.Start q st → makes_set q.stage ≡ false → IsOrderly st → IsOrderly (start_set q st).1
on_starts q st g e h =
    let was = stage_none q.stage q.set st.course.outcome (in_progress st) e (session_along st.session q st.course.outcome (in_progress st) g.stands h.session) in
    let F : Option SetRow → Type 0 = λ x. IsOfStage Started (Some (length st.sets + 1)) st.course.outcome x in
    record {
      numbered = numbered-append 1 st.sets (new_set (length st.sets + 1) q.context) h.numbered refl;
      newest = newest-append st.sets (new_set (length st.sets + 1) q.context) was.0;
      session = subst F (sym (find-append_new st.sets (new_set (length st.sets + 1) q.context) was.0 refl)) (refl, refl, was.1 (grind (arith, g.allowed)));
      agenda = agenda_none st.course.agenda _ (none_runs st.course.agenda g.quiet);
      live = all_live-append st.sets (new_set (length st.sets + 1) q.context) st.volumes h.live;
    }

live_released : (c : Context) (set : Option ℕ) (rows : List SetRow) (hs : List History) → AllLive rows hs → AllLive rows (images_released c set hs)
live_released Backup None rows hs h = h
live_released Backup (Some n) rows hs h = all_live-map (dropped n) rows (λ x g. live_dropped n rows x g) hs h
live_released AppRollback set rows hs h = h
live_released NasRollback set rows hs h = h

on_closed : (q : Session) (x : State) → in_progress x ≡ None → IsOrderly x → IsOrderly (closed q x)
unfolding closed released
on_closed q x e h = grind (arith, live_released)

-- ## every act

pub kept_by_changes : IsKeptByChanges IsOrderly
kept_by_changes = record {
  answers = λ w said st e h. on_answers w said st h;
  steps = λ mark st e h. on_steps mark st e h;
  ticks = on_ticks;
  fails = λ why st h. on_failed_in (in_progress st) why st refl h;
  gathers = λ s q st g h. begun_well Gather _ [] st.clock _ st q refl g.stands (is_opened q.stage (and_parts (is_stage q.stage Opened) (has_writers q.context) g.allowed).0) h;
  prepares = λ s q st g f h.
      let may = and_parts (is_stage q.stage Started) (has_writers q.context) g.allowed in
      begun_well Prepare _ [] st.clock _ st q refl g.stands (is_started q.stage may.0, may.1) h;
  snapshots = λ q st g f h. begun_well Snapshot st.course.members _ st.clock st.course st q refl g.stands (grind (arith, g.allowed)) h;
  completes = λ q st g h. begun_well Complete _ [] st.clock _ st q refl g.stands (is_done_stage q.stage (and_parts (is_stage q.stage Done) (has_writers q.context) g.allowed).0) h;
  clears = λ s v b st h. volumes_orderly _ st (live_gone _ st.sets _ st.volumes h.live) h;
  deletes_set = λ n st h. volumes_orderly _ st (all_live-map (dropped n) st.sets (λ x g. live_dropped n st.sets x g) st.volumes h.live) h;
  deletes_image = λ n v st h. volumes_orderly _ st (all_live-change_at (dropped n) st.sets (λ x g. live_dropped n st.sets x g) v st.volumes h.live) h;
  begins = λ lane all c y z k. grind arith;
  names = λ q explicit st g h. record { numbered = h.numbered; newest = h.newest; session = h.session; agenda = h.agenda; live = h.live };
  disables = λ w q st g h. record { numbered = h.numbered; newest = h.newest; session = h.session; agenda = h.agenda; live = h.live };
  starts = on_starts;
  adds = λ v r q st g e f h. grind (
    arith,
    common_steps,
    numbered-map,
    newest-map,
    find-map,
    all_live_along,
    live-map,
    (same_changed r.number (with_volume v) (λ x. refl)
        (λ x. refl)),
    h.live,
  );
  ends = λ q st e h. on_closed q (failed AsyncCancelled st) (none_after (in_progress st) AsyncCancelled st refl) (on_failed_in (in_progress st) AsyncCancelled st refl h);
}

pub kept_by_writes : (st : State) → IsKeptByWrites IsOrderly st
kept_by_writes st = grind (arith, common_steps, volumes_orderly, all_live-change_at, live-filter)

fresh_live : (rows : List SetRow) (vs : List VolumeRow) → AllLive rows (map (λ _. fresh) vs)
fresh_live rows [] = tt
fresh_live rows (v ∷ vs) = (tt, fresh_live rows vs)

pub orderly : (s : Plan) (acts : List Act) → IsOrderly (state s acts)
orderly s acts = by_acts IsOrderly s (λ past act h. on_after IsOrderly kept_by_changes s (state s past) act (kept_by_writes (state s past)) h)
    (record { numbered = tt; newest = tt; session = refl; agenda = tt; live = fresh_live [] s.volumes }) acts

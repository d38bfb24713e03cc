-- What follows from a step of the course: an agenda ends, or the set in progress fails; and what is kept still stands, also who is disabled.
use Rattle.std.proofs.Common.{◌≡◌, ℕ, List, refl, Bool, arith, ◌<◌, [], length, Option, map, ◌∷◌, ap, sym, ◌∙◌, subst, true, false, Some, None}
use Rattle.std.specs.Prelude.{All, ◌&&◌, ◌||◌, not, is_some, find, option_map}
use Rattle.set_agenda.specs.Course.{Course, posted, begun, told, worked, answered, stepped, timed, failed, released, failed as course_failed}
use Rattle.set_agenda.specs.WriterSet.{writers, writers_of}
use Rattle.vss_model.specs.Changes.{after_changes, fails}
use Rattle.vss_model.specs.Steps.{Ending, AgendaEnds, NothingEnds, SetFails, ending, row_settled}
use Rattle.vss_model.specs.declared.told.Told.TheVariants as as_told
use Rattle.vss_model.proofs.Changes.{fails_now, goes_on_own}
use Rattle.vss_model.proofs.StateForm.{followed, concluded, failed_in, images_dropped}
use Rattle.sessions.proofs.Newest.{changed_none, current_bare, settled_bare}
use Rattle.sessions.proofs.Words.{VssResult, Said, Kind, Member, Held, Registered, begun_as, IsKeptInCourse, course_answered, course_begun, course_stepped}
use Rattle.sessions.proofs.Words.{course_timed, History, Session, Sessions as Requestor, Named, Pair, CoordinatorState, Stands, IsOnTime, writer_count, State}
use Rattle.sessions.proofs.Words.{SetRow, bare, SessionsValue, Keeps, selected, length-map, Order, SetOutcome, Running, Complete, Failed, after_agenda, ended}
use Rattle.sessions.proofs.Words.{Effects, KeepsWriters, failed_if_running, Tells, outcome_told, Told, is_running, in_progress, ended_of, EndsAs, IsOfSession}
use Rattle.sessions.proofs.Words.{NumberedFrom, has_failed, found_above, is_over_row, none_ends, none_over, settled_row, Ended, SessionMove, current_of}
use Rattle.sessions.proofs.Words.{running_in, IsInOrder, ended_so, ends_as, failed_set, nothing_ends, told_alone, told_of, without_images, CameTo, Concludes}
use Rattle.sessions.proofs.Words.{HasCome, outcome_in, IsSameRow, find-map}

-- ## Who is disabled stays, whatever is said or begins.

still : (ds : List ℕ) → IsKeptInCourse (λ (c : Course). c.disabled ≡ ds)
unfolding posted told worked failed
still ds = record { posts = λ b c h. h; says = λ o said now ws c h. h; works = λ now c h. h; fails = λ why c h. h; closes = λ k c h. h }

pub disabled_answered : (w : ℕ) (said : Said) (now : ℕ) (c : Course) → (answered w said now c).disabled ≡ c.disabled
disabled_answered w said now c = course_answered (λ (d : Course). d.disabled ≡ c.disabled) (still c.disabled) w said now c refl

pub disabled_stepped : (ok : Bool) (now : ℕ) (c : Course) → (stepped ok now c).disabled ≡ c.disabled
disabled_stepped ok now c = course_stepped (λ (d : Course). d.disabled ≡ c.disabled) (still c.disabled) ok now c refl

pub disabled_timed : (now : ℕ) (c : Course) → (timed now c).disabled ≡ c.disabled
disabled_timed now c = course_timed (λ (d : Course). d.disabled ≡ c.disabled) (still c.disabled) now c refl

pub disabled_failed : (why : VssResult) (c : Course) → (failed why c).disabled ≡ c.disabled
disabled_failed why c = (still c.disabled).fails why c refl

disabled_begun : (k : Kind) (ms : List Member) (vs : List ℕ) (now : ℕ) (c : Course) → (begun k ms vs now c).disabled ≡ c.disabled
disabled_begun k ms vs now c = course_begun (λ (d : Course). d.disabled ≡ c.disabled) (still c.disabled) k ms vs now c refl

pub disabled_begun_as : (k : Kind) (ws : List Registered) (h : Held) (vs : List ℕ) (now : ℕ) (c : Course) → (begun_as k ws h vs now c).disabled ≡ c.disabled
disabled_begun_as k ws h vs now c = grind (arith, disabled_begun)

-- ## What is kept still stands for a state after a part of both changed.

-- the coordinator goes on
pub keeps_course : (x : SessionsValue) (k : CoordinatorState) (st : State) (c : Course) → Keeps x st → Stands k c → writer_count k ≡ writer_count x.coordinator
    → IsOnTime x.clock k → All (λ w. w < writer_count x.coordinator) c.disabled → Keeps (record x { coordinator = k }) (record st { course = c })
keeps_course x k st c kept stands count times known = grind arith

-- the sets and the session go on, and the images
pub keeps_rows : (x : SessionsValue) (st : State) (r : Requestor) (q : Option Session) (rows sets : List SetRow) (hs : List History) → Keeps x st → r.session ≡ q → r.sets_made ≡ length sets
    → rows ≡ map bare sets → Keeps (record x { requestor = r; sets = rows }) (record st { session = q; sets = sets; volumes = hs })
keeps_rows x st r q rows sets hs kept session made same = grind arith

-- another session, in which this is named
pub keeps_named : (x : SessionsValue) (st : State) (r : Requestor) (q : Option Session) (h : Held) (ps : List Pair) → Keeps x st → r.session ≡ q → r.sets_made ≡ x.requestor.sets_made
    → h.selected ≡ Named ps → h.writers ≡ writer_count x.coordinator → Keeps (record x { requestor = r; selection = h }) (record st { session = q; explicit = ps })
keeps_named x st r q h ps kept session made named over = grind arith

-- the session is over
pub closes : (x : SessionsValue) (r : Requestor) (k : CoordinatorState) (st : State) (hs : List History) → Keeps x st → r.session ≡ None → r.sets_made ≡ x.requestor.sets_made
    → Stands k (released st.course) → IsOnTime x.clock k
    → Keeps (record { requestor = r; coordinator = k; sets = x.sets; clock = x.clock; selection = record { writers = writer_count k; selected = Named [] } })
    (record { session = None; explicit = []; sets = st.sets; course = released st.course; volumes = hs; clock = st.clock })
unfolding released
closes x r k st hs kept session made stands times = grind arith

-- ## What follows from a step of the course: an agenda ends, or the set in progress fails.

pub nobody : writers_of 0 ≡ []
unfolding writers
nobody = refl

-- ## rows

pub current_kept : (x : SessionsValue) (st : State) → Keeps x st → current_of x.sets ≡ current_of st.sets
current_kept x st kept = ap current_of kept.sets ∙ current_bare st.sets

-- a set is in progress only where the course's outcome is Running
over_stage : (q : Option Session) (o : SetOutcome) (found : Option SetRow) → is_running o ≡ false → IsOfSession q o found → found ≡ None
over_stage q o found e h = grind arith

rows_as_told : (before after : SetOutcome) (rows : List SetRow) → (is_running before ≡ false → find (λ r. is_running r.result) rows ≡ None)
    → map (row_settled (outcome_told before after)) rows ≡ map (row_settled after) rows
rows_as_told Running after rows h = refl
rows_as_told _ after rows h = changed_none (λ (r : SetRow). record r { result = Running }) rows (h refl) ∙ sym (changed_none (λ (r : SetRow). record r { result = after }) rows (h refl))

-- ## which set ends

same_if : (b : Bool) (r : SetRow) → is_running r.result ≡ b → row_settled Running r ≡ r
same_if b r e = grind arith

settled_same : (rows : List SetRow) → map (row_settled Running) rows ≡ rows
settled_same [] = refl
settled_same (r ∷ rows) = ap (λ (x : SetRow). x ∷ map (row_settled Running) rows) (same_if (is_running r.result) r refl) ∙ ap (λ (xs : List SetRow). r ∷ xs) (settled_same rows)

above_zero : (rows : List SetRow) (r : SetRow) → NumberedFrom 1 rows → find (λ q. is_running q.result) rows ≡ Some r → 0 < r.number
above_zero rows r n e = let l = found_above 1 rows r n e in omega (arith, l)

ends_after : (rows : List SetRow) (found : Option SetRow) (o : SetOutcome) → NumberedFrom 1 rows → find (λ q. is_running q.result) rows ≡ found
    → EndsAs (ended_of found (map (row_settled o) rows)) (ends_as (option_map (λ (r : SetRow). r.number) found) o).set (ends_as (option_map (λ (r : SetRow). r.number) found) o).result
ends_after rows None o n e = refl
ends_after rows (Some r) Running n e = subst (λ (x : Option SetRow). EndsAs x 0 Running) (sym (ap (find (is_over_row r.number)) (settled_same rows) ∙ none_over 1 rows r n e)) refl
ends_after rows (Some r) Complete n e = subst (λ (x : Option SetRow). EndsAs x r.number Complete) (sym (settled_row 1 Complete refl rows r n e)) (refl, refl, above_zero rows r n e)
ends_after rows (Some r) (Failed why) n e = subst (λ (x : Option SetRow). EndsAs x r.number (Failed why)) (sym (settled_row 1 (Failed why) refl rows r n e)) (refl, refl, above_zero rows r n e)

pub no_end : (st : State) → IsInOrder st → EndsAs (ended_of (in_progress st) st.sets) 0 Running
no_end st order = subst (λ (x : Option SetRow). EndsAs x 0 Running) (sym (none_ends st.sets order.numbered)) refl

-- a change that keeps numbers, and whether a set is in progress, ends none
pub ended_mapped : (f : SetRow → SetRow) → IsSameRow f → (rows more : List SetRow) → ended_of (running_in (map f rows)) more ≡ ended_of (running_in rows) more
ended_mapped f same rows more = ap (λ (x : Option SetRow). ended_of x more) (find-map f same.running rows) ∙ by_found (running_in rows)
  where
    by_found : (o : Option SetRow) → ended_of (option_map f o) more ≡ ended_of o more
    by_found None = refl
    by_found (Some r) = ap (λ (n : ℕ). find (is_over_row n) more) (same.number r)

-- ## whose images go

-- the images of what ends go, where it failed
abbrev volumes_after : Ended → List History → List History
volumes_after e hs = without_images (failed_set e.result e.set) hs

volumes_failed : (found : Option SetRow) (why : VssResult) (hs : List History) → images_dropped found hs ≡ volumes_after (ends_as (option_map (λ (r : SetRow). r.number) found) (Failed why)) hs
volumes_failed found why hs = grind arith

volumes_kept : (found : Option SetRow) (o : SetOutcome) (hs : List History) → has_failed o ≡ false → hs ≡ volumes_after (ends_as (option_map (λ (r : SetRow). r.number) found) o) hs
volumes_kept found o hs e = grind arith

-- ## the set or the agenda ends

-- what ends, by what is told
abbrev ending_told : SetOutcome → Bool → Ending
ending_told (Failed why) over = SetFails why
ending_told _ true = AgendaEnds
ending_told _ false = NothingEnds

module _ (old : SessionsValue) (st : State) (c : Course) (order : IsInOrder st) (kept : Keeps old (record st { course = c })) where
  -- the session, the row of the set in progress and the images come to this outcome
  settles : (o : SetOutcome) (q : Option Session) (hs : List History) (t : Told) (lost : ℕ) (at : Option Order) → option_map (ended o) st.session ≡ q
      → map (row_settled o) st.sets ≡ map (row_settled c.outcome) st.sets → hs ≡ volumes_after (ends_as (current_of st.sets) o) st.volumes
      → HasCome t (writers_of lost) at (in_progress st) st.volumes (record st { course = c; session = q; sets = map (row_settled c.outcome) st.sets; volumes = hs })
      (ended_so o old) (told_of t lost at (ends_as (current_of st.sets) o))
  settles o q hs t lost at session rows images = record {
    told = refl;
    lost = refl;
    order = refl;
    ends = subst (λ (rs : List SetRow). EndsAs (ended_of (in_progress st) rs) (ends_as (current_of st.sets) o).set (ends_as (current_of st.sets) o).result) rows
        (ends_after st.sets (in_progress st) o order.numbered refl);
    volumes = images;
    keeps = keeps_rows old (record st { course = c }) (after_agenda o old.requestor) q _ _ hs kept (ap (option_map (ended o)) kept.session ∙ session)
        (kept.made ∙ sym (length-map st.sets (row_settled c.outcome))) (ap (map (row_settled o)) kept.sets ∙ settled_bare o st.sets ∙ ap (map bare) rows);
  }

  -- these effects tell of the course
  module _ (t : Told) (e : Effects) (ran : Bool) (outcome : e.outcome ≡ outcome_told st.course.outcome c.outcome) (over : e.agenda_ended ≡ (ran && not (is_some c.agenda))) where
    ending_now : ending_told e.outcome e.agenda_ended ≡ ending st.course.outcome c.outcome ran c.agenda
    ending_now = grind arith

    rows_now : map (row_settled e.outcome) st.sets ≡ map (row_settled c.outcome) st.sets
    rows_now = grind (arith, rows_as_told, over_stage)

    abbrev Ends : SetOutcome → Ending → Type 0
    Ends o x = HasCome t (writers_of e.lost) e.lost_order (in_progress st) st.volumes (concluded x (record st { course = c })) (ended_so o old)
        (told_of t e.lost e.lost_order (ends_as (current_of st.sets) o))

    then_ends : (has_failed e.outcome || e.agenda_ended) ≡ true
        → HasCome t (writers_of e.lost) e.lost_order (in_progress st) st.volumes (followed ran c st) (ended_so e.outcome old) (told_of t e.lost e.lost_order (ends_as (current_of st.sets) e.outcome))
    unfolding followed
    then_ends h = subst (λ (x : Ending). Ends e.outcome x) ending_now (by_told e.outcome e.agenda_ended h rows_now)
      where
        by_told : (o : SetOutcome) (b : Bool) → (has_failed o || b) ≡ true → map (row_settled o) st.sets ≡ map (row_settled c.outcome) st.sets → Ends o (ending_told o b)
        by_told (Failed why) b f rows = settles (Failed why) _ _ t e.lost e.lost_order refl rows (volumes_failed (in_progress st) why st.volumes)
        by_told Running true f rows = settles Running _ _ t e.lost e.lost_order refl rows (volumes_kept (in_progress st) Running st.volumes refl)
        by_told Complete true f rows = settles Complete _ _ t e.lost e.lost_order refl rows (volumes_kept (in_progress st) Complete st.volumes refl)
        by_told _ false f rows = cc

    then_goes_on : (has_failed e.outcome || e.agenda_ended) ≡ false
        → HasCome t (writers_of e.lost) e.lost_order (in_progress st) st.volumes (followed ran c st) old (told_of t e.lost e.lost_order nothing_ends)
    unfolding followed
    then_goes_on h = grind (arith, ending_now, no_end)

-- with the names that the effects have for what was lost
lost_as : (t : Told) (e : Effects) (ran : Bool) (gone : List ℕ) (at : Option Order) (c d : Course) (found : Option SetRow) (hs : List History) (after : State) (new : SessionsValue) (m : SessionMove)
    → Tells e ran gone at c d
    → HasCome t (writers_of e.lost) e.lost_order found hs after new m → HasCome t gone at found hs after new m
lost_as t e ran gone at c d found hs after new m tells h = grind arith

pub concluded_then : (old new : SessionsValue) (t : Told) (e : Effects) (current : Option ℕ) (m : SessionMove) → (has_failed e.outcome || e.agenda_ended) ≡ true → new ≡ ended_so e.outcome old
    → current ≡ current_of old.sets → m ≡ told_of t e.lost e.lost_order (ends_as current e.outcome) → Concludes t e old new m
concluded_then old new t e current m h is at moved st c ran gone order_of order kept tells =
    subst (λ y. HasCome t gone order_of (in_progress st) st.volumes y new m) (sym (goes_on_own ran c st)) (lost_as t e ran gone order_of st.course c _ _ _ new m tells
    (subst (λ (x : SessionsValue). HasCome t (writers_of e.lost) e.lost_order (in_progress st) st.volumes (followed ran c st) x m) (sym is)
    (subst (λ (x : SessionMove). HasCome t (writers_of e.lost) e.lost_order (in_progress st) st.volumes (followed ran c st) (ended_so e.outcome old) x)
    (sym (moved ∙ ap (λ (n : Option ℕ). told_of t e.lost e.lost_order (ends_as n e.outcome)) (at ∙ current_kept old (record st { course = c }) kept)))
    (then_ends old st c order kept t e ran tells.outcome tells.agenda_ended h))))

pub concluded_else : (old : SessionsValue) (t : Told) (e : Effects) (m : SessionMove) → (has_failed e.outcome || e.agenda_ended) ≡ false → m ≡ told_of t e.lost e.lost_order nothing_ends
    → Concludes t e old old m
concluded_else old t e m h moved st c ran gone order_of order kept tells =
    subst (λ y. HasCome t gone order_of (in_progress st) st.volumes y old m) (sym (goes_on_own ran c st)) (lost_as t e ran gone order_of st.course c _ _ _ old m tells
    (subst (λ (x : SessionMove). HasCome t (writers_of e.lost) e.lost_order (in_progress st) st.volumes (followed ran c st) old x) (sym moved)
    (then_goes_on old st c order kept t e ran tells.outcome tells.agenda_ended h)))

-- ## the set in progress fails

pub no_row : (o : Option SetRow) → None ≡ option_map (λ (r : SetRow). r.number) o → o ≡ None
no_row o e = grind arith

outcome_failed : (why : VssResult) (c : Course) → (course_failed why c).outcome ≡ Failed why
unfolding course_failed
outcome_failed why c = refl

pub fails_so : (old new : SessionsValue) (k : CoordinatorState) (st : State) (why : VssResult) (n : ℕ) (m : SessionMove) → IsInOrder st → Keeps old st → Some n ≡ current_of old.sets
    → Stands k (failed_if_running st.course.outcome why st.course) → KeepsWriters old.coordinator k → IsOnTime old.clock k → new ≡ ended_so (Failed why) (record old { coordinator = k })
    → m ≡ told_of as_told.Ok 0 None (ends_as (Some n) (Failed why)) → CameTo as_told.Ok st (after_changes st (fails (in_progress st) why st)) new m
fails_so old new k st why n m order kept current stands writers times is moved = subst (λ x. CameTo as_told.Ok st x new m) (sym (fails_now why st)) (by_found (in_progress st) refl)
  where
    known : Some n ≡ current_of st.sets
    known = current ∙ current_kept old st kept

    by_found : (found : Option SetRow) → in_progress st ≡ found → CameTo as_told.Ok st (failed_in found why st) new m
    by_found None e = absurd (let none : Some n ≡ None = known ∙ ap (option_map (λ (r : SetRow). r.number)) e in cc)
    by_found (Some r) e =
        let running = outcome_in st.session st.course.outcome r (subst (IsOfSession st.session st.course.outcome) e order.session) in
        let fails : Stands k (course_failed why st.course) = subst (λ (o : SetOutcome). Stands k (failed_if_running o why st.course)) running stands in
        let mid = keeps_course old k st (course_failed why st.course) kept fails writers.count times
        (subst (λ (ds : List ℕ). All (λ w. w < writer_count old.coordinator) ds) (sym (disabled_failed why st.course)) kept.disabled) in
        let came = settles (record old { coordinator = k }) st (course_failed why st.course) order mid (Failed why) _ _ as_told.Ok 0 None refl
        (ap (λ (o : SetOutcome). map (row_settled o) st.sets) (sym (outcome_failed why st.course))) (volumes_failed (in_progress st) why st.volumes) in
        let told_so = subst (λ (x : SessionMove). HasCome as_told.Ok (writers_of 0) None (in_progress st) st.volumes (failed_in (Some r) why st)
        (ended_so (Failed why) (record old { coordinator = k })) x)
        (sym (moved ∙ ap (λ (x : Option ℕ). told_of as_told.Ok 0 None (ends_as x (Failed why))) known)) came in
        subst (λ (ws : List ℕ). HasCome as_told.Ok ws None (in_progress st) st.volumes (failed_in (Some r) why st) new m) nobody
        (subst (λ (x : SessionsValue). HasCome as_told.Ok (writers_of 0) None (in_progress st) st.volumes (failed_in (Some r) why st) x m) (sym is) told_so)

-- no set is in progress
pub fails_not : (x : SessionsValue) (st : State) (why : VssResult) (m : SessionMove) → IsInOrder st → Keeps x st → None ≡ current_of x.sets → m ≡ told_alone as_told.Ok
    → CameTo as_told.Ok st (after_changes st (fails (in_progress st) why st)) x m
fails_not x st why m order kept current is = subst (λ y. CameTo as_told.Ok st y x m) (sym (fails_now why st)) stays where
  stays : CameTo as_told.Ok st (failed_in (in_progress st) why st) x m
  stays = grind (arith, no_row, current_kept, nobody, no_end)

-- The volumes of sets and agendas, and the writers that take part or are disabled, stay those of the scenario, whatever happens.
use Rattle.std.proofs.Common.{◌≡◌, ℕ, ◌+◌, ◌<◌, ◌≤◌, ◌==◌, List, [], ◌∷◌, ◌++◌, Option, Some, None, Bool, true, false, subst, length, arith, option_map, map, filter, find, if◌then◌else◌, not}
use Rattle.vss_world.proofs.Words.{Act, Agenda, AreBelow, AsyncCancelled, Course, Covers, Ending, Event, Group, History, IsAgendaIn}
use Rattle.vss_world.proofs.Words.{IsInPlan, IsKeptInCourse, IsOp, Kind, Line, Mark, Member, MembersBelow, Ok, Open, Pair, Place, Plan}
use Rattle.vss_world.proofs.Words.{Said, Session, SetFails, SetOutcome, SetRow, SetsBelow, State, VssResult, Write, WriterRow, after, after_by, all_say, begun, cleared, concluded}
use Rattle.vss_world.proofs.Words.{course_answered, course_begun, course_stepped, course_timed, covered, ending, failed_in, has_said, idle_now, in_progress, is_over_volumes}
use Rattle.vss_world.proofs.Words.{is_running, later, left, left_from, left_now, member_if, members_from, members_of, next_member, next_volume, open_group, places}
use Rattle.vss_world.proofs.Words.{row_cut, row_gathered, row_settled, runs, said_of, set_loses_image, step_made, stepped_as, volumes_of, waited_for, with_cut, with_group}
use Rattle.vss_world.proofs.Words.{with_room_if}
use Rattle.set_agenda.specs.Course.{failed, posted, told, worked, released}
use Rattle.set_agenda.specs.declared.kind.Kind.TheVariants as kind
use Rattle.vss_model.proofs.StateForm.{followed, failed as set_failed, closed, stepped, answered, ticked, write}

-- ## the course

abbrev pub IsCourseIn : Plan → Course → Type 0
IsCourseIn s c = IsAgendaIn s c.agenda × MembersBelow (length s.writers) c.members × AreBelow (length s.writers) c.disabled

in_failed : (s : Plan) (why : VssResult) (c : Course) → IsCourseIn s c → IsCourseIn s (failed why c)
unfolding failed
in_failed s why c h = (tt, h.1, h.2)

in_said : (s : Plan) (said : Said) (now : ℕ) (ws : List ℕ) (a : Option Agenda) → IsAgendaIn s a → IsAgendaIn s (option_map (all_say said now ws) a)
in_said s said now ws a h = grind arith

in_worked : (s : Plan) (now : ℕ) (c : Course) → IsCourseIn s c → IsCourseIn s (worked now c)
unfolding worked
in_worked s now c h = (in_said s Ok now (next_member (left c.agenda) ∷ []) c.agenda h.0, h.1, h.2)

in_course : (s : Plan) → IsKeptInCourse (IsCourseIn s)
unfolding posted told
in_course s = record {
  posts = λ before c h. h;
  says = λ o said now ws c h. (in_said s said now ws c.agenda h.0, h.1, h.2);
  works = in_worked s;
  fails = in_failed s;
  closes = λ k c h. (tt, h.1, h.2);
}

in_released : (s : Plan) (c : Course) → IsCourseIn s c → IsCourseIn s (released c)
unfolding released
in_released s c h = (tt, tt, tt)

-- ## the state

course_of : (s : Plan) (st : State) → IsInPlan s st → IsCourseIn s st.course
course_of s st h = (h.agenda, h.members, h.disabled)

with_course : (s : Plan) (c : Course) (st : State) → IsCourseIn s c → SetsBelow (length s.volumes) st.sets → IsInPlan s (record st { course = c })
with_course s c st h sets = record { sets = sets; agenda = h.0; members = h.1; disabled = h.2 }

below_either : (b : Bool) (n : ℕ) (q r : SetRow) → AreBelow n q.volumes → AreBelow n r.volumes → AreBelow n (if b then q else r).volumes
below_either b n q r h k = grind arith

pub sets_map : (n : ℕ) (f : SetRow → SetRow) → ((r : SetRow) → AreBelow n r.volumes → AreBelow n (f r).volumes) → (rows : List SetRow) → SetsBelow n rows → SetsBelow n (map f rows)
sets_map n f keeps [] h = tt
sets_map n f keeps (r ∷ rows) h = (keeps r h.0, sets_map n f keeps rows h.1)

sets_settled : (n : ℕ) (o : SetOutcome) (rows : List SetRow) → SetsBelow n rows → SetsBelow n (map (row_settled o) rows)
sets_settled n o rows h = sets_map n (row_settled o) (λ r k. below_either (is_running r.result) n (record r { result = o }) r k k) rows h

pub in_concluded : (s : Plan) (e : Ending) (st : State) → IsInPlan s st → IsInPlan s (concluded e st)
in_concluded s e st h = grind (arith, sets_settled)

pub in_followed : (s : Plan) (ran : Bool) (c : Course) (st : State) → IsCourseIn s c → SetsBelow (length s.volumes) st.sets → IsInPlan s (followed ran c st)
unfolding followed
in_followed s ran c st h sets = in_concluded s (ending st.course.outcome c.outcome ran c.agenda) (record st { course = c }) (with_course s c st h sets)

pub in_failed_in : (s : Plan) (r : Option SetRow) (why : VssResult) (st : State) → IsInPlan s st → IsInPlan s (failed_in r why st)
in_failed_in s None why st h = h
in_failed_in s (Some r) why st h = in_concluded s (SetFails why) (record st { course = failed why st.course })
    (with_course s (failed why st.course) st (in_failed s why st.course (course_of s st h)) h.sets)

pub in_set_failed : (s : Plan) (why : VssResult) (st : State) → IsInPlan s st → IsInPlan s (set_failed why st)
in_set_failed s why st h = in_failed_in s (in_progress st) why st h

pub sets_cut : (n k now : ℕ) (rows : List SetRow) → SetsBelow n rows → SetsBelow n (map (row_cut k now) rows)
sets_cut n k now rows h = sets_map n (row_cut k now) (λ r b. below_either (r.number == k) n (with_cut now r) r b b) rows h

pub sets_append : (n : ℕ) (rows : List SetRow) (r : SetRow) → SetsBelow n rows → AreBelow n r.volumes → SetsBelow n (rows ++ r ∷ [])
sets_append n [] r h k = (k, tt)
sets_append n (q ∷ rows) r h k = (h.0, sets_append n rows r h.1 k)

below_append : (n : ℕ) (vs : List ℕ) (v : ℕ) → AreBelow n vs → v < n → AreBelow n (vs ++ v ∷ [])
below_append n [] v h k = (k, tt)
below_append n (x ∷ vs) v h k = (h.0, below_append n vs v h.1 k)

found_below : (n : ℕ) (test : SetRow → Bool) (rows : List SetRow) (r : SetRow) → find test rows ≡ Some r → SetsBelow n rows → AreBelow n r.volumes
found_below n test [] r e h = absurd cc
found_below n test (q ∷ rows) r e h = at_head (test q) e (λ g. found_below n test rows r g h.1)
  where
    at_head : (b : Bool) → (if b then Some q else find test rows) ≡ Some r → (find test rows ≡ Some r → AreBelow n r.volumes) → AreBelow n r.volumes
    at_head true g later = let same : q ≡ r = cc in subst (λ (x : SetRow). AreBelow n x.volumes) same h.0
    at_head false g later = later g

-- the volumes of the set in progress are of the scenario
pub volumes_below : (n : ℕ) (st : State) → SetsBelow n st.sets → AreBelow n (volumes_of (in_progress st))
volumes_below n st h = grind (arith, found_below)

-- ## the volume of the provider's next step

abbrev pub IsBelowIf : ℕ → Option ℕ → Type 0
IsBelowIf n None = Unit {0}
IsBelowIf n (Some v) = v < n

pub below_if : (b : Bool) (n v : ℕ) (vs : List ℕ) → v < n → AreBelow n vs → AreBelow n (if b then v ∷ vs else vs)
below_if b n v vs h k = grind arith

pub below_filter : (test : ℕ → Bool) (n : ℕ) (vs : List ℕ) → AreBelow n vs → AreBelow n (filter test vs)
below_filter test n [] h = tt
below_filter test n (v ∷ vs) h = below_if (test v) n v (filter test vs) h.0 (below_filter test n vs h.1)

pub next_below_with : (n : ℕ) (p : Place) (ws : List ℕ) (later : List Open) → (is_over_volumes p.group ≡ true → AreBelow n ws) → IsBelowIf n (next_volume later)
    → IsBelowIf n (next_volume (with_group p ws later))
next_below_with n p ws later over h = grind arith

pub next_below_from : (n : ℕ) (a : Agenda) (ps : List Place) → AreBelow n a.volumes → IsBelowIf n (next_volume (left_from a ps))
next_below_from n a [] h = tt
next_below_from n a (p ∷ ps) h =
    next_below_with n p (waited_for a p) (left_from a ps)
    (λ e. below_filter (λ who. not (has_said a.log p who)) n (members_of a p.group p.level) (grind arith)) (next_below_from n a ps h)

pub next_below : (s : Plan) (a : Option Agenda) → IsAgendaIn s a → IsBelowIf (length s.volumes) (next_volume (left a))
next_below s None h = tt
next_below s (Some a) h = next_below_from (length s.volumes) a (places a.kind) h.0

-- ## session lines

-- the members are numbered below the number of rows
members_below_from : (test : ℕ → Bool) (n w : ℕ) (rows : List WriterRow) → w + length rows ≤ n → MembersBelow n (members_from test w rows)
members_below_from test n w [] l = tt
members_below_from test n w (r ∷ rows) l = by_test (test w) (members_below_from test n (w + 1) rows (omega (arith, l)))
  where
    by_test : (t : Bool) → MembersBelow n (members_from test (w + 1) rows) → MembersBelow n (member_if t w r ++ members_from test (w + 1) rows)
    by_test true h = (omega (arith, l), h)
    by_test false h = h

pub members_filter : (test : Member → Bool) (n : ℕ) (ms : List Member) → MembersBelow n ms → MembersBelow n (filter test ms)
members_filter test n [] h = tt
members_filter test n (m ∷ ms) h = by_test (test m) (members_filter test n ms h.1)
  where
    by_test : (t : Bool) → MembersBelow n (filter test ms) → MembersBelow n (if t then m ∷ filter test ms else filter test ms)
    by_test true k = (h.0, k)
    by_test false k = k

begins_in : (s : Plan) (st : State) (k : Kind) (ms : List Member) (vs : List ℕ) (c : Course) → MembersBelow (length s.writers) ms → AreBelow (length s.volumes) vs
    → MembersBelow (length s.writers) c.members
    → AreBelow (length s.writers) c.disabled → SetsBelow (length s.volumes) st.sets → IsInPlan s (followed true (begun k ms vs st.clock c) st)
begins_in s st k ms vs c members below of disabled sets =
    in_followed s true (begun k ms vs st.clock c) st (course_begun (IsCourseIn s) (in_course s) k ms vs st.clock c ((below, members), of, disabled)) sets

in_closed : (s : Plan) (q : Session) (st : State) → IsInPlan s st → IsInPlan s (closed q st)
unfolding closed
in_closed s q st h = let c = in_released s st.course (course_of s st h) in record { sets = h.sets; agenda = c.0; members = c.1; disabled = c.2 }

-- ## the other events

-- what is not of the sets and the course is not looked at
unseen : (s : Plan) (st : State) (q : Option Session) (ps : List Pair) (hs : List History) (n : ℕ) → IsInPlan s st → IsInPlan s (record st { session = q; explicit = ps; volumes = hs; clock = n })
unseen s st q ps hs n h = record { sets = h.sets; agenda = h.agenda; members = h.members; disabled = h.disabled }

in_room_if : (s : Plan) (fails : Bool) (st : State) → IsInPlan s st → IsInPlan s (with_room_if fails st)
in_room_if s true st h = in_set_failed s _ st h
in_room_if s false st h = h

in_write : (s : Plan) (v : ℕ) (w : Write) (mark : Mark) (st : State) → IsInPlan s st → IsInPlan s (write s v w mark st).1
unfolding write
in_write s v w mark st h =
    let new = cleared s v w.block st in
    grind (arith, (in_room_if s (set_loses_image (in_progress st) st.volumes new.volumes) new (unseen s st st.session st.explicit new.volumes st.clock h)))

in_step : (s : Plan) (fails : Bool) (g : Option Group) (v : Option ℕ) (st : State) → IsInPlan s st → IsInPlan s (stepped_as fails g v st)
in_step s true g v st h = in_followed s (runs st) _ st (course_stepped (IsCourseIn s) (in_course s) false st.clock st.course (course_of s st h)) h.sets
in_step s false g v st h = in_followed s (runs st) _ (step_made g v st) (course_stepped (IsCourseIn s) (in_course s) true st.clock st.course (course_of s st h))
    (grind (arith, sets_cut, h.sets))

in_stepped : (s : Plan) (mark : Mark) (st : State) → IsInPlan s st → IsInPlan s (stepped mark st)
unfolding stepped
in_stepped s mark st h = in_step s _ (open_group (left_now st)) (next_volume (left_now st)) st h

in_answered : (s : Plan) (w : ℕ) (said : Said) (st : State) → IsInPlan s st → IsInPlan s (answered w said st)
unfolding answered
in_answered s w said st h = in_followed s (runs st) _ st (course_answered (IsCourseIn s) (in_course s) w said st.clock st.course (course_of s st h)) h.sets

in_ticked : (s : Plan) (n : ℕ) (st : State) → IsInPlan s st → IsInPlan s (ticked n st)
unfolding ticked
in_ticked s n st h = in_followed s (runs st) _ (later n st) (course_timed (IsCourseIn s) (in_course s) (st.clock + n) st.course (course_of s st h)) h.sets

-- ## every event

-- the numbers of a line are those of the scenario
abbrev pub IsEventIn : Plan → Event → Type 0
IsEventIn s (Line lane op) = IsOp s op
IsEventIn s _ = Unit {0}

in_plan : (s : Plan) (st : State) → length st.course.rows ≡ length s.writers → IsInPlan s st → Covers (λ event mark r. IsEventIn s event → IsInPlan s r.1) s st
in_plan s st rows h =
    let all = λ (test : ℕ → Bool). members_below_from test (length s.writers) 0 st.course.rows (let e = rows in omega (arith, e)) in
    record {
      stays = λ lane op mark told e c i. h;
      writes = λ lane op v w mark e f i. in_write s v w mark st h;
      reverts = λ lane n v k mark e f i. grind arith;
      deletes_set = λ lane n c mark e i. unseen s st _ _ _ _ h;
      deletes_image = λ lane n v k mark e i. unseen s st _ _ _ _ h;
      ticks = λ lane n mark i. in_ticked s n st h;
      begins = λ lane n all c mark e f i. unseen s st _ _ _ _ h;
      disables = λ lane w q mark g i. record { sets = h.sets; agenda = h.agenda; members = h.members; disabled = below_append (length s.writers) st.course.disabled w h.disabled i };
      gathers = λ lane q mark g i. begins_in s st kind.Gather _ [] (record st.course { rows = map row_gathered st.course.rows }) (all _) tt h.members h.disabled h.sets;
      names = λ lane w full q explicit mark g e i. unseen s st _ _ _ _ h;
      starts = λ lane q mark g e i. record { sets = sets_append (length s.volumes) st.sets _ h.sets tt; agenda = h.agenda; members = h.members; disabled = h.disabled };
      adds = λ lane v r q mark g e f i.
          record { sets = grind (arith, sets_map, below_either, below_append, h.sets); agenda = h.agenda; members = h.members; disabled = h.disabled };
      prepares = λ lane q mark g f i. begins_in s st kind.Prepare _ [] (record st.course { members = _ }) (all _) tt (all _) h.disabled h.sets;
      snapshots = λ lane q mark g f i.
          begins_in s st kind.Snapshot st.course.members _ st.course h.members (volumes_below (length s.volumes) st h.sets) h.members h.disabled h.sets;
      completes = λ lane q mark g i. begins_in s st kind.Complete _ [] st.course (members_filter _ (length s.writers) st.course.members h.members) tt h.members h.disabled h.sets;
      aborts = λ lane q mark e i. in_set_failed s _ st h;
      ends = λ lane q mark e i. in_closed s q (set_failed AsyncCancelled st) (in_set_failed s AsyncCancelled st h);
      answers = λ w answer mark e i. in_answered s w (said_of answer) st h;
      steps = λ mark e i. in_stepped s mark st h;
      idles = λ mark e i. in_ticked s (idle_now st) st h;
    }

pub in_plan_after : (s : Plan) (st : State) (act : Act) → length st.course.rows ≡ length s.writers → IsEventIn s act.event → IsInPlan s st → IsInPlan s (after s st act)
in_plan_after s st act rows i h =
    after_by (IsInPlan s) s st act (λ e. covered (λ event mark r. IsEventIn s event → IsInPlan s r.1) s st (in_plan s st rows h) act.event act.mark e i) h

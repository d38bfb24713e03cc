-- Where a state stands as the lane's lines lead it: what each change leaves of that, and which courses have not failed.
use Rattle.std.proofs.Common.{◌≡◌, ℕ, ◌+◌, ◌<◌, List, [], ◌∷◌, ◌++◌, Option, Some, None, refl, Bool, true, false, ◌∙◌, ◌==◌, subst, length, arith, ap, sym, inl}
use Rattle.std.proofs.Common.{inr, find, map}
use Rattle.std.specs.Prelude.{nat_lt, ◌⊎◌, drop, not, filter, option_map, is_some, ◌&&◌, ◌||◌, if◌then◌else◌}
use Rattle.vss_names.specs.declared.level.Level.{Level}
use Rattle.writer_state.specs.declared.said.Said.{Said}
use Rattle.writer_state.specs.declared.writer_row.WriterRow.{WriterRow}
use Rattle.set_agenda.specs.declared.kind.Kind.TheVariants.{Gather, Prepare, Snapshot, Complete}
use Rattle.set_agenda.specs.declared.place.Place.{Place as StepPlace}
use Rattle.requestor.specs.declared.mode.Mode.TheVariants.{Components}
use Rattle.vss_model.proofs.Turns.{length-rows_where}
use Rattle.generated.proofs.Terms.{list_all, Member, Agenda, Course, has_failed, AppRollback, VssResult, Stage, Started, Prepared, Session, Plan, lines_of}
use Rattle.generated.proofs.Terms.{State, SetRow, is_running, runs, volumes_of, Act, state, Run, cursor, Asked, AreAsked, Spot, Place, Free, Stands, Waits}
use Rattle.generated.proofs.Terms.{stage_next, volumes_next, completes_sets, nat_tests, and_from, Order, Ok, row_gathered, row_ended, Kind, Group, Open}
use Rattle.generated.proofs.Terms.{is_orders, has_said, writers_at, members_of, waited_for, with_group, left_from, left, is_among, is_asked, order_if}
use Rattle.generated.proofs.Terms.{open_order, all_say, posted, member_if, members_from, settled_in, settled, begun, gathered, prepared, snapshot_begun}
use Rattle.generated.proofs.Terms.{completing, has_row_failed, is_decisive, told, decided, answered_to, answered, worked, stepped, released, and_left}
use Rattle.generated.proofs.Terms.{and_right, not_ok_of_ok, SetOutcome, Running, agenda_ended, Ending, NothingEnds, AgendaEnds, ending, row_settled, concluded}
use Rattle.generated.proofs.Terms.{followed, IsOfSession, IsOrderly, find-settled_running}

-- ## A course that has not failed, and asks only so many writers.

abbrev pub are_below : ℕ → List Member → Bool
are_below k ms = list_all (λ (m : Member). nat_lt m.writer k) ms

abbrev pub AgendaBelow : ℕ → Option Agenda → Type 0
AgendaBelow k None = Unit {0}
AgendaBelow k (Some a) = are_below k a.members ≡ true

pub record IsSound (k : ℕ) (c : Course) : Type 0 where
  pub rows : length c.rows ≡ k
  pub members : are_below k c.members ≡ true
  pub agenda : AgendaBelow k c.agenda
  pub fine : has_failed c.outcome ≡ false

-- ## The invariant of the lane that makes the sets: a state stands where the lane's lines so far have led. Every act of a run
-- keeps it; only the lane's own lines move the spot on.

-- lane 0 owns the session, in context 9
abbrev pub session_at : Stage → Option ℕ → Option VssResult → Session
session_at g set last = record { owner = 0; context = AppRollback; mode = Components; stage = g; set = set; last = last }

pub record IsIn (g : Stage) (session : Option Session) : Type 0 where
  pub set : Option ℕ
  pub last : Option VssResult
  pub is : session ≡ Some (session_at g set last)

-- the set in progress has these volumes
abbrev pub HasVolumes : Stage → List ℕ → List SetRow → Type 0
HasVolumes Started vs rows = volumes_of (find (λ r. is_running r.result) rows) ≡ vs
HasVolumes Prepared vs rows = volumes_of (find (λ r. is_running r.result) rows) ≡ vs
HasVolumes _ vs rows = Unit {0}

-- the session is in this stage, and an agenda runs or not
pub record IsStage (g : Stage) (vs : List ℕ) (busy : Bool) (session : Option Session) (running : Bool) (rows : List SetRow) : Type 0 where
  pub stage : IsIn g session
  pub is_busy : running ≡ busy
  pub volumes : HasVolumes g vs rows

abbrev pub IsPlace : Place → List ℕ → Option Session → Bool → List SetRow → Type 0
IsPlace Free vs session running rows = (session ≡ None) × (running ≡ false)
IsPlace (Stands g) vs session running rows = IsStage g vs false session running rows
IsPlace (Waits g) vs session running rows =
    IsStage g vs true session running rows ⊎ IsStage (stage_next g) (volumes_next g vs) false session running rows

abbrev pub none_failed : List SetRow → Bool
none_failed rows = list_all (λ r. not (has_failed r.result)) rows

pub record IsAt (s : Plan) (p : Place) (k : ℕ) (vs : List ℕ) (st : State) : Type 0 where
  pub sets : length st.sets ≡ k
  pub fine : none_failed st.sets ≡ true
  pub sound : IsSound (length s.writers) st.course
  pub place : IsPlace p vs st.session (runs st) st.sets

-- what holds of each run of a legal trail without faults: what the lane has left to ask leads on from where the state stands
pub record IsOnWay (s : Plan) (n : ℕ) (r : Run) : Type 0 where
  pub so_far : List Act
  pub reached : r.state ≡ state s so_far
  pub asked : List Asked
  pub left : AreAsked s asked (drop (cursor r.moves 0) (lines_of s 0))
  pub spot : Spot
  pub leads : completes_sets (length s.volumes) n asked (Some spot) ≡ true
  pub at : IsAt s spot.place spot.sets spot.volumes r.state

-- ## Courses that have not failed, over so many writers: what keeps them so, and that who is asked is one of these writers.

-- ## who may be asked

-- ## lists

pub length_map : {X Y : Type 0} (f : X → Y) (xs : List X) → length (map f xs) ≡ length xs
length_map f [] = refl
length_map f (x ∷ xs) = let h = length_map f xs in omega (arith, h)

below_filter : {X : Type 0} (p q : X → Bool) (xs : List X) → list_all p xs ≡ true → list_all p (filter q xs) ≡ true
below_filter p q [] h = refl
below_filter p q (x ∷ xs) h = by_test (q x) (below_filter p q xs (and_right (p x) (list_all p xs) h))
  where
    by_test : (t : Bool) → list_all p (filter q xs) ≡ true → list_all p (if t then x ∷ filter q xs else filter q xs) ≡ true
    by_test true g = and_from (p x) (list_all p (filter q xs)) (and_left (p x) (list_all p xs) h) g
    by_test false g = g

pub less_is : (a k : ℕ) → a < k → nat_lt a k ≡ true
less_is a k l = grind (arith, nat_tests)

below_members : (k : ℕ) (test : ℕ → Bool) (w : ℕ) (rows : List WriterRow) → w + length rows ≡ k → are_below k (members_from test w rows) ≡ true
below_members k test w [] e = refl
below_members k test w (r ∷ rows) e = by_test (test w) (below_members k test (w + 1) rows (omega (arith, e)))
  where
    by_test : (t : Bool) → are_below k (members_from test (w + 1) rows) ≡ true → are_below k (member_if t w r ++ members_from test (w + 1) rows) ≡ true
    by_test true g = and_from (nat_lt w k) _ (less_is w k (omega (arith, e))) g
    by_test false g = g

-- ## calls

sound_posted : (k : ℕ) (before c : Course) → IsSound k c → IsSound k (posted before c)
unfolding posted
sound_posted k before c h = record { rows = h.rows; members = h.members; agenda = h.agenda; fine = h.fine }

sound_settled_in : (k : ℕ) (a : Option Agenda) (c : Course) → IsSound k c → IsSound k (settled_in a c)
sound_settled_in k a c h = grind arith

sound_settled : (k : ℕ) (c : Course) → IsSound k c → IsSound k (settled c)
unfolding settled
sound_settled k c h = sound_settled_in k c.agenda c h

below_said : (k : ℕ) (said : Said) (now : ℕ) (ws : List ℕ) (a : Option Agenda) → AgendaBelow k a → AgendaBelow k (option_map (all_say said now ws) a)
below_said k said now ws a h = grind arith

sound_told : (k : ℕ) (o : Order) (said : Said) (now : ℕ) (ws : List ℕ) (c : Course) → IsSound k c → IsSound k (told o said now ws c)
unfolding told
sound_told k o said now ws c h = grind (arith, length-rows_where, below_said)

sound_decided : (k : ℕ) (b : Bool) (c : Course) → b ≡ false → IsSound k c → IsSound k (decided b Ok c)
sound_decided k true c e h = absurd cc
sound_decided k false c e h = sound_settled k c h

sound_answered_to : (k : ℕ) (o : Option Order) (w now : ℕ) (c : Course) → IsSound k c → IsSound k (answered_to o w Ok now c)
sound_answered_to k None w now c h = h
sound_answered_to k (Some o) w now c h = sound_decided k (is_decisive o && not true) (told o Ok now (w ∷ []) c) (not_ok_of_ok (is_decisive o)) (sound_told k o Ok now (w ∷ []) c h)

pub sound_answered : (k w now : ℕ) (c : Course) → IsSound k c → IsSound k (answered w Ok now c)
sound_answered k w now c h = sound_posted k c _ (sound_answered_to k (open_order (left c.agenda) w) w now c h)

sound_worked : (k now : ℕ) (c : Course) → IsSound k c → IsSound k (worked now c)
unfolding worked
sound_worked k now c h = grind arith

pub sound_stepped : (k now : ℕ) (c : Course) → IsSound k c → IsSound k (stepped true now c)
sound_stepped k now c h = sound_posted k c _ (sound_settled k (worked now c) (sound_worked k now c h))

sound_begun : (k : ℕ) (x : Kind) (ms : List Member) (vs : List ℕ) (now : ℕ) (c : Course) → are_below k ms ≡ true → IsSound k c → IsSound k (begun x ms vs now c)
unfolding begun
sound_begun k x ms vs now c e h = sound_posted k c _ (sound_settled k _ (record { rows = h.rows; members = h.members; agenda = e; fine = h.fine }))

pub sound_gathered : (k : ℕ) (is_disabled : ℕ → Bool) (now : ℕ) (c : Course) → IsSound k c → IsSound k (gathered is_disabled now c)
sound_gathered k is_disabled now c h =
    sound_begun k Gather _ [] now (record c { rows = map row_gathered c.rows }) (below_members k _ 0 c.rows (let e = h.rows in omega (arith, e)))
    (record { rows = length_map row_gathered c.rows ∙ h.rows; members = h.members; agenda = h.agenda; fine = h.fine })

pub sound_prepared : (k : ℕ) (takers : List ℕ) (now : ℕ) (c : Course) → IsSound k c → IsSound k (prepared takers now c)
sound_prepared k takers now c h =
    let e = below_members k (λ w. is_among w takers) 0 c.rows (let f = h.rows in omega (arith, f)) in
    sound_begun k Prepare _ [] now _ e (record { rows = h.rows; members = e; agenda = h.agenda; fine = h.fine })

pub sound_snapshot : (k : ℕ) (vs : List ℕ) (now : ℕ) (c : Course) → IsSound k c → IsSound k (snapshot_begun vs now c)
sound_snapshot k vs now c h = sound_begun k Snapshot c.members vs now c h.members h

pub sound_completing : (k now : ℕ) (c : Course) → IsSound k c → IsSound k (completing now c)
sound_completing k now c h = sound_begun k Complete _ [] now c (below_filter (λ (m : Member). nat_lt m.writer k) (λ m. not (has_row_failed c.rows m.writer)) c.members h.members) h

pub sound_released : (k : ℕ) (c : Course) → IsSound k c → IsSound k (released c)
unfolding released
sound_released k c h = record { rows = length_map row_ended c.rows ∙ h.rows; members = refl; agenda = tt; fine = refl }

-- ## who is asked

abbrev below : ℕ → List ℕ → Bool
below k ws = list_all (λ w. nat_lt w k) ws

below_mapped : (k : ℕ) (ms : List Member) → are_below k ms ≡ true → below k (map (λ (m : Member). m.writer) ms) ≡ true
below_mapped k [] h = refl
below_mapped k (m ∷ ms) h = and_from (nat_lt m.writer k) _ (and_left (nat_lt m.writer k) (are_below k ms) h) (below_mapped k ms (and_right (nat_lt m.writer k) (are_below k ms) h))

below_writers : (k : ℕ) (ms : List Member) (l : Option Level) → are_below k ms ≡ true → below k (writers_at ms l) ≡ true
below_writers k ms l h = grind (arith, below_mapped, below_filter)

below_group : (k : ℕ) (a : Agenda) (g : Group) (l : Option Level) → are_below k a.members ≡ true → is_orders g ≡ true → below k (members_of a g l) ≡ true
below_group k a g l h e = grind (arith, below_writers, below_filter)

abbrev AskedBelow : ℕ → List Open → Type 0
AskedBelow k [] = Unit {0}
AskedBelow k (o ∷ os) = is_orders o.place.group ≡ true → below k o.waits ≡ true

asked_with : (k : ℕ) (p : StepPlace) (ws : List ℕ) (later : List Open) → (is_orders p.group ≡ true → below k ws ≡ true) → AskedBelow k later → AskedBelow k (with_group p ws later)
asked_with k p ws later h g = grind arith

asked_from : (k : ℕ) (a : Agenda) (ps : List StepPlace) → are_below k a.members ≡ true → AskedBelow k (left_from a ps)
asked_from k a [] h = tt
asked_from k a (p ∷ ps) h =
    asked_with k p (waited_for a p) (left_from a ps)
    (λ e. below_filter (λ w. nat_lt w k) (λ who. not (has_said a.log p who)) (members_of a p.group p.level) (below_group k a p.group p.level h e))
    (asked_from k a ps h)

asked_left : (k : ℕ) (a : Option Agenda) → AgendaBelow k a → AskedBelow k (left a)
asked_left k a h = grind (arith, asked_from)

among_below : (k w : ℕ) (ws : List ℕ) → is_among w ws ≡ true → below k ws ≡ true → nat_lt w k ≡ true
among_below k w [] e h = absurd cc
among_below k w (x ∷ ws) e h = by_test (x == w) refl e (λ g. among_below k w ws g (and_right (nat_lt x k) (below k ws) h))
  where
    same : (a b : ℕ) → (a == b) ≡ true → a ≡ b
    same a b f = grind arith

    by_test : (t : Bool) → (x == w) ≡ t → (t || is_among w ws) ≡ true → (is_among w ws ≡ true → nat_lt w k ≡ true) → nat_lt w k ≡ true
    by_test true f g later = subst (λ y. nat_lt y k ≡ true) (same x w f) (and_left (nat_lt x k) (below k ws) h)
    by_test false f g later = later g

asked_below_at : (k w : ℕ) (os : List Open) → AskedBelow k os → is_asked w os ≡ true → nat_lt w k ≡ true
asked_below_at k w os h e = grind (arith, among_below, and_right, and_left)

pub asked_of_order : (b : Bool) (x : Option Order) → is_some (order_if b x) ≡ true → b ≡ true
asked_of_order b x e = grind arith

-- a writer that has an open order is one of these
pub asked_is_below : (k w : ℕ) (c : Course) → IsSound k c → is_some (open_order (left c.agenda) w) ≡ true → nat_lt w k ≡ true
asked_is_below k w c h e = grind (arith, asked_below_at, asked_left, asked_of_order)

-- ## What each change leaves of where a state stands.

-- ## endings

-- where the course has not failed, an agenda ends well or goes on
pub ending_ends : (o p : SetOutcome) → has_failed p ≡ false → ending o p true None ≡ AgendaEnds
ending_ends o p e = grind arith

pub ending_runs : (o p : SetOutcome) (b : Agenda) → has_failed p ≡ false → ending o p true (Some b) ≡ NothingEnds
ending_runs o p b e = grind arith

-- ## rows

fine_if : (b : Bool) (o : SetOutcome) (r : SetRow) → has_failed o ≡ false → not (has_failed r.result) ≡ true → not (has_failed (if b then record r { result = o } else r).result) ≡ true
fine_if b o r e h = grind arith

fine_settled : (o : SetOutcome) (rows : List SetRow) → has_failed o ≡ false → none_failed rows ≡ true → none_failed (map (row_settled o) rows) ≡ true
fine_settled o [] e h = refl
fine_settled o (r ∷ rows) e h =
    and_from _ _ (fine_if (is_running r.result) o r e (and_left (not (has_failed r.result)) (none_failed rows) h))
    (fine_settled o rows e (and_right (not (has_failed r.result)) (none_failed rows) h))

abbrev with_running : SetRow → SetRow
with_running r = record r { result = Running }

same_volumes : (x : Option SetRow) → volumes_of (option_map with_running x) ≡ volumes_of x
same_volumes x = grind arith

running_volumes : (rows : List SetRow) → volumes_of (find (λ r. is_running r.result) (map (row_settled Running) rows)) ≡ volumes_of (find (λ r. is_running r.result) rows)
running_volumes rows = ap volumes_of (find-settled_running rows) ∙ same_volumes (find (λ r. is_running r.result) rows)

settled_volumes : (o : SetOutcome) (rows : List SetRow) → o ≡ Running → volumes_of (find (λ r. is_running r.result) (map (row_settled o) rows)) ≡ volumes_of (find (λ r. is_running r.result) rows)
settled_volumes o rows e = grind (arith, running_volumes)

-- ## an agenda ends well

next_session : (g : Stage) (set : Option ℕ) (last : Option VssResult) → IsIn (stage_next g) (Some (agenda_ended (session_at g set last)))
next_session g set last = grind arith

prepared_runs : (q : Session) (o : SetOutcome) (found : Option SetRow) → q.stage ≡ Prepared → IsOfSession (Some q) o found → o ≡ Running
prepared_runs q o found e h = grind arith

next_volumes : (g : Stage) (vs : List ℕ) (set : Option ℕ) (last : Option VssResult) (o : SetOutcome) (rows : List SetRow) → HasVolumes g vs rows
    → IsOfSession (Some (agenda_ended (session_at g set last))) o (find (λ r. is_running r.result) (map (row_settled o) rows))
    → HasVolumes (stage_next g) (volumes_next g vs) (map (row_settled o) rows)
next_volumes g vs set last o rows h i = grind (arith, settled_volumes, prepared_runs)

ends_well : (s : Plan) (g : Stage) (k : ℕ) (vs : List ℕ) (c : Course) (st : State) → IsSound (length s.writers) c → length st.sets ≡ k → none_failed st.sets ≡ true → IsIn g st.session → HasVolumes g vs st.sets → c.agenda ≡ None
    → IsOrderly (concluded AgendaEnds (record st { course = c })) → IsAt s (Waits g) k vs (concluded AgendaEnds (record st { course = c }))
ends_well s g k vs c st sound sets fine stage volumes e orderly =
    let after : option_map agenda_ended st.session ≡ Some (agenda_ended (session_at g stage.set stage.last)) = ap (option_map agenda_ended) stage.is in
    record {
      sets = length_map (row_settled c.outcome) st.sets ∙ sets;
      fine = fine_settled c.outcome st.sets sound.fine fine;
      sound = sound;
      place = inr (record {
        stage = subst (IsIn (stage_next g)) (sym after) (next_session g stage.set stage.last);
        is_busy = ap is_some e;
        volumes = next_volumes g vs stage.set stage.last c.outcome st.sets volumes (subst (λ (q : Option Session). IsOfSession q c.outcome (find (λ r. is_running r.result) (map (row_settled c.outcome) st.sets))) after orderly.session);
      });
    }

goes_at : (s : Plan) (g : Stage) (k : ℕ) (vs : List ℕ) (c : Course) (st : State) (a : Option Agenda) → IsSound (length s.writers) c → length st.sets ≡ k → none_failed st.sets ≡ true → IsIn g st.session → HasVolumes g vs st.sets → c.agenda ≡ a
    → IsOrderly (concluded (ending st.course.outcome c.outcome true a) (record st { course = c })) → IsAt s (Waits g) k vs (concluded (ending st.course.outcome c.outcome true a) (record st { course = c }))
goes_at s g k vs c st None sound sets fine stage volumes e orderly =
    let is = ending_ends st.course.outcome c.outcome sound.fine in
    subst (λ (x : Ending). IsAt s (Waits g) k vs (concluded x (record st { course = c }))) (sym is)
    (ends_well s g k vs c st sound sets fine stage volumes e (subst (λ (x : Ending). IsOrderly (concluded x (record st { course = c }))) is orderly))
goes_at s g k vs c st (Some b) sound sets fine stage volumes e orderly =
    let is = ending_runs st.course.outcome c.outcome b sound.fine in
    subst (λ (x : Ending). IsAt s (Waits g) k vs (concluded x (record st { course = c }))) (sym is)
    (record { sets = sets; fine = fine; sound = sound; place = inl (record { stage = stage; is_busy = ap is_some e; volumes = volumes }) })

-- the course goes on to one that has not failed, where an agenda ran or began: it runs, or it has ended well
pub goes_on : (s : Plan) (g : Stage) (k : ℕ) (vs : List ℕ) (c : Course) (st : State) → IsSound (length s.writers) c → length st.sets ≡ k → none_failed st.sets ≡ true → IsIn g st.session → HasVolumes g vs st.sets
    → IsOrderly (followed true c st) → IsAt s (Waits g) k vs (followed true c st)
unfolding followed
goes_on s g k vs c st sound sets fine stage volumes orderly = goes_at s g k vs c st c.agenda sound sets fine stage volumes refl orderly

-- ## volumes

same_volumes_at : (o p : SetOutcome) (a : Option Agenda) (c : Course) (st : State) → has_failed p ≡ false → (concluded (ending o p true a) (record st { course = c })).volumes ≡ st.volumes
same_volumes_at o p a c st e = grind arith

-- where the course has not failed, no image goes
pub followed_volumes : (k : ℕ) (c : Course) (st : State) → IsSound k c → (followed true c st).volumes ≡ st.volumes
unfolding followed
followed_volumes k c st sound = same_volumes_at st.course.outcome c.outcome c.agenda c st sound.fine

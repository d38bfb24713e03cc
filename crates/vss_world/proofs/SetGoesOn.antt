-- What becomes of the set in progress, as the course goes on: it stays, with its number, its volumes and its snapshot's agenda; or it is
-- in progress no more, and its row says how it ended.
use Rattle.std.proofs.Common.{◌≡◌, ℕ, ◌==◌, List, [], ◌∷◌, refl, ap, sym, ◌∙◌, subst, Bool, true, false, Option, Some, None, ◌⊎◌, inl, inr, map, find, is_some}
use Rattle.std.proofs.Common.{not, ◌&&◌, ◌||◌, arith}
use Rattle.vss_world.proofs.Words.{Agenda, Call, Course, Cut, Ending, Failed, Gather, Group, IsCall, Kind, Member, NumberedFrom, Prepare, Running, SetOutcome}
use Rattle.vss_world.proofs.Words.{SetRow, Settles, Snapshot, State, VssResult, all_say, concluded, ended_of, ending, ending_idle, ending_on}
use Rattle.vss_world.proofs.Words.{ends_settle, failed, failed_in, find-row_cut, find-settled_over, find-settled_running, groups_left, has_said}
use Rattle.vss_world.proofs.Words.{in_progress, is_done, is_running, is_snapshot, image_made, both_ways, all_said, none_after, number-cut}
use Rattle.vss_world.proofs.Words.{outcome_after, plain, row_settled, runs, settled_row, step_made, unspoken, volumes-row_cut_if, volumes_of}
use Rattle.set_agenda.specs.declared.kind.Kind.TheVariants.{Complete}
use Rattle.set_agenda.specs.Course.{begun, posted, settled, failed as course_failed}
use Rattle.vss_model.proofs.StateForm.{followed}

-- ## agendas

pub skip : (t u b : Bool) → t ≡ false → ((t && u) || b) ≡ b
skip t u b e = grind arith

never_done : (a : Agenda) → a.kind ≡ Snapshot → has_said a.log (plain Cut) 0 ≡ false → is_done (groups_left a) ≡ true → ⊥
never_done a kind none done = both_ways (has_said a.log (plain Cut) 0) none (all_said a.log (plain Cut) (0 ∷ []) 0 (grind arith) refl)

-- ## a set that fails

pub failed_course : (why : VssResult) (c : Course) → ((course_failed why c).agenda ≡ None) × ((course_failed why c).outcome ≡ Failed why)
unfolding course_failed
failed_course why c = (refl, refl)

pub failed_ends : (r : SetRow) (why : VssResult) (st : State) → NumberedFrom 1 st.sets → in_progress st ≡ Some r
    → ended_of (Some r) (failed_in (Some r) why st).sets ≡ Some (record r { result = Failed why })
failed_ends r why st numbered e =
    ap (λ (o : SetOutcome). find (λ q. (q.number == r.number) && not (is_running q.result)) (map (row_settled o) st.sets)) (failed_course why st.course).1
    ∙ settled_row 1 (Failed why) refl st.sets r numbered e

-- ## what becomes of the set

-- the set has the same number and volumes
abbrev pub IsSameSet : Option SetRow → Option SetRow → Type 0
IsSameSet None None = Unit {0}
IsSameSet (Some r) (Some q) = (q.number ≡ r.number) × (q.volumes ≡ r.volumes)
IsSameSet _ _ = ⊥

pub same_set : (o : Option SetRow) → IsSameSet o o
same_set o = grind arith

abbrev pub runs_snapshot : Option Agenda → Bool
runs_snapshot None = false
runs_snapshot (Some a) = is_snapshot a.kind

-- it goes on
pub record StaysOn (a b : Option Agenda) (o p : Option SetRow) : Type 0 where
  pub set : IsSameSet o p
  pub snapshot : runs_snapshot b ≡ runs_snapshot a

-- it is over, and its row says so
pub record IsOver (r : SetRow) (rows : List SetRow) : Type 0 where
  pub row : SetRow
  pub over : is_running row.result ≡ false
  pub number : row.number ≡ r.number
  pub ended : ended_of (Some r) rows ≡ Some row

abbrev pub IsOverIf : Option SetRow → List SetRow → Type 0
IsOverIf None rows = Unit {0}
IsOverIf (Some r) rows = IsOver r rows

-- none is in progress any more
pub record LeavesNone (o p : Option SetRow) (rows : List SetRow) : Type 0 where
  pub none : p ≡ None
  pub over : IsOverIf o rows

abbrev pub GoesOn : State → State → Type 0
GoesOn st next = StaysOn st.course.agenda next.course.agenda (in_progress st) (in_progress next) ⊎ LeavesNone (in_progress st) (in_progress next) next.sets

pub goes_nowhere : (st : State) → GoesOn st st
goes_nowhere st = inl (record { set = same_set (in_progress st); snapshot = refl })

-- ## a set that ends

-- the row of the set in progress has its end
settled_over : (st : State) (result : SetOutcome) (rows : List SetRow) → NumberedFrom 1 st.sets → is_running result ≡ false → rows ≡ map (row_settled result) st.sets → IsOverIf (in_progress st) rows
settled_over st result rows numbered over is = by_set (in_progress st) refl
  where
    by_set : (o : Option SetRow) → in_progress st ≡ o → IsOverIf o rows
    by_set None e = tt
    by_set (Some r) e = record { row = record r { result = result }; over = over; number = refl; ended = ap (ended_of (Some r)) is ∙ settled_row 1 result over st.sets r numbered e }

-- ## a call of the course

-- in a state whose set in progress is that of its snapshot agenda, and has no outcome yet
pub record IsOfAgenda (st : State) : Type 0 where
  pub numbered : NumberedFrom 1 st.sets
  pub outcome : (r : SetRow) → in_progress st ≡ Some r → st.course.outcome ≡ Running
  pub volumes : (a : Agenda) → st.course.agenda ≡ Some a → is_snapshot a.kind ≡ true → a.volumes ≡ volumes_of (in_progress st)

module _ (c : Course) (st : State) (of : IsOfAgenda st) where
  abbrev next : State
  next = record st { course = c }

  -- no set is in progress where an agenda ends in an outcome that is over
  over_none : (o : SetOutcome) → is_running c.outcome ≡ false → in_progress (concluded (ending o c.outcome true None) next) ≡ None
  over_none o e = ends_settle o c.outcome next ∙ find-settled_over c.outcome e st.sets

  ends_over : is_running c.outcome ≡ false → GoesOn st (concluded (ending st.course.outcome c.outcome true None) next)
  ends_over e = grind (arith, over_none, settled_over)

  abbrev ends : Ending
  ends = ending st.course.outcome c.outcome true None

  agenda_then : c.agenda ≡ None → (concluded ends next).course.agenda ≡ None
  agenda_then e = (grind arith) ∙ e

  -- an agenda that is no snapshot's is over
  plain_goes : (o : Option SetRow) → in_progress st ≡ o → runs_snapshot st.course.agenda ≡ false → c.agenda ≡ None → c.outcome ≡ st.course.outcome → GoesOn st (concluded ends next)
  plain_goes o found plain none is = grind (arith, ends_settle, find-settled_over, find-settled_running, agenda_then)

  -- the agenda goes on as this one, or ends where no group is left of it
  settled_goes : (a x : Agenda) (done : Bool) (b : Option Agenda) → st.course.agenda ≡ Some a → c.agenda ≡ b → x.kind ≡ a.kind → Settles done x st.course.outcome b c.outcome
      → GoesOn st (concluded (ending st.course.outcome c.outcome true b) next)
  settled_goes a x false None runs is like s = cc
  settled_goes a x true (Some b) runs is like s = cc
  settled_goes a x false (Some b) runs is like s =
      subst (λ (e : Ending). GoesOn st (concluded e next)) (sym (ending_on st.course.outcome c.outcome true b s.1)) (inl (record {
        set = same_set (in_progress st);
        snapshot = ap runs_snapshot (is ∙ s.0) ∙ ap is_snapshot like ∙ sym (ap runs_snapshot runs);
      }))
  settled_goes a x true None runs is like s = by_kind x.kind refl (s.1)
    where
      plain_as : (k : Kind) → x.kind ≡ k → is_snapshot k ≡ false → c.outcome ≡ st.course.outcome → GoesOn st (concluded ends next)
      plain_as k e f g = plain_goes (in_progress st) refl (ap runs_snapshot runs ∙ ap is_snapshot (sym like ∙ e) ∙ f) is g

      by_kind : (k : Kind) → x.kind ≡ k → c.outcome ≡ outcome_after x.kind st.course.outcome → GoesOn st (concluded ends next)
      by_kind Gather e f = plain_as Gather e refl (f ∙ ap (λ (k : Kind). outcome_after k st.course.outcome) e)
      by_kind Prepare e f = plain_as Prepare e refl (f ∙ ap (λ (k : Kind). outcome_after k st.course.outcome) e)
      by_kind Complete e f = plain_as Complete e refl (f ∙ ap (λ (k : Kind). outcome_after k st.course.outcome) e)
      by_kind Snapshot e f = ends_over (ap is_running (f ∙ ap (λ (k : Kind). outcome_after k st.course.outcome) e))

  call_goes : (a b : Option Agenda) → st.course.agenda ≡ a → c.agenda ≡ b → Call true a st.course.outcome b c.outcome → GoesOn st (concluded (ending st.course.outcome c.outcome (is_some a) b) next)
  call_goes None None runs is call =
      subst (λ (e : Ending). GoesOn st (concluded e next)) (sym (ending_idle st.course.outcome c.outcome call.1)) (inl (record {
        set = same_set (in_progress st);
        snapshot = ap runs_snapshot (is ∙ sym runs);
      }))
  call_goes None (Some b) runs is call = cc
  call_goes (Some a) None runs is (inl stops) = ends_over (grind (arith, stops.failed))
  call_goes (Some a) (Some b) runs is (inl stops) = cc
  call_goes (Some a) b runs is (inr (inl rests)) = settled_goes a a rests.done b runs is refl rests.settles
  call_goes (Some a) b runs is (inr (inr says)) = settled_goes a (all_say says.said says.now says.ws a) _ b runs is refl says.settles

-- the course goes on by a call of writers
pub followed_goes : (c : Course) (st : State) → IsOfAgenda st → IsCall true st.course c → GoesOn st (followed (runs st) c st)
unfolding followed
followed_goes c st of call = call_goes c st of st.course.agenda c.agenda refl refl call

-- or by a step of the provider
pub stepped_goes : (a x : Agenda) (c : Course) (st : State) → IsOfAgenda st → st.course.agenda ≡ Some a → x.kind ≡ a.kind → Settles (is_done (groups_left x)) x st.course.outcome c.agenda c.outcome
    → GoesOn st (followed (runs st) c st)
unfolding followed
stepped_goes a x c st of runs like settles =
    subst (λ (t : Bool). GoesOn st (concluded (ending st.course.outcome c.outcome t c.agenda) (record st { course = c }))) (sym (ap is_some runs))
    (settled_goes c st of a x (is_done (groups_left x)) c.agenda runs refl like settles)

-- ## the set fails

pub failed_goes : (why : VssResult) (st : State) → NumberedFrom 1 st.sets → GoesOn st (failed why st)
failed_goes why st numbered = grind (arith, goes_nowhere, none_after, settled_over, failed_course)

-- ## a step of the provider, before what follows

image_same : (o : Option SetRow) (v : Option ℕ) (st : State) → IsSameSet (in_progress st) (in_progress (image_made o v st))
image_same (Some r) (Some v) st = same_set (in_progress st)
image_same _ _ st = same_set (in_progress st)

pub step_same : (g : Group) (v : Option ℕ) (st : State) → IsSameSet (in_progress st) (in_progress (step_made (Some g) v st))
step_same g v st = grind (arith, image_same, same_set, find-row_cut, number-cut, volumes-row_cut_if)

-- ## an agenda begins

begun_settles : (k : Kind) (ms : List Member) (vs : List ℕ) (now : ℕ) (c : Course)
    → Settles (is_done (groups_left (unspoken k ms vs now))) (unspoken k ms vs now) c.outcome (begun k ms vs now c).agenda (begun k ms vs now c).outcome
unfolding begun posted settled
begun_settles k ms vs now c = grind arith

-- one of writers alone, where none ran
pub begun_goes : (k : Kind) (ms : List Member) (vs : List ℕ) (now : ℕ) (c : Course) (st : State) → IsOfAgenda st → st.course.agenda ≡ None → is_snapshot k ≡ false → c.outcome ≡ st.course.outcome
    → GoesOn st (followed true (begun k ms vs now c) st)
unfolding followed
begun_goes k ms vs now c st of none plain same = by_done (is_done (groups_left (unspoken k ms vs now))) (begun k ms vs now c).agenda refl (begun_settles k ms vs now c)
  where
    kept : (j : Kind) → is_snapshot j ≡ false → (o : SetOutcome) → outcome_after j o ≡ o
    kept Gather e o = refl
    kept Prepare e o = refl
    kept Snapshot e o = cc
    kept Complete e o = refl

    by_done : (done : Bool) (b : Option Agenda) → (begun k ms vs now c).agenda ≡ b → Settles done (unspoken k ms vs now) c.outcome b (begun k ms vs now c).outcome
        → GoesOn st (concluded (ending st.course.outcome (begun k ms vs now c).outcome true b) (record st { course = begun k ms vs now c }))
    by_done true (Some b) e h = cc
    by_done false None e h = cc
    by_done true None e h = plain_goes (begun k ms vs now c) st of (in_progress st) refl (ap runs_snapshot none) e (h.1 ∙ kept k plain c.outcome ∙ same)
    by_done false (Some b) e h =
        subst (λ (x : Ending). GoesOn st (concluded x (record st { course = begun k ms vs now c }))) (sym (ending_on st.course.outcome (begun k ms vs now c).outcome true b (h.1 ∙ same)))
        (inl (record { set = same_set (in_progress st); snapshot = ap runs_snapshot (e ∙ h.0) ∙ plain ∙ sym (ap runs_snapshot none) }))

-- the snapshot's, where none ran
pub record BeginsSnapshot (st next : State) : Type 0 where
  pub some : (in_progress st ≡ None) → ⊥
  pub set : in_progress next ≡ in_progress st
  pub rests : st.course.agenda ≡ None
  pub runs : runs_snapshot next.course.agenda ≡ true

pub snapshot_begins : (ms : List Member) (vs : List ℕ) (now : ℕ) (c : Course) (st : State) → ((in_progress st ≡ None) → ⊥) → st.course.agenda ≡ None → c.outcome ≡ st.course.outcome
    → BeginsSnapshot st (followed true (begun Snapshot ms vs now c) st)
unfolding followed
snapshot_begins ms vs now c st some none same = by_done (is_done (groups_left (unspoken Snapshot ms vs now))) refl (begun Snapshot ms vs now c).agenda refl (begun_settles Snapshot ms vs now c)
  where
    by_done : (done : Bool) → is_done (groups_left (unspoken Snapshot ms vs now)) ≡ done → (b : Option Agenda) → (begun Snapshot ms vs now c).agenda ≡ b
        → Settles done (unspoken Snapshot ms vs now) c.outcome b (begun Snapshot ms vs now c).outcome
        → BeginsSnapshot st (concluded (ending st.course.outcome (begun Snapshot ms vs now c).outcome true b) (record st { course = begun Snapshot ms vs now c }))
    by_done true d b e h = absurd (never_done (unspoken Snapshot ms vs now) refl refl d)
    by_done false d None e h = cc
    by_done false d (Some b) e h =
        subst (λ (x : Ending). BeginsSnapshot st (concluded x (record st { course = begun Snapshot ms vs now c })))
        (sym (ending_on st.course.outcome (begun Snapshot ms vs now c).outcome true b (h.1 ∙ same))) (record {
          some = some;
          set = refl;
          rests = none;
          runs = ap runs_snapshot (e ∙ h.0);
        })

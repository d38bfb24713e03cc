-- What the log of a running agenda says before the Cut step; and a snapshot agenda is that of the one set in progress.
use Rattle.std.proofs.Common.{◌≡◌, ℕ, List, [], ◌∷◌, ◌++◌, Option, refl, Bool, true, false, map, sym, ◌∙◌, arith, Some, None, ap, fold, find}
use Rattle.std.specs.Prelude.{◌&&◌, ◌||◌, not, option_map, if◌then◌else◌}
use Rattle.vss_model.specs.Cut.{is_cut_of, cut_if, cut_from, cut}
use Rattle.vss_model.proofs.Changes.{CourseCall, Answers, Steps, Times, Gathers, Prepares, Snapshots, Completes, Disables, called, IsDue, Stands, Comes}
use Rattle.vss_model.proofs.Changes.{by_all_changes}
use Rattle.vss_model.proofs.Orderly.{true_not_false}
use Rattle.vss_model.proofs.Rules.{IsKeptInLog, Running, in_log}
use Rattle.vss_model.proofs.Terms.{list_any, list_any-append, or_from, or_left, Thaw, Said, is_ok, Group, Orders, Cut, Release, Kind, Place, Agenda, Entry}
use Rattle.vss_model.proofs.Terms.{plain, places, is_freeze, has_said, left_from, groups_left, open_place, at_place, all_say, Plan, Act, state, nat_tests}
use Rattle.vss_model.proofs.Terms.{Order, VssResult, SetOutcome, Mark, Gather, Prepare, Snapshot, Complete, Member, Course, posted}
use Rattle.vss_model.proofs.Terms.{failed as course_failed, settled, begun, told, answered as course_answered, worked, stepped as course_stepped}
use Rattle.vss_model.proofs.Terms.{timed as course_timed, released, SetRow, is_running, in_progress, is_held, is_frozen, row_cut, Event, RunsSnapshot}
use Rattle.vss_model.proofs.Terms.{from_settled, from_answered, from_timed, Change, apply, freezes, State, start, common_steps, append_assoc, after}
pub use Rattle.std.proofs.lemmas.List.{append-nil as append_nothing}

-- ## What the log of a running agenda says: nothing but ok to Freeze, and before the Cut step nothing of a Release or a Thaw.
-- So at the Cut step every volume is held and every participant is frozen.

-- ## the log

-- the groups that release a volume or thaw a writer
abbrev pub undoes : Group → Bool
undoes (Orders Thaw) = true
undoes (Orders _) = false
undoes Release = true
undoes _ = false

abbrev pub is_refusal : Entry → Bool
is_refusal e = is_freeze e.place.group && not (is_ok e.said)

abbrev pub is_undoing : Entry → Bool
is_undoing e = undoes e.place.group

abbrev pub is_cut_made : List Entry → Bool
is_cut_made log = has_said log (plain Cut) 0

pub record IsSound (log : List Entry) : Type 0 where
  pub freezes : list_any is_refusal log ≡ false
  pub cut_first : list_any is_undoing log ≡ true → is_cut_made log ≡ true

abbrev pub SoundLog : Option Agenda → Type 0
SoundLog a = Running (λ x. IsSound x.log) a

-- ## what is said at the open place

any-at_place : (test : Entry → Bool) (p : Place) (said : Said) (now : ℕ) (ws : List ℕ) → ((w : ℕ) → test (at_place p said now w) ≡ false) → list_any test (map (at_place p said now) ws) ≡ false
any-at_place test p said now [] e = refl
any-at_place test p said now (w ∷ ws) e = rw (e w) (any-at_place test p said now ws e)

pub either_way : (a b c : Bool) → (a || b) ≡ true → (a ≡ true → c ≡ true) → (b ≡ true → c ≡ true) → c ≡ true
either_way a b c e f g = grind arith

-- what was said stays said
pub said_stays : (log new : List Entry) (p : Place) (who : ℕ) → has_said log p who ≡ true → has_said (log ++ new) p who ≡ true
said_stays log new p who e = grind (arith, list_any-append, or_left)

cut_before_in : (k : Kind) (a : Agenda) → undoes (open_place (left_from a (places k))).group ≡ true → is_cut_made a.log ≡ true
cut_before_in k a h = grind arith

all_false : (test : Entry → Bool) (p : Place) (said : Said) (now : ℕ) (ws : List ℕ) (b : Bool) → ((w : ℕ) → test (at_place p said now w) ≡ b) → list_any test (map (at_place p said now) ws) ≡ true → b ≡ true
all_false test p said now ws b e h = grind (arith, true_not_false, any-at_place)

sound-say : (said : Said) (now : ℕ) (ws : List ℕ) (a : Agenda) → (is_freeze (open_place (groups_left a)).group && not (is_ok said)) ≡ false → IsSound a.log → IsSound (all_say said now ws a).log
sound-say said now ws a e h =
    let p = open_place (groups_left a) in
    let new = map (at_place p said now) ws in
    record {
      freezes = list_any-append is_refusal a.log new ∙ or_from (list_any is_refusal a.log) (list_any is_refusal new) h.freezes (any-at_place is_refusal p said now ws (λ w. e));
      cut_first = λ f. either_way (list_any is_undoing a.log) (list_any is_undoing new) (is_cut_made (a.log ++ new)) (sym (list_any-append is_undoing a.log new) ∙ f)
          (λ g. said_stays a.log new (plain Cut) 0 (h.cut_first g))
          (λ g. said_stays a.log new (plain Cut) 0 (cut_before_in a.kind a (all_false is_undoing p said now ws (undoes p.group) (λ w. refl) g)));
    }

-- ## every act

sound_in_log : IsKeptInLog (λ a. IsSound a.log)
sound_in_log = record {
  begins = λ k ms vs now. record { freezes = refl; cut_first = λ e. absurd cc };
  says = λ said now ws a waited mild h. sound-say said now ws a mild h;
}

pub sound : (s : Plan) (acts : List Act) → SoundLog (state s acts).course.agenda
sound s acts = in_log (λ a. IsSound a.log) sound_in_log s acts

-- ## where one more act leaves the cut of a set

abbrev pub or_cut : Option (List Act) → Option (List Act) → Option (List Act)
or_cut None o = o
or_cut (Some acts) o = Some acts

cut_from-append : (s : Plan) (n : ℕ) (before : List Act) (st : State) (acts : List Act) (act : Act)
    → cut_from s n before st (acts ++ act ∷ []) ≡ or_cut (cut_from s n before st acts) (cut_if (is_cut_of n (fold (after s) st acts) act) (before ++ acts) None)
cut_from-append s n before st [] act = ap (λ x. cut_if (is_cut_of n st act) x None) (sym (append_nothing before))
cut_from-append s n before st (a ∷ acts) act =
    let ih = cut_from-append s n (before ++ a ∷ []) (after s st a) acts act in grind (arith, common_steps, append_assoc)

pub cut-append : (s : Plan) (n : ℕ) (acts : List Act) (act : Act) → cut s n (acts ++ act ∷ []) ≡ or_cut (cut s n acts) (cut_if (is_cut_of n (state s acts) act) acts None)
cut-append s n acts act = cut_from-append s n [] (start s) acts act

-- ## A running snapshot agenda is that of the one set in progress, with its volumes and participants.

-- ## the fact

-- a snapshot agenda, by its kind, has the set's volumes and participants
abbrev pub IsOf : Kind → List ℕ → List Member → List Member → Option SetRow → Type 0
IsOf Gather vs ms participants r = Unit {0}
IsOf Prepare vs ms participants r = Unit {0}
IsOf Complete vs ms participants r = Unit {0}
IsOf Snapshot vs ms participants None = ⊥
IsOf Snapshot vs ms participants (Some r) = (vs ≡ r.volumes) × (ms ≡ participants)

abbrev pub Tied : Option Agenda → List Member → Option SetRow → Type 0
Tied None participants r = Unit {0}
Tied (Some a) participants r = IsOf a.kind a.volumes a.members participants r

abbrev pub IsTied : State → Type 0
IsTied st = Tied st.course.agenda st.course.members (in_progress st)

tied_none : (a : Option Agenda) (ms : List Member) (r : Option SetRow) → a ≡ None → Tied a ms r
tied_none a ms r e = grind arith

-- ## what calls do to the agenda

-- the agenda goes on, with the same kind, volumes, members, participants and outcome
pub record IsSameAgenda (a b : Agenda) (ms ns : List Member) (o p : SetOutcome) : Type 0 where
  pub kind : b.kind ≡ a.kind
  pub volumes : b.volumes ≡ a.volumes
  pub members : b.members ≡ a.members
  pub participants : ns ≡ ms
  pub outcome : p ≡ o
  -- what was said stays said
  pub said : (p : Place) (who : ℕ) → has_said a.log p who ≡ true → has_said b.log p who ≡ true

-- it stops, or it goes on
abbrev pub Follows : Option Agenda → List Member → SetOutcome → Option Agenda → List Member → SetOutcome → Type 0
Follows a ms o None ns p = Unit {0}
Follows None ms o (Some b) ns p = ⊥
Follows (Some a) ms o (Some b) ns p = IsSameAgenda a b ms ns o p

abbrev pub GoesOn : Course → Course → Type 0
GoesOn c d = Follows c.agenda c.members c.outcome d.agenda d.members d.outcome

goes_told : (o : Order) (said : Said) (now : ℕ) (ws : List ℕ) (c : Course) → GoesOn c (told o said now ws c)
unfolding told
goes_told o said now ws c = grind (arith, said_stays)

goes_worked : (now : ℕ) (c : Course) → GoesOn c (worked now c)
unfolding worked
goes_worked now c = grind (arith, said_stays)

goes_failed : (why : VssResult) (c d : Course) → GoesOn c (course_failed why d)
unfolding course_failed
goes_failed why c d = tt

goes_posted : (before c d : Course) → GoesOn c d → GoesOn c (posted before d)
unfolding posted
goes_posted before c d h = h

pub goes_answered : (w : ℕ) (said : Said) (now : ℕ) (c : Course) → GoesOn c (course_answered w said now c)
goes_answered w said now c = from_answered (GoesOn c) c (grind (arith, common_steps, goes_posted, goes_told, goes_worked, goes_failed)) w said now

pub goes_stepped : (ok : Bool) (now : ℕ) (c : Course) → GoesOn c (course_stepped ok now c)
goes_stepped true now c = goes_posted c c _
    (from_settled (GoesOn c) c (grind (arith, common_steps, goes_posted, goes_told, goes_worked, goes_failed)) _ (goes_worked now c))
goes_stepped false now c = goes_posted c c _ (goes_failed _ c c)

pub goes_timed : (now : ℕ) (c : Course) → GoesOn c (course_timed now c)
goes_timed now c = from_timed (GoesOn c) c (grind (arith, common_steps, goes_posted, goes_told, goes_worked, goes_failed)) now

tied_follows : (a : Option Agenda) (ms : List Member) (o : SetOutcome) (b : Option Agenda) (ns : List Member) (p : SetOutcome) (r : Option SetRow) → Follows a ms o b ns p → Tied a ms r → Tied b ns r
tied_follows a ms o b ns p r f h = grind arith

-- an agenda begins
tied_begun : (k : Kind) (ms : List Member) (vs : List ℕ) (now : ℕ) (c : Course) (r : Option SetRow) → IsOf k vs ms c.members r
    → Tied (begun k ms vs now c).agenda (begun k ms vs now c).members r
unfolding begun posted settled
tied_begun k ms vs now c r h = grind arith

-- ## the Cut step

pub volumes-row_cut_if : (b : Bool) (now : ℕ) (r : SetRow) → (if b then record r { cut_at = Some now } else r).volumes ≡ r.volumes
volumes-row_cut_if b now r = grind arith

-- the set in progress is found by its result, which a cut leaves
pub find-row_cut : (n now : ℕ) (rows : List SetRow) → find (λ r. is_running r.result) (map (row_cut n now) rows) ≡ option_map (row_cut n now) (find (λ r. is_running r.result) rows)
find-row_cut n now [] = refl
find-row_cut n now (r ∷ rows) = let ih = find-row_cut n now rows in grind (arith, common_steps)

-- ## each change keeps it

tied_called : (s : Plan) (e : Event) (st x : State) (call : CourseCall) → IsDue st x.course call → Stands e st x call → IsTied x
    → Tied (called s st call x.course).agenda (called s st call x.course).members (in_progress x)
unfolding course_failed released
tied_called s e st x (Answers w said) i k h = tied_follows x.course.agenda x.course.members x.course.outcome _ _ _ (in_progress x)
    (goes_answered w said st.clock x.course) h
tied_called s e st x (Steps ok) i k h = tied_follows x.course.agenda x.course.members x.course.outcome _ _ _ (in_progress x) (goes_stepped ok st.clock x.course) h
tied_called s e st x (Times now) i k h = tied_follows x.course.agenda x.course.members x.course.outcome _ _ _ (in_progress x) (goes_timed now x.course) h
tied_called s e st x Gathers i k h = tied_begun Gather _ [] st.clock _ (in_progress x) tt
tied_called s e st x (Prepares q) i k h = tied_begun Prepare _ [] st.clock _ (in_progress x) tt
tied_called s e st x Snapshots i k h = tied_begun Snapshot _ _ st.clock x.course (in_progress x)
    (grind (arith, ap in_progress k.0, k.1))
tied_called s e st x Completes i k h = tied_begun Complete _ [] st.clock x.course (in_progress x) tt
tied_called s e st x (Disables w) i k h = h
tied_called s e st x _ i k h = tt

tied_apply : (s : Plan) (e : Event) (m : Mark) (st : State) (c : Change) (x : State) → Comes s e m st x c → IsTied x → IsTied (apply x c)
tied_apply s e m st c x i h = grind (arith, common_steps, nat_tests, tied_called, find-row_cut, tied_none)

pub tied : (s : Plan) (acts : List Act) → IsTied (state s acts)
tied s acts = by_all_changes IsTied s (tied_apply s) (start s) acts tt

-- ## what a held volume and a frozen writer mean

pub held_means : (s : Plan) (acts : List Act) (v : ℕ) → is_held (state s acts) v ≡ true → RunsSnapshot (state s acts)
held_means s acts v h = let st = state s acts in grind (arith, tied s acts)

pub frozen_means : (s : Plan) (acts : List Act) (w : ℕ) → is_frozen (state s acts) w ≡ true → RunsSnapshot (state s acts)
frozen_means s acts w h = let st = state s acts in grind (arith, tied s acts)

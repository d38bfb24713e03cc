-- What a call does to a running agenda, with the deeds that it tells: the agenda stops and the set fails; or it rests, and nothing
-- is told; or one member that is waited for, or all of them, say the same at the open place, and that is told.
use Rattle.promises.proofs.Words.{Order, SetOutcome, VssResult, Said, Ok, Lost, is_ok, Group, Orders, PreCommit, Flush, Hold, Cut, Commit, Release, PostCommit, Limit, Place, Agenda, Entry, Open}
use Rattle.promises.proofs.Words.{order_of, is_orders, places, groups_left, left, open_group, open_place, is_asked, is_among, open_order}
use Rattle.promises.proofs.Words.{order_now, waits_now, next_member, next_volume, is_done, is_working, at_place, all_say, Running as RunningLimit, running_limits, spent_of}
use Rattle.promises.proofs.Words.{lost_order_if, Settles, Stops, asked_if, asked_waits, not_ok_of_ok, Deed, Spoke, Made, deeds_lost, now_if}
use Rattle.std.proofs.Common.{◌≡◌, ◌∙◌, ℕ, List, [], ◌∷◌, ◌⊎◌, Option, Some, None, refl, Bool, true, false, ap, sym, subst, inl, inr, map, arith}
use Rattle.std.specs.Prelude.{option_map, ◌&&◌, not}
use Rattle.set_agenda.specs.Course.{Course, posted, failed as course_failed, settled, is_decisive, told, decided}
use Rattle.set_agenda.specs.Course.{answered as course_answered, worked, stepped_as as course_stepped_as, stepped as course_stepped, freeze_limit, limits_now}
use Rattle.set_agenda.specs.Course.{lost_at, lost_to, lost, fails_set, lost_decided, treated_as, treated, timed as course_timed}
use Rattle.vss_model.proofs.CourseCalls.{head_waits, settles}

-- ## deeds in a log

abbrev pub deed_at : Group → ℕ → Said → ℕ → Deed
deed_at (Orders order) who said now = Spoke order who said now
deed_at PreCommit who said now = Made PreCommit None now
deed_at Flush who said now = Made Flush (Some who) now
deed_at Hold who said now = Made Hold (Some who) now
deed_at Cut who said now = Made Cut None now
deed_at Commit who said now = Made Commit (Some who) now
deed_at Release who said now = Made Release (Some who) now
deed_at PostCommit who said now = Made PostCommit None now

abbrev pub deed_in : Entry → Deed
deed_in e = deed_at e.place.group e.who e.said e.time

abbrev pub said_at : List Open → Said → ℕ → List ℕ → List Entry
said_at os said now ws = map (at_place (open_place os) said now) ws

-- ## the three ways

-- one that is waited for
pub record IsOne (a : Agenda) (ws : List ℕ) : Type 0 where
  pub one : ℕ
  pub is : ws ≡ one ∷ []
  pub waits : is_among one (waits_now (groups_left a)) ≡ true

-- all writers that are waited for
pub record IsAll (a : Agenda) (ws : List ℕ) : Type 0 where
  pub is : ws ≡ waits_now (groups_left a)
  pub writers : is_orders (open_place (groups_left a)).group ≡ true

abbrev pub Speaks : Agenda → List ℕ → Type 0
Speaks a ws = IsOne a ws ⊎ IsAll a ws

pub record Says (a : Agenda) (o : SetOutcome) (b : Option Agenda) (p : SetOutcome) (news : List Deed) : Type 0 where
  pub said : Said
  pub now : ℕ
  pub ws : List ℕ
  pub who : Speaks a ws
  -- a refusal that decides stops the agenda
  pub mild : (fails_set (order_of (open_place (groups_left a)).group) && not (is_ok said)) ≡ false
  pub told : news ≡ map deed_in (said_at (groups_left a) said now ws)
  pub settles : Settles (is_done (groups_left (all_say said now ws a))) (all_say said now ws a) o b p

pub record Rests (a : Agenda) (o : SetOutcome) (b : Option Agenda) (p : SetOutcome) (news : List Deed) : Type 0 where
  pub done : Bool
  pub is_done : done ≡ true → is_done (groups_left a) ≡ true
  pub told : news ≡ []
  pub settles : Settles done a o b p

abbrev pub Grows : Option Agenda → SetOutcome → Option Agenda → SetOutcome → List Deed → Type 0
Grows None o b p news = (b ≡ None) × (p ≡ o) × (news ≡ [])
Grows (Some a) o b p news = Stops b p ⊎ (Rests a o b p news ⊎ Says a o b p news)

abbrev pub GrowsTo : Course → Course → List Deed → Type 0
GrowsTo c d news = Grows c.agenda c.outcome d.agenda d.outcome news

-- ## settled

grows_posted : (before c d : Course) (news : List Deed) → GrowsTo c d news → GrowsTo c (posted before d) news
unfolding posted
grows_posted before c d news h = h

grows_failed : (a : Agenda) (o : SetOutcome) (why : VssResult) (d : Course) (news : List Deed) → Grows (Some a) o (course_failed why d).agenda (course_failed why d).outcome news
unfolding course_failed
grows_failed a o why d news = inl (record { agenda = refl; failed = refl })

grows_same : (a : Option Agenda) (o : SetOutcome) → Grows a o a o []
grows_same a o = grind arith

along : (a : Option Agenda) (c d : Course) (news : List Deed) → c.agenda ≡ a → Grows a c.outcome d.agenda d.outcome news → GrowsTo c d news
along a c d news e h = subst (λ x. Grows x c.outcome d.agenda d.outcome news) (sym e) h

-- ## the open place

pub now_group : (os : List Open) (o : Order) → order_now os ≡ Some o → (open_place os).group ≡ Orders o
now_group os o e = grind arith

mild_at : (g : Group) (o : Order) (said : Said) → g ≡ Orders o → (is_decisive o && not (is_ok said)) ≡ false → (fails_set (order_of g) && not (is_ok said)) ≡ false
mild_at g o said e f = ap (λ x. fails_set (order_of x) && not (is_ok said)) e ∙ f

-- ## an answer

says_told : (o : Order) (said : Said) (now : ℕ) (ws : List ℕ) (news : List Deed) (a : Agenda) (c : Course) → c.agenda ≡ Some a → Speaks a ws
    → (fails_set (order_of (open_place (groups_left a)).group) && not (is_ok said)) ≡ false → news ≡ map deed_in (said_at (groups_left a) said now ws)
    → Grows (Some a) c.outcome (settled (told o said now ws c)).agenda (settled (told o said now ws c)).outcome news
unfolding told
says_told o said now ws news a c e who mild told_so = grind (arith, settles)

one_spoke : (g : Group) (o : Order) (w : ℕ) (said : Said) (now : ℕ) → g ≡ Orders o → Spoke o w said now ∷ [] ≡ deed_at g w said now ∷ []
one_spoke g o w said now e = ap (λ x. deed_at x w said now ∷ []) (sym e)

grows_decided : (fails : Bool) (w : ℕ) (o : Order) (said : Said) (now : ℕ) (a : Agenda) (c : Course) → c.agenda ≡ Some a → open_order (groups_left a) w ≡ Some o
    → (is_decisive o && not (is_ok said)) ≡ fails
    → Grows (Some a) c.outcome (decided fails said (told o said now (w ∷ []) c)).agenda (decided fails said (told o said now (w ∷ []) c)).outcome (Spoke o w said now ∷ [])
grows_decided true w o said now a c e f g = grows_failed a c.outcome _ (told o said now (w ∷ []) c) _
grows_decided false w o said now a c e f g =
    let os = groups_left a in
    let group = now_group os o (now_if (is_asked w os) (order_now os) o f) in
    says_told o said now (w ∷ []) _ a c e (inl (record { one = w; is = refl; waits = (asked_waits os w (asked_if (is_asked w os) (order_now os) o f)).1 }))
    (mild_at (open_place os).group o said group g) (one_spoke (open_place os).group o w said now group)

pub grows_answered : (w : ℕ) (o : Order) (said : Said) (now : ℕ) (c : Course) → open_order (left c.agenda) w ≡ Some o → GrowsTo c (course_answered w said now c) (Spoke o w said now ∷ [])
grows_answered w o said now c e = grind (arith, grows_posted, along, grows_decided)

-- ## a step

abbrev pub made_now : List Open → ℕ → Option Group → List Deed
made_now os now None = []
made_now os now (Some g) = Made g (next_volume os) now ∷ []

says_worked : (now : ℕ) (a : Agenda) (c : Course) → c.agenda ≡ Some a → is_working (groups_left a) ≡ true
    → Grows (Some a) c.outcome (settled (worked now c)).agenda (settled (worked now c)).outcome (made_now (groups_left a) now (open_group (groups_left a)))
unfolding worked
says_worked now a c e f =
    let w = next_member (groups_left a) in
    let b : Agenda = all_say Ok now (w ∷ []) a in
    inr (inr (record {
      said = Ok;
      now = now;
      ws = w ∷ [];
      who = inl (record { one = w; is = refl; waits = head_waits a (places a.kind) f });
      mild = not_ok_of_ok (fails_set (order_of (open_place (groups_left a)).group));
      told = grind arith;
      settles = settles b c.outcome (worked now c) (ap (λ x. option_map (all_say Ok now (next_member (left x) ∷ [])) x) e) refl;
    }))

grows_stepped_as : (ok : Bool) (x : Option Agenda) (now : ℕ) (c : Course) → c.agenda ≡ x → is_working (left x) ≡ true
    → GrowsTo c (course_stepped_as ok now c) (made_now (left x) now (open_group (left x)))
grows_stepped_as ok x now c e f = grind (arith, along, says_worked, grows_failed)

pub grows_stepped : (ok : Bool) (now : ℕ) (c : Course) → is_working (left c.agenda) ≡ true → GrowsTo c (course_stepped ok now c) (made_now (left c.agenda) now (open_group (left c.agenda)))
grows_stepped ok now c f = grows_posted c c _ _ (grows_stepped_as ok c.agenda now c refl f)

-- ## time

abbrev pub lost_told : ℕ → Option RunningLimit → List Open → List Deed
lost_told now l os = deeds_lost now (lost_order_if (lost_at l (order_now os) (waits_now os)) (order_now os)) (lost_at l (order_now os) (waits_now os))

map_lost : (p : Place) (o : Order) (now : ℕ) (ws : List ℕ) → p.group ≡ Orders o → map (λ w. Spoke o w Lost now) ws ≡ map deed_in (map (at_place p Lost now) ws)
map_lost p o now [] e = refl
map_lost p o now (w ∷ ws) e = grind (arith, map_lost p o now ws e)

-- what is told of lost answers, by the open order
abbrev lost_by : ℕ → Option Order → List ℕ → List Deed
lost_by now None ws = []
lost_by now (Some o) ws = deeds_lost now (lost_order_if ws (Some o)) ws

grows_lost_to : (o : Option Order) (now : ℕ) (a : Agenda) (c : Course) → c.agenda ≡ Some a → order_now (groups_left a) ≡ o → fails_set o ≡ false
    → Grows (Some a) c.outcome (settled (lost_to o now c)).agenda (settled (lost_to o now c)).outcome (lost_by now o (waits_now (groups_left a)))
grows_lost_to None now a c e f g = inr (inl (record { done = is_done (groups_left a); is_done = λ h. h; told = refl; settles = settles a c.outcome c e refl }))
grows_lost_to (Some o) now a c e f g =
    let os = groups_left a in
    let group = now_group os o f in
    subst (λ ws. Grows (Some a) c.outcome (settled (told o Lost now ws c)).agenda (settled (told o Lost now ws c)).outcome (lost_by now (Some o) (waits_now os))) (ap (λ x. waits_now (left x)) (sym e))
    (says_told o Lost now (waits_now os) _ a c e (inr (record { is = refl; writers = ap is_orders group }))
    (mild_at (open_place os).group o Lost group (rw g refl)) (grind (arith, map_lost)))

grows_lost_decided : (fails : Bool) (now : ℕ) (a : Agenda) (c : Course) → c.agenda ≡ Some a → fails_set (order_now (groups_left a)) ≡ fails
    → Grows (Some a) c.outcome (lost_decided fails (lost_to (order_now (groups_left a)) now c)).agenda
    (lost_decided fails (lost_to (order_now (groups_left a)) now c)).outcome (lost_by now (order_now (groups_left a)) (waits_now (groups_left a)))
grows_lost_decided fails now a c e f = grind (arith, grows_failed, grows_lost_to)

grows_treated_as : (l : Limit) (now : ℕ) (a : Agenda) (c : Course) → c.agenda ≡ Some a
    → Grows (Some a) c.outcome (treated_as l now c).agenda (treated_as l now c).outcome (lost_by now (order_now (groups_left a)) (waits_now (groups_left a)))
grows_treated_as l now a c e = grind (arith, grows_failed, grows_lost_decided)

lost_by_is : (l : RunningLimit) (now : ℕ) (o : Option Order) (ws : List ℕ) → lost_by now o ws ≡ deeds_lost now (lost_order_if (lost_at (Some l) o ws) o) (lost_at (Some l) o ws)
lost_by_is l now o ws = grind arith

grows_treated : (l : Option RunningLimit) (now : ℕ) (a : Agenda) (c : Course) → c.agenda ≡ Some a
    → Grows (Some a) c.outcome (treated l now c).agenda (treated l now c).outcome (lost_told now l (groups_left a))
grows_treated None now a c e = subst (λ x. Grows (Some a) c.outcome x c.outcome []) (sym e) (grows_same (Some a) c.outcome)
grows_treated (Some l) now a c e =
    subst (λ news. Grows (Some a) c.outcome (treated_as l.limit now c).agenda (treated_as l.limit now c).outcome news)
    (lost_by_is l now (order_now (groups_left a)) (waits_now (groups_left a))) (grows_treated_as l.limit now a c e)

grows_timed_at : (x : Option Agenda) (now : ℕ) (c : Course) → c.agenda ≡ x
    → GrowsTo c (treated (spent_of now (running_limits (freeze_limit c) x)) now c) (lost_told now (spent_of now (running_limits (freeze_limit c) x)) (left x))
grows_timed_at x now c e = grind (arith, grows_same, along, grows_treated)

pub grows_timed : (now : ℕ) (c : Course) → GrowsTo c (course_timed now c) (lost_told now (spent_of now (limits_now c)) (left c.agenda))
grows_timed now c = grows_posted c c _ _ (grows_timed_at c.agenda now c refl)

-- What a call does to a running agenda: it stops it and fails the set; or it leaves it as it is, or ends it where nothing was left;
-- or something is said at the open place by members that are waited for there.
use Rattle.std.proofs.Common.{◌≡◌, ℕ, List, [], ◌∷◌, ◌⊎◌, Option, Some, None, refl, Bool, true, false, ap, sym, subst, inl, inr, arith}
use Rattle.std.specs.Prelude.{option_map, ◌&&◌, not}
use Rattle.vss_model.proofs.Terms.{Agenda, Open, is_orders, is_freeze, left_from, places, groups_left, left, open_place, is_asked, is_among, open_order}
use Rattle.vss_model.proofs.Terms.{order_now, waits_now, next_member, is_done, is_working, all_say, RunningLimit, common_steps, Order, SetOutcome, VssResult}
use Rattle.vss_model.proofs.Terms.{Said, Ok, Lost, is_ok, Group, Limit, Place, has_failed}
use Rattle.set_agenda.specs.Course.{Course, posted, outcome_after, failed as course_failed, settled, is_decisive, told, decided, answered_to}
use Rattle.set_agenda.specs.Course.{answered as course_answered, worked, stepped_as as course_stepped_as, stepped as course_stepped, lost_to}
use Rattle.set_agenda.specs.Course.{fails_set, lost_decided, treated_as, treated, timed as course_timed}
pub use Rattle.set_agenda.proofs.CourseRule.{asked_if, asked_waits, one_alone}

-- ## the three ways

-- the agenda goes on, or ends where no group is left of it
abbrev pub Settles : Bool → Agenda → SetOutcome → Option Agenda → SetOutcome → Type 0
Settles true a o b p = (b ≡ None) × (p ≡ outcome_after a.kind o)
Settles false a o b p = (b ≡ Some a) × (p ≡ o)

-- said by writers alone, or by the provider too
abbrev pub ByWriters : Bool → Group → Type 0
ByWriters true g = is_orders g ≡ true
ByWriters false g = Unit {0}

pub record Says (writers : Bool) (a : Agenda) (o : SetOutcome) (b : Option Agenda) (p : SetOutcome) : Type 0 where
  pub said : Said
  pub now : ℕ
  pub ws : List ℕ
  pub waited : (w : ℕ) → is_among w ws ≡ true → is_among w (waits_now (groups_left a)) ≡ true
  -- a refusal of Freeze stops the agenda
  pub mild : (is_freeze (open_place (groups_left a)).group && not (is_ok said)) ≡ false
  pub by : ByWriters writers (open_place (groups_left a)).group
  pub settles : Settles (is_done (groups_left (all_say said now ws a))) (all_say said now ws a) o b p

pub record Rests (a : Agenda) (o : SetOutcome) (b : Option Agenda) (p : SetOutcome) : Type 0 where
  pub done : Bool
  pub is_done : done ≡ true → is_done (groups_left a) ≡ true
  pub settles : Settles done a o b p

pub record Stops (b : Option Agenda) (p : SetOutcome) : Type 0 where
  pub agenda : b ≡ None
  pub failed : has_failed p ≡ true

abbrev pub Call : Bool → Option Agenda → SetOutcome → Option Agenda → SetOutcome → Type 0
Call writers None o b p = (b ≡ None) × (p ≡ o)
Call writers (Some a) o b p = Stops b p ⊎ (Rests a o b p ⊎ Says writers a o b p)

abbrev pub IsCall : Bool → Course → Course → Type 0
IsCall writers c d = Call writers c.agenda c.outcome d.agenda d.outcome

-- ## what the open place decides

-- a refusal that does not decide is none of Freeze
mild : (freeze decides ok : Bool) → (freeze ≡ true → decides ≡ true) → (decides && not ok) ≡ false → (freeze && not ok) ≡ false
mild freeze decides ok f e = grind arith

pub not_ok_of_ok : (b : Bool) → (b && not true) ≡ false
not_ok_of_ok b = grind arith

-- ## who is waited for

pub first_among : (w : ℕ) (ws : List ℕ) → is_among w (w ∷ ws) ≡ true
first_among w ws = grind arith

-- of a group that is left somebody is waited for
pub head_waits : (a : Agenda) (ps : List Place) → is_working (left_from a ps) ≡ true → is_among (next_member (left_from a ps)) (waits_now (left_from a ps)) ≡ true
head_waits a [] e = absurd cc
head_waits a (p ∷ ps) e = grind (arith, common_steps, first_among, head_waits a ps)

pub now_orders : (os : List Open) (o : Order) → order_now os ≡ Some o → is_orders (open_place os).group ≡ true
now_orders os o e = grind arith

-- ## settled

pub settles : (b : Agenda) (o : SetOutcome) (d : Course) → d.agenda ≡ Some b → d.outcome ≡ o → Settles (is_done (groups_left b)) b o (settled d).agenda (settled d).outcome
unfolding settled
settles b o d e f = grind (arith, common_steps)

call_posted : (writers : Bool) (before c d : Course) → IsCall writers c d → IsCall writers c (posted before d)
unfolding posted
call_posted writers before c d h = h

-- ## by how the agenda stands

call_failed : (writers : Bool) (a : Agenda) (o : SetOutcome) (why : VssResult) (d : Course) → Call writers (Some a) o (course_failed why d).agenda (course_failed why d).outcome
unfolding course_failed
call_failed writers a o why d = inl (record { agenda = refl; failed = refl })

along : (writers : Bool) (a : Option Agenda) (c d : Course) → c.agenda ≡ a → Call writers a c.outcome d.agenda d.outcome → IsCall writers c d
along writers a c d e h = subst (λ x. Call writers x c.outcome d.agenda d.outcome) (sym e) h

-- ## an answer

says_told : (writers : Bool) (o : Order) (said : Said) (now : ℕ) (ws : List ℕ) (a : Agenda) (c : Course) → c.agenda ≡ Some a
    → ((w : ℕ) → is_among w ws ≡ true → is_among w (waits_now (groups_left a)) ≡ true) → (is_freeze (open_place (groups_left a)).group && not (is_ok said)) ≡ false → ByWriters writers (open_place (groups_left a)).group
    → Call writers (Some a) c.outcome (settled (told o said now ws c)).agenda (settled (told o said now ws c)).outcome
unfolding told
says_told writers o said now ws a c e waited mild by =
    inr (inr (record { said = said; now = now; ws = ws; waited = waited; mild = mild; by = by; settles = settles (all_say said now ws a) c.outcome (told o said now ws c) (ap (option_map (all_say said now ws)) e) refl }))

call_decided : (fails : Bool) (w : ℕ) (o : Order) (said : Said) (now : ℕ) (a : Agenda) (c : Course) → c.agenda ≡ Some a → open_order (groups_left a) w ≡ Some o → (is_decisive o && not (is_ok said)) ≡ fails
    → Call true (Some a) c.outcome (decided fails said (told o said now (w ∷ []) c)).agenda (decided fails said (told o said now (w ∷ []) c)).outcome
call_decided true w o said now a c e f g = call_failed true a c.outcome _ (told o said now (w ∷ []) c)
call_decided false w o said now a c e f g =
    let os = groups_left a in
    let asked = asked_waits os w (asked_if (is_asked w os) (order_now os) o f) in
    says_told true o said now (w ∷ []) a c e (λ x h. one_alone w x (waits_now os) asked.1 h)
    (mild (is_freeze (open_place os).group) (is_decisive o) (is_ok said) (λ y. grind arith) g) asked.0

call_answered_to : (o : Option Order) (w : ℕ) (said : Said) (now : ℕ) (a : Agenda) (c : Course) → c.agenda ≡ Some a → open_order (groups_left a) w ≡ o → Call true (Some a) c.outcome (answered_to o w said now c).agenda (answered_to o w said now c).outcome
call_answered_to o w said now a c e f = grind (arith, common_steps, call_decided)

pub call_answered : (w : ℕ) (said : Said) (now : ℕ) (c : Course) → IsCall true c (course_answered w said now c)
call_answered w said now c = call_posted true c c _ (grind (arith, common_steps, along, call_answered_to))

-- ## a step

says_worked : (now : ℕ) (a : Agenda) (c : Course) → c.agenda ≡ Some a → is_working (groups_left a) ≡ true → Call false (Some a) c.outcome (settled (worked now c)).agenda (settled (worked now c)).outcome
unfolding worked
says_worked now a c e f =
    let w = next_member (groups_left a) in
    let b : Agenda = all_say Ok now (w ∷ []) a in
    inr (inr (record {
      said = Ok;
      now = now;
      ws = w ∷ [];
      waited = λ x h. one_alone w x (waits_now (groups_left a)) (head_waits a (places a.kind) f) h;
      mild = not_ok_of_ok (is_freeze (open_place (groups_left a)).group);
      by = tt;
      settles = settles b c.outcome (worked now c) (ap (λ x. option_map (all_say Ok now (next_member (left x) ∷ [])) x) e) refl;
    }))

call_stepped_as : (ok : Bool) (x : Option Agenda) (now : ℕ) (c : Course) → c.agenda ≡ x → is_working (left x) ≡ true → IsCall false c (course_stepped_as ok now c)
call_stepped_as ok x now c e f = grind (arith, along, says_worked, call_failed)

pub call_stepped : (ok : Bool) (now : ℕ) (c : Course) → is_working (left c.agenda) ≡ true → IsCall false c (course_stepped ok now c)
call_stepped ok now c f = call_posted false c c _ (call_stepped_as ok c.agenda now c refl f)

-- ## time

call_lost_to : (o : Option Order) (now : ℕ) (a : Agenda) (c : Course) → c.agenda ≡ Some a → order_now (groups_left a) ≡ o → fails_set o ≡ false → Call true (Some a) c.outcome (settled (lost_to o now c)).agenda (settled (lost_to o now c)).outcome
call_lost_to None now a c e f g = inr (inl (record { done = is_done (groups_left a); is_done = λ h. h; settles = settles a c.outcome c e refl }))
call_lost_to (Some o) now a c e f g =
    let os = groups_left a in let fact = mild (is_freeze (open_place os).group) (is_decisive o) (is_ok Lost) (λ y. grind arith) (rw g refl) in
    grind (arith, common_steps, says_told true o Lost now (waits_now os) a c e, now_orders os o f)

call_lost_decided : (fails : Bool) (now : ℕ) (a : Agenda) (c : Course) → c.agenda ≡ Some a → fails_set (order_now (groups_left a)) ≡ fails
    → Call true (Some a) c.outcome (lost_decided fails (lost_to (order_now (groups_left a)) now c)).agenda (lost_decided fails (lost_to (order_now (groups_left a)) now c)).outcome
call_lost_decided fails now a c e f = grind (arith, call_failed, call_lost_to)

call_treated_as : (l : Limit) (now : ℕ) (a : Agenda) (c : Course) → c.agenda ≡ Some a → Call true (Some a) c.outcome (treated_as l now c).agenda (treated_as l now c).outcome
call_treated_as l now a c e = grind (arith, call_failed, call_lost_decided)

call_treated : (l : Option RunningLimit) (now : ℕ) (a : Agenda) (c : Course) → c.agenda ≡ Some a → Call true (Some a) c.outcome (treated l now c).agenda (treated l now c).outcome
call_treated l now a c e = grind (arith, common_steps, call_treated_as)

pub call_timed : (now : ℕ) (c : Course) → IsCall true c (course_timed now c)
call_timed now c = call_posted true c c _ (grind (arith, common_steps, along, call_treated))

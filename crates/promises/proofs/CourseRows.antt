-- What each call of the course does to the rows of the writers.
use Rattle.promises.proofs.Words.{Order, VssResult, Said, Lost, WriterRow, is_ok, row_after, row_aborted, Group, Kind, Limit, Member, Agenda, Open, order_of}
use Rattle.promises.proofs.Words.{order_now, open_order, is_among, groups_left, left, waits_now, Running as RunningLimit, first_hold, hold_runs, running_at}
use Rattle.promises.proofs.Words.{running_limits, spent_of, none_and_some, IsSpentHere, spent_here, has_failed, none_settled as calm_settled, some_same}
use Rattle.promises.proofs.Words.{SetOutcome, Prepare, Snapshot, is_working, freeze_runs, IsOfSession, IsAgendaOf, Session, State}
use Rattle.promises.proofs.Words.{SetRow, ending, followed, course-concluded}
use Rattle.std.proofs.Common.{◌≡◌, ◌∙◌, ℕ, ◌+◌, zero, suc, List, [], ◌∷◌, ◌⊎◌, Option, Some, None, refl, Bool, true, false, ap, sym, subst, inl, inr, map}
use Rattle.std.proofs.Common.{arith}
use Rattle.std.specs.Prelude.{◌&&◌, not, slice_get, is_some}
use Rattle.set_agenda.specs.declared.limit.Limit.TheVariants.{Hold as HoldLimit, Freeze as FreezeLimit, Answer as AnswerLimit}
use Rattle.set_agenda.specs.Course.{Course, posted, failed as course_failed, rows_where, row_if, is_member, settled, begun, told, is_decisive}
use Rattle.set_agenda.specs.Course.{decided, answered_to, answered as course_answered, worked, stepped as course_stepped, freeze_limit, limits_now, lost_to}
use Rattle.set_agenda.specs.Course.{lost, fails_set, lost_decided, treated_as, treated, timed as course_timed}
use Rattle.promises.proofs.Limits.{spent_holds}
use Rattle.promises.proofs.Members.{one_on}

-- ## the agendas that make a set: while one runs, a set is in progress. Only they have orders that decide, steps, and limits beside that of an answer

-- ## agendas that fail sets

abbrev pub makes_a_set : Kind → Bool
makes_a_set Prepare = true
makes_a_set Snapshot = true
makes_a_set _ = false

abbrev pub IsBusy : Option Agenda → Type 0
IsBusy None = ⊥
IsBusy (Some a) = makes_a_set a.kind ≡ true

-- an order that decides is open
pub busy_order : (x : Option Agenda) (o : Order) → order_now (left x) ≡ Some o → is_decisive o ≡ true → IsBusy x
busy_order x o e d = grind arith

pub busy_step : (x : Option Agenda) → is_working (left x) ≡ true → IsBusy x
busy_step x e = grind arith

-- a limit that is not that of an answer
pub frozen_now : (now f : ℕ) (a : Agenda) (o : Open) (os : List Open) (l : RunningLimit) → spent_of now (running_at f a (o ∷ os)) ≡ Some l
    → (l.limit ≡ AnswerLimit → ⊥) → freeze_runs o.place.group ≡ true
frozen_now now f a o os l e not_answer = grind arith

pub busy_limit : (now f : ℕ) (x : Option Agenda) (l : RunningLimit) → spent_of now (running_limits f x) ≡ Some l → (l.limit ≡ AnswerLimit → ⊥) → IsBusy x
busy_limit now f x l e k = grind (arith, none_and_some, frozen_now)

-- ## while an agenda makes a set, one is in progress

pub busy_set : (x : Option Agenda) (q : Option Session) (o : SetOutcome) (found : Option SetRow) → IsBusy x → IsAgendaOf x q → IsOfSession q o found → is_some found ≡ true
busy_set x q o found b h i = grind arith

pub course_followed : (ran : Bool) (c : Course) (x : State) → (followed ran c x).course ≡ c
unfolding followed
course_followed ran c x = course-concluded (ending x.course.outcome c.outcome ran c.agenda) (record x { course = c })

-- ## what each call of the course does to the rows of the writers

row_where : (f : WriterRow → WriterRow) (test : ℕ → Bool) (k : ℕ) (rows : List WriterRow) (w : ℕ) (r : WriterRow) → slice_get rows w ≡ Some r
    → slice_get (rows_where f test k rows) w ≡ Some (row_if (test (k + w)) f r)
row_where f test k [] w r e = absurd cc
row_where f test k (x ∷ rows) zero r e = grind (arith, some_same)
row_where f test k (x ∷ rows) (suc w) r e = row_where f test (k + 1) rows w r e ∙ ap (λ n. Some (row_if (test n) f r)) (one_on k w)

-- ## rows

-- each row becomes what f makes of it
abbrev pub Becomes : (ℕ → WriterRow → WriterRow) → List WriterRow → List WriterRow → Type 0
Becomes f rows next = (w : ℕ) (r : WriterRow) → slice_get rows w ≡ Some r → slice_get next w ≡ Some (f w r)

abbrev pub as_it_is : ℕ → WriterRow → WriterRow
as_it_is w r = r

-- and then each of these members is told of the failure
abbrev pub and_told : List Member → (ℕ → WriterRow → WriterRow) → ℕ → WriterRow → WriterRow
and_told ms f w r = row_if (is_member ms w) row_aborted (f w r)

pub same_rows : (rows : List WriterRow) → Becomes as_it_is rows rows
same_rows rows w r e = e

pub rows_where_are : (f : WriterRow → WriterRow) (test : ℕ → Bool) (say : ℕ → WriterRow → WriterRow) (rows more : List WriterRow) → Becomes say rows more
    → Becomes (λ w r. row_if (test w) f (say w r)) rows (rows_where f test 0 more)
rows_where_are f test say rows more h w r e = row_where f test 0 more w (say w r) (h w r e) ∙ ap (λ n. Some (row_if (test n) f (say w r))) (omega arith)

pub rows_map_are : (f : WriterRow → WriterRow) (say : ℕ → WriterRow → WriterRow) (rows more : List WriterRow) → Becomes say rows more → Becomes (λ w r. f (say w r)) rows (map f more)
rows_map_are f say rows more h w r e = mapped more w (say w r) (h w r e) where
  mapped : (ys : List WriterRow) (n : ℕ) (y : WriterRow) → slice_get ys n ≡ Some y → slice_get (map f ys) n ≡ Some (f y)
  mapped [] n y e = absurd cc
  mapped (x ∷ ys) zero y e = ap (λ z. Some (f z)) (some_same x y e)
  mapped (x ∷ ys) (suc n) y e = mapped ys n y e

-- ## a call that fails the set, and one that does not

-- whether the call fails the set
abbrev pub Comes : (ℕ → WriterRow → WriterRow) → Bool → Course → Course → Type 0
Comes say true c d = Becomes (and_told c.members say) c.rows d.rows
Comes say false c d = Becomes say c.rows d.rows

module _ (say : ℕ → WriterRow → WriterRow) where
  pub rise_failed : (why : VssResult) (c d : Course) → Becomes say c.rows d.rows → d.members ≡ c.members → Becomes (and_told c.members say) c.rows (course_failed why d).rows
  unfolding course_failed
  rise_failed why c d h e = subst (λ ms. Becomes (and_told c.members say) c.rows (rows_where row_aborted (is_member ms) 0 d.rows)) (sym e)
      (rows_where_are row_aborted (is_member c.members) say c.rows d.rows h)

  stay_posted : (prior c d : Course) → Becomes say c.rows d.rows → Becomes say c.rows (posted prior d).rows
  unfolding posted
  stay_posted prior c d h = h

  comes_posted : (b : Bool) (prior c d : Course) → Comes say b c d → Comes say b c (posted prior d)
  unfolding posted
  comes_posted b prior c d h = grind arith

  stay_settled : (c d : Course) → Becomes say c.rows d.rows → Becomes say c.rows (settled d).rows
  unfolding settled
  stay_settled c d h = grind arith

  pub stay_begun : (k : Kind) (ms : List Member) (vs : List ℕ) (now : ℕ) (c d : Course) → Becomes say c.rows d.rows → Becomes say c.rows (begun k ms vs now d).rows
  unfolding begun
  stay_begun k ms vs now c d h = grind (arith, stay_posted, stay_settled)

  comes_decided : (b : Bool) (said : Said) (c d : Course) → Becomes say c.rows d.rows → d.members ≡ c.members → Comes say b c (decided b said d)
  comes_decided b said c d h e = grind (arith, rise_failed, stay_settled)

-- these writers say this to this order
abbrev pub say_to : Option Order → Said → List ℕ → ℕ → WriterRow → WriterRow
say_to None said ws w r = r
say_to (Some o) said ws w r = row_if (is_among w ws) (row_after o said) r

stay_told : (o : Order) (said : Said) (now : ℕ) (ws : List ℕ) (c : Course) → Becomes (say_to (Some o) said ws) c.rows (told o said now ws c).rows
unfolding told
stay_told o said now ws c = rows_where_are (row_after o said) (λ w. is_among w ws) as_it_is c.rows c.rows (same_rows c.rows)

members_told : (o : Order) (said : Said) (now : ℕ) (ws : List ℕ) (c : Course) → (told o said now ws c).members ≡ c.members
unfolding told
members_told o said now ws c = refl

abbrev pub refuses : Option Order → Said → Bool
refuses None said = false
refuses (Some o) said = is_decisive o && not (is_ok said)

comes_answered_to : (x : Option Order) (w : ℕ) (said : Said) (now : ℕ) (c : Course) → Comes (say_to x said (w ∷ [])) (refuses x said) c (answered_to x w said now c)
comes_answered_to None w said now c = same_rows c.rows
comes_answered_to (Some o) w said now c = comes_decided (say_to (Some o) said (w ∷ [])) (is_decisive o && not (is_ok said)) said c (told o said now (w ∷ []) c)
    (stay_told o said now (w ∷ []) c) (members_told o said now (w ∷ []) c)

pub comes_answered : (w : ℕ) (said : Said) (now : ℕ) (c : Course)
    → Comes (say_to (open_order (left c.agenda) w) said (w ∷ [])) (refuses (open_order (left c.agenda) w) said) c (course_answered w said now c)
comes_answered w said now c = grind (arith, comes_posted, comes_answered_to)

stay_worked : (now : ℕ) (c : Course) → Becomes as_it_is c.rows (worked now c).rows
unfolding worked
stay_worked now c = same_rows c.rows

pub stay_stepped : (now : ℕ) (c : Course) → Becomes as_it_is c.rows (course_stepped true now c).rows
stay_stepped now c = stay_posted as_it_is c c _ (stay_settled as_it_is c (worked now c) (stay_worked now c))

pub rise_stepped : (now : ℕ) (c : Course) → Becomes (and_told c.members as_it_is) c.rows (course_stepped false now c).rows
rise_stepped now c = comes_posted as_it_is true c c _ (rise_failed as_it_is _ c c (same_rows c.rows) refl)

-- ## time

pub record Passes (say : ℕ → WriterRow → WriterRow) (c d : Course) : Type 0 where
  pub stay : Becomes say c.rows d.rows
  pub calm : has_failed c.outcome ≡ false → has_failed d.outcome ≡ false

pub record Fails (say : ℕ → WriterRow → WriterRow) (c d : Course) : Type 0 where
  pub rise : Becomes (and_told c.members say) c.rows d.rows
  pub failed : has_failed d.outcome ≡ true
  pub busy : IsBusy c.agenda

abbrev pub PassesOrFails : (ℕ → WriterRow → WriterRow) → Course → Course → Type 0
PassesOrFails say c d = Passes say c d ⊎ Fails say c d

over_posted : (say : ℕ → WriterRow → WriterRow) (prior c d : Course) → PassesOrFails say c d → PassesOrFails say c (posted prior d)
unfolding posted
over_posted say prior c d x4 = grind arith

outcome_failed : (why : VssResult) (x : Course) → has_failed (course_failed why x).outcome ≡ true
unfolding course_failed
outcome_failed why x = refl

fails_by : (say : ℕ → WriterRow → WriterRow) (why : VssResult) (c d : Course) → Becomes say c.rows d.rows → d.members ≡ c.members → IsBusy c.agenda → Fails say c (course_failed why d)
fails_by say why c d h e busy = record { rise = rise_failed say why c d h e; failed = outcome_failed why d; busy = busy }

-- where the hold limit is spent, the provider works
holds_work : (now f : ℕ) (a : Agenda) (o : Open) (os : List Open) (l : RunningLimit) → spent_of now (running_at f a (o ∷ os)) ≡ Some l → l.limit ≡ HoldLimit → hold_runs o.place.group ≡ true
holds_work now f a o os l e k = spent_holds now o.place.group (first_hold a.log) l (subst (λ x. IsSpentHere now f a o l x) k (spent_here now f a o os l e))

steps_ask_nobody : (g : Group) (o : Order) → hold_runs g ≡ true → order_of g ≡ Some o → ⊥
steps_ask_nobody g o e f = grind arith

no_hold_asks : (now f : ℕ) (x : Option Agenda) (l : RunningLimit) (o : Order) → spent_of now (running_limits f x) ≡ Some l → l.limit ≡ HoldLimit → order_now (left x) ≡ Some o → ⊥
no_hold_asks now f None l o e k i = none_and_some None l refl e
no_hold_asks now f (Some a) l o e k i = at_list (groups_left a) e i where
  at_list : (os : List Open) → spent_of now (running_at f a os) ≡ Some l → order_now os ≡ Some o → ⊥
  at_list os e i = grind (arith, none_and_some, steps_ask_nobody, holds_work)

stay_lost_to : (x : Option Order) (now : ℕ) (c : Course) → Becomes (say_to x Lost (waits_now (left c.agenda))) c.rows (lost_to x now c).rows
stay_lost_to x now c = grind (arith, same_rows, stay_told)

members_lost_to : (x : Option Order) (now : ℕ) (c : Course) → (lost_to x now c).members ≡ c.members
members_lost_to x now c = grind (arith, members_told)

outcome_told : (o : Order) (said : Said) (now : ℕ) (ws : List ℕ) (c : Course) → (told o said now ws c).outcome ≡ c.outcome
unfolding told
outcome_told o said now ws c = refl

abbrev now_lost : ℕ → Course → Course
now_lost now c = lost_to (order_now (left c.agenda)) now c

-- those that are waited for are lost
abbrev pub all_lost : Course → ℕ → WriterRow → WriterRow
all_lost c = say_to (order_now (left c.agenda)) Lost (waits_now (left c.agenda))

-- where a limit is spent
abbrev pub lost_by : Option RunningLimit → Course → ℕ → WriterRow → WriterRow
lost_by None c w r = r
lost_by (Some l) c w r = all_lost c w r

over_lost : (b : Bool) (now : ℕ) (c : Course) → fails_set (order_now (left c.agenda)) ≡ b → PassesOrFails (all_lost c) c (lost_decided b (lost now c))
over_lost true now c e = inr
    (fails_by (all_lost c) _ c (now_lost now c) (stay_lost_to (order_now (left c.agenda)) now c) (members_lost_to (order_now (left c.agenda)) now c)
    (grind (arith, busy_order)))
over_lost false now c e = inl (record {
  stay = stay_settled (all_lost c) c (now_lost now c) (stay_lost_to (order_now (left c.agenda)) now c);
  calm = λ f. calm_settled (now_lost now c) (ap has_failed (grind (arith, outcome_told)) ∙ f);
})

over_treated_as : (x : Limit) (now : ℕ) (c : Course) (l : RunningLimit) → spent_of now (limits_now c) ≡ Some l → l.limit ≡ x → PassesOrFails (all_lost c) c (treated_as x now c)
over_treated_as HoldLimit now c l e k = inr
    (fails_by (all_lost c) _ c c (nobody_asked (order_now (left c.agenda)) refl) refl
    (busy_limit now (freeze_limit c) c.agenda l e (λ f. not_hold (sym k ∙ f)))) where
      not_hold : HoldLimit ≡ AnswerLimit → ⊥
      not_hold e = cc

      -- while volumes are held the provider works
      nobody_asked : (x : Option Order) → order_now (left c.agenda) ≡ x → Becomes (say_to x Lost (waits_now (left c.agenda))) c.rows c.rows
      nobody_asked None f = same_rows c.rows
      nobody_asked (Some o) f = absurd (no_hold_asks now (freeze_limit c) c.agenda l o e k f)
over_treated_as FreezeLimit now c l e k =
    inr (fails_by (all_lost c) _ c (now_lost now c) (stay_lost_to (order_now (left c.agenda)) now c) (members_lost_to (order_now (left c.agenda)) now c)
    (busy_limit now (freeze_limit c) c.agenda l e (λ f. not_freeze (sym k ∙ f)))) where
      not_freeze : FreezeLimit ≡ AnswerLimit → ⊥
      not_freeze e = cc
over_treated_as AnswerLimit now c l e k = over_lost (fails_set (order_now (left c.agenda))) now c refl

over_treated : (o : Option RunningLimit) (now : ℕ) (c : Course) → spent_of now (limits_now c) ≡ o → PassesOrFails (lost_by o c) c (treated o now c)
over_treated None now c e = inl (record { stay = same_rows c.rows; calm = λ f. f })
over_treated (Some l) now c e = over_treated_as l.limit now c l e refl

pub over_timed : (now : ℕ) (c : Course) → PassesOrFails (lost_by (spent_of now (limits_now c)) c) c (course_timed now c)
over_timed now c = over_posted (lost_by (spent_of now (limits_now c)) c) c c _ (over_treated (spent_of now (limits_now c)) now c refl)

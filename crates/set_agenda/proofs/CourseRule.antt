-- What holds of a course through its calls, where it holds through their changes; and which limit is spent at an open place.
use Rattle.std.proofs.Common.{◌≡◌, ℕ, List, [], ◌∷◌, ◌++◌, Option, Some, None, refl, Bool, arith, true, false, rules}
use Rattle.std.proofs.lemmas.Grind.{common_steps}
use Rattle.std.specs.Prelude.{is_some}
use Rattle.vss_names.specs.declared.order.Order.{Order}
use Rattle.vss_names.specs.declared.vss_result.VssResult.{VssResult}
use Rattle.tick_limits.specs.Time.{answer_limit}
use Rattle.writer_state.specs.declared.said.Said.{Said}
use Rattle.set_agenda.specs.Agenda.{Agenda, Open, groups_left, left, is_done, is_among, is_asked, is_orders, is_working, order_if, open_place, order_now}
use Rattle.set_agenda.specs.Agenda.{waits_now}
use Rattle.set_agenda.specs.Course.{Course, posted, begun, told, decided, answered, worked, stepped_as, stepped, settled_if, settled, treated_as, timed, failed}
use Rattle.set_agenda.specs.Limits.{Running, opened_at, freeze_opened_at, first_hold, freeze_runs, answer_runs, runs_if, hold_running, running_at, spent_of}
use Rattle.set_agenda.specs.declared.group.Group.{Group}
use Rattle.set_agenda.specs.declared.kind.Kind.{Kind}
use Rattle.set_agenda.specs.declared.limit.Limit.{Limit}
use Rattle.set_agenda.specs.declared.limit.Limit.TheVariants.{Hold as HoldLimit, Freeze as FreezeLimit, Answer as AnswerLimit}
use Rattle.set_agenda.specs.declared.member.Member.{Member}

-- ## The limit that is spent at an open place: which of the three, and that those before it are not.

pub same_running : (x y : Running) → Some x ≡ Some y → x ≡ y
same_running x y e = cc

-- the first limit of the list that is spent is one of these
pub first_found : (now : ℕ) (xs ys : List Running) (l : Running) → spent_of now xs ≡ Some l → spent_of now (xs ++ ys) ≡ Some l
first_found now [] ys l e = absurd cc
first_found now (x ∷ xs) ys l e = grind (arith, common_steps, first_found now xs ys l)

pub later_found : (now : ℕ) (xs ys : List Running) → spent_of now xs ≡ None → spent_of now (xs ++ ys) ≡ spent_of now ys
later_found now [] ys e = refl
later_found now (x ∷ xs) ys e = grind (arith, common_steps, later_found now xs ys)

pub none_and_some : {X : Type 0} (o : Option Running) (l : Running) → o ≡ None → o ≡ Some l → X
none_and_some o l e f = grind arith

pub limit_found : (now : ℕ) (b : Bool) (x : Limit) (since ticks : ℕ) (l : Running) → spent_of now (runs_if b x since ticks) ≡ Some l → l.limit ≡ x
limit_found now b x since ticks l e = grind arith

pub hold_found : (now : ℕ) (g : Group) (o : Option ℕ) (l : Running) → spent_of now (hold_running g o) ≡ Some l → l.limit ≡ HoldLimit
hold_found now g o l e = grind arith

abbrev pub held_here : Agenda → Open → List Running
held_here a o = hold_running o.place.group (first_hold a.log)

abbrev pub frozen_here : ℕ → Agenda → Open → List Running
frozen_here f a o = runs_if (freeze_runs o.place.group) FreezeLimit (freeze_opened_at a) f

abbrev pub asked_here : Agenda → Open → List Running
asked_here a o = runs_if (answer_runs o.place.group) AnswerLimit (opened_at a o) answer_limit

abbrev pub IsSpentHere : ℕ → ℕ → Agenda → Open → Running → Limit → Type 0
IsSpentHere now f a o l HoldLimit = spent_of now (held_here a o) ≡ Some l
IsSpentHere now f a o l FreezeLimit = (spent_of now (held_here a o) ≡ None) × (spent_of now (frozen_here f a o) ≡ Some l)
IsSpentHere now f a o l AnswerLimit = (spent_of now (held_here a o) ≡ None) × (spent_of now (frozen_here f a o) ≡ None) × (spent_of now (asked_here a o) ≡ Some l)

pub spent_here : (now f : ℕ) (a : Agenda) (o : Open) (os : List Open) (l : Running) → spent_of now (running_at f a (o ∷ os)) ≡ Some l → IsSpentHere now f a o l l.limit
spent_here now f a o os l e = grind arith

-- ## What holds of a course through its calls, where it holds through the changes that they are made of.

-- ## who is asked

pub asked_if : (b : Bool) (o : Option Order) (p : Order) → order_if b o ≡ Some p → b ≡ true
asked_if b o p e = grind arith

pub now_if : (b : Bool) (o : Option Order) (p : Order) → order_if b o ≡ Some p → o ≡ Some p
now_if b o p e = grind arith

pub asked_waits : (os : List Open) (w : ℕ) → is_asked w os ≡ true → (is_orders (open_place os).group ≡ true) × (is_among w (waits_now os) ≡ true)
asked_waits os w e = grind arith

-- among one alone is that one
pub one_alone : (w x : ℕ) (xs : List ℕ) → is_among w xs ≡ true → is_among x (w ∷ []) ≡ true → is_among x xs ≡ true
one_alone w x xs e f = grind arith

-- the open order, and that it is for these writers
pub record IsAsked (o : Order) (ws : List ℕ) (c : Course) : Type 0 where
  pub order : order_now (left c.agenda) ≡ Some o
  pub waits : (w : ℕ) → is_among w ws ≡ true → is_among w (waits_now (left c.agenda)) ≡ true

-- ## the calls of one course

-- what the changes bring about of which the calls of course c are made
pub record IsKeptFrom (P : Course → Type 0) (c : Course) : Type 0 where
  pub stays : P c
  pub posts : (before d : Course) → P d → P (posted before d)
  pub says : (o : Order) (said : Said) (now : ℕ) (ws : List ℕ) → IsAsked o ws c → P (told o said now ws c)
  pub works : (now : ℕ) → P (worked now c)
  pub fails : (why : VssResult) (d : Course) → is_some c.agenda ≡ true → P d → P (failed why d)
  pub closes : (a : Agenda) (d : Course) → d.agenda ≡ Some a → is_done (groups_left a) ≡ true → P d → P (settled_if true a.kind d)

module _ (P : Course → Type 0) (c : Course) (k : IsKeptFrom P c) where
  pub from_settled : (d : Course) → P d → P (settled d)
  unfolding settled
  from_settled d h = grind arith

  pub from_begun : (kind : Kind) (ms : List Member) (vs : List ℕ) (now : ℕ) (d : Course)
      → P (record d { agenda = Some (record { kind = kind; members = ms; volumes = vs; begun = now; log = [] }) }) → P (begun kind ms vs now d)
  unfolding begun
  from_begun kind ms vs now d h = k.posts d _ (from_settled _ h)

  by_said : (b : Bool) (said : Said) (d : Course) → is_some c.agenda ≡ true → P d → P (decided b said d)
  by_said b said d busy h = grind (arith, from_settled)

  pub from_answered : (w : ℕ) (said : Said) (now : ℕ) → P (answered w said now c)
  from_answered w said now = k.posts c _ (search (rules, now_if, asked_waits, asked_if, by_said, one_alone))

  steps : (ok : Bool) (now : ℕ) → is_some c.agenda ≡ true → P (stepped_as ok now c)
  steps true now busy = from_settled _ (k.works now)
  steps false now busy = k.fails _ c busy k.stays

  pub from_stepped : (ok : Bool) (now : ℕ) → is_working (left c.agenda) ≡ true → P (stepped ok now c)
  from_stepped ok now e = k.posts c _ (steps ok now (grind arith))

  treats : (l : Limit) (now : ℕ) → is_some c.agenda ≡ true → P (treated_as l now c)
  treats l now busy = grind (arith, from_settled)

  pub from_timed : (now : ℕ) → P (timed now c)
  from_timed now = k.posts c _ (grind (arith, treats))

-- ## of any course

pub record IsKeptInCourse (P : Course → Type 0) : Type 0 where
  pub posts : (before c : Course) → P c → P (posted before c)
  pub says : (o : Order) (said : Said) (now : ℕ) (ws : List ℕ) (c : Course) → P c → P (told o said now ws c)
  pub works : (now : ℕ) (c : Course) → P c → P (worked now c)
  pub fails : (why : VssResult) (c : Course) → P c → P (failed why c)
  pub closes : (k : Kind) (c : Course) → P c → P (settled_if true k c)

module _ (P : Course → Type 0) (k : IsKeptInCourse P) where
  from_here : (c : Course) → P c → IsKeptFrom P c
  from_here c h = grind arith

  pub course_settled : (c : Course) → P c → P (settled c)
  course_settled c h = from_settled P c (from_here c h) c h

  pub course_answered : (w : ℕ) (said : Said) (now : ℕ) (c : Course) → P c → P (answered w said now c)
  course_answered w said now c h = from_answered P c (from_here c h) w said now

  pub course_stepped : (ok : Bool) (now : ℕ) (c : Course) → P c → P (stepped ok now c)
  course_stepped ok now c h = k.posts c _ (grind (arith, course_settled))

  pub course_timed : (now : ℕ) (c : Course) → P c → P (timed now c)
  course_timed now c h = from_timed P c (from_here c h) now

  pub course_begun : (kind : Kind) (ms : List Member) (vs : List ℕ) (now : ℕ) (c : Course)
      → P (record c { agenda = Some (record { kind = kind; members = ms; volumes = vs; begun = now; log = [] }) }) → P (begun kind ms vs now c)
  course_begun kind ms vs now c h = from_begun P _ (from_here _ h) kind ms vs now c h

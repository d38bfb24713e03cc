-- Where more than a limit has gone by that fails the set, time fails it. The limit of held writes is said of the first Hold step.
use Rattle.promises.proofs.Words.{list_any, Order, WriterRow, answer_limit, hold_limit, default_freeze, is_spent, Group, Limit, Member, Agenda, Entry, Open}
use Rattle.promises.proofs.Words.{left, groups_left, order_of, order_now, Running, opened_at, freeze_opened_at, is_hold, first_time, first_hold, hold_runs, freeze_runs, answer_runs, runs_if}
use Rattle.promises.proofs.Words.{hold_running, running_at, running_limits, spent_of, same_running, first_found, later_found, none_and_some, limit_found, hold_found, held_here, frozen_here}
use Rattle.promises.proofs.Words.{asked_here, has_failed, has_passed, last_of, holds_volumes, is_hold_step, freezes_writers, prepares_snapshot, prepares_writers, frozen_too_long, unanswered_too_long}
use Rattle.promises.proofs.Words.{Decides, same_hold, same_hold_step, same_freeze, freeze_since, answer_since}
use Rattle.std.proofs.Common.{◌≡◌, ◌∙◌, ℕ, List, [], ◌∷◌, ◌++◌, Option, Some, None, refl, Bool, true, false, sym, subst, filter, find, fold, min, arith}
use Rattle.std.specs.Prelude.{◌&&◌, ◌||◌, option_map, if◌then◌else◌, slice_get}
use Rattle.std.proofs.lemmas.Bool.{and_parts}
use Rattle.set_agenda.specs.declared.limit.Limit.TheVariants.{Hold as HoldLimit, Freeze as FreezeLimit, Answer as AnswerLimit}
use Rattle.set_agenda.specs.Course.{Course, posted, failed as course_failed, limit_of, freeze_limit, limits_now, fails_set as decides, treated_as, treated, timed as course_timed}

-- ## a limit has gone by

abbrev pub passed_since : ℕ → Option Entry → Bool
passed_since now None = false
passed_since now (Some e) = has_passed hold_limit e.time now

-- since the first Hold step
abbrev pub held_since_first : ℕ → Agenda → Bool
held_since_first now a = passed_since now (find (λ (e : Entry). is_hold_step e.place.group) a.log)

abbrev pub is_due_at : ℕ → Course → Agenda → List Open → Bool
is_due_at now c a [] = false
is_due_at now c a (o ∷ os) = (holds_volumes o.place.group && held_since_first now a) || frozen_too_long now o.place.group c a || unanswered_too_long now o.place a

abbrev pub is_due_in : ℕ → Course → Option Agenda → Bool
is_due_in now c None = false
is_due_in now c (Some a) = is_due_at now c a (groups_left a)

pub posted_fails : (before c : Course) → has_failed c.outcome ≡ true → has_failed (posted before c).outcome ≡ true
unfolding posted
posted_fails before c e = e

-- ## a limit

treated_fails : (x : Limit) (now : ℕ) (c : Course) → Decides x (order_now (left c.agenda)) → has_failed (treated_as x now c).outcome ≡ true
unfolding course_failed
treated_fails x now c d = grind arith

consent_decides : (g : Group) → prepares_writers g ≡ true → decides (order_of g) ≡ true
consent_decides g e = grind arith

pub passed_spent : (now since limit : ℕ) → has_passed limit since now ≡ true → is_spent now since limit ≡ true
passed_spent now since limit e = grind arith

-- ## which limit is spent

-- a limit that runs and is spent is found
pub record Finds (now : ℕ) (ls : List Running) (x : Limit) : Type 0 where
  pub one : Running
  pub is : spent_of now ls ≡ Some one
  pub limit : one.limit ≡ x

finds_one : (now : ℕ) (b : Bool) (x : Limit) (since ticks : ℕ) → b ≡ true → is_spent now since ticks ≡ true → Finds now (runs_if b x since ticks) x
finds_one now false x since ticks e f = absurd cc
finds_one now true x since ticks e f = record { one = record { limit = x; since = since; ticks = ticks }; is = rw f refl; limit = refl }

pub spent_runs : (now : ℕ) (b : Bool) (x : Limit) (since ticks : ℕ) (l : Running) → spent_of now (runs_if b x since ticks) ≡ Some l → b ≡ true
spent_runs now b x since ticks l e = grind arith

pub spent_holds : (now : ℕ) (g : Group) (t : Option ℕ) (l : Running) → spent_of now (hold_running g t) ≡ Some l → hold_runs g ≡ true
spent_holds now g t l e = grind arith

-- ## held

first_is : (log : List Entry) → first_time (filter (λ e. is_hold e.place.group) log) ≡ option_map (λ (e : Entry). e.time) (find (λ (e : Entry). is_hold_step e.place.group) log)
first_is [] = refl
first_is (x ∷ log) = grind (arith, same_hold_step, first_is log)

pub held_finds : (now : ℕ) (g : Group) (a : Agenda) → holds_volumes g ≡ true → held_since_first now a ≡ true → Finds now (hold_running g (first_hold a.log)) HoldLimit
held_finds now g a e f = grind (arith, first_is, finds_one, same_hold, passed_spent)

-- ## frozen

least_spent : (now since least : ℕ) (rows : List WriterRow) (ms : List Member)
    → (has_passed least since now || list_any (λ (m : Member). has_passed (limit_of (slice_get rows m.writer)) since now) ms) ≡ true
    → is_spent now since (fold (λ l (m : Member). min l (limit_of (slice_get rows m.writer))) least ms) ≡ true
least_spent now since least rows [] e = grind (arith, passed_spent)
least_spent now since least rows (m ∷ ms) e = grind (arith, least_spent now since (min least (limit_of (slice_get rows m.writer))) rows ms (grind arith))

pub frozen_finds : (now : ℕ) (g : Group) (c : Course) (a : Agenda) → frozen_too_long now g c a ≡ true
    → Finds now (runs_if (freeze_runs g) FreezeLimit (freeze_opened_at a) (freeze_limit c)) FreezeLimit
frozen_finds now g c a e =
    let parts = and_parts (freezes_writers g) _ e in
    finds_one now (freeze_runs g) FreezeLimit (freeze_opened_at a) (freeze_limit c) (same_freeze g ∙ parts.0)
    (subst (λ t. is_spent now t (freeze_limit c) ≡ true) (sym (freeze_since a)) (least_spent now (last_of (λ x. prepares_snapshot x.place.group) a) default_freeze c.rows c.members parts.1))

-- ## unanswered

answer_finds : (now : ℕ) (a : Agenda) (o : Open) → unanswered_too_long now o.place a ≡ true → Finds now (runs_if (answer_runs o.place.group) AnswerLimit (opened_at a o) answer_limit) AnswerLimit
answer_finds now a o e = grind (arith, and_parts, finds_one, passed_spent, answer_since)

-- ## the spent limit fails the set

pub record Spends (now : ℕ) (ls : List Running) (o : Option Order) : Type 0 where
  pub one : Running
  pub is : spent_of now ls ≡ Some one
  pub fails : Decides one.limit o

spends_hold : (now : ℕ) (ls : List Running) (o : Option Order) (l : Running) → spent_of now ls ≡ Some l → l.limit ≡ HoldLimit → Spends now ls o
spends_hold now ls o l e f = record { one = l; is = e; fails = subst (λ x. Decides x o) (sym f) tt }

spends_freeze : (now : ℕ) (ls : List Running) (o : Option Order) (l : Running) → spent_of now ls ≡ Some l → l.limit ≡ FreezeLimit → Spends now ls o
spends_freeze now ls o l e f = record { one = l; is = e; fails = subst (λ x. Decides x o) (sym f) tt }

pub none_found : (now : ℕ) (ls : List Running) (x : Limit) → spent_of now ls ≡ None → Finds now ls x → ⊥
none_found now ls x e f = none_and_some (spent_of now ls) f.one e f.is

module _ (now : ℕ) (c : Course) (a : Agenda) (o : Open) where
  by_limits : (h f : Option Running) → spent_of now (held_here a o) ≡ h → spent_of now (frozen_here (freeze_limit c) a o) ≡ f → (b d u : Bool)
      → (holds_volumes o.place.group && held_since_first now a) ≡ b → frozen_too_long now o.place.group c a ≡ d → unanswered_too_long now o.place a ≡ u
      → (b || d || u) ≡ true → Spends now (held_here a o ++ frozen_here (freeze_limit c) a o ++ asked_here a o) (order_of o.place.group)
  by_limits (Some l) f e g b d u i j k due = spends_hold now (held_here a o ++ frozen_here (freeze_limit c) a o ++ asked_here a o) (order_of o.place.group) l
      (first_found now (held_here a o ++ frozen_here (freeze_limit c) a o) (asked_here a o) l
      (first_found now (held_here a o) (frozen_here (freeze_limit c) a o) l e)) (hold_found now o.place.group (first_hold a.log) l e)
  by_limits None (Some l) e g b d u i j k due =
      spends_freeze now (held_here a o ++ frozen_here (freeze_limit c) a o ++ asked_here a o) (order_of o.place.group) l
      (first_found now (held_here a o ++ frozen_here (freeze_limit c) a o) (asked_here a o) l
      (later_found now (held_here a o) (frozen_here (freeze_limit c) a o) e ∙ g))
      (limit_found now (freeze_runs o.place.group) FreezeLimit (freeze_opened_at a) (freeze_limit c) l g)
  by_limits None None e g true d u i j k due =
      let parts = and_parts (holds_volumes o.place.group) (held_since_first now a) i in
      absurd (none_found now (held_here a o) HoldLimit e (held_finds now o.place.group a parts.0 parts.1))
  by_limits None None e g false true u i j k due = absurd (none_found now (frozen_here (freeze_limit c) a o) FreezeLimit g (frozen_finds now o.place.group c a j))
  by_limits None None e g false false true i j k due =
      let found = answer_finds now a o k in
      record {
        one = found.one;
        is = later_found now (held_here a o ++ frozen_here (freeze_limit c) a o) (asked_here a o) (later_found now (held_here a o) (frozen_here (freeze_limit c) a o) e ∙ g) ∙ found.is;
        fails = subst (λ x. Decides x (order_of o.place.group)) (sym found.limit) (consent_decides o.place.group (and_parts (prepares_writers o.place.group) _ k).0);
      }
  by_limits None None e g false false false i j k due = absurd cc

  due_open : (os : List Open) → is_due_at now c a (o ∷ os) ≡ true → Spends now (running_at (freeze_limit c) a (o ∷ os)) (order_of o.place.group)
  due_open os e =
      by_limits (spent_of now (held_here a o)) (spent_of now (frozen_here (freeze_limit c) a o)) refl refl
      (holds_volumes o.place.group && held_since_first now a) (frozen_too_long now o.place.group c a) (unanswered_too_long now o.place a) refl refl refl e

due_left : (now : ℕ) (c : Course) (a : Agenda) (os : List Open) → is_due_at now c a os ≡ true → Spends now (running_at (freeze_limit c) a os) (order_now os)
due_left now c a [] e = absurd cc
due_left now c a (o ∷ os) e = due_open now c a o os e

pub due_in : (now : ℕ) (c : Course) (a : Option Agenda) → is_due_in now c a ≡ true → Spends now (running_limits (freeze_limit c) a) (order_now (left a))
due_in now c a e = grind (arith, due_left)

treats : (o : Option Running) (l : Running) (now : ℕ) (c : Course) → o ≡ Some l → Decides l.limit (order_now (left c.agenda)) → has_failed (treated o now c).outcome ≡ true
treats o l now c e d = grind (arith, treated_fails, same_running)

pub timed_fails : (now : ℕ) (c : Course) → is_due_in now c c.agenda ≡ true → has_failed (course_timed now c).outcome ≡ true
timed_fails now c e = let spends = due_in now c c.agenda e in posted_fails c _ (treats (spent_of now (limits_now c)) spends.one now c spends.is spends.fails)

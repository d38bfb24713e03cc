-- Exactly the writers whose time is over are lost.
use Rattle.promises.proofs.Words.{list_any, Order, Freeze, WriterRow, answer_limit, default_freeze, is_spent, Group, Orders, Limit, Member, Agenda, Open, left}
use Rattle.promises.proofs.Words.{order_of, order_now, waits_now, is_among, is_orders, order_if, open_order, Running as RunningLimit, opened_at}
use Rattle.promises.proofs.Words.{freeze_opened_at, first_hold, freeze_runs, answer_runs, runs_if, hold_running, running_at, running_limits, spent_of, Course}
use Rattle.promises.proofs.Words.{limit_of, freeze_limit, lost_at, Plan, State, left_now, Act, has_passed, last_of, is_elsewhere, lost_after, lost_order_if}
use Rattle.promises.proofs.Words.{is_over, is_over_at, is_over_in, is_over_after, LosesTheLate, freeze_since, answer_since, Lost, Kind, Place, others}
use Rattle.promises.proofs.Words.{others_if, asks_unfailed, unasked, unasked_if, advance, Entry, places, same_place, waited_for, with_group, left_from}
use Rattle.promises.proofs.Words.{groups_left, open_place, at_place, last_time, hold_runs, groups_left-all_say, and_parts, or_right, unless, true_not_false}
use Rattle.std.proofs.Common.{◌≡◌, ◌∙◌, ℕ, ◌+◌, List, [], ◌∷◌, ◌++◌, Option, Some, None, refl, Bool, true, false, ap, fold, arith, sym, subst, inr, map, filter}
use Rattle.std.specs.Prelude.{◌&&◌, ◌||◌, is_some, min, nat_lt, slice_get, ◌==◌, not, if◌then◌else◌}
use Rattle.set_agenda.specs.declared.limit.Limit.TheVariants.{Freeze as FreezeLimit, Answer as AnswerLimit}
use Rattle.promises.proofs.Participants.{off}
use Rattle.writer_meta.proofs.Laws.{and_left}
use Rattle.promises.proofs.Speaks.{Speaks}
use Rattle.promises.proofs.NotSpent.{at_once, none_both, unspent_if, unspent_hold, is_mild, Ordered, InTime, more, ordered_more, mild_stays}
use Rattle.promises.proofs.OpenGroup.{speaks_some, last_new}

-- ## the limit of the open order is spent

spent_is : (now since limit : ℕ) → is_spent now since limit ≡ has_passed limit since now
spent_is now since limit = grind arith

-- of the least of the time-outs
least_is : (now since least : ℕ) (rows : List WriterRow) (ms : List Member)
    → has_passed (fold (λ l (m : Member). min l (limit_of (slice_get rows m.writer))) least ms) since now
    ≡ (has_passed least since now || list_any (λ (m : Member). has_passed (limit_of (slice_get rows m.writer)) since now) ms)
least_is now since least rows [] = or_nothing (has_passed least since now) where
  or_nothing : (a : Bool) → a ≡ (a || false)
  or_nothing true = refl
  or_nothing false = refl
least_is now since least rows (m ∷ ms) =
    least_is now since (min least (limit_of (slice_get rows m.writer))) rows ms
    ∙ ap (λ b. b || list_any (λ (x : Member). has_passed (limit_of (slice_get rows x.writer)) since now) ms) (of_min least (limit_of (slice_get rows m.writer)) since now)
    ∙ regrouped (has_passed least since now) (has_passed (limit_of (slice_get rows m.writer)) since now) (list_any (λ (x : Member). has_passed (limit_of (slice_get rows x.writer)) since now) ms)
  where
    of_min : (a b t x : ℕ) → nat_lt (t + min a b) x ≡ (nat_lt (t + a) x || nat_lt (t + b) x)
    of_min a b t x = grind arith

    regrouped : (a b c : Bool) → ((a || b) || c) ≡ (a || (b || c))
    regrouped true b c = refl
    regrouped false b c = refl

one_spent : (now : ℕ) (x : Limit) (since ticks : ℕ) → is_some (spent_of now (runs_if true x since ticks)) ≡ is_spent now since ticks
one_spent now x since ticks = grind arith

-- the limits that run at the open group
abbrev running_of : ℕ → Agenda → Open → Group → List RunningLimit
running_of f a o g = hold_running g (first_hold a.log) ++ runs_if (freeze_runs g) FreezeLimit (freeze_opened_at a) f ++ runs_if (answer_runs g) AnswerLimit (opened_at a o) answer_limit

module _ (now : ℕ) (c : Course) (a : Agenda) (o : Open) where
  -- no hold limit runs while writers are asked
  asking : (x : Order) → is_some (spent_of now (running_of (freeze_limit c) a o (Orders x)))
      ≡ is_some (spent_of now (runs_if (freeze_runs (Orders x)) FreezeLimit (freeze_opened_at a) (freeze_limit c) ++ runs_if (answer_runs (Orders x)) AnswerLimit (opened_at a o) answer_limit))
  asking x = grind arith

  freeze_spent : is_some (spent_of now (running_of (freeze_limit c) a o (Orders Freeze))) ≡ is_over now c a o (Some Freeze)
  freeze_spent =
      asking Freeze
      ∙ one_spent now FreezeLimit (freeze_opened_at a) (freeze_limit c)
      ∙ spent_is now (freeze_opened_at a) (freeze_limit c)
      ∙ least_is now (freeze_opened_at a) default_freeze c.rows c.members
      ∙ ap (λ t. has_passed default_freeze t now || list_any (λ (m : Member). has_passed (limit_of (slice_get c.rows m.writer)) t now) c.members) (freeze_since a)

  answer_spent : is_some (spent_of now (runs_if true AnswerLimit (opened_at a o) answer_limit)) ≡ has_passed answer_limit (last_of (is_elsewhere o.place) a) now
  answer_spent = grind (arith, one_spent, spent_is, answer_since)

  order_spent : (x : Order) → is_some (spent_of now (running_of (freeze_limit c) a o (Orders x))) ≡ is_over now c a o (Some x)
  order_spent x = grind (arith, asking, answer_spent, freeze_spent)

  -- ## who is lost

  by_spent : (x : Order) (w : ℕ) (l : Option RunningLimit) (late : Bool) → is_some l ≡ late → is_among w (lost_at l (Some x) o.waits) ≡ (is_some (order_if (is_among w o.waits) (Some x)) && late)
  by_spent x w l late e = grind arith

  nobody : (w : ℕ) (l : Option RunningLimit) → is_among w (lost_at l None o.waits) ≡ false
  nobody w l = grind arith

  told_at : (g : Group) (w : ℕ) → is_among w (lost_at (spent_of now (running_of (freeze_limit c) a o g)) (order_of g) o.waits)
      ≡ (is_some (order_if (is_orders g && is_among w o.waits) (order_of g)) && is_over now c a o (order_of g))
  told_at g w = grind (arith, by_spent, order_spent, nobody)

told_left : (now : ℕ) (c : Course) (a : Agenda) (w : ℕ) (os : List Open)
    → is_among w (lost_at (spent_of now (running_at (freeze_limit c) a os)) (order_now os) (waits_now os)) ≡ (is_some (open_order os w) && is_over_at now c a os)
told_left now c a w os = grind (arith, told_at)

told_in : (now : ℕ) (c : Course) (x : Option Agenda) (w : ℕ)
    → is_among w (lost_at (spent_of now (running_limits (freeze_limit c) x)) (order_now (left x)) (waits_now (left x))) ≡ (is_some (open_order (left x) w) && is_over_in now c x)
told_in now c x w = grind (arith, told_left)

told_after : (n : Option ℕ) (st : State) (w : ℕ) → is_among w (lost_after n st) ≡ (is_some (open_order (left_now st) w) && is_over_after n st)
told_after n st w = grind (arith, off, told_in)

-- ## by which order

owes : (os : List Open) (w : ℕ) → is_some (open_order os w) ≡ true → order_now os ≡ open_order os w
owes os w e = grind arith

someone : (ws : List ℕ) (w : ℕ) (o : Option Order) → is_among w ws ≡ true → lost_order_if ws o ≡ o
someone ws w o e = grind arith

pub loses_the_late : (s : Plan) (so_far : List Act) (act : Act) → LosesTheLate s so_far act
loses_the_late s so_far act = grind (arith, told_after, someone, owes, and_left)

-- ## all answers to an order are lost, and the agenda goes on: no limit is outrun in the group that opens then

-- ## places apart

abbrev none_same : Place → List Place → Bool
none_same p [] = true
none_same p (q ∷ qs) = not (same_place p q) && none_same p qs

abbrev all_apart : List Place → Bool
all_apart [] = true
all_apart (p ∷ ps) = none_same p ps && all_apart ps

kind_apart : (k : Kind) → all_apart (places k) ≡ true
kind_apart k = grind arith

abbrev Apart : Place → List Open → Type 0
Apart p [] = Unit {0}
Apart p (o ∷ os) = (same_place p o.place ≡ false) × Apart p os

apart_group : (p q : Place) (ws : List ℕ) (later : List Open) → same_place p q ≡ false → Apart p later → Apart p (with_group q ws later)
apart_group p q ws later e h = grind arith

apart_left : (a : Agenda) (p : Place) (qs : List Place) → none_same p qs ≡ true → Apart p (left_from a qs)
apart_left a p [] e = tt
apart_left a p (q ∷ qs) e =
    let parts = and_parts (not (same_place p q)) (none_same p qs) e in
    apart_group p q (waited_for a q) (left_from a qs) (unless (same_place p q) parts.0) (apart_left a p qs parts.1)

first_apart : (p : Place) (ws : List ℕ) (later : List Open) (o : Open) (os : List Open) → Apart p later → (later ≡ o ∷ os → Apart o.place os) → with_group p ws later ≡ o ∷ os → Apart o.place os
first_apart p ws later o os h ih e = grind arith

rest_apart : (a : Agenda) (ps : List Place) (o : Open) (os : List Open) → all_apart ps ≡ true → left_from a ps ≡ o ∷ os → Apart o.place os
rest_apart a [] o os e f = absurd cc
rest_apart a (p ∷ ps) o os e f =
    let parts = and_parts (none_same p ps) (all_apart ps) e in
    first_apart p (waited_for a p) (left_from a ps) o os (apart_left a p ps parts.0) (λ g. rest_apart a ps o os parts.1 g) f

apart_unasked : (p : Place) (ws : List ℕ) (os : List Open) → Apart p os → Apart p (unasked ws os)
apart_unasked p ws [] h = tt
apart_unasked p ws (o ∷ os) h = apart_group p o.place (others_if (asks_unfailed o.place.group) ws o.waits) (unasked ws os) h.0 (apart_unasked p ws os h.1)

apart_unasked_if : (b : Bool) (p : Place) (ws : List ℕ) (os : List Open) → Apart p os → Apart p (unasked_if b ws os)
apart_unasked_if b p ws os h = grind (arith, apart_unasked)

-- ## all are done

keeps_none : (ws xs : List ℕ) → ((x : ℕ) → is_among x xs ≡ true → is_among x ws ≡ true) → others ws xs ≡ []
keeps_none ws [] h = refl
keeps_none ws (x ∷ xs) h = by_among (is_among x ws) (h x (first x (is_among x xs))) (keeps_none ws xs (λ y e. h y (or_right (x == y) (is_among y xs) e))) where
  first : (a : ℕ) (b : Bool) → ((a == a) || b) ≡ true
  first a b = grind arith

  by_among : (b : Bool) → b ≡ true → others ws xs ≡ [] → (if not b then x ∷ others ws xs else others ws xs) ≡ []
  by_among true e ih = ih
  by_among false e ih = absurd cc

others_none : (ws : List ℕ) → others ws ws ≡ []
others_none ws = keeps_none ws ws (λ x e. e)

-- what is left once all of the first group are done
left_after : (failed : Bool) (o : Open) (os : List Open) → advance o.waits failed (o ∷ os) ≡ unasked_if (is_orders o.place.group && failed) o.waits os
left_after failed o os = ap (λ ws. with_group o.place ws (unasked_if (is_orders o.place.group && failed) o.waits os)) (others_none o.waits)

mild_alone : (g : Group) → is_mild g ≡ true → (hold_runs g ≡ false) × (freeze_runs g ≡ false)
mild_alone g e = grind arith

module _ (now : ℕ) (a : Agenda) (asks : is_orders (open_place (groups_left a)).group ≡ true) (order : Ordered a) (mild : is_mild (open_place (groups_left a)).group ≡ true) where
  abbrev ws : List ℕ
  ws = waits_now (groups_left a)

  abbrev who : Speaks a ws
  who = inr (record { is = refl; writers = asks })

  abbrev next : Agenda
  next = more now Lost ws a who order

  apart_next : (os : List Open) → groups_left a ≡ os → Apart (open_place os) (advance (waits_now os) true os)
  apart_next [] e = tt
  apart_next (o ∷ os) e = subst (Apart o.place) (sym (left_after true o os))
      (apart_unasked_if (is_orders o.place.group && true) o.place o.waits os (rest_apart a (places a.kind) o os (kind_apart a.kind) e))

  next_apart : Apart (open_place (groups_left a)) (groups_left next)
  next_apart = subst (Apart (open_place (groups_left a))) (sym (groups_left-all_say Lost now ws a)) (apart_next (groups_left a) refl)

  unspent_next : (f : ℕ) (os : List Open) → groups_left next ≡ os → Apart (open_place (groups_left a)) os → spent_of now (running_at f next os) ≡ None
  unspent_next f [] g h = refl
  unspent_next f (x ∷ xs) g h =
      let off = mild_alone x.place.group (mild_stays now Lost ws a who order a.kind refl mild x xs g) in
      none_both now (hold_running x.place.group (first_hold next.log) ++ runs_if (freeze_runs x.place.group) FreezeLimit (freeze_opened_at next) f)
      (runs_if (answer_runs x.place.group) AnswerLimit (opened_at next x) answer_limit)
      (none_both now (hold_running x.place.group (first_hold next.log)) (runs_if (freeze_runs x.place.group) FreezeLimit (freeze_opened_at next) f)
      (unspent_hold now x.place.group (first_hold next.log) (λ since e i. absurd (true_not_false (hold_runs x.place.group) i off.0)))
      (unspent_if (freeze_runs x.place.group) FreezeLimit (freeze_opened_at next) f now (λ i. absurd (true_not_false (freeze_runs x.place.group) i off.1))))
      (unspent_if (answer_runs x.place.group) AnswerLimit (opened_at next x) answer_limit now (λ i. at_once now (opened_at next x) answer_limit opened)) where
        opened : opened_at next x ≡ now
        opened =
            ap (λ us. last_time a.begun (filter (λ (y : Entry). not (same_place y.place x.place)) (a.log ++ map (at_place (open_place (groups_left a)) Lost now) us))) (speaks_some a ws who).is
            ∙ last_new a.begun now (λ q. not (same_place q x.place)) (open_place (groups_left a)) Lost a.log (speaks_some a ws who).first (speaks_some a ws who).rest (ap not h.0)

  pub lost_in_time : (f : ℕ) → InTime now f next
  lost_in_time f = record { unspent = unspent_next f (groups_left next) refl next_apart; ordered = ordered_more now Lost ws a who order }

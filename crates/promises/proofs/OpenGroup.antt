-- The open group and what it adds to the log, the agendas that make a set, and the set that stays incomplete.
use Rattle.std.proofs.Common.{◌≡◌, ℕ, List, [], ◌∷◌, ◌++◌, Some, None, refl, Bool, true, false, ap, sym, subst, inl, inr, map, filter, arith, Option, ◌⊎◌}
use Rattle.std.proofs.lemmas.Bool.{and_parts}
use Rattle.std.specs.Prelude.{◌&&◌, if◌then◌else◌, not}
use Rattle.set_agenda.specs.Course.{failed as course_failed}
use Rattle.promises.proofs.Speaks.{Speaks, now_group}
use Rattle.promises.proofs.Words.{list_any, Said, Kind, Place, Agenda, Entry, Open, places, is_orders, waited_for, with_group, left_from, groups_left}
use Rattle.promises.proofs.Words.{open_place, waits_now, is_among, head_or_0, at_place, last_time, is_hold, first_hold, WaitsWell, waits-left_from}
use Rattle.promises.proofs.Words.{BackupComplete, is_ok, Group, Orders, Gather, Prepare, Snapshot, Complete, advance, plain, is_asked, order_now, open_order}
use Rattle.promises.proofs.Words.{all_say, unasked_if-nil, groups_left-all_say, asked_if, and_from, unless, true_not_false, among_filter, filter_passes}
use Rattle.promises.proofs.Words.{VssResult, Mark, Write, Session, Plan, State, SetRow, Kept, is_complete, step_made, has_complete, incomplete_settled}
use Rattle.promises.proofs.Words.{incomplete_map, Course, followed, failed_in, write, reverted_as, closed, changed_number, changed_result}

-- ## The open group, and what it adds to the log.

-- ## the open group

abbrev pub every : (Place → Bool) → List Place → Bool
every test [] = true
every test (p ∷ ps) = test p && every test ps

abbrev pub opens : (Place → Bool) → List Open → Bool
opens test [] = true
opens test (o ∷ os) = test o.place

pub open_passes : (test : Place → Bool) (a : Agenda) (ps : List Place) → every test ps ≡ true → opens test (left_from a ps) ≡ true
open_passes test a [] e = refl
open_passes test a (p ∷ ps) e = grind (arith, and_parts, open_passes test a ps (and_parts (test p) (every test ps) e).1)

pub in_kind : (test : Place → Bool) (k : Kind) (x : Agenda) (o : Open) (os : List Open) → x.kind ≡ k → every test (places k) ≡ true → groups_left x ≡ o ∷ os → test o.place ≡ true
in_kind test k x o os e h g = subst (λ xs. opens test xs ≡ true) g (subst (λ j. opens test (left_from x (places j)) ≡ true) (sym e) (open_passes test x (places k) h))

pub record IsOpen (os : List Open) : Type 0 where
  pub first : Open
  pub rest : List Open
  pub is : os ≡ first ∷ rest

pub record IsSome (ws : List ℕ) : Type 0 where
  pub first : ℕ
  pub rest : List ℕ
  pub is : ws ≡ first ∷ rest

pub speaks_some : (a : Agenda) (ws : List ℕ) → Speaks a ws → IsSome ws
speaks_some a ws (inl o) = record { first = o.one; rest = []; is = o.is }
speaks_some a ws (inr o) = all_some (groups_left a) (waits-left_from a (places a.kind)) o.writers o.is where
  by_waits : (xs : List ℕ) → is_among (head_or_0 xs) xs ≡ true → ws ≡ xs → IsSome ws
  by_waits xs h f = grind arith

  all_some : (os : List Open) → WaitsWell os → is_orders (open_place os).group ≡ true → ws ≡ waits_now os → IsSome ws
  all_some os h e f = grind (arith, by_waits)

pub speaks_open : (a : Agenda) (ws : List ℕ) → Speaks a ws → IsOpen (groups_left a)
speaks_open a ws (inl o) = at_list (groups_left a) o.waits where
  at_list : (os : List Open) → is_among o.one (waits_now os) ≡ true → IsOpen os
  at_list os e = grind arith
speaks_open a ws (inr o) = at_list (groups_left a) o.writers where
  at_list : (os : List Open) → is_orders (open_place os).group ≡ true → IsOpen os
  at_list os e = grind arith

-- ## the log with what is said

pub last_all : (now : ℕ) (test : Place → Bool) (p : Place) (said : Said) (ws : List ℕ) → test p ≡ true → last_time now (filter (λ (e : Entry). test e.place) (map (at_place p said now) ws)) ≡ now
last_all now test p said [] e = refl
last_all now test p said (w ∷ ws) e = grind (arith, last_all now test p said ws e)

pub last_new : (t now : ℕ) (test : Place → Bool) (p : Place) (said : Said) (log : List Entry) (w : ℕ) (ws : List ℕ) → test p ≡ true
    → last_time t (filter (λ (e : Entry). test e.place) (log ++ map (at_place p said now) (w ∷ ws))) ≡ now
last_new t now test p said [] w ws e = grind (arith, last_all)
last_new t now test p said (x ∷ log) w ws e = grind (arith, last_new x.time now test p said log w ws e, last_new t now test p said log w ws e)

pub none_new : (now : ℕ) (test : Place → Bool) (p : Place) (said : Said) (ws : List ℕ) (log : List Entry) → test p ≡ false
    → filter (λ (e : Entry). test e.place) (log ++ map (at_place p said now) ws) ≡ filter (λ (e : Entry). test e.place) log
none_new now test p said [] [] e = refl
none_new now test p said (w ∷ ws) [] e = grind (arith, none_new now test p said ws [] e)
none_new now test p said ws (x ∷ log) e = ap (λ ys. if test x.place then x ∷ ys else ys) (none_new now test p said ws log e)

pub filter_along : (f g : Entry → Bool) → ((e : Entry) → f e ≡ g e) → (log : List Entry) → filter f log ≡ filter g log
filter_along f g same log = grind arith

abbrev pub has_hold : List Entry → Bool
has_hold log = list_any (λ (e : Entry). is_hold e.place.group) log

pub hold_there : (log : List Entry) (t : ℕ) → first_hold log ≡ Some t → has_hold log ≡ true
hold_there [] t e = absurd cc
hold_there (x ∷ log) t e = grind (arith, hold_there log t)

pub hold_stays : (log new : List Entry) (t : ℕ) → first_hold log ≡ Some t → first_hold (log ++ new) ≡ Some t
hold_stays [] new t e = absurd cc
hold_stays (x ∷ log) new t e = grind (arith, hold_stays log new t)

pub hold_said : (now : ℕ) (p : Place) (said : Said) (ws : List ℕ) (t : ℕ) → first_hold (map (at_place p said now) ws) ≡ Some t → t ≡ now
hold_said now p said [] t e = absurd cc
hold_said now p said (w ∷ ws) t e = grind (arith, hold_said now p said ws t)

pub hold_new : (now : ℕ) (p : Place) (said : Said) (ws : List ℕ) (log : List Entry) (t : ℕ) → first_hold log ≡ None → first_hold (log ++ map (at_place p said now) ws) ≡ Some t → t ≡ now
hold_new now p said ws [] t e f = hold_said now p said ws t f
hold_new now p said ws (x ∷ log) t e f = grind (arith, hold_new now p said ws log t)

pub new_hold : (now : ℕ) (p : Place) (said : Said) (ws : List ℕ) → has_hold (map (at_place p said now) ws) ≡ true → is_hold p.group ≡ true
new_hold now p said [] e = absurd cc
new_hold now p said (w ∷ ws) e = grind (arith, new_hold now p said ws)

-- ## who has the order BackupComplete open: in its agenda there is no other group, and in no other agenda is that order

-- ## one group alone

abbrev pub is_last_order : Group → Bool
is_last_order (Orders BackupComplete) = true
is_last_order _ = false

-- who has it open still, when these have said something, is none of them and had it open
pub one_group : (p : Place) (waits ws : List ℕ) (f : Bool) (w : ℕ) → is_asked w (advance ws f (with_group p waits [])) ≡ true → (is_asked w (with_group p waits []) ≡ true) × (is_among w ws ≡ false)
one_group p waits ws f w e = grind (arith, unasked_if-nil, and_parts, and_from, among_filter, unless, filter_passes)

abbrev pub last_place : Place
last_place = plain (Orders BackupComplete)

-- no other agenda has the order
pub not_in_kind : (k : Kind) (a : Agenda) (w : ℕ) → a.kind ≡ k → every (λ q. not (is_last_order q.group)) (places k) ≡ true → open_order (groups_left a) w ≡ Some BackupComplete → ⊥
not_in_kind k a w e h o = grind (arith, true_not_false, now_group, in_kind)

pub complete_left : (a : Agenda) → a.kind ≡ Complete → groups_left a ≡ with_group last_place (waited_for a last_place) []
complete_left a e = ap (λ k. left_from a (places k)) e

pub still_open : (k : Kind) (said : Said) (now : ℕ) (ws : List ℕ) (a : Agenda) (w : ℕ) → a.kind ≡ k
    → open_order (groups_left (all_say said now ws a)) w ≡ Some BackupComplete → (open_order (groups_left a) w ≡ Some BackupComplete) × (is_among w ws ≡ false)
still_open Gather said now ws a w e o = absurd (not_in_kind Gather (all_say said now ws a) w e refl o)
still_open Prepare said now ws a w e o = absurd (not_in_kind Prepare (all_say said now ws a) w e refl o)
still_open Snapshot said now ws a w e o = absurd (not_in_kind Snapshot (all_say said now ws a) w e refl o)
still_open Complete said now ws a w e o =
    let left_now = complete_left a e in
    let asked = asked_if (is_asked w (groups_left (all_say said now ws a))) (order_now (groups_left (all_say said now ws a))) BackupComplete o in
    let parts =
    one_group last_place (waited_for a last_place) ws (not (is_ok said)) w
    (subst (λ os. is_asked w (advance ws (not (is_ok said)) os) ≡ true) left_now (subst (λ os. is_asked w os ≡ true) (groups_left-all_say said now ws a) asked)) in (
      subst (λ os. open_order os w ≡ Some BackupComplete) (sym left_now) (grind (arith, parts.0)),
      parts.1,
    )

-- ## A set that an act does not complete stays incomplete, and an agenda that begins completes none.

module _ (n : ℕ) where
  done_if : (b : Bool) (L : Type 0) (ran : Bool) (c : Course) (st : State) → is_complete c.outcome ≡ b → has_complete st.sets n ≡ false
      → (is_complete c.outcome ≡ true → L) → (has_complete (followed ran c st).sets n ≡ false) ⊎ L
  unfolding followed
  done_if b x1 ran c st e h last = grind (arith, incomplete_settled)

  pub done_followed : (L : Type 0) (ran : Bool) (c : Course) (st : State) → has_complete st.sets n ≡ false → (is_complete c.outcome ≡ true → L) → (has_complete (followed ran c st).sets n ≡ false) ⊎ L
  done_followed L ran c st h last = done_if (is_complete c.outcome) L ran c st refl h last

  pub incomplete_failed : (o : Option SetRow) (why : VssResult) (x : State) → has_complete x.sets n ≡ false → has_complete (failed_in o why x).sets n ≡ false
  unfolding course_failed
  incomplete_failed o why x h = grind (arith, incomplete_settled)

  pub incomplete_write : (s : Plan) (v : ℕ) (w : Write) (mark : Mark) (st : State) → has_complete st.sets n ≡ false → has_complete (write s v w mark st).1.sets n ≡ false
  unfolding write
  incomplete_write s v w mark st h = grind (arith, incomplete_failed)

  pub incomplete_revert : (s : Plan) (v : ℕ) (x : Kept) (mark : Mark) (st : State) → has_complete st.sets n ≡ false → has_complete (reverted_as s v x mark st).1.sets n ≡ false
  incomplete_revert s v x mark st h = grind arith

  pub incomplete_closed : (q : Session) (x : State) → has_complete x.sets n ≡ false → has_complete (closed q x).sets n ≡ false
  unfolding closed
  incomplete_closed q x h = h

  pub incomplete_made : (g : Option Group) (v : Option ℕ) (st : State) → has_complete st.sets n ≡ false → has_complete (step_made g v st).sets n ≡ false
  incomplete_made g v st h = grind (arith, incomplete_map, changed_number, changed_result)

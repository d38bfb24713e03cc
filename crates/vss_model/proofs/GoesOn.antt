-- A legal trail that is not complete can go on.
use Rattle.std.proofs.Common.{◌≡◌, ℕ, ◌==◌, suc, List, [], ◌∷◌, ◌++◌, Option, Some, None, refl, Bool, true, false, ap, sym, ◌∙◌, subst, inl, inr, drop, arith}
use Rattle.std.specs.Prelude.{option_map, ◌⊎◌, is_none, length, ◌&&◌, ◌||◌, not, slice_get}
use Rattle.vss_model.proofs.Terms.{sum_by-append, list_all, range_with_len, and_from, and_parts, eq-eqb, eqb-true, common_steps, Actor, Lane, Writer, Advance}
use Rattle.vss_model.proofs.Terms.{Mark, Clean, Move, is_asking, is_working, Session, agenda_ended, set_failed, Op, End, Plan, LaneLine, lines_of, Event, Line}
use Rattle.vss_model.proofs.Terms.{State, left_now, runs, Act, after, enabled, line_enabled, Run, begin, is_lane, cursor, next_line, line_event, event_of}
use Rattle.vss_model.proofs.Terms.{act_of, after_event, moved, run_from, run, event_enabled, can_act, none_can_act, may_move, allows as allows_mark, nat_tests}
use Rattle.vss_model.proofs.Terms.{is_legal_move, is_legal_from, is_legal, is_used_up, is_complete, is_begin, is_end, has_end, ends_sessions, EndsSessions}
use Rattle.vss_model.proofs.Terms.{CanGoOn, Change, SessionIs, apply, IdleActor}
use Rattle.vss_model.proofs.StateForm.{closed, called, line}
use Rattle.vss_model.proofs.Changes.{after_enabled, SessionStep, Opens, Starts, EndsAgenda, FailsSet, Closes, session_after, IsStepDue, Comes, by_changes}
use Rattle.vss_model.proofs.Rows.{none_runs}
use Rattle.vss_model.proofs.Rules.{begins_at}
use Rattle.vss_model.proofs.Appending.{state-run, moves-run}
use Rattle.vss_model.proofs.Orderly.{true_not_false}
use Rattle.vss_model.proofs.Waiting.{working_or_asking}
use Rattle.vss_model.proofs.ByEvent.{running_off}

-- ## whose session stands

-- the session that stands, if one does, is this lane's
abbrev IsOf : ℕ → Option Session → Type 0
IsOf o None = Unit {0}
IsOf o (Some q) = q.owner ≡ o

abbrev Owned : ℕ → State → Type 0
Owned o st = IsOf o st.session

owned_by : (o : ℕ) (q : Session) (x : Option Session) → x ≡ Some q → IsOf o x → q.owner ≡ o
owned_by o q x e h = subst (IsOf o) e h

owned_map : (o : ℕ) (f : Session → Session) (q : Option Session) → ((p : Session) → (f p).owner ≡ p.owner) → IsOf o q → IsOf o (option_map f q)
owned_map o f q same h = grind arith

-- a session is begun by the lane of the act alone
module _ (o : ℕ) (s : Plan) (st : State) (act : Act) (begins : (lane : ℕ) → begins_at lane act.event ≡ true → st.session ≡ None → lane ≡ o) where
  owned_step : (x : State) (step : SessionStep) → IsStepDue act.event st x step → Owned o x → IsOf o (session_after st step x.session)
  owned_step x (Opens lane c all) i h = begins lane (ap (begins_at lane) i.1.0 ∙ eq-eqb lane lane refl) i.1.1
  owned_step x (Starts own) i h = owned_by o own x.session (ap (λ (y : State). y.session) i.1 ∙ i.0.stands) h
  owned_step x EndsAgenda i h = owned_map o agenda_ended x.session (λ p. refl) h
  owned_step x (FailsSet why) i h = owned_map o (set_failed why) x.session (λ p. refl) h
  owned_step x Closes i h = tt

  owned_apply : (c : Change) (x : State) → Comes s act.event act.mark st x c → Owned o x → Owned o (apply x c)
  owned_apply (SessionIs q) x i h = subst (IsOf o) (sym i.is) (owned_step x i.step i.due h)
  owned_apply _ x i h = h

  owned_after : Owned o st → Owned o (after s st act)
  owned_after h = by_changes (Owned o) s st act owned_apply h

-- no session stands, and none is begun
none_stays : (s : Plan) (st : State) (act : Act) → ((lane : ℕ) → begins_at lane act.event ≡ true → ⊥) → st.session ≡ None → (after s st act).session ≡ None
none_stays s st act begins e =
    grind (
      arith,
      (owned_after 0 s st act (λ lane f g. absurd (begins lane f)) (subst (IsOf 0) (sym e) tt)),
      (owned_after 1 s st act
          (λ lane f g. absurd (begins lane f)) (subst (IsOf 1) (sym e) tt)),
    )

-- ## what a lane has left

abbrev pub rest_of : Plan → List Move → ℕ → List LaneLine
rest_of s moves i = drop (cursor moves i) (lines_of s i)

-- the owner of the session has an `end` line left
abbrev pub EndsLeft : Plan → List Move → Option Session → Type 0
EndsLeft s moves None = Unit {0}
EndsLeft s moves (Some q) = has_end (rest_of s moves q.owner) ≡ true

pub cursor_more : (moves : List Move) (m : Move) (i : ℕ) → is_lane i m.actor ≡ true → cursor (moves ++ m ∷ []) i ≡ suc (cursor moves i)
cursor_more moves m i e = grind (arith, common_steps, sum_by-append)

pub cursor_same : (moves : List Move) (m : Move) (i : ℕ) → is_lane i m.actor ≡ false → cursor (moves ++ m ∷ []) i ≡ cursor moves i
cursor_same moves m i e = grind (arith, common_steps, sum_by-append)

drop_at : (lines : List LaneLine) (n : ℕ) (l : LaneLine) → slice_get lines n ≡ Some l → drop n lines ≡ l ∷ drop (suc n) lines
drop_at (x ∷ lines) (suc n) l e = drop_at lines n l e
drop_at lines n l e = grind (arith, common_steps, nat_tests)

ends_drop : (lines : List LaneLine) (n : ℕ) → ends_sessions lines ≡ true → ends_sessions (drop n lines) ≡ true
ends_drop (x ∷ lines) (suc n) e = ends_drop lines n (and_parts (not (is_begin x.op) || has_end lines) (ends_sessions lines) e).1
ends_drop lines n e = grind (arith, common_steps, nat_tests, and_parts)

-- ## the owner's end ends the session

own_end : (s : Plan) (q : Session) (mark : Mark) (st : State) → st.session ≡ Some q → (line s q.owner End mark st).1.session ≡ None
unfolding closed called
own_end s q mark st e = grind arith

-- ## a legal move keeps it

may_can : (s : Plan) (r : Run) (a : Actor) → may_move s r a ≡ true → can_act s r a ≡ true
may_can s r a e = grind arith

-- where no lane moves
keeps_of : (s : Plan) (moves : List Move) (m : Move) (q : Session) (x : Option Session) → IsOf q.owner x → is_lane q.owner m.actor ≡ false → has_end (rest_of s moves q.owner) ≡ true → EndsLeft s (moves ++ m ∷ []) x
keeps_of s moves m q None o e h = tt
keeps_of s moves m q (Some p) o e h = subst (λ i. has_end (rest_of s (moves ++ m ∷ []) i) ≡ true) (sym o)
    (subst (λ n. has_end (drop n (lines_of s q.owner)) ≡ true) (sym (cursor_same moves m q.owner e)) h)

quiet_move : (s : Plan) (moves : List Move) (m : Move) (st : State) (event : Event) (x : Option Session) → st.session ≡ x → ((lane : ℕ) → begins_at lane event ≡ true → ⊥) → ((i : ℕ) → is_lane i m.actor ≡ false) → EndsLeft s moves x
    → EndsLeft s (moves ++ m ∷ []) (after s st (act_of m.mark event)).session
quiet_move s moves m st event None e never out h = subst (EndsLeft s (moves ++ m ∷ [])) (sym (none_stays s st (act_of m.mark event) never e)) tt
quiet_move s moves m st event (Some q) e never out h =
    keeps_of s moves m q (after s st (act_of m.mark event)).session
    (owned_after q.owner s st (act_of m.mark event) (λ lane f g. absurd (never lane f)) (subst (IsOf q.owner) (sym e) refl)) (out q.owner) h

lane_left : (s : Plan) (moves : List Move) (m : Move) (i : ℕ) (l : LaneLine) → m.actor ≡ Lane i → slice_get (lines_of s i) (cursor moves i) ≡ Some l → rest_of s moves i ≡ l ∷ rest_of s (moves ++ m ∷ []) i
lane_left s moves m i l e f = grind (arith, common_steps, drop_at, cursor_more, eq-eqb)

-- no session stood
from_none : (b : Bool) (s : Plan) (moves : List Move) (m : Move) (st : State) (i : ℕ) (l : LaneLine) → is_begin l.op ≡ b → EndsSessions s → m.actor ≡ Lane i → slice_get (lines_of s i) (cursor moves i) ≡ Some l → st.session ≡ None
    → EndsLeft s (moves ++ m ∷ []) (after s st (act_of m.mark (Line i l.op))).session
from_none false s moves m st i l b good e f g = grind (arith, common_steps, none_stays, true_not_false, and_parts)
from_none true s moves m st i l b good e f g = by_session (after s st act).session owned where
  act : Act
  act = act_of m.mark (Line i l.op)

  owned : Owned i (after s st act)
  owned = owned_after i s st act (λ lane h x. sym (eqb-true i lane (and_parts (is_begin l.op) (i == lane) h).1)) (subst (IsOf i) (sym g) tt)

  by_session : (x : Option Session) → IsOf i x → EndsLeft s (moves ++ m ∷ []) x
  by_session None o = tt
  by_session (Some q) o =
      subst (λ n. has_end (rest_of s (moves ++ m ∷ []) n) ≡ true) (sym o)
      (grind (arith, subst (λ x. ends_sessions x ≡ true) (lane_left s moves m i l e f) (ends_drop (lines_of s i) (cursor moves i) (good i))))

from_own : (b : Bool) (s : Plan) (moves : List Move) (m : Move) (st : State) (q : Session) (l : LaneLine) → is_end l.op ≡ b → m.actor ≡ Lane q.owner
    → slice_get (lines_of s q.owner) (cursor moves q.owner) ≡ Some l → st.session ≡ Some q → enabled s st (Line q.owner l.op) ≡ true
    → has_end (rest_of s moves q.owner) ≡ true → EndsLeft s (moves ++ m ∷ []) (after s st (act_of m.mark (Line q.owner l.op))).session
from_own true s moves m st q l b e f g on h =
    subst (EndsLeft s (moves ++ m ∷ []))
    (sym (ap (λ x. x.session) (after_enabled s st (act_of m.mark (Line q.owner l.op)) on) ∙ ap (λ op. (line s q.owner op m.mark st).1.session) (end_op l.op b) ∙ own_end s q m.mark st g)) tt
  where
    end_op : (op : Op) → is_end op ≡ true → op ≡ End
    end_op End e = refl
    end_op _ e = absurd cc
from_own false s moves m st q l b e f g on h = by_session (after s st act).session owned where
  act : Act
  act = act_of m.mark (Line q.owner l.op)

  owned : Owned q.owner (after s st act)
  owned = owned_after q.owner s st act (λ lane i x. absurd (grind arith)) (subst (IsOf q.owner) (sym g) refl)

  by_session : (x : Option Session) → IsOf q.owner x → EndsLeft s (moves ++ m ∷ []) x
  by_session None o = tt
  by_session (Some p) o =
      subst (λ n. has_end (rest_of s (moves ++ m ∷ []) n) ≡ true) (sym o)
      (grind (arith, subst (λ x. has_end x ≡ true) (lane_left s moves m q.owner l e f) h))

lane_move : (x : Option Session) (s : Plan) (moves : List Move) (m : Move) (st : State) (i : ℕ) (l : LaneLine) → st.session ≡ x → EndsSessions s → m.actor ≡ Lane i → slice_get (lines_of s i) (cursor moves i) ≡ Some l → enabled s st (Line i l.op) ≡ true → EndsLeft s moves x
    → EndsLeft s (moves ++ m ∷ []) (after s st (act_of m.mark (Line i l.op))).session
lane_move None s moves m st i l g good e f on h = from_none (is_begin l.op) s moves m st i l refl good e f g
lane_move (Some q) s moves m st i l g good e f on h = by_owner (q.owner == i) refl where
  act : Act
  act = act_of m.mark (Line i l.op)

  by_owner : (b : Bool) → (q.owner == i) ≡ b → EndsLeft s (moves ++ m ∷ []) (after s st act).session
  by_owner true j =
      let same : q.owner ≡ i = eqb-true q.owner i j in
      subst (λ n. EndsLeft s (moves ++ m ∷ []) (after s st (act_of m.mark (Line n l.op))).session) same
      (from_own (is_end l.op) s moves m st q l refl (e ∙ ap Lane (sym same)) (subst (λ n. slice_get (lines_of s n) (cursor moves n) ≡ Some l) (sym same) f) g (subst (λ n. enabled s st (Line n l.op) ≡ true) (sym same) on) h)
  by_owner false j =
      keeps_of s moves m q (after s st act).session
      (owned_after q.owner s st act (λ lane k x. absurd (grind arith)) (subst (IsOf q.owner) (sym g) refl))
      (ap (is_lane q.owner) e ∙ (grind arith)) h

-- ## every legal trail

on_line_move : (s : Plan) (r : Run) (m : Move) (i : ℕ) (x : Option LaneLine) → EndsSessions s → m.actor ≡ Lane i → next_line s r i ≡ x → event_enabled s r (line_event i x) ≡ true → EndsLeft s r.moves r.state.session
    → EndsLeft s (r.moves ++ m ∷ []) (after_event s r.state (line_event i x) m.mark).session
on_line_move s r m i x good e f on h = grind (arith, lane_move)

pub legal_ends : (s : Plan) (r : Run) (ms : List Move) → EndsSessions s → EndsLeft s r.moves r.state.session → is_legal_from s r ms ≡ true → EndsLeft s (run_from s r ms).moves (run_from s r ms).state.session
legal_ends s r [] good h e = h
legal_ends s r (m ∷ ms) good h e =
    legal_ends s (moved s r m) ms good
    (grind (
      arith,
      common_steps,
      nat_tests,
      on_line_move,
      quiet_move,
      true_not_false,
      (may_can s r m.actor
          (and_parts (may_move s r m.actor) (allows_mark s r (event_of s r m.actor) m.mark)
          (and_parts (is_legal_move s r m) (is_legal_from s (moved s r m) ms) e).0).0),
    ))
    (and_parts (is_legal_move s r m) (is_legal_from s (moved s r m) ms) e).1

-- in a legal trail the owner of the session that stands has an `end` line left
pub owner_ends : (s : Plan) (trail : List Move) (q : Session) → EndsSessions s → is_legal s trail ≡ true → (run s trail).state.session ≡ Some q → has_end (drop (cursor trail q.owner) (lines_of s q.owner)) ≡ true
owner_ends s trail q good e f = grind (arith, moves-run, legal_ends)

-- ## a move that may come

can_move : (s : Plan) (r : Run) (a : Actor) → may_move s r a ≡ true → CanGoOn s r
can_move s r a e = record {
  actor = a;
  legal = and_from (may_move s r a) (allows_mark s r (event_of s r a) Clean) e (grind (arith, may_can s r a e));
}

line_can : (s : Plan) (r : Run) (i : ℕ) (l : LaneLine) → next_line s r i ≡ Some l → line_enabled s r.state i l.op ≡ true → CanGoOn s r
line_can s r i l e f = can_move s r (Lane i) (subst (λ x. event_enabled s r (line_event i x) ≡ true) (sym e) f)

-- ## where no agenda runs

line_or_begin : (b : Bool) (s : Plan) (st : State) (lane : ℕ) (op : Op) → is_begin op ≡ b → st.course.agenda ≡ None → ((x : Session) → st.session ≡ Some x → (x.owner == lane) ≡ true) → line_enabled s st lane op ≡ true
line_or_begin b s st lane op e f own = grind arith

record Next (x : Option LaneLine) : Type 0 where
  line : LaneLine
  is : x ≡ Some line

next_of : (x : Option LaneLine) → is_none x ≡ false → Next x
next_of x e = grind arith

next_left : (lines : List LaneLine) (n : ℕ) → has_end (drop n lines) ≡ true → Next (slice_get lines n)
next_left (x ∷ lines) (suc n) e = next_left lines n e
next_left lines n e = grind (arith, common_steps, nat_tests)

-- where a test fails
record FailsAt (test : ℕ → Bool) : Type 0 where
  at : ℕ
  is : test at ≡ false

not_all : (test : ℕ → Bool) (xs : List ℕ) → list_all test xs ≡ false → FailsAt test
not_all test [] e = absurd cc
not_all test (x ∷ xs) e = by_head (test x) refl e (not_all test xs) where
  by_head : (b : Bool) → test x ≡ b → (b && list_all test xs) ≡ false → (list_all test xs ≡ false → FailsAt test) → FailsAt test
  by_head true f g ih = ih g
  by_head false f g ih = record { at = x; is = f }

waits_for_owner : (s : Plan) (r : Run) (x : Option Session) (i : ℕ) (l : LaneLine) → r.state.session ≡ x → r.state.course.agenda ≡ None → EndsLeft s r.moves x → next_line s r i ≡ Some l → CanGoOn s r
waits_for_owner s r None i l e f h g =
    line_can s r i l g (line_or_begin (is_begin l.op) s r.state i l.op refl f (λ y k. absurd (grind arith)))
waits_for_owner s r (Some q) i l e f h g =
    let next = next_left (lines_of s q.owner) (cursor r.moves q.owner) h in
    line_can s r q.owner next.line next.is
    (line_or_begin (is_begin next.line.op) s r.state q.owner next.line.op refl f (λ p k. ap (λ n. n == q.owner) (grind arith) ∙ eq-eqb q.owner q.owner refl))

quiet_goes : (s : Plan) (r : Run) → r.state.course.agenda ≡ None → EndsLeft s r.moves r.state.session → list_all (is_used_up s r) (range_with_len 0 (length s.lanes)) ≡ false → CanGoOn s r
quiet_goes s r e h f =
    let lane = not_all (is_used_up s r) (range_with_len 0 (length s.lanes)) f in
    let next = next_of (next_line s r lane.at) lane.is in
    waits_for_owner s r r.state.session lane.at next.line refl e h next.is

-- ## where an agenda runs

pub not_false : (b : Bool) → not b ≡ false → b ≡ true
not_false b e = grind arith

some_acts : (lanes writers provider : Bool) (s : Plan) (r : Run) → (lanes && writers && provider) ≡ false → (lanes ≡ false → CanGoOn s r) → (writers ≡ false → CanGoOn s r) → (provider ≡ false → CanGoOn s r) → CanGoOn s r
some_acts lanes writers provider s r e f g h = grind (arith, common_steps)

idle_or_other : (b : Bool) (s : Plan) (r : Run) → none_can_act s r ≡ b → is_asking (left_now r.state) ≡ true → CanGoOn s r
idle_or_other true s r e a = can_move s r IdleActor (and_from (can_act s r IdleActor) (none_can_act s r) a e)
idle_or_other false s r e a =
    some_acts
    (list_all (λ i. not (can_act s r (Lane i))) (range_with_len 0 (length s.lanes)))
    (list_all (λ w. not (can_act s r (Writer w))) (range_with_len 0 (length s.writers)))
    (not (can_act s r Advance)) s r e
    (λ f. let x = not_all (λ i. not (can_act s r (Lane i))) (range_with_len 0 (length s.lanes)) f in can_move s r (Lane x.at) (not_false (can_act s r (Lane x.at)) x.is))
    (λ f. let x = not_all (λ w. not (can_act s r (Writer w))) (range_with_len 0 (length s.writers)) f in can_move s r (Writer x.at) (not_false (can_act s r (Writer x.at)) x.is))
    (λ f. can_move s r Advance (not_false (can_act s r Advance) f))

running_goes : (s : Plan) (r : Run) → (is_working (left_now r.state) ≡ true) ⊎ (is_asking (left_now r.state) ≡ true) → CanGoOn s r
running_goes s r (inl w) = can_move s r Advance w
running_goes s r (inr a) = idle_or_other (none_can_act s r) s r refl a

by_runs : (b : Bool) (s : Plan) (trail : List Move) → runs (run s trail).state ≡ b → EndsLeft s (run s trail).moves (run s trail).state.session → is_complete s trail ≡ false → CanGoOn s (run s trail)
by_runs true s trail e h f = grind (arith, common_steps, running_goes, state-run, working_or_asking)
by_runs false s trail e h f = grind (arith, common_steps, quiet_goes, none_runs, running_off)

pub can_go_on : (s : Plan) (trail : List Move) → EndsSessions s → is_legal s trail ≡ true → is_complete s trail ≡ false → CanGoOn s (run s trail)
can_go_on s trail good e f = by_runs (runs (run s trail).state) s trail refl (legal_ends s (begin s) trail good tt e) f

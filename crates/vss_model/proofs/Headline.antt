-- Every run keeps its promises: what a failed set leaves, what is let go, and what a complete trail makes.
use Rattle.std.proofs.Common.{◌≡◌, ℕ, ◌+◌, ◌==◌, ◌<◌, zero, suc, List, [], ◌∷◌, Some, None, refl, Bool, true, false, ◌∙◌, find, arith, ◌≤◌, ◌++◌, Option, ap}
use Rattle.std.proofs.Common.{subst, length, inl, inr, map, sym}
use Rattle.std.proofs.lemmas.Option.{slice_get_within}
use Rattle.std.specs.Prelude.{◌&&◌, ◌||◌, not, if◌then◌else◌, slice_get, ◌⊎◌, is_none, All}
use Rattle.vss_model.proofs.Appending.{moves-run, state-append, state-run}
use Rattle.vss_model.proofs.AtCut.{held_at_cut, frozen_at_cut}
use Rattle.vss_model.proofs.Changes.{CourseCall, Answers, Steps, Times, Gathers, Prepares, Snapshots, Completes, Disables, called, IsDue, Stands, Comes}
use Rattle.vss_model.proofs.Changes.{by_changes}
use Rattle.vss_model.proofs.Completed.{imaged_after}
use Rattle.vss_model.proofs.CutStep.{flush_fails}
use Rattle.vss_model.proofs.GoesOn.{cursor_more, cursor_same, EndsLeft, legal_ends}
use Rattle.vss_model.proofs.HeldOfSet.{held_means, frozen_means}
use Rattle.vss_model.proofs.Volumes.{held_keeps}
use Rattle.vss_model.proofs.OneCut.{image_shown, image_reads, image_of_set, cut_is_at}
use Rattle.vss_model.proofs.Orderly.{IsSameRow, live-map, live_append, live_found, true_not_false}
use Rattle.vss_model.proofs.OrderlyActs.{orderly, moves_answered, moves_stepped, moves_timed, same_changed}
use Rattle.vss_model.proofs.Spoken.{frozen_own}
use Rattle.vss_model.proofs.Terms.{list_any-append, false_from_ne_true, common_steps, Write, Image, History, point_in, Copy, Placed, copy_of, copies_of}
use Rattle.vss_model.proofs.Terms.{copies_from, copies, Plan, SetRow, in_progress, row_of, history_in, history_of, is_held, is_frozen, Act, state, NumberedFrom}
use Rattle.vss_model.proofs.Terms.{has_failed, is_live, AreLive, AllLive, holds_for, list_all, range_with_len, and_parts, eqb-true, cases_lt, Lane, Move}
use Rattle.vss_model.proofs.Terms.{open_group, LaneLine, LanePlan, lines_in, lines_of, left_now, runs, cut, is_set as has_number, is_cut_group, IsShownAt}
use Rattle.vss_model.proofs.Terms.{ReadsAsAtTheCut, LeavesNothing, IsFrozenForSet, KeepsSet, MakesEachLineOnce, Run, run, begin, run_from, moved, is_lane}
use Rattle.vss_model.proofs.Terms.{cursor, event_of, event_enabled, may_move, allows, is_legal_move, is_legal_from, is_legal, is_used_up, is_over, is_complete}
use Rattle.vss_model.proofs.Terms.{SetOutcome, Event, Mark, left, is_working, failed as course_failed, released, State, with_volume, with_cut, after}
use Rattle.vss_model.proofs.Terms.{Change, CourseIs, StartsSet, AddsVolume, IsCutAt, Settles, apply, Session, IsPlan, IsLane, ends_sessions, IsOfSession}
use Rattle.vss_model.proofs.Terms.{EndsSessions, acts, holds, freezes, nat_tests}

-- ## What a failed set leaves, and what holds while no set is in progress.

-- ## images of a failed set

pub live_at : (rows : List SetRow) (hs : List History) (v : ℕ) → AllLive rows hs → AreLive rows (history_in (slice_get hs v)).images
live_at rows (x ∷ hs) (suc v) h = live_at rows hs v h.1
live_at rows hs v h = grind (arith, common_steps, nat_tests)

-- numbers below the first are of no row
pub no_live_below : (k n : ℕ) (rows : List SetRow) → NumberedFrom k rows → n < k → is_live rows n ≡ false
no_live_below k n [] h l = refl
no_live_below k n (r ∷ rows) h l = grind (arith, common_steps, no_live_below (k + 1) n rows h.1 (omega arith))

failed_head : (b : Bool) (k n : ℕ) (r q : SetRow) (rows : List SetRow) → (q.number == n) ≡ b → q.number ≡ k → NumberedFrom (k + 1) rows
    → (if b then Some q else find (λ x. x.number == n) rows) ≡ Some r → has_failed r.result ≡ true
    → (find (λ x. x.number == n) rows ≡ Some r → is_live rows n ≡ false) → ((b && not (has_failed q.result)) || is_live rows n) ≡ false
failed_head b k n r q rows e f g h i ih = grind (arith, no_live_below)

-- a set that has failed is not live
pub failed_not_live : (k n : ℕ) (rows : List SetRow) (r : SetRow) → NumberedFrom k rows → find (λ x. x.number == n) rows ≡ Some r → has_failed r.result ≡ true → is_live rows n ≡ false
failed_not_live k n [] r h e f = absurd cc
failed_not_live k n (q ∷ rows) r h e f = failed_head (q.number == n) k n r q rows refl h.0 h.1 e f (λ g. failed_not_live (k + 1) n rows r h.1 g f)

none_point : (rows : List SetRow) (n : ℕ) (images : List Image) → is_live rows n ≡ false → AreLive rows images → point_in n images ≡ None
none_point rows n [] f h = refl
none_point rows n (i ∷ images) f h = grind (arith, h.0, none_point rows n images f h.1)

pub failed_keeps_nothing : (s : Plan) (acts : List Act) (n v : ℕ) (r : SetRow) → row_of (state s acts) n ≡ Some r → has_failed r.result ≡ true → point_in n (history_of (state s acts) v).images ≡ None
failed_keeps_nothing s acts n v r e f =
    let st = state s acts in
    let h = orderly s acts in
    none_point st.sets n (history_of st v).images (failed_not_live 1 n st.sets r h.numbered e f) (live_at st.sets st.volumes v h.live)

-- ## copies for a failed set

none_mapped : (n v : ℕ) (ws : List Write) (i : Image) (blocks : List ℕ) → (i.set == n) ≡ false → holds_for n (map (copy_of v ws i) blocks) ≡ false
none_mapped n v ws i [] e = refl
none_mapped n v ws i (b ∷ blocks) e = rw e (none_mapped n v ws i blocks e)

-- neither part has one
none_in_either : (n : ℕ) (xs ys : List Copy) → holds_for n xs ≡ false → holds_for n ys ≡ false → holds_for n (xs ++ ys) ≡ false
none_in_either n xs ys e f = list_any-append (λ (c : Copy). c.set == n) xs ys ∙ rw e f

none_of_volume : (rows : List SetRow) (n v blocks : ℕ) (ws : List Write) (images : List Image) → is_live rows n ≡ false → AreLive rows images
    → holds_for n (copies_of v blocks ws images) ≡ false
none_of_volume rows n v blocks ws [] f h = refl
none_of_volume rows n v blocks ws (i ∷ newer) f h =
    let ih = none_of_volume rows n v blocks ws newer f h.1 in grind (arith, common_steps, none_in_either, none_mapped)

none_from : (rows : List SetRow) (n v : ℕ) (ps : List Placed) (hs : List History) → is_live rows n ≡ false → AllLive rows hs
    → holds_for n (copies_from v ps hs) ≡ false
none_from rows n v (p ∷ ps) (x ∷ hs) f h =
    let ih = none_from rows n (v + 1) ps hs f h.1 in let ih1 = none_from rows n v ps hs f h.1 in grind (arith, common_steps, none_in_either, none_of_volume)
none_from rows n v ps hs f h = grind (arith, common_steps, nat_tests, none_in_either, none_of_volume)

pub failed_has_no_copy : (s : Plan) (acts : List Act) (n : ℕ) (r : SetRow) (group : List Placed) → row_of (state s acts) n ≡ Some r → has_failed r.result ≡ true
    → holds_for n (copies group (state s acts).volumes) ≡ false
failed_has_no_copy s acts n r group e f =
    let st = state s acts in
    let h = orderly s acts in
    none_from st.sets n 0 group st.volumes (failed_not_live 1 n st.sets r h.numbered e f) h.live

-- ## while no set is in progress

pub none_held : (s : Plan) (acts : List Act) (v : ℕ) → in_progress (state s acts) ≡ None → is_held (state s acts) v ≡ false
none_held s acts v e = grind (arith, common_steps, false_from_ne_true, held_means)

pub none_frozen : (s : Plan) (acts : List Act) (w : ℕ) → in_progress (state s acts) ≡ None → is_frozen (state s acts) w ≡ false
none_frozen s acts w e = grind (arith, common_steps, false_from_ne_true, frozen_means)

-- ## Every run keeps its promises, and a legal and complete trail makes each line once.

-- ## right after an act in which the set in progress fails no agenda runs, so no volume is held and no writer stands frozen

-- set n has not failed, or no agenda runs
abbrev pub LiveOrIdle : ℕ → State → Type 0
LiveOrIdle n st = (is_live st.sets n ≡ true) ⊎ (st.course.agenda ≡ None)

module _ (n : ℕ) (s : Plan) (st : State) (live : is_live st.sets n ≡ true) where
  idle_called : (e : Event) (x : State) (call : CourseCall) → IsDue st x.course call → Stands e st x call → LiveOrIdle n x
      → LiveOrIdle n (record x { course = called s st call x.course })
  unfolding course_failed released
  idle_called e x call i k (inl h) = inl h
  idle_called e x (Answers w said) i k (inr h) = inr (grind (arith, moves_answered w said st.clock x.course))
  idle_called e x (Steps ok) i k (inr h) = inr
      (grind (arith, moves_stepped ok st.clock x.course (subst (λ c. is_working (left c.agenda) ≡ true) (sym i.1) i.0)))
  idle_called e x (Times now) i k (inr h) = inr (grind (arith, moves_timed now x.course))
  idle_called e x Gathers i k (inr h) = inl (ap (λ (y : State). is_live y.sets n) k ∙ live)
  idle_called e x (Prepares q) i k (inr h) = inl (ap (λ (y : State). is_live y.sets n) k ∙ live)
  idle_called e x Snapshots i k (inr h) = inl (ap (λ (y : State). is_live y.sets n) k.0 ∙ live)
  idle_called e x Completes i k (inr h) = inl (ap (λ (y : State). is_live y.sets n) k ∙ live)
  idle_called e x (Disables w) i k (inr h) = inr h
  idle_called e x _ i k (inr h) = inr refl

  rows_live : (f : SetRow → SetRow) (x : State) → IsSameRow f → LiveOrIdle n x → LiveOrIdle n (record x { sets = map f x.sets })
  rows_live f x same (inl h) = inl (live-map f same x.sets n ∙ h)
  rows_live f x same (inr h) = inr h

  idle_apply : (e : Event) (m : Mark) (c : Change) (x : State) → Comes s e m st x c → LiveOrIdle n x → LiveOrIdle n (apply x c)
  idle_apply e m (CourseIs c) x i h = subst (λ d. LiveOrIdle n (record x { course = d })) (sym i.is) (idle_called e x i.call i.due i.stands h)
  idle_apply e m (StartsSet r) x i (inl h) = inl (live_append x.sets r n h)
  idle_apply e m (StartsSet r) x i (inr h) = inr h
  idle_apply e m (AddsVolume k v) x i h = rows_live _ x (same_changed k (with_volume v) (λ y. refl) (λ y. refl)) h
  idle_apply e m (IsCutAt k now) x i h = rows_live _ x (same_changed k (with_cut now) (λ y. refl) (λ y. refl)) h
  idle_apply e m (Settles o) x i h = inr i.0
  idle_apply e m _ x i h = h

-- ## after an act that fails the set

numbered_after : (s : Plan) (so_far : List Act) (act : Act) → NumberedFrom 1 (after s (state s so_far) act).sets
numbered_after s so_far act = subst (λ (st : State). NumberedFrom 1 st.sets) (state-append s so_far act) (orderly s (so_far ++ act ∷ [])).numbered

pub idle_after : (s : Plan) (so_far : List Act) (act : Act) (r q : SetRow) → in_progress (state s so_far) ≡ Some r → row_of (after s (state s so_far) act) r.number ≡ Some q → has_failed q.result ≡ true
    → (after s (state s so_far) act).course.agenda ≡ None
idle_after s so_far act r q e f g =
    let st = state s so_far in
    let live = live_found st.sets r e in
    by_cases (by_changes (LiveOrIdle r.number) s st act (idle_apply r.number s st live act.event act.mark) (inl live)) where
      by_cases : LiveOrIdle r.number (after s (state s so_far) act) → (after s (state s so_far) act).course.agenda ≡ None
      by_cases (inl h) = absurd (true_not_false (is_live (after s (state s so_far) act).sets r.number) h (failed_not_live 1 r.number (after s (state s so_far) act).sets q (numbered_after s so_far act) f g))
      by_cases (inr h) = h

pub not_held_after : (s : Plan) (so_far : List Act) (act : Act) (r q : SetRow) (v : ℕ) → in_progress (state s so_far) ≡ Some r → row_of (after s (state s so_far) act) r.number ≡ Some q → has_failed q.result ≡ true
    → is_held (after s (state s so_far) act) v ≡ false
not_held_after s so_far act r q v e f g = ap (λ a. holds a v) (idle_after s so_far act r q e f g)

pub not_frozen_after : (s : Plan) (so_far : List Act) (act : Act) (r q : SetRow) (w : ℕ) → in_progress (state s so_far) ≡ Some r → row_of (after s (state s so_far) act) r.number ≡ Some q → has_failed q.result ≡ true
    → is_frozen (after s (state s so_far) act) w ≡ false
not_frozen_after s so_far act r q w e f g = ap (λ a. freezes a w) (idle_after s so_far act r q e f g)

-- ## images

at_cut : (s : Plan) (so_far : List Act) (n v p : ℕ) → point_in n (history_of (state s so_far) v).images ≡ Some p → (before : List Act) → cut s n so_far ≡ Some before
    → (o : Option SetRow) → in_progress (state s before) ≡ o → has_number n o ≡ true → is_cut_group (open_group (left_now (state s before))) ≡ true → ReadsAsAtTheCut s so_far n v p
at_cut s so_far n v p h before e None f g i = absurd cc
at_cut s so_far n v p h before e (Some r) f g i = grind (arith, common_steps, image_reads, eqb-true, image_of_set, held_at_cut, frozen_at_cut)

reads_as : (s : Plan) (so_far : List Act) (n v p : ℕ) → point_in n (history_of (state s so_far) v).images ≡ Some p → (o : Option (List Act)) → cut s n so_far ≡ o → IsShownAt s v p (history_of (state s so_far) v).writes o → ReadsAsAtTheCut s so_far n v p
reads_as s so_far n v p h None e i = absurd i
reads_as s so_far n v p h (Some before) e i =
    let at = cut_is_at s n so_far before e in at_cut s so_far n v p h before e (in_progress (state s before)) refl at.set at.step

-- ## held and frozen

pub frozen_for_set : (s : Plan) (so_far : List Act) (w : ℕ) → is_frozen (state s so_far) w ≡ true → IsFrozenForSet (state s so_far) w
frozen_for_set s so_far w e = grind (arith, common_steps, frozen_means, frozen_own)

-- ## what an act keeps of the set in progress

pub keeps_set : (s : Plan) (so_far : List Act) (r : SetRow) (act : Act) → in_progress (state s so_far) ≡ Some r → KeepsSet s (state s so_far) act r
keeps_set s so_far r act e = grind (arith, held_keeps, not_held_after, not_frozen_after, imaged_after, flush_fails)

pub reads_as_at_cut : (s : Plan) (so_far : List Act) (n v p : ℕ) → point_in n (history_of (state s so_far) v).images ≡ Some p → ReadsAsAtTheCut s so_far n v p
reads_as_at_cut s so_far n v p h = reads_as s so_far n v p h (cut s n so_far) refl (image_shown s so_far n v p h)

pub leaves_nothing : (s : Plan) (so_far : List Act) (n : ℕ) (r : SetRow) → row_of (state s so_far) n ≡ Some r → has_failed r.result ≡ true → LeavesNothing s so_far n
leaves_nothing s so_far n r e f = grind (arith, failed_keeps_nothing, failed_has_no_copy)

-- ## each line once

past : (ls : List LaneLine) (k : ℕ) → is_none (slice_get ls k) ≡ true → length ls ≤ k
past (x ∷ ls) (suc k) e = let h = past ls k e in omega (arith, h)
past ls k e = grind (arith, common_steps, nat_tests)

pub zero_more : (x : ℕ) → 0 + x ≡ x
zero_more x = omega arith

-- no lane is past its end
abbrev NonePast : Plan → List Move → Type 0
NonePast s moves = (i : ℕ) → cursor moves i ≤ length (lines_of s i)

lane_past : (s : Plan) (r : Run) (m : Move) (j i : ℕ) → m.actor ≡ Lane j → event_enabled s r (event_of s r (Lane j)) ≡ true → NonePast s r.moves → cursor (r.moves ++ m ∷ []) i ≤ length (lines_of s i)
lane_past s r m j i e f h = own (j == i) refl where
  own : (b : Bool) → (j == i) ≡ b → cursor (r.moves ++ m ∷ []) i ≤ length (lines_of s i)
  own true g =
      let more = cursor_more r.moves m i (ap (is_lane i) e ∙ g) in
      let here : cursor r.moves i < length (lines_of s i) = subst (λ x. cursor r.moves x < length (lines_of s x)) (eqb-true j i g)
      (grind (arith, slice_get_within)) in
      omega (arith, more, here)
  own false g = let less = cursor_same r.moves m i (ap (is_lane i) e ∙ g) in let here = h i in omega (arith, less, here)

past_from : (s : Plan) (r : Run) (ms : List Move) → is_legal_from s r ms ≡ true → NonePast s r.moves → NonePast s (run_from s r ms).moves
past_from s r [] e h = h
past_from s r (m ∷ ms) e h =
    past_from s (moved s r m) ms (and_parts (is_legal_move s r m) (is_legal_from s (moved s r m) ms) e).1
    (grind (
      arith,
      lane_past,
      (and_parts (may_move s r m.actor) (allows s r (event_of s r m.actor) m.mark)
          (and_parts (is_legal_move s r m) (is_legal_from s (moved s r m) ms) e).0).0,
      common_steps,
    ))

-- a test that all numbers below n pass
all_below : (p : ℕ → Bool) (a n i : ℕ) → list_all p (range_with_len a n) ≡ true → i < n → p (a + i) ≡ true
all_below p a (suc n) (suc i) e h =
    let ih = all_below p (a + 1) n i (and_parts (p a) (list_all p (range_with_len (a + 1) n)) e).1 (omega (arith, h)) in grind (arith, common_steps, and_parts)
all_below p a n i e h = grind (arith, common_steps, nat_tests, and_parts)

no_lane : (lanes : List LanePlan) (i : ℕ) → length lanes ≤ i → length (lines_in (slice_get lanes i)) ≡ 0
no_lane (l ∷ lanes) (suc i) h = no_lane lanes i (omega (arith, h))
no_lane lanes i h = grind (arith, common_steps, nat_tests)

pub used_up : (s : Plan) (r : Run) → is_over s r ≡ true → (i : ℕ) → length (lines_of s i) ≤ cursor r.moves i
used_up s r e i = own (cases_lt i (length s.lanes)) where
  own : (i < length s.lanes) ⊎ (length s.lanes ≤ i) → length (lines_of s i) ≤ cursor r.moves i
  own (inl h) = past (lines_of s i) (cursor r.moves i) (subst (λ x. is_used_up s r x ≡ true) (zero_more i) (all_below (is_used_up s r) 0 (length s.lanes) i (and_parts (list_all (is_used_up s r) (range_with_len 0 (length s.lanes))) (not (runs r.state)) e).0 h))
  own (inr h) = let g = no_lane s.lanes i h in omega (arith, g)

pub each_line_once : (s : Plan) (trail : List Move) → is_legal s trail ≡ true → is_complete s trail ≡ true → MakesEachLineOnce s trail
each_line_once s trail e f i =
    let a = past_from s (begin s) trail e (λ j. omega arith) i in
    let b = used_up s (run s trail) f i in
    let h : cursor (run s trail).moves i ≤ length (lines_of s i) = a in
    let g : cursor (run s trail).moves i ≡ cursor trail i = ap (λ ms. cursor ms i) (moves-run s trail) in
    omega (arith, h, b, g)

-- ## At the end of a legal and complete trail no session stands, so no set is in progress.

-- ## each lane of a scenario ends its sessions

lane_of : (s : Plan) (lanes : List LanePlan) → All (IsLane s) lanes → (i : ℕ) → ends_sessions (lines_in (slice_get lanes i)) ≡ true
lane_of s [] h i = refl
lane_of s (l ∷ lanes) h zero = let own = h 0 l (omega arith) in own.ends
lane_of s (l ∷ lanes) h (suc i) = lane_of s lanes (λ k d g. h (suc k) d (omega (arith, g))) i

pub plan_ends_sessions : (s : Plan) → IsPlan s → EndsSessions s
plan_ends_sessions s h i = lane_of s s.lanes h.lanes i

-- ## no session at the end

no_session : (s : Plan) (r : Run) (q : Option Session) → EndsLeft s r.moves q → ((i : ℕ) → length (lines_of s i) ≤ cursor r.moves i) → q ≡ None
no_session s r q h e = grind (arith, common_steps)

no_set : (q : Option Session) (o : SetOutcome) (found : Option SetRow) → q ≡ None → IsOfSession q o found → found ≡ None
no_set q o found e h = grind arith

pub complete_ends : (s : Plan) (trail : List Move) → IsPlan s → is_legal s trail ≡ true → is_complete s trail ≡ true → in_progress (state s (acts s trail)) ≡ None
complete_ends s trail h e f =
    let none = no_session s (run s trail) (run s trail).state.session (legal_ends s (begin s) trail (plan_ends_sessions s h) tt e) (used_up s (run s trail) f) in
    let at : (state s (acts s trail)).session ≡ None = ap (λ (st : State). st.session) (sym (state-run s trail)) ∙ none in
    let kept = orderly s (acts s trail) in
    no_set (state s (acts s trail)).session (state s (acts s trail)).course.outcome (in_progress (state s (acts s trail))) at kept.session

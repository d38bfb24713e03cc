-- One move of a legal trail without faults keeps a run on its way, and nobody idles.
use Rattle.std.proofs.Common.{◌≡◌, ℕ, zero, suc, ◌+◌, ◌<◌, ◌≤◌, List, [], ◌∷◌, ◌++◌, Option, Some, None, refl, Bool, true, false, ap, sym, ◌∙◌, subst, length}
use Rattle.std.proofs.Common.{drop, arith, inl, inr, ◌==◌, find, map}
use Rattle.std.specs.Prelude.{is_some, nat_lt, nat_le, slice_get, ◌⊎◌, ◌&&◌, not, All, if◌then◌else◌}
use Rattle.generated.proofs.Terms.{list_all, range_with_len, nat_tests, Order, Actor, Lane, Writer, Advance, Idle, Mark, Clean, Move, Scripted, scripted_answer}
use Rattle.generated.proofs.Terms.{left, next_member, is_asking, is_working, sent, Op, Writes, Plan, LaneLine, lines_of, script_of, IsOp, IsRangedBy, line_of}
use Rattle.generated.proofs.Terms.{Event, Line, Answer as AnswerEvent, Provider, State, history_of, left_now, runs, cleared, does, line, happens, Act}
use Rattle.generated.proofs.Terms.{line_enabled, order_of_writer, enabled, after, state, Run, is_lane, cursor, next_line, line_event, answer_event}
use Rattle.generated.proofs.Terms.{script_event, event_of, act_of, event_enabled, can_act, none_can_act, may_move, IsOrderly, state-append, cursor_more}
use Rattle.generated.proofs.Terms.{cursor_same, orderly, Asked, AreAsked, Spot, Place, spot_after, completes_sets, is_full, IsSmooth, writes, is_write}
use Rattle.generated.proofs.Terms.{and_left, and_right, SetOutcome, Ok as SaidOk, Write, Group, Cut, Commit, Agenda, open_group, next_volume, open_order}
use Rattle.generated.proofs.Terms.{Course, answered as course_answered, stepped as course_stepped, SetRow, is_running, in_progress, followed, with_room_if, put}
use Rattle.generated.proofs.Terms.{write, cut_set, image_made, step_made, volumes_of, with_cut, row_cut, has_failed, find-map, true_not_false, Free, Stands}
use Rattle.generated.proofs.Terms.{Waits}
use Rattle.writer_calls.specs.declared.answer.Answer.TheVariants.{Ok}
use Rattle.scenario.specs.declared.line.Line.{Line as Does}
use Rattle.vss_model.proofs.Changes.{after_enabled as act_enabled}
use Rattle.vss_model.proofs.Waiting.{agenda_goes_on}
use Rattle.generated.proofs.Standing.{IsSound, asked_is_below, length_map, sound_answered, sound_stepped, IsAt, IsOnWay, IsPlace, none_failed, goes_on}
use Rattle.generated.proofs.Requests.{IsKnown, requests}
use Rattle.generated.proofs.Ways.{few_images, none_cleared, no_set_loses}
use Rattle.vss_model.proofs.StateForm.{answered, stepped}

-- ## each move of a legal trail without faults keeps a run on its way

-- ## writes of other lanes

same_place : (s : Plan) (p : Place) (k : ℕ) (vs : List ℕ) (st : State) (hs : List _) → IsAt s p k vs st → IsAt s p k vs (record st { volumes = hs })
same_place s p k vs st hs h = record { sets = h.sets; fine = h.fine; sound = h.sound; place = h.place }

put_at : (s : Plan) (p : Place) (k : ℕ) (vs : List ℕ) (v : ℕ) (w : Write) (mark : Mark) (st : State) → IsAt s p k vs st → IsAt s p k vs (put v w mark st)
put_at s p k vs v w mark st h = grind arith

room_at : (s : Plan) (p : Place) (k : ℕ) (vs : List ℕ) (b : Bool) (st : State) → b ≡ false → IsAt s p k vs st → IsAt s p k vs (with_room_if b st)
room_at s p k vs b st e h = grind arith

pub write_at : (s : Plan) (p : Place) (k : ℕ) (vs : List ℕ) (v : ℕ) (w : Write) (mark : Mark) (st : State) → (cleared s v w.block st).volumes ≡ st.volumes → IsAt s p k vs st → IsAt s p k vs (write s v w mark st).1
unfolding write
write_at s p k vs v w mark st same h = grind (arith, put_at, room_at, no_set_loses, same_place)

-- ## answers and steps

busy_at : (s : Plan) (p : Place) (k : ℕ) (vs : List ℕ) (c : Course) (st : State) → IsSound (length s.writers) c → runs st ≡ true → IsAt s p k vs st → IsOrderly (followed true c st) → IsAt s p k vs (followed true c st)
busy_at s Free k vs c st sound ran h o = absurd (true_not_false (runs st) ran h.place.1)
busy_at s (Stands g) k vs c st sound ran h o = absurd (true_not_false (runs st) ran h.place.is_busy)
busy_at s (Waits g) k vs c st sound ran h o = by_place h.place
  where
    by_place : IsPlace (Waits g) vs st.session (runs st) st.sets → IsAt s (Waits g) k vs (followed true c st)
    by_place (inl busy) = goes_on s g k vs c st sound h.sets h.fine busy.stage busy.volumes o
    by_place (inr quiet) = absurd (true_not_false (runs st) ran quiet.is_busy)

-- an agenda runs where a writer is asked, or the provider has a step
pub runs_of_order : (a : Option Agenda) (w : ℕ) → is_some (open_order (left a) w) ≡ true → is_some a ≡ true
runs_of_order a w e = grind arith

pub runs_of_step : (a : Option Agenda) → is_working (left a) ≡ true → is_some a ≡ true
runs_of_step a e = grind arith

pub runs_of_asking : (a : Option Agenda) → is_asking (left a) ≡ true → is_some a ≡ true
runs_of_asking a e = grind arith

pub answer_at : (s : Plan) (p : Place) (k : ℕ) (vs : List ℕ) (w : ℕ) (st : State) → is_some (order_of_writer st w) ≡ true → IsAt s p k vs st → IsOrderly (answered w SaidOk st) → IsAt s p k vs (answered w SaidOk st)
unfolding answered
answer_at s p k vs w st e h o =
    let ran = runs_of_order st.course.agenda w e in
    let c = course_answered w SaidOk st.clock st.course in
    subst (λ b. IsAt s p k vs (followed b c st)) (sym ran)
    (busy_at s p k vs c st (sound_answered _ w st.clock st.course h.sound) ran h (subst (λ b. IsOrderly (followed b c st)) ran o))

record IsMade (s : Plan) (p : Place) (k : ℕ) (vs : List ℕ) (st made : State) : Type 0 where
  at : IsAt s p k vs made
  ran : runs made ≡ runs st

pub fine_cut : (n now : ℕ) (rows : List SetRow) → none_failed (map (row_cut n now) rows) ≡ none_failed rows
fine_cut n now [] = refl
fine_cut n now (r ∷ rows) = ap (λ (x : SetOutcome). not (has_failed x) && none_failed (map (row_cut n now) rows)) (same (r.number == n)) ∙ ap (λ b. not (has_failed r.result) && b) (fine_cut n now rows)
  where
    same : (b : Bool) → (if b then with_cut now r else r).result ≡ r.result
    same true = refl
    same false = refl

volumes_cut : (n now : ℕ) (rows : List SetRow) → volumes_of (find (λ r. is_running r.result) (map (row_cut n now) rows)) ≡ volumes_of (find (λ r. is_running r.result) rows)
volumes_cut n now rows = grind (arith, find-map)

place_along : (p : Place) (vs : List ℕ) (q : Option _) (b : Bool) (xs ys : List SetRow) → volumes_of (find (λ r. is_running r.result) ys) ≡ volumes_of (find (λ r. is_running r.result) xs) → IsPlace p vs q b xs → IsPlace p vs q b ys
place_along p vs q b xs ys e h = grind arith

cut_at : (s : Plan) (p : Place) (k : ℕ) (vs : List ℕ) (o : Option SetRow) (st : State) → IsAt s p k vs st → IsMade s p k vs st (cut_set o st)
cut_at s p k vs o st h = grind (arith, length_map, fine_cut, place_along, volumes_cut)

image_at : (s : Plan) (p : Place) (k : ℕ) (vs : List ℕ) (o : Option SetRow) (v : Option ℕ) (st : State) → IsAt s p k vs st → IsMade s p k vs st (image_made o v st)
image_at s p k vs (Some r) (Some v) st h = record { at = record { sets = h.sets; fine = h.fine; sound = h.sound; place = h.place }; ran = refl }
image_at s p k vs _ _ st h = record { at = h; ran = refl }

made_at : (s : Plan) (p : Place) (k : ℕ) (vs : List ℕ) (g : Option Group) (v : Option ℕ) (st : State) → IsAt s p k vs st → IsMade s p k vs st (step_made g v st)
made_at s p k vs (Some Cut) v st h = cut_at s p k vs (in_progress st) st h
made_at s p k vs (Some Commit) v st h = image_at s p k vs (in_progress st) v st h
made_at s p k vs _ v st h = record { at = h; ran = refl }

pub step_at : (s : Plan) (p : Place) (k : ℕ) (vs : List ℕ) (st : State) → is_working (left_now st) ≡ true → IsAt s p k vs st → IsOrderly (stepped Clean st) → IsAt s p k vs (stepped Clean st)
unfolding stepped
step_at s p k vs st e h o =
    let ran = runs_of_step st.course.agenda e in
    let c = course_stepped true st.clock st.course in
    let made = made_at s p k vs (open_group (left_now st)) (next_volume (left_now st)) st h in
    subst (λ b. IsAt s p k vs (followed b c (step_made (open_group (left_now st)) (next_volume (left_now st)) st))) (sym ran)
    (busy_at s p k vs c _ (sound_stepped _ st.clock st.course h.sound) (made.ran ∙ ran) made.at
    (subst (λ b. IsOrderly (followed b c (step_made (open_group (left_now st)) (next_volume (left_now st)) st))) ran o))

-- ## lists

pub drop_at : (lines : List LaneLine) (n : ℕ) (l : LaneLine) → slice_get lines n ≡ Some l → drop n lines ≡ l ∷ drop (suc n) lines
drop_at [] zero l e = absurd cc
drop_at [] (suc n) l e = absurd cc
drop_at (x ∷ lines) zero l e = let same : x ≡ l = cc in ap (λ y. y ∷ lines) same
drop_at (x ∷ lines) (suc n) l e = drop_at lines n l e

pub drop_none : (lines : List LaneLine) (n : ℕ) → slice_get lines n ≡ None → drop n lines ≡ []
drop_none [] zero e = refl
drop_none [] (suc n) e = refl
drop_none (x ∷ lines) zero e = absurd cc
drop_none (x ∷ lines) (suc n) e = drop_none lines n e

pub all_at : (P : LaneLine → Type 0) (lines : List LaneLine) (n : ℕ) (l : LaneLine) → All P lines → slice_get lines n ≡ Some l → P l
all_at P [] zero l h e = absurd cc
all_at P [] (suc n) l h e = absurd cc
all_at P (x ∷ lines) zero l h e = let same : x ≡ l = cc in subst P same (h 0 x (omega arith))
all_at P (x ∷ lines) (suc n) l h e = all_at P lines n l (λ j d g. h (suc j) d (omega (arith, g))) e

pub in_range : (p : ℕ → Bool) (a n k : ℕ) → k < n → list_all p (range_with_len a n) ≡ true → p (a + k) ≡ true
in_range p a zero k l h = absurd (omega (arith, l))
in_range p a (suc n) zero l h = subst (λ i. p i ≡ true) (none a) (and_left (p a) (list_all p (range_with_len (a + 1) n)) h)
  where
    none : (a : ℕ) → a ≡ a + 0
    none a = omega arith
in_range p a (suc n) (suc k) l h = subst (λ i. p i ≡ true) (shift a k) (in_range p (a + 1) n k (omega (arith, l)) (and_right (p a) (list_all p (range_with_len (a + 1) n)) h))
  where
    shift : (a k : ℕ) → a + 1 + k ≡ a + suc k
    shift a k = omega arith

pub below_range : (p : ℕ → Bool) (n w : ℕ) → nat_lt w n ≡ true → list_all p (range_with_len 0 n) ≡ true → p w ≡ true
below_range p n w l h = subst (λ i. p i ≡ true) (none w) (in_range p 0 n w (is_less w n l) h)
  where
    none : (w : ℕ) → 0 + w ≡ w
    none w = omega arith

    is_less : (a b : ℕ) → nat_lt a b ≡ true → a < b
    is_less a b e = grind (arith, nat_tests)

-- ## the state after

pub after_enabled : (s : Plan) (st : State) (event : Event) (mark : Mark) → enabled s st event ≡ true → after s st (act_of mark event) ≡ (happens s event mark st).1
after_enabled s st event mark e = act_enabled s st (act_of mark event) e

pub record IsReached (s : Plan) (st : State) : Type 0 where
  pub so_far : List Act
  pub is : st ≡ state s so_far

pub orderly_now : (s : Plan) (st : State) → IsReached s st → IsOrderly st
orderly_now s st h = subst IsOrderly (sym h.is) (orderly s h.so_far)

pub orderly_next : (s : Plan) (st : State) (event : Event) (mark : Mark) → IsReached s st → enabled s st event ≡ true → IsOrderly (happens s event mark st).1
orderly_next s st event mark h e =
    subst IsOrderly (ap (λ x. after s x (act_of mark event)) (sym h.is) ∙ after_enabled s st event mark e)
    (subst IsOrderly (state-append s h.so_far (act_of mark event)) (orderly s (h.so_far ++ act_of mark event ∷ [])))

-- ## what an event leaves

pub writes_op : (s : Plan) (n : ℕ) (lane : ℕ) (op : Op) (l : Does) (mark : Mark) (p : Place) (k : ℕ) (vs : List ℕ) (st : State) → IsSmooth n s → IsReached s st → writes l ≡ true
    → IsRangedBy (length s.source) s.volumes (length s.writers) op l → k ≤ n → IsAt s p k vs st → IsAt s p k vs (does s lane op l mark st).1
writes_op s n lane op (Writes v b payload) mark p k vs st smooth reached e o most h = write_at s p k vs v _ mark st (room s n v b k st smooth reached o.1 most h.sets) h
  where
    room : (s : Plan) (n v b k : ℕ) (st : State) → IsSmooth n s → IsReached s st → b < Rattle.scenario.specs.Plan.blocks_of s v → k ≤ n → length st.sets ≡ k → (cleared s v b st).volumes ≡ st.volumes
    room s n v b k st smooth reached l most sets =
        subst (λ x. (cleared s v b x).volumes ≡ x.volumes) (sym reached.is)
        (none_cleared s reached.so_far v b n smooth.alone smooth.room l (let e = ap (λ (x : State). length x.sets) (sym reached.is) in omega (arith, e, most, sets)))
writes_op s n lane op _ mark p k vs st smooth reached e o most h = absurd cc

-- ## nobody idles

pub script_of_order : (s : Plan) (r : Run) (w : ℕ) (x : Option Order) → script_of s w ≡ [] → order_of_writer r.state w ≡ x → is_some x ≡ true → event_enabled s r (script_event s r.state w x) ≡ true
script_of_order s r w x e f g = grind arith

pub writer_can : (s : Plan) (r : Run) (w : ℕ) → script_of s w ≡ [] → is_some (order_of_writer r.state w) ≡ true → can_act s r (Writer w) ≡ true
writer_can s r w e f = script_of_order s r w (order_of_writer r.state w) e refl f

pub not_both : (b : Bool) → b ≡ true → not b ≡ true → ⊥
not_both b e f = grind arith

abbrev pub no_lane : Plan → Run → Bool
no_lane s r = list_all (λ i. not (can_act s r (Lane i))) (range_with_len 0 (length s.lanes))

abbrev pub no_writer : Plan → Run → Bool
no_writer s r = list_all (λ w. not (can_act s r (Writer w))) (range_with_len 0 (length s.writers))

pub somebody : (s : Plan) (n : ℕ) (r : Run) → IsSmooth n s → IsSound (length s.writers) r.state.course → none_can_act s r ≡ true
    → (is_working (left_now r.state) ≡ true) ⊎ (is_some (order_of_writer r.state (next_member (left_now r.state))) ≡ true) → ⊥
somebody s n r smooth sound none (inl works) = not_both (can_act s r Advance) works (and_right (no_lane s r && no_writer s r) (not (can_act s r Advance)) none)
somebody s n r smooth sound none (inr order) =
    let w = next_member (left_now r.state) in
    not_both (can_act s r (Writer w)) (writer_can s r w (smooth.scripts w) order)
    (below_range (λ x. not (can_act s r (Writer x))) (length s.writers) w (asked_is_below (length s.writers) w r.state.course sound order)
    (and_right (no_lane s r) (no_writer s r) (and_left (no_lane s r && no_writer s r) (not (can_act s r Advance)) none)))

pub no_idle : (s : Plan) (n : ℕ) (r : Run) → IsSmooth n s → IsReached s r.state → IsSound (length s.writers) r.state.course → is_asking (left_now r.state) ≡ true → none_can_act s r ≡ true → ⊥
no_idle s n r smooth reached sound asks none =
    somebody s n r smooth sound none
    (subst (λ st. (is_working (left_now st) ≡ true) ⊎ (is_some (order_of_writer st (next_member (left_now st))) ≡ true)) (sym reached.is)
    (agenda_goes_on s reached.so_far (subst (λ st. runs st ≡ true) reached.is (runs_of_asking r.state.course.agenda asks))))

-- ## one move

-- the state after an event, with where it stands
pub record IsNext (s : Plan) (n : ℕ) (r : Run) (m : Move) (st : State) : Type 0 where
  pub asked : List Asked
  pub left : AreAsked s asked (drop (cursor (r.moves ++ m ∷ []) 0) (lines_of s 0))
  pub spot : Spot
  pub leads : completes_sets (length s.volumes) n asked (Some spot) ≡ true
  pub at : IsAt s spot.place spot.sets spot.volumes st

-- what is known of a run before a move
pub record IsBefore (s : Plan) (n : ℕ) (r : Run) : Type 0 where
  pub smooth : IsSmooth n s
  pub reached : IsReached s r.state
  pub way : IsOnWay s n r

pub others_left : (s : Plan) (n : ℕ) (r : Run) (m : Move) (st : State) (way : IsOnWay s n r) → is_lane 0 m.actor ≡ false → IsAt s way.spot.place way.spot.sets way.spot.volumes st → IsNext s n r m st
others_left s n r m st way e at = grind (arith, cursor_same)

pub spot_few : (c n : ℕ) (asked : List Asked) (x : Spot) → completes_sets c n asked (Some x) ≡ true → x.sets ≤ n
spot_few c n asked x e = grind arith

-- a set that is made has all volumes
pub spot_full : (c n : ℕ) (asked : List Asked) (x : Spot) → completes_sets c n asked (Some x) ≡ true → is_full c x.place x.volumes ≡ true
spot_full c n asked x e = grind arith

-- the lane that makes the sets
pub own_line : (s : Plan) (n : ℕ) (r : Run) (m : Move) (l : LaneLine) (asked : List Asked) → IsBefore s n r → AreAsked s asked (l ∷ drop (suc (cursor r.moves 0)) (lines_of s 0)) → (spot : Spot) → completes_sets (length s.volumes) n asked (Some spot) ≡ true
    → IsAt s spot.place spot.sets spot.volumes r.state → is_lane 0 m.actor ≡ true → line_enabled s r.state 0 l.op ≡ true → IsNext s n r m (line s 0 l.op m.mark r.state).1
own_line s n r m l [] before left spot leads at e on = absurd left
own_line s n r m l (a ∷ more) before left spot leads at e on =
    let known : IsKnown n spot.sets r.state (line s 0 l.op m.mark r.state).1 = record {
      orderly = orderly_now s r.state before.reached;
      next_orderly = orderly_next s r.state (Line 0 l.op) m.mark before.reached on;
      few = before.smooth.few;
      images = subst (λ st. (v : ℕ) → length (history_of st v).images ≤ length st.sets) (sym before.reached.is) (few_images s before.reached.so_far);
    } in
    let to = requests s n more spot.place spot.sets spot.volumes a l.op m.mark r.state left.0 on
    (and_right (nat_le spot.sets n && is_full (length s.volumes) spot.place spot.volumes) (completes_sets (length s.volumes) n more (spot_after spot.place spot.sets spot.volumes a)) leads) (spot_few (length s.volumes) n (a ∷ more) spot leads) at known in
    record {
      asked = more;
      left = subst (λ k. AreAsked s more (drop k (lines_of s 0))) (sym (cursor_more r.moves m 0 e)) left.1;
      spot = to.spot;
      leads = to.leads;
      at = to.at;
    }

unfoldable pub IsNextIf : Plan → ℕ → Run → Move → Option Event → Type 0
IsNextIf s n r m None = ⊥
IsNextIf s n r m (Some event) = IsNext s n r m (after s r.state (act_of m.mark event))

pub by_after : (s : Plan) (n : ℕ) (r : Run) (m : Move) (event : Event) → enabled s r.state event ≡ true → IsNext s n r m (happens s event m.mark r.state).1 → IsNextIf s n r m (Some event)
unfolding IsNextIf
by_after s n r m event e h = subst (IsNext s n r m) (sym (after_enabled s r.state event m.mark e)) h

pub other_lane : (i : ℕ) → is_lane 0 (Lane (suc i)) ≡ false
other_lane i = grind arith

pub on_lane : (s : Plan) (n : ℕ) (r : Run) (m : Move) (i : ℕ) (x : Option LaneLine) → IsBefore s n r → m.actor ≡ Lane i → next_line s r i ≡ x → event_enabled s r (line_event i x) ≡ true → IsNextIf s n r m (line_event i x)
on_lane s n r m i None before e f on = absurd cc
on_lane s n r m zero (Some l) before e f on =
    by_after s n r m (Line 0 l.op) on
    (own_line s n r m l before.way.asked before (subst (AreAsked s before.way.asked) (drop_at (lines_of s 0) (cursor r.moves 0) l f) before.way.left) before.way.spot before.way.leads before.way.at (ap (is_lane 0) e) on)
on_lane s n r m (suc i) (Some l) before e f on =
    let known = all_at (λ (x : LaneLine). (is_write x.op ≡ true) × IsOp s x.op) (lines_of s (suc i)) (cursor r.moves (suc i)) l (before.smooth.writes i) f in
    let spot = before.way.spot in
    by_after s n r m (Line (suc i) l.op) on
    (others_left s n r m _ before.way (ap (is_lane 0) e ∙ other_lane i)
    (writes_op s n (suc i) l.op (line_of l.op) m.mark spot.place spot.sets spot.volumes r.state before.smooth before.reached known.0 known.1 (spot_few (length s.volumes) n before.way.asked spot before.way.leads) before.way.at))

pub on_writer : (s : Plan) (n : ℕ) (r : Run) (m : Move) (w : ℕ) (x : Option Order) → IsBefore s n r → m.actor ≡ Writer w → order_of_writer r.state w ≡ x → event_enabled s r (script_event s r.state w x) ≡ true → IsNextIf s n r m (script_event s r.state w x)
on_writer s n r m w None before e f on = absurd cc
on_writer s n r m w (Some o) before e f on =
    let asked : is_some (order_of_writer r.state w) ≡ true = ap is_some f in
    let spot = before.way.spot in
    subst (λ (rows : List Scripted). IsNextIf s n r m (answer_event w (scripted_answer rows o (sent r.state.course w o)))) (sym (before.smooth.scripts w))
    (by_after s n r m (AnswerEvent w Ok) asked
    (others_left s n r m _ before.way (ap (is_lane 0) e)
    (answer_at s spot.place spot.sets spot.volumes w r.state asked before.way.at (orderly_next s r.state (AnswerEvent w Ok) m.mark before.reached asked))))

pub on_move : (s : Plan) (n : ℕ) (r : Run) (m : Move) (a : Actor) → IsBefore s n r → m.actor ≡ a → m.mark ≡ Clean → may_move s r a ≡ true → IsNextIf s n r m (event_of s r a)
on_move s n r m (Lane i) before e f may = on_lane s n r m i (next_line s r i) before e refl may
on_move s n r m (Writer w) before e f may = on_writer s n r m w (order_of_writer r.state w) before e refl may
on_move s n r m Advance before e f may =
    let spot = before.way.spot in
    by_after s n r m Provider may
    (subst (λ mark. IsNext s n r m (happens s Provider mark r.state).1) (sym f)
    (others_left s n r m _ before.way (ap (is_lane 0) e)
    (step_at s spot.place spot.sets spot.volumes r.state may before.way.at (orderly_next s r.state Provider Clean before.reached may))))
on_move s n r m Idle before e f may =
    absurd (no_idle s n r before.smooth before.reached before.way.at.sound (and_left (is_asking (left_now r.state)) (none_can_act s r) may) (and_right (is_asking (left_now r.state)) (none_can_act s r) may))

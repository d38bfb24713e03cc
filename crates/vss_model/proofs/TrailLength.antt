-- Each legal move takes a turn, so a legal trail is short.
use Rattle.std.proofs.Common.{◌≡◌, ℕ, zero, suc, ◌+◌, ◌*◌, ◌<◌, ◌≤◌, List, [], ◌∷◌, ◌++◌, Option, Some, None, refl, Bool, true, false, ap, sym, ◌∙◌, subst, map}
use Rattle.std.proofs.Common.{length, drop, cond, arith}
use Rattle.std.specs.Prelude.{not, slice_get, sum}
use Rattle.vss_model.proofs.Terms.{common_steps, nat_tests, sum_by-cons, and_parts, eq-eqb, VssResult, AsyncCancelled, Actor, Lane, Writer, Advance, Mark, Move}
use Rattle.vss_model.proofs.Terms.{Write, said_of, Said, Group, is_among, is_working, Course, answered as course_answered, stepped as course_stepped}
use Rattle.vss_model.proofs.Terms.{timed as course_timed, has_row_failed, Session, Op, Revert, DeleteSet, DeleteImage, Tick, Begin, Disable, Component, Start}
use Rattle.vss_model.proofs.Terms.{Add, Abort, End, IsPlan, begins_agenda, agenda_lines, Plan, LaneLine, LanePlan, lines_in, lines_of, Event, Line, Provider}
use Rattle.vss_model.proofs.Terms.{Idle as IdleEvent, State, SetRow, Kept, in_progress, left_now, runs, takers, Order, is_disabled, selected}
use Rattle.vss_model.proofs.Terms.{volumes_of, Act, after, state, enabled, idle_now, order_of_writer, most_moves, Run, begin, is_lane, cursor, next_line}
use Rattle.vss_model.proofs.Terms.{line_event, script_event, event_of, act_of, after_event, moved, run_from, run, acts, event_enabled, is_legal_move}
use Rattle.vss_model.proofs.Terms.{is_legal_from, is_legal, waiting, turns_of_agenda, turns_of_line, turns_of_lines, turns_of_lanes, turns_left}
use Rattle.vss_model.proofs.Terms.{IdleActor as Idle}
use Rattle.scenario.specs.declared.op.Op.TheVariants.{Prepare, Snapshot}
use Rattle.vss_model.proofs.StateForm.{followed, failed_in, failed, Replied, write, reverted_as, closed, end_session, answered, step_made}
use Rattle.vss_model.proofs.StateForm.{stepped_as, stepped, ticked, later}
use Rattle.vss_model.proofs.Appending.{state-append, run-append, state-run, is_legal-append}
use Rattle.vss_model.proofs.ByEvent.{Covers, covered}
use Rattle.vss_model.proofs.Changes.{after_enabled}
use Rattle.vss_model.proofs.Waiting.{idle_spends}
use Rattle.vss_model.proofs.GoesOn.{cursor_more, cursor_same}
use Rattle.vss_model.proofs.Turns.{waits_in, short_filter, less_stepped, less_answered, not_more_timed, less_timed, few_begun, none_released, none_failed}
use Rattle.vss_model.proofs.Turns.{short_members, few_in}
use Rattle.vss_model.proofs.Rows.{apart_back}
use Rattle.vss_model.proofs.Headline.{zero_more}
use Rattle.set_agenda.specs.declared.kind.Kind.TheVariants as kind

-- ## one act

abbrev waits_at : State → ℕ
waits_at st = waiting (left_now st)

same_followed : (ran : Bool) (c : Course) (st : State) → waits_at (followed ran c st) ≡ waits_in c
unfolding followed
same_followed ran c st = grind arith

less_answers : (w : ℕ) (said : Said) (st : State) → waits_in (course_answered w said st.clock st.course) < waits_at st → waits_at (answered w said st) < waits_at st
unfolding answered
less_answers w said st h = subst (λ n. n < waits_at st) (sym (same_followed (runs st) _ st)) h

less_stepped_as : (fails : Bool) (g : Option Group) (v : Option ℕ) (st : State) → is_working (left_now st) ≡ true → waits_at (stepped_as fails g v st) < waits_at st
less_stepped_as true g v st e = subst (λ n. n < waits_at st) (sym (same_followed (runs st) (course_stepped false st.clock st.course) st)) (less_stepped false st.clock st.course e)
less_stepped_as false g v st e = subst (λ n. n < waits_at st) (sym (same_followed (runs st) (course_stepped true st.clock st.course) (step_made g v st))) (less_stepped true st.clock st.course e)

less_steps : (mark : Mark) (st : State) → is_working (left_now st) ≡ true → waits_at (stepped mark st) < waits_at st
unfolding stepped
less_steps mark st e = less_stepped_as _ _ _ st e

same_ticked : (n : ℕ) (st : State) → waits_at (ticked n st) ≡ waits_in (course_timed (st.clock + n) st.course)
unfolding ticked
same_ticked n st = same_followed (runs st) (course_timed (st.clock + n) st.course) (later n st)

not_more_failed : (o : Option SetRow) (why : VssResult) (st : State) → waits_at (failed_in o why st) ≤ waits_at st
not_more_failed o why st = grind (arith, none_failed)

none_closed : (q : Session) (st : State) → waits_at (closed q st) ≡ 0
unfolding closed
none_closed q st = none_released st.course

few_write : (s : Plan) (v : ℕ) (w : Write) (mark : Mark) (st : State) → waits_at (write s v w mark st).1 ≤ waits_at st
unfolding write
few_write s v w mark st = grind (arith, common_steps, not_more_failed)

same_revert : (s : Plan) (v : ℕ) (kept : Kept) (mark : Mark) (st : State) → waits_at (reverted_as s v kept mark st).1 ≡ waits_at st
same_revert s v kept mark st = grind arith

-- the turns that an event takes of those of its lane
abbrev turns_of_event : Event → ℕ
turns_of_event (Line lane op) = 1 + turns_of_agenda (begins_agenda op)
turns_of_event _ = 0

abbrev Takes : State → Event → Mark → Replied → Type 0
Takes st event mark r = suc (waits_at r.1) ≤ waits_at st + turns_of_event event

-- a line that leaves as many waiting, or fewer
line_takes : (st x : State) (op : Op) → waits_at x ≤ waits_at st → suc (waits_at x) ≤ waits_at st + (1 + turns_of_agenda (begins_agenda op))
line_takes st x op h = omega (arith, h)

begun_takes : (c : Course) (st : State) → waits_in c ≤ 521 → suc (waits_at (followed true c st)) ≤ waits_at st + (1 + turns_of_agenda true)
begun_takes c st h = let e = same_followed true c st in omega (arith, e, h)

turns_covered : (s : Plan) (acts : List Act) → IsPlan s → Covers (Takes (state s acts)) s (state s acts)
turns_covered s acts p =
    let st = state s acts in
    let few = few_in s acts p in
    let rows = few.writers.rows in
    let members = few.writers.members in
    let short = λ (test : ℕ → Bool). short_members test 0 st.course.rows in
    record {
      stays = λ lane op mark told e c. line_takes st st op (omega arith);
      writes = λ lane op v w mark e f. line_takes st (write s v w mark st).1 op (few_write s v w mark st);
      reverts = λ lane n v k mark e f. line_takes st (reverted_as s v k mark st).1 (Revert n v) (let g = same_revert s v k mark st in omega (arith, g));
      deletes_set = λ lane n c mark e. line_takes st st (DeleteSet n) (omega arith);
      deletes_image = λ lane n v k mark e. line_takes st st (DeleteImage n v) (omega arith);
      ticks = λ lane n mark. line_takes st (ticked n st) (Tick n) (let e = same_ticked n st in let f = not_more_timed (st.clock + n) st.course in omega (arith, e, f));
      begins = λ lane n all c mark e f. line_takes st st (Begin n all) (omega arith);
      disables = λ lane w q mark g. line_takes st st (Disable w) (omega arith);
      gathers = λ lane q mark g. begun_takes _ st (few_begun kind.Gather _ [] st.clock _ (let e = short (λ w. not (is_disabled s st w)) in omega (arith, e, rows)) (omega arith));
      names = λ lane w full q explicit mark g e. line_takes st st (Component w full) (omega arith);
      starts = λ lane q mark g e. line_takes st st Start (omega arith);
      adds = λ lane v r q mark g e f. line_takes st st (Add v) (omega arith);
      prepares = λ lane q mark g f. begun_takes _ st
          (few_begun kind.Prepare _ [] st.clock _ (let e = short (λ w. is_among w (takers (length s.writers) (selected s q st))) in omega (arith, e, rows)) (omega arith));
      snapshots = λ lane q mark g f. begun_takes _ st
          (few_begun kind.Snapshot st.course.members (volumes_of (in_progress st)) st.clock st.course members (grind (arith, few.volumes)));
      completes = λ lane q mark g. begun_takes _ st
          (few_begun kind.Complete _ [] st.clock _ (let e = short_filter (λ m. not (has_row_failed st.course.rows m.writer)) st.course.members in omega (arith, e, members)) (omega arith));
      aborts = λ lane q mark e. line_takes st (failed AsyncCancelled st) Abort (not_more_failed (in_progress st) AsyncCancelled st);
      ends = λ lane q mark e. line_takes st (end_session q st).1 End (let f = none_closed q (failed AsyncCancelled st) in omega (arith, f));
      answers = λ w answer mark e. (let h = less_answers w (said_of answer) st (less_answered w (said_of answer) st.clock st.course e) in omega (arith, h));
      steps = λ mark e. (let h = less_steps mark st e in omega (arith, h));
      idles = λ mark e. (let h = less_timed (st.clock + idle_now st) st.course (idle_spends s acts e) e in let g = same_ticked (idle_now st) st in omega (arith, h, g));
    }

after_turns : (s : Plan) (acts : List Act) (act : Act) → IsPlan s → enabled s (state s acts) act.event ≡ true → suc (waits_at (after s (state s acts) act)) ≤ waits_at (state s acts) + turns_of_event act.event
after_turns s acts act p e =
    let st = state s acts in
    subst (λ x. suc (waits_at x) ≤ waits_at st + turns_of_event act.event) (sym (after_enabled s st act e)) (covered (Takes st) s st (turns_covered s acts p) act.event act.mark e)

-- ## the lanes

drop_turns : (ls : List LaneLine) (k : ℕ) (l : LaneLine) → slice_get ls k ≡ Some l → turns_of_lines (drop k ls) ≡ turns_of_line l + turns_of_lines (drop (suc k) ls)
drop_turns (x ∷ ls) (suc k) l e = drop_turns ls k l e
drop_turns ls k l e = grind (arith, common_steps, nat_tests)

lanes_same : (moves : List Move) (m : Move) (j : ℕ) (lanes : List LanePlan) → ((x : ℕ) → j ≤ x → is_lane x m.actor ≡ false) → turns_of_lanes (moves ++ m ∷ []) j lanes ≡ turns_of_lanes moves j lanes
lanes_same moves m j [] h = refl
lanes_same moves m j (p ∷ ps) h =
    ap (λ n. turns_of_lines (drop n p.lines) + turns_of_lanes (moves ++ m ∷ []) (j + 1) ps) (cursor_same moves m j (h j (omega arith)))
    ∙ ap (λ n. turns_of_lines (drop (cursor moves j) p.lines) + n) (lanes_same moves m (j + 1) ps (λ x g. h x (omega (arith, g))))

not_lane : (x i : ℕ) (actor : Actor) → actor ≡ Lane i → i < x → is_lane x actor ≡ false
not_lane x i actor e h = grind (arith, common_steps, nat_tests)

lanes_less : (moves : List Move) (m : Move) (j : ℕ) (lanes : List LanePlan) (k : ℕ) (l : LaneLine) → m.actor ≡ Lane (j + k) → slice_get (lines_in (slice_get lanes k)) (cursor moves (j + k)) ≡ Some l
    → turns_of_lanes moves j lanes ≡ turns_of_line l + turns_of_lanes (moves ++ m ∷ []) j lanes
lanes_less moves m j [] zero l e f = absurd (nothing (cursor moves (j + 0)) f) where
  nothing : (n : ℕ) → slice_get (lines_in None) n ≡ Some l → ⊥
  nothing zero g = cc
  nothing (suc n) g = cc
lanes_less moves m j [] (suc k) l e f = absurd (nothing (cursor moves (j + suc k)) f) where
  nothing : (n : ℕ) → slice_get (lines_in None) n ≡ Some l → ⊥
  nothing zero g = cc
  nothing (suc n) g = cc
lanes_less moves m j (p ∷ ps) zero l e f =
    let own : m.actor ≡ Lane j = e ∙ ap Lane (add_none j) in
    let line : slice_get p.lines (cursor moves j) ≡ Some l = subst (λ n. slice_get p.lines (cursor moves n) ≡ Some l) (add_none j) f in
    let a = drop_turns p.lines (cursor moves j) l line in
    let b = ap (λ n. turns_of_lines (drop n p.lines)) (cursor_more moves m j (ap (is_lane j) own ∙ eq-eqb j j refl)) in
    let d = lanes_same moves m (j + 1) ps (λ x g. not_lane x j m.actor own (omega (arith, g))) in
    omega (arith, a, b, d) where
      add_none : (n : ℕ) → n + 0 ≡ n
      add_none n = omega arith
lanes_less moves m j (p ∷ ps) (suc k) l e f =
    let moved_on : m.actor ≡ Lane (j + 1 + k) = e ∙ ap Lane (shift j k) in
    let line : slice_get (lines_in (slice_get ps k)) (cursor moves (j + 1 + k)) ≡ Some l = subst (λ n. slice_get (lines_in (slice_get ps k)) (cursor moves n) ≡ Some l) (shift j k) f in
    let a = lanes_less moves m (j + 1) ps k l moved_on line in
    let b = ap (λ n. turns_of_lines (drop n p.lines)) (cursor_same moves m j (ap (is_lane j) moved_on ∙ apart_back j (j + 1 + k) (omega arith))) in
    omega (arith, a, b) where
      shift : (j k : ℕ) → j + suc k ≡ j + 1 + k
      shift j k = omega arith

-- ## one move

-- what is needed of a run that a trail has led to
record IsReached (s : Plan) (r : Run) : Type 0 where
  acts : List Act
  is : r.state ≡ state s acts

after_at : (s : Plan) (r : Run) (act : Act) → IsPlan s → IsReached s r → enabled s r.state act.event ≡ true → suc (waits_at (after s r.state act)) ≤ waits_at r.state + turns_of_event act.event
after_at s r act p h e = grind (arith, after_turns)

no_turns_of_order : (o : Option Order) (s : Plan) (st : State) (w : ℕ) (event : Event) → script_event s st w o ≡ Some event → turns_of_event event ≡ 0
no_turns_of_order o s st w event e = grind arith

-- the lanes have as many turns fewer as the move's event takes
lanes_of_event : (s : Plan) (r : Run) (m : Move) (actor : Actor) (event : Event) → m.actor ≡ actor → event_of s r actor ≡ Some event → turns_of_lanes r.moves 0 s.lanes ≡ turns_of_event event + turns_of_lanes (r.moves ++ m ∷ []) 0 s.lanes
lanes_of_event s r m (Lane i) event e f = of_line (next_line s r i) refl f where
  of_line : (o : Option LaneLine) → next_line s r i ≡ o → line_event i o ≡ Some event → turns_of_lanes r.moves 0 s.lanes ≡ turns_of_event event + turns_of_lanes (r.moves ++ m ∷ []) 0 s.lanes
  of_line None g h = absurd cc
  of_line (Some l) g h =
      let same : Line i l.op ≡ event = cc in
      subst (λ x. turns_of_lanes r.moves 0 s.lanes ≡ turns_of_event x + turns_of_lanes (r.moves ++ m ∷ []) 0 s.lanes) same (lanes_less r.moves m 0 s.lanes i l (e ∙ ap Lane (sym (zero_more i))) (subst (λ n. slice_get (lines_of s i) (cursor r.moves n) ≡ Some l) (sym (zero_more i)) g))
lanes_of_event s r m (Writer w) event e f =
    let a = lanes_same r.moves m 0 s.lanes (λ x g. ap (is_lane x) e) in
    let b = no_turns_of_order (order_of_writer r.state w) s r.state w event f in
    omega (arith, a, b)
lanes_of_event s r m Advance event e f =
    let same : Provider ≡ event = cc in
    let a = lanes_same r.moves m 0 s.lanes (λ x g. ap (is_lane x) e) in
    let b : turns_of_event event ≡ 0 = ap turns_of_event (sym same) in
    omega (arith, a, b)
lanes_of_event s r m Idle event e f =
    let same : IdleEvent ≡ event = cc in
    let a = lanes_same r.moves m 0 s.lanes (λ x g. ap (is_lane x) e) in
    let b : turns_of_event event ≡ 0 = ap turns_of_event (sym same) in
    omega (arith, a, b)

-- a legal move takes a turn
event_turns : (s : Plan) (r : Run) (m : Move) (o : Option Event) → IsPlan s → IsReached s r → event_of s r m.actor ≡ o → event_enabled s r o ≡ true
    → suc (waits_at (after_event s r.state o m.mark) + turns_of_lanes (r.moves ++ m ∷ []) 0 s.lanes) ≤ waits_at r.state + turns_of_lanes r.moves 0 s.lanes
event_turns s r m None p h e f = absurd cc
event_turns s r m (Some event) p h e f =
    let a = after_at s r (act_of m.mark event) p h f in
    let b = lanes_of_event s r m m.actor event refl e in
    omega (arith, a, b)

move_turns : (s : Plan) (r : Run) (m : Move) → IsPlan s → IsReached s r → is_legal_move s r m ≡ true → suc (turns_left s (moved s r m)) ≤ turns_left s r
move_turns s r m p h e = grind (arith, common_steps, event_turns, and_parts)

pub one_turn : (s : Plan) (trail : List Move) (m : Move) → IsPlan s → is_legal s (trail ++ m ∷ []) ≡ true → turns_left s (run s (trail ++ m ∷ [])) < turns_left s (run s trail)
one_turn s trail m p e = grind (arith, common_steps, and_parts, is_legal-append, move_turns, state-run, run-append)

-- ## all moves

reached_more : (s : Plan) (r : Run) (m : Move) (o : Option Event) → IsReached s r → event_of s r m.actor ≡ o → IsReached s (record { state = after_event s r.state o m.mark; moves = r.moves ++ m ∷ [] })
reached_more s r m None h e = record { acts = h.acts; is = h.is }
reached_more s r m (Some event) h e = record {
  acts = h.acts ++ act_of m.mark event ∷ [];
  is = ap (λ st. after s st (act_of m.mark event)) h.is ∙ sym (state-append s h.acts (act_of m.mark event));
}

turns_from : (s : Plan) (r : Run) (ms : List Move) → IsPlan s → IsReached s r → is_legal_from s r ms ≡ true → length ms + turns_left s (run_from s r ms) ≤ turns_left s r
turns_from s r [] p h e = omega arith
turns_from s r (m ∷ ms) p h e =
    let a = move_turns s r m p h (and_parts (is_legal_move s r m) (is_legal_from s (moved s r m) ms) e).0 in
    let b = turns_from s (moved s r m) ms p (reached_more s r m (event_of s r m.actor) h refl) (and_parts (is_legal_move s r m) (is_legal_from s (moved s r m) ms) e).1 in
    omega (arith, a, b)

-- ## the turns of a scenario

turns_of_count : (ls : List LaneLine) → turns_of_lines ls ≡ length ls + 521 * agenda_lines ls
turns_of_count [] = refl
turns_of_count (l ∷ ls) =
    let h = turns_of_count ls in
    let e = sum_by-cons (λ (x : LaneLine). cond (begins_agenda x.op) 1 0) l ls in
    own (begins_agenda l.op) h e where
      own : (b : Bool) → turns_of_lines ls ≡ length ls + 521 * agenda_lines ls → agenda_lines (l ∷ ls) ≡ cond b 1 0 + agenda_lines ls → (1 + turns_of_agenda b) + turns_of_lines ls ≡ length (l ∷ ls) + 521 * agenda_lines (l ∷ ls)
      own true h e = omega (arith, h, e)
      own false h e = omega (arith, h, e)

turns_at_start : (j : ℕ) (lanes : List LanePlan) → turns_of_lanes [] j lanes ≡ sum (map (λ (l : LanePlan). length l.lines) lanes) + 521 * sum (map (λ (l : LanePlan). agenda_lines l.lines) lanes)
turns_at_start j [] = refl
turns_at_start j (p ∷ ps) =
    let h = turns_at_start (j + 1) ps in
    let e = turns_of_count p.lines in
    let a = sum_by-cons (λ n. n) (length p.lines) (map (λ (l : LanePlan). length l.lines) ps) in
    let b = sum_by-cons (λ n. n) (agenda_lines p.lines) (map (λ (l : LanePlan). agenda_lines l.lines) ps) in
    omega (arith, h, e, a, b)

pub trail_is_short : (s : Plan) (trail : List Move) → IsPlan s → is_legal s trail ≡ true → length trail ≤ most_moves
trail_is_short s trail p e =
    let h = turns_from s (begin s) trail p (record { acts = []; is = refl }) e in
    let a = turns_at_start 0 s.lanes in
    let b = p.few_lines in
    let d = p.few_agendas in
    omega (arith, h, a, b, d)

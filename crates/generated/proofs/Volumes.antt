-- What each move of such a run does to the volumes: a write adds itself to one, a Commit step adds an image.
use Rattle.std.proofs.Common.{◌≡◌, ℕ, zero, suc, ◌+◌, ◌<◌, ◌≤◌, List, [], ◌∷◌, ◌++◌, Option, Some, None, refl, Bool, true, false, ap, sym, ◌∙◌, ◌==◌, subst}
use Rattle.std.proofs.Common.{length, drop, arith}
use Rattle.std.specs.Prelude.{is_some, filter, slice_get, ◌&&◌, not, if◌then◌else◌, nat_le}
use Rattle.write_history.specs.History.{cut as history_cut}
use Rattle.writer_calls.specs.declared.answer.Answer.TheVariants.{Ok}
use Rattle.scenario.specs.declared.line.Line.{Line as Does}
use Rattle.vss_model.proofs.CutHistory.{append_none}
use Rattle.vss_model.proofs.StateForm.{answered, stepped}
use Rattle.generated.proofs.Standing.{sound_answered, sound_stepped, IsSound, IsAt, followed_volumes}
use Rattle.generated.proofs.Requests.{IsKnown, requests}
use Rattle.generated.proofs.Moves.{drop_at, all_at, after_enabled, IsReached, orderly_now, orderly_next, IsBefore, spot_few, no_idle, runs_of_order}
use Rattle.generated.proofs.Moves.{runs_of_step}
use Rattle.generated.proofs.Ways.{few_images, none_cleared, no_set_loses}
use Rattle.generated.proofs.Terms.{flat_map, payload_bytes, Write, Op, Writes, line_of, LaneLine, Event, Line, Fill, Stamp, Order, Ok as SaidOk, Actor, Lane}
use Rattle.generated.proofs.Terms.{Writer, Advance, Idle, Mark, Clean, Move, History, written as with_write, evicted_of, Scripted, scripted_answer, Group, Cut}
use Rattle.generated.proofs.Terms.{is_asking, is_working, open_group, sent, change_at, answered as course_answered, stepped as course_stepped, WriteFill}
use Rattle.generated.proofs.Terms.{WriteStamp, Plan, lines_of, blocks_of, IsOp, target_of, Answer as AnswerEvent, Provider, State, SetRow, in_progress}
use Rattle.generated.proofs.Terms.{history_in, history_of, left_now, has_image, is_complete, followed, cleared, with_room_if, write, cut_set, image_made}
use Rattle.generated.proofs.Terms.{step_made, line, happens, next_volume, Commit, as_many_change, each_change, order_of_writer, line_enabled, enabled, after}
use Rattle.generated.proofs.Terms.{volumes_losing, evicted_for, evicted_at, evicted, Run, cursor, next_line, line_event, answer_event, script_event, event_of}
use Rattle.generated.proofs.Terms.{act_of, event_enabled, none_can_act, may_move, Asked, IsAsked, AreAsked, Spot, spot_after, completes_sets, is_full, IsSmooth}
use Rattle.generated.proofs.Terms.{is_write, and_left, and_right}

-- ## The writes that lines make to a volume, in order.

abbrev pub put_if : Bool → Write → List Write
put_if true w = w ∷ []
put_if false w = []

abbrev pub puts_by : ℕ → Does → List Write
puts_by v (Writes u b payload) = put_if (u == v) (record { block = b; bytes = payload_bytes payload })
puts_by v _ = []

abbrev pub puts_to : ℕ → Op → List Write
puts_to v op = puts_by v (line_of op)

abbrev pub puts_of : ℕ → Event → List Write
puts_of v (Line lane op) = puts_to v op
puts_of v _ = []

-- by these lines, in order
abbrev pub puts_in : ℕ → List LaneLine → List Write
puts_in v lines = flat_map (λ l. puts_to v l.op) lines

-- ## What each move of such a run does to the volumes: a write adds itself to one, a Commit step adds an image, and nothing else
-- changes any. Nothing is evicted.

-- what an event does to the images of a state before its course goes on
abbrev pub made_by : State → Event → State
made_by st Provider = step_made (open_group (left_now st)) (next_volume (left_now st)) st
made_by st _ = st

pub record IsGrown (s : Plan) (st next : State) (event : Event) : Type 0 where
  pub count : length next.volumes ≡ length st.volumes
  pub writes : (v : ℕ) → v < length st.volumes → (history_of next v).writes ≡ (history_of st v).writes ++ puts_of v event
  pub images : (v : ℕ) → (history_of next v).images ≡ (history_of (made_by st event) v).images
  pub no_eviction : evicted s st event ≡ []

-- ## nothing is evicted

none_losing : (n v : ℕ) (hs : List History) → volumes_losing n v hs hs ≡ []
none_losing n v [] = refl
none_losing n v (h ∷ hs) = ap (λ (b : Bool). if b then v ∷ volumes_losing n (v + 1) hs hs else volumes_losing n (v + 1) hs hs) (no_less (has_image n h)) ∙ none_losing n (v + 1) hs
  where
    no_less : (a : Bool) → (a && not a) ≡ false
    no_less true = refl
    no_less false = refl

none_of_rows : (rows : List SetRow) (hs ks : List History) → ks ≡ hs → flat_map (λ (r : SetRow). evicted_of r.number (volumes_losing r.number 0 hs ks)) rows ≡ []
none_of_rows [] hs ks e = refl
none_of_rows (r ∷ rows) hs ks e =
    ap (λ (vs : List ℕ). evicted_of r.number vs ++ flat_map (λ (q : SetRow). evicted_of q.number (volumes_losing q.number 0 hs ks)) rows)
    (ap (λ (js : List History). volumes_losing r.number 0 hs js) e ∙ none_losing r.number 0 hs)
    ∙ none_of_rows rows hs ks e

none_for : (s : Plan) (st : State) (v b : ℕ) → (cleared s v b st).volumes ≡ st.volumes → evicted_for s st v b ≡ []
none_for s st v b e = none_of_rows (filter (λ (r : SetRow). is_complete r.result) st.sets) st.volumes (cleared s v b st).volumes e

-- ## a write

equal_suc : (a b : ℕ) → (suc a == suc b) ≡ (a == b)
equal_suc a b = grind arith

writes_change : (w : Write) (u v : ℕ) (hs : List History) → v < length hs → (history_in (slice_get (change_at u (with_write w) hs) v)).writes ≡ (history_in (slice_get hs v)).writes ++ put_if (u == v) w
writes_change w u v [] l = absurd (omega (arith, l))
writes_change w zero zero (h ∷ hs) l = refl
writes_change w zero (suc v) (h ∷ hs) l = append_none (history_in (slice_get hs v)).writes ∙ ap (λ b. (history_in (slice_get hs v)).writes ++ put_if b w) (sym (differs v))
  where
    differs : (v : ℕ) → (zero == suc v) ≡ false
    differs v = grind arith
writes_change w (suc u) zero (h ∷ hs) l = append_none h.writes ∙ ap (λ b. h.writes ++ put_if b w) (sym (differs u))
  where
    differs : (u : ℕ) → (suc u == zero) ≡ false
    differs u = grind arith
writes_change w (suc u) (suc v) (h ∷ hs) l = writes_change w u v hs (omega (arith, l)) ∙ ap (λ b. (history_in (slice_get hs v)).writes ++ put_if b w) (sym (equal_suc u v))

pub images_change : (w : Write) (u v : ℕ) (hs : List History) → (history_in (slice_get (change_at u (with_write w) hs) v)).images ≡ (history_in (slice_get hs v)).images
images_change w zero v [] = refl
images_change w (suc u) v [] = refl
images_change w zero zero (h ∷ hs) = refl
images_change w zero (suc v) (h ∷ hs) = refl
images_change w (suc u) zero (h ∷ hs) = refl
images_change w (suc u) (suc v) (h ∷ hs) = images_change w u v hs

room_volumes : (b : Bool) (st : State) → b ≡ false → (with_room_if b st).volumes ≡ st.volumes
room_volumes b st e = grind arith

write_volumes : (s : Plan) (v : ℕ) (w : Write) (mark : Mark) (st : State) → mark ≡ Clean → (cleared s v w.block st).volumes ≡ st.volumes → (write s v w mark st).1.volumes ≡ change_at v (with_write w) st.volumes
unfolding write
write_volumes s v w mark st e same = grind (arith, room_volumes, no_set_loses)

grown_by : (s : Plan) (st next : State) (lane u : ℕ) (op : Op) (w : Write) → next.volumes ≡ change_at u (with_write w) st.volumes → ((v : ℕ) → puts_to v op ≡ put_if (u == v) w) → evicted s st (Line lane op) ≡ [] → IsGrown s st next (Line lane op)
grown_by s st next lane u op w e puts none = grind (arith, as_many_change, writes_change, images_change)

same_grown : (s : Plan) (st next : State) (event : Event) → next.volumes ≡ st.volumes → ((v : ℕ) → puts_of v event ≡ []) → ((v : ℕ) → (history_of st v).images ≡ (history_of (made_by st event) v).images) → evicted s st event ≡ [] → IsGrown s st next event
same_grown s st next event e none made no_eviction = grind (arith, append_none)

pub cleared_same : (s : Plan) (n v b k : ℕ) (st : State) → IsSmooth n s → IsReached s st → b < blocks_of s v → k ≤ n → length st.sets ≡ k → (cleared s v b st).volumes ≡ st.volumes
cleared_same s n v b k st smooth reached l most sets =
    subst (λ x. (cleared s v b x).volumes ≡ x.volumes) (sym reached.is)
    (none_cleared s reached.so_far v b n smooth.alone smooth.room l (let e = ap (λ (x : State). length x.sets) (sym reached.is) in omega (arith, e, most, sets)))

write_grown : (s : Plan) (n lane : ℕ) (op : Op) (mark : Mark) (k : ℕ) (st : State) → IsSmooth n s → IsReached s st → mark ≡ Clean → is_write op ≡ true → IsOp s op → k ≤ n → length st.sets ≡ k → IsGrown s st (line s lane op mark st).1 (Line lane op)
write_grown s n lane (WriteFill v b x) mark k st smooth reached f e o most sets =
    let same = cleared_same s n v b k st smooth reached o.1 most sets in
    grown_by s st _ lane v (WriteFill v b x) (record { block = b; bytes = payload_bytes (Fill x) }) (write_volumes s v (record { block = b; bytes = payload_bytes (Fill x) }) mark st f same) (λ u. refl) (none_for s st v b same)
write_grown s n lane (WriteStamp v b x) mark k st smooth reached f e o most sets =
    let same = cleared_same s n v b k st smooth reached o.1 most sets in
    grown_by s st _ lane v (WriteStamp v b x) (record { block = b; bytes = payload_bytes (Stamp x) }) (write_volumes s v (record { block = b; bytes = payload_bytes (Stamp x) }) mark st f same) (λ u. refl) (none_for s st v b same)
write_grown s n lane _ mark k st smooth reached f e o most sets = absurd cc

-- ## the lane that makes the sets

record WritesNone (s : Plan) (st : State) (op : Op) : Type 0 where
  puts : (v : ℕ) → puts_to v op ≡ []
  evicts : evicted_at s st (target_of op) ≡ []

writes_none : (s : Plan) (st : State) (a : Asked) (op : Op) → IsAsked s a op → WritesNone s st op
writes_none s st a op e = grind arith

own_grown : (s : Plan) (n : ℕ) (r : Run) (m : Move) (l : LaneLine) (asked : List Asked) → IsBefore s n r → AreAsked s asked (l ∷ drop (suc (cursor r.moves 0)) (lines_of s 0)) → (spot : Spot) → completes_sets (length s.volumes) n asked (Some spot) ≡ true
    → IsAt s spot.place spot.sets spot.volumes r.state → line_enabled s r.state 0 l.op ≡ true → IsGrown s r.state (line s 0 l.op m.mark r.state).1 (Line 0 l.op)
own_grown s n r m l [] before left spot leads at on = absurd left
own_grown s n r m l (a ∷ more) before left spot leads at on =
    let known : IsKnown n spot.sets r.state (line s 0 l.op m.mark r.state).1 = record {
      orderly = orderly_now s r.state before.reached;
      next_orderly = orderly_next s r.state (Line 0 l.op) m.mark before.reached on;
      few = before.smooth.few;
      images = subst (λ st. (v : ℕ) → length (history_of st v).images ≤ length st.sets) (sym before.reached.is) (few_images s before.reached.so_far);
    } in
    let to = requests s n more spot.place spot.sets spot.volumes a l.op m.mark r.state left.0 on
    (and_right (nat_le spot.sets n && is_full (length s.volumes) spot.place spot.volumes) (completes_sets (length s.volumes) n more (spot_after spot.place spot.sets spot.volumes a)) leads) (spot_few (length s.volumes) n (a ∷ more) spot leads) at known in
    let none = writes_none s r.state a l.op left.0 in
    same_grown s r.state _ (Line 0 l.op) to.same none.puts (λ v. refl) none.evicts

-- ## answers and steps

answer_volumes : (k w : ℕ) (st : State) → is_some (order_of_writer st w) ≡ true → IsSound k st.course → (answered w SaidOk st).volumes ≡ st.volumes
unfolding answered
answer_volumes k w st e sound =
    let c = course_answered w SaidOk st.clock st.course in
    ap (λ b. (followed b c st).volumes) (runs_of_order st.course.agenda w e) ∙ followed_volumes k c st (sound_answered k w st.clock st.course sound)

step_volumes : (k : ℕ) (st : State) → is_working (left_now st) ≡ true → IsSound k st.course → (stepped Clean st).volumes ≡ (step_made (open_group (left_now st)) (next_volume (left_now st)) st).volumes
unfolding stepped
step_volumes k st e sound =
    let c = course_stepped true st.clock st.course in
    ap (λ b. (followed b c (step_made (open_group (left_now st)) (next_volume (left_now st)) st)).volumes) (runs_of_step st.course.agenda e) ∙ followed_volumes k c (step_made (open_group (left_now st)) (next_volume (left_now st)) st) (sound_stepped k st.clock st.course sound)

record KeepsWrites (st made : State) : Type 0 where
  count : length made.volumes ≡ length st.volumes
  writes : (v : ℕ) → (history_of made v).writes ≡ (history_of st v).writes

cut_keeps : (o : Option SetRow) (st : State) → KeepsWrites st (cut_set o st)
cut_keeps o st = grind arith

image_keeps : (o : Option SetRow) (v : Option ℕ) (st : State) → KeepsWrites st (image_made o v st)
image_keeps (Some r) (Some v) st = record {
  count = as_many_change (history_cut r.number) v st.volumes;
  writes = λ u. each_change (λ x y. y.writes ≡ x.writes) (λ x. refl) (history_cut r.number) (λ x. refl) v st.volumes u;
}
image_keeps _ _ st = record { count = refl; writes = λ v. refl }

made_keeps : (g : Option Group) (v : Option ℕ) (st : State) → KeepsWrites st (step_made g v st)
made_keeps (Some Cut) v st = cut_keeps (in_progress st) st
made_keeps (Some Commit) v st = image_keeps (in_progress st) v st
made_keeps _ v st = record { count = refl; writes = λ u. refl }

step_grown : (s : Plan) (k : ℕ) (st : State) → is_working (left_now st) ≡ true → IsSound k st.course → IsGrown s st (stepped Clean st) Provider
step_grown s k st e sound =
    let same = step_volumes k st e sound in
    let keeps = made_keeps (open_group (left_now st)) (next_volume (left_now st)) st in
    record {
      count = ap length same ∙ keeps.count;
      writes = λ v l. ap (λ (hs : List History). (history_in (slice_get hs v)).writes) same ∙ keeps.writes v ∙ append_none (history_of st v).writes;
      images = λ v. ap (λ (hs : List History). (history_in (slice_get hs v)).images) same;
      no_eviction = refl;
    }

-- ## every move

unfoldable pub IsGrownIf : Plan → Run → Move → Option Event → Type 0
IsGrownIf s r m None = ⊥
IsGrownIf s r m (Some event) = IsGrown s r.state (after s r.state (act_of m.mark event)) event

by_after : (s : Plan) (r : Run) (m : Move) (event : Event) → enabled s r.state event ≡ true → IsGrown s r.state (happens s event m.mark r.state).1 event → IsGrownIf s r m (Some event)
unfolding IsGrownIf
by_after s r m event e h = subst (λ st. IsGrown s r.state st event) (sym (after_enabled s r.state event m.mark e)) h

lane_grown : (s : Plan) (n : ℕ) (r : Run) (m : Move) (i : ℕ) (x : Option LaneLine) → IsBefore s n r → m.mark ≡ Clean → next_line s r i ≡ x → event_enabled s r (line_event i x) ≡ true → IsGrownIf s r m (line_event i x)
lane_grown s n r m i None before e f on = absurd cc
lane_grown s n r m zero (Some l) before e f on =
    by_after s r m (Line 0 l.op) on
    (own_grown s n r m l before.way.asked before (subst (AreAsked s before.way.asked) (drop_at (lines_of s 0) (cursor r.moves 0) l f) before.way.left) before.way.spot before.way.leads before.way.at on)
lane_grown s n r m (suc i) (Some l) before e f on =
    let known = all_at (λ (x : LaneLine). (is_write x.op ≡ true) × IsOp s x.op) (lines_of s (suc i)) (cursor r.moves (suc i)) l (before.smooth.writes i) f in
    by_after s r m (Line (suc i) l.op) on
    (write_grown s n (suc i) l.op m.mark before.way.spot.sets r.state before.smooth before.reached e known.0 known.1 (spot_few (length s.volumes) n before.way.asked before.way.spot before.way.leads) before.way.at.sets)

writer_grown : (s : Plan) (n : ℕ) (r : Run) (m : Move) (w : ℕ) (x : Option Order) → IsBefore s n r → order_of_writer r.state w ≡ x → event_enabled s r (script_event s r.state w x) ≡ true → IsGrownIf s r m (script_event s r.state w x)
writer_grown s n r m w None before f on = absurd cc
writer_grown s n r m w (Some o) before f on =
    let asked : is_some (order_of_writer r.state w) ≡ true = ap is_some f in
    subst (λ (rows : List Scripted). IsGrownIf s r m (answer_event w (scripted_answer rows o (sent r.state.course w o)))) (sym (before.smooth.scripts w))
    (by_after s r m (AnswerEvent w Ok) asked
    (same_grown s r.state _ (AnswerEvent w Ok) (answer_volumes _ w r.state asked before.way.at.sound) (λ v. refl) (λ v. refl) refl))

pub move_grown : (s : Plan) (n : ℕ) (r : Run) (m : Move) (a : Actor) → IsBefore s n r → m.actor ≡ a → m.mark ≡ Clean → may_move s r a ≡ true → IsGrownIf s r m (event_of s r a)
move_grown s n r m (Lane i) before e f may = lane_grown s n r m i (next_line s r i) before f refl may
move_grown s n r m (Writer w) before e f may = writer_grown s n r m w (order_of_writer r.state w) before refl may
move_grown s n r m Advance before e f may =
    by_after s r m Provider may
    (subst (λ mark. IsGrown s r.state (happens s Provider mark r.state).1 Provider) (sym f) (step_grown s _ r.state may before.way.at.sound))
move_grown s n r m Idle before e f may =
    absurd (no_idle s n r before.smooth before.reached before.way.at.sound (and_left (is_asking (left_now r.state)) (none_can_act s r) may) (and_right (is_asking (left_now r.state)) (none_can_act s r) may))

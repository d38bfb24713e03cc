-- A legal trail without faults completes its sets, evicts nothing, and leaves in each volume what each lane wrote to it.
use Rattle.std.proofs.Common.{◌≡◌, ℕ, zero, suc, ◌+◌, List, [], ◌∷◌, ◌++◌, Option, Some, None, refl, Bool, true, false, ap, sym, ◌∙◌, ◌==◌, subst, length}
use Rattle.std.proofs.Common.{arith, find, ◌<◌, take, fold, map}
use Rattle.std.proofs.lemmas.List.Elements.{filter-append}
use Rattle.std.specs.Prelude.{is_none, cond, slice_get, not, if◌then◌else◌, filter}
use Rattle.writer_calls.specs.declared.answer.Answer.{Answer}
use Rattle.scenario.proofs.Places.{number_is}
use Rattle.vss_model.specs.Trail.{is_complete as is_complete_trail}
use Rattle.vss_model.specs.declared.event.Event.TheVariants.{Idle as IdleEvent}
use Rattle.generated.proofs.Standing.{length_map, none_failed, IsAt, IsOnWay}
use Rattle.generated.proofs.Moves.{drop_none, IsReached, orderly_now, IsBefore, IsNextIf, on_move}
use Rattle.generated.proofs.Volumes.{puts_to, puts_of, puts_in, IsGrownIf, move_grown}
use Rattle.generated.proofs.Terms.{list_all, range_with_len, sum_by-cons, and_from, SetOutcome, Mark, Clean, Move, Plan, LanePlan, lines_in, lines_of, Event}
use Rattle.generated.proofs.Terms.{State, SetRow, is_running, is_complete, row_of_writer, runs, after, state, Run, begin, cursor, next_line, event_of, act_of}
use Rattle.generated.proofs.Terms.{acts, after_event, moved, run_from, run, may_move, allows, is_legal_move, is_legal_from, is_legal, is_used_up, is_over}
use Rattle.generated.proofs.Terms.{is_fault, faults, IsOfNone, has_failed, IsOrderly, state-append, state-run, Asked, AreAsked, Place, Free, is_at_end, is_free}
use Rattle.generated.proofs.Terms.{completes_sets, IsSmooth, and_left, and_right, zeros, Actor, Lane, Writer, Advance, Idle, Write, History, last_bytes}
use Rattle.generated.proofs.Terms.{content, Order, LaneLine, Line, Provider, start, history_of, Act, order_of_writer, evicted, is_lane, line_event}
use Rattle.generated.proofs.Terms.{answer_event, script_event, acts_if, acts_from, cursor_more, cursor_same, true_not_false, all_taken}

-- ## A legal trail without faults keeps a run on its way, and so its sets are complete at its end.

-- ## all moves

pub way_after : (s : Plan) (n : ℕ) (r : Run) (m : Move) (x : Option Event) → IsReached s r.state → IsNextIf s n r m x → IsOnWay s n (record { state = after_event s r.state x m.mark; moves = r.moves ++ m ∷ [] })
unfolding IsNextIf
way_after s n r m None reached next = absurd next
way_after s n r m (Some event) reached next = record {
  so_far = reached.so_far ++ act_of m.mark event ∷ [];
  reached = ap (λ st. after s st (act_of m.mark event)) reached.is ∙ sym (state-append s reached.so_far (act_of m.mark event));
  asked = next.asked;
  left = next.left;
  spot = next.spot;
  leads = next.leads;
  at = next.at;
}

pub clean_mark : (mark : Mark) → is_fault mark ≡ false → mark ≡ Clean
clean_mark mark e = grind arith

pub record IsClean (m : Move) (ms : List Move) : Type 0 where
  pub first : m.mark ≡ Clean
  pub rest : faults ms ≡ 0

pub clean_first : (m : Move) (ms : List Move) → faults (m ∷ ms) ≡ 0 → IsClean m ms
clean_first m ms e = by_mark (is_fault m.mark) refl (sym (sum_by-cons (λ (x : Move). cond (is_fault x.mark) 1 0) m ms) ∙ e)
  where
    by_mark : (b : Bool) → is_fault m.mark ≡ b → cond (is_fault m.mark) 1 0 + faults ms ≡ 0 → IsClean m ms
    by_mark true f g = let one : cond (is_fault m.mark) 1 0 ≡ 1 = ap {B = ℕ} (λ (t : Bool). cond t 1 0) f in absurd (omega (arith, one, g))
    by_mark false f g = let none : cond (is_fault m.mark) 1 0 ≡ 0 = ap {B = ℕ} (λ (t : Bool). cond t 1 0) f in record { first = clean_mark m.mark f; rest = omega (arith, none, g) }

pub all_on_way : (s : Plan) (n : ℕ) (r : Run) (ms : List Move) → IsSmooth n s → IsOnWay s n r → is_legal_from s r ms ≡ true → faults ms ≡ 0 → IsOnWay s n (run_from s r ms)
all_on_way s n r [] smooth way legal clean = way
all_on_way s n r (m ∷ ms) smooth way legal clean =
    let reached : IsReached s r.state = record { so_far = way.so_far; is = way.reached } in
    let before : IsBefore s n r = record { smooth = smooth; reached = reached; way = way } in
    let marks = clean_first m ms clean in
    let move = and_left (is_legal_move s r m) (is_legal_from s (moved s r m) ms) legal in
    let may = and_left (may_move s r m.actor) (allows s r (event_of s r m.actor) m.mark) move in
    all_on_way s n (moved s r m) ms smooth (way_after s n r m (event_of s r m.actor) reached (on_move s n r m m.actor before refl marks.first may))
    (and_right (is_legal_move s r m) (is_legal_from s (moved s r m) ms) legal) marks.rest

pub at_start : (s : Plan) (n : ℕ) → IsSmooth n s → IsOnWay s n (begin s)
at_start s n smooth = record {
  so_far = [];
  reached = refl;
  asked = smooth.asked;
  left = smooth.sets;
  spot = record { place = Free; sets = 0; volumes = [] };
  leads = smooth.leads;
  at = record { sets = refl; fine = refl; sound = record { rows = length_map row_of_writer s.writers; members = refl; agenda = tt; fine = refl }; place = (refl, refl) };
}

pub on_way : (s : Plan) (n : ℕ) (trail : List Move) → IsSmooth n s → is_legal s trail ≡ true → faults trail ≡ 0 → IsOnWay s n (run s trail)
on_way s n trail smooth legal clean = all_on_way s n (begin s) trail smooth (at_start s n smooth) legal clean

-- ## at the end

pub none_asked : (s : Plan) (asked : List Asked) → AreAsked s asked [] → asked ≡ []
none_asked s [] h = refl
none_asked s (a ∷ more) h = absurd h

pub is_none_of : {X : Type 0} (x : Option X) → is_none x ≡ true → x ≡ None
is_none_of x e = grind arith

-- the lane that makes the sets is used up
pub used_up : (s : Plan) (r : Run) → list_all (is_used_up s r) (range_with_len 0 (length s.lanes)) ≡ true → next_line s r 0 ≡ None
used_up s r h = by_lanes s.lanes refl h
  where
    no_line : (k : ℕ) → slice_get (lines_in None) k ≡ None
    no_line zero = refl
    no_line (suc k) = refl

    by_lanes : (lanes : List LanePlan) → s.lanes ≡ lanes → list_all (is_used_up s r) (range_with_len 0 (length lanes)) ≡ true → next_line s r 0 ≡ None
    by_lanes [] e h = ap (λ (ls : List LanePlan). slice_get (lines_in (slice_get ls 0)) (cursor r.moves 0)) e ∙ no_line (cursor r.moves 0)
    by_lanes (p ∷ ps) e h = is_none_of (next_line s r 0) (and_left (is_used_up s r 0) _ h)

pub none_running : (o : SetOutcome) (found : Option SetRow) → IsOfNone o found → found ≡ None
none_running o found h = grind arith

pub complete_if : (b : Bool) (o : SetOutcome) → is_running o ≡ b → b ≡ false → not (has_failed o) ≡ true → is_complete o ≡ true
complete_if b o e f h = grind arith

pub all_complete : (rows : List SetRow) → find (λ r. is_running r.result) rows ≡ None → none_failed rows ≡ true → list_all (λ r. is_complete r.result) rows ≡ true
all_complete [] e h = refl
all_complete (r ∷ rows) e h =
    and_from (is_complete r.result) _
    (complete_if (is_running r.result) r.result refl (none_head (is_running r.result) _ e) (and_left (not (has_failed r.result)) (none_failed rows) h))
    (all_complete rows (none_tail (is_running r.result) (find (λ x. is_running x.result) rows) e) (and_right (not (has_failed r.result)) (none_failed rows) h))
  where
    none_head : (b : Bool) (other : Option SetRow) → (if b then Some r else other) ≡ None → b ≡ false
    none_head true other e = absurd cc
    none_head false other e = refl

    none_tail : (b : Bool) (other : Option SetRow) → (if b then Some r else other) ≡ None → other ≡ None
    none_tail true other e = absurd cc
    none_tail false other e = e

pub record AreDone (n : ℕ) (st : State) : Type 0 where
  pub count : length st.sets ≡ n
  pub complete : list_all (λ r. is_complete r.result) st.sets ≡ true

pub at_end : (s : Plan) (n : ℕ) (p : Place) (k : ℕ) (vs : List ℕ) (st : State) → is_free p ≡ true → k ≡ n → IsAt s p k vs st → IsOrderly st → AreDone n st
at_end s n p k vs st e f h o = grind (arith, all_complete, none_running)

pub over : (s : Plan) (n : ℕ) (r : Run) → IsOnWay s n r → is_over s r ≡ true → AreDone n r.state
over s n r way e =
    let used = used_up s r (and_left (list_all (is_used_up s r) (range_with_len 0 (length s.lanes))) (not (runs r.state)) e) in
    let none = none_asked s way.asked (subst (AreAsked s way.asked) (drop_none (lines_of s 0) (cursor r.moves 0) used) way.left) in
    let is : is_at_end n way.spot ≡ true = subst (λ asked. completes_sets (length s.volumes) n asked (Some way.spot) ≡ true) none way.leads in
    at_end s n way.spot.place way.spot.sets way.spot.volumes r.state (and_left (is_free way.spot.place) (way.spot.sets == n) is) (number_is way.spot.sets n (and_right (is_free way.spot.place) (way.spot.sets == n) is)) way.at
    (orderly_now s r.state (record { so_far = way.so_far; is = way.reached }))

pub smooth_runs : (n : ℕ) (s : Plan) (trail : List Move) → IsSmooth n s → is_legal s trail ≡ true → is_complete_trail s trail ≡ true → faults trail ≡ 0 → AreDone n (state s (acts s trail))
smooth_runs n s trail smooth legal complete clean = subst (AreDone n) (state-run s trail) (over s n (run s trail) (on_way s n trail smooth legal clean) complete)

-- ## Nothing is evicted on the way, and each volume has what each lane wrote to it, in the lane's order.

-- ## nothing is evicted

abbrev EvictNone : Plan → State → List Act → Type 0
EvictNone s st [] = Unit {0}
EvictNone s st (a ∷ later) = (evicted s st a.event ≡ []) × EvictNone s (after s st a) later

evict_more : (s : Plan) (r : Run) (m : Move) (ms : List Move) (x : Option Event) → IsGrownIf s r m x
    → EvictNone s (after_event s r.state x m.mark) (acts_from s (record { state = after_event s r.state x m.mark; moves = r.moves ++ m ∷ [] }) ms)
    → EvictNone s r.state (acts_if x m.mark ++ acts_from s (record { state = after_event s r.state x m.mark; moves = r.moves ++ m ∷ [] }) ms)
unfolding IsGrownIf
evict_more s r m ms x grown later = grind arith

none_evicted : (s : Plan) (n : ℕ) (r : Run) (ms : List Move) → IsSmooth n s → IsOnWay s n r → is_legal_from s r ms ≡ true → faults ms ≡ 0 → EvictNone s r.state (acts_from s r ms)
none_evicted s n r [] smooth way legal clean = tt
none_evicted s n r (m ∷ ms) smooth way legal clean =
    let reached : IsReached s r.state = record { so_far = way.so_far; is = way.reached } in
    let before : IsBefore s n r = record { smooth = smooth; reached = reached; way = way } in
    let marks = clean_first m ms clean in
    let may = and_left (may_move s r m.actor) (allows s r (event_of s r m.actor) m.mark) (and_left (is_legal_move s r m) (is_legal_from s (moved s r m) ms) legal) in
    evict_more s r m ms (event_of s r m.actor) (move_grown s n r m m.actor before refl marks.first may)
    (none_evicted s n (moved s r m) ms smooth (way_after s n r m (event_of s r m.actor) reached (on_move s n r m m.actor before refl marks.first may))
    (and_right (is_legal_move s r m) (is_legal_from s (moved s r m) ms) legal) marks.rest)

evict_at : (s : Plan) (st : State) (so_far rest : List Act) (act : Act) → EvictNone s st (so_far ++ act ∷ rest) → evicted s (fold (after s) st so_far) act.event ≡ []
evict_at s st [] rest act h = h.0
evict_at s st (a ∷ so_far) rest act h = evict_at s (after s st a) so_far rest act h.1

pub no_eviction : (s : Plan) (n : ℕ) (trail : List Move) → IsSmooth n s → is_legal s trail ≡ true → faults trail ≡ 0 → (so_far rest : List Act) (act : Act) → acts s trail ≡ so_far ++ act ∷ rest → evicted s (state s so_far) act.event ≡ []
no_eviction s n trail smooth legal clean so_far rest act e =
    evict_at s (start s) so_far rest act (subst (EvictNone s (start s)) e (none_evicted s n (begin s) trail smooth (at_start s n smooth) legal clean))

-- ## writes by lanes

-- whether a write is to a block of lane i
abbrev pub is_of : (ℕ → ℕ) → ℕ → Write → Bool
is_of owner i w = owner w.block == i

-- each lane writes to blocks of its own alone
unfoldable pub IsApart : (ℕ → ℕ) → Plan → Type 0
IsApart owner s = (v i k : ℕ) (l : LaneLine) → slice_get (lines_of s i) k ≡ Some l → list_all (is_of owner i) (puts_to v l.op) ≡ true

pub record HoldsWrites (owner : ℕ → ℕ) (s : Plan) (r : Run) : Type 0 where
  pub count : length r.state.volumes ≡ length s.volumes
  pub own : (v i : ℕ) → v < length s.volumes → filter (is_of owner i) (history_of r.state v).writes ≡ puts_in v (take (cursor r.moves i) (lines_of s i))

filter_all : (p : Write → Bool) (xs : List Write) → list_all p xs ≡ true → filter p xs ≡ xs
filter_all p [] h = refl
filter_all p (x ∷ xs) h = ap (λ (b : Bool). if b then x ∷ filter p xs else filter p xs) (and_left (p x) (list_all p xs) h) ∙ ap (λ zs. x ∷ zs) (filter_all p xs (and_right (p x) (list_all p xs) h))

filter_other : (owner : ℕ → ℕ) (i j : ℕ) (xs : List Write) → (j == i) ≡ false → list_all (is_of owner j) xs ≡ true → filter (is_of owner i) xs ≡ []
filter_other owner i j [] e h = refl
filter_other owner i j (x ∷ xs) e h =
    ap (λ (b : Bool). if b then x ∷ filter (is_of owner i) xs else filter (is_of owner i) xs) (other (owner x.block) i j e (and_left (is_of owner j x) (list_all (is_of owner j) xs) h))
    ∙ filter_other owner i j xs e (and_right (is_of owner j x) (list_all (is_of owner j) xs) h)
  where
    other : (a i j : ℕ) → (j == i) ≡ false → (a == j) ≡ true → (a == i) ≡ false
    other a i j e f = grind arith

append_assoc : (xs ys zs : List Write) → (xs ++ ys) ++ zs ≡ xs ++ (ys ++ zs)
append_assoc [] ys zs = refl
append_assoc (x ∷ xs) ys zs = ap (λ us. x ∷ us) (append_assoc xs ys zs)

append_none : (xs : List Write) → xs ++ [] ≡ xs
append_none [] = refl
append_none (x ∷ xs) = ap (λ us. x ∷ us) (append_none xs)

puts_more : (v : ℕ) (lines : List LaneLine) (l : LaneLine) → puts_in v (lines ++ l ∷ []) ≡ puts_in v lines ++ puts_to v l.op
puts_more v [] l = append_none (puts_to v l.op)
puts_more v (x ∷ lines) l = ap (λ ws. puts_to v x.op ++ ws) (puts_more v lines l) ∙ sym (append_assoc (puts_to v x.op) (puts_in v lines) (puts_to v l.op))

take_more : (lines : List LaneLine) (k : ℕ) (l : LaneLine) → slice_get lines k ≡ Some l → take (suc k) lines ≡ take k lines ++ l ∷ []
take_more [] zero l e = absurd cc
take_more [] (suc k) l e = absurd cc
take_more (x ∷ lines) zero l e = let same : x ≡ l = cc in ap (λ y. y ∷ []) same
take_more (x ∷ lines) (suc k) l e = ap (λ ys. x ∷ ys) (take_more lines k l e)

-- what a move adds to the writes of lane i
record Adds (owner : ℕ → ℕ) (s : Plan) (r : Run) (m : Move) (event : Event) : Type 0 where
  own : (v i : ℕ) → puts_in v (take (cursor (r.moves ++ m ∷ []) i) (lines_of s i)) ≡ puts_in v (take (cursor r.moves i) (lines_of s i)) ++ filter (is_of owner i) (puts_of v event)

line_adds : (owner : ℕ → ℕ) (s : Plan) (r : Run) (m : Move) (j : ℕ) (l : LaneLine) → IsApart owner s → m.actor ≡ Lane j → next_line s r j ≡ Some l → Adds owner s r m (Line j l.op)
unfolding IsApart
line_adds owner s r m j l apart e f = record { own = λ v i. by_lane v i (j == i) refl }
  where
    equal : (a b : ℕ) → (a == b) ≡ true → a ≡ b
    equal a b h = grind arith

    by_lane : (v i : ℕ) (b : Bool) → (j == i) ≡ b → puts_in v (take (cursor (r.moves ++ m ∷ []) i) (lines_of s i)) ≡ puts_in v (take (cursor r.moves i) (lines_of s i)) ++ filter (is_of owner i) (puts_to v l.op)
    by_lane v i true g =
        let same = equal j i g in
        let line : slice_get (lines_of s i) (cursor r.moves i) ≡ Some l = subst (λ x. slice_get (lines_of s x) (cursor r.moves x) ≡ Some l) same f in
        ap (λ k. puts_in v (take k (lines_of s i))) (cursor_more r.moves m i (ap (is_lane i) e ∙ g))
        ∙ ap (puts_in v) (take_more (lines_of s i) (cursor r.moves i) l line)
        ∙ puts_more v (take (cursor r.moves i) (lines_of s i)) l
        ∙ ap (λ ws. puts_in v (take (cursor r.moves i) (lines_of s i)) ++ ws) (sym (filter_all (is_of owner i) (puts_to v l.op) (apart v i (cursor r.moves i) l line)))
    by_lane v i false g =
        ap (λ k. puts_in v (take k (lines_of s i))) (cursor_same r.moves m i (ap (is_lane i) e ∙ g))
        ∙ sym (append_none _)
        ∙ ap (λ ws. puts_in v (take (cursor r.moves i) (lines_of s i)) ++ ws) (sym (filter_other owner i j (puts_to v l.op) g (apart v j (cursor r.moves j) l f)))

quiet_adds : (owner : ℕ → ℕ) (s : Plan) (r : Run) (m : Move) (event : Event) → ((i : ℕ) → is_lane i m.actor ≡ false) → ((v : ℕ) → puts_of v event ≡ []) → Adds owner s r m event
quiet_adds owner s r m event none puts = record {
  own = λ v i. ap (λ k. puts_in v (take k (lines_of s i))) (cursor_same r.moves m i (none i)) ∙ sym (append_none _)
      ∙ ap (λ ws. puts_in v (take (cursor r.moves i) (lines_of s i)) ++ filter (is_of owner i) ws) (sym (puts v));
}

AddsIf : (ℕ → ℕ) → Plan → Run → Move → Option Event → Type 0
AddsIf owner s r m None = Unit {0}
AddsIf owner s r m (Some event) = Adds owner s r m event

lane_adds : (owner : ℕ → ℕ) (s : Plan) (r : Run) (m : Move) (j : ℕ) (x : Option LaneLine) → IsApart owner s → m.actor ≡ Lane j → next_line s r j ≡ x → AddsIf owner s r m (line_event j x)
unfolding AddsIf
lane_adds owner s r m j x apart e f = grind (arith, line_adds)

answer_adds : (owner : ℕ → ℕ) (s : Plan) (r : Run) (m : Move) (w : ℕ) (x : Option Answer) → m.actor ≡ Writer w → AddsIf owner s r m (answer_event w x)
unfolding AddsIf
answer_adds owner s r m w x e = grind (arith, quiet_adds)

order_adds : (owner : ℕ → ℕ) (s : Plan) (r : Run) (m : Move) (w : ℕ) (x : Option Order) → m.actor ≡ Writer w → AddsIf owner s r m (script_event s r.state w x)
unfolding AddsIf
order_adds owner s r m w None e = tt
order_adds owner s r m w (Some o) e = answer_adds owner s r m w _ e

move_adds : (owner : ℕ → ℕ) (s : Plan) (r : Run) (m : Move) (a : Actor) → IsApart owner s → m.actor ≡ a → AddsIf owner s r m (event_of s r a)
unfolding AddsIf
move_adds owner s r m (Lane j) apart e = lane_adds owner s r m j (next_line s r j) apart e refl
move_adds owner s r m (Writer w) apart e = order_adds owner s r m w (order_of_writer r.state w) e
move_adds owner s r m Advance apart e = quiet_adds owner s r m Provider (λ i. ap (is_lane i) e) (λ v. refl)
move_adds owner s r m Idle apart e = quiet_adds owner s r m IdleEvent (λ i. ap (is_lane i) e) (λ v. refl)

holds_more : (owner : ℕ → ℕ) (s : Plan) (r : Run) (m : Move) (x : Option Event) → IsGrownIf s r m x → AddsIf owner s r m x → HoldsWrites owner s r → HoldsWrites owner s (record { state = after_event s r.state x m.mark; moves = r.moves ++ m ∷ [] })
unfolding IsGrownIf AddsIf
holds_more owner s r m x grown adds h = grind (arith, filter-append)

all_hold : (owner : ℕ → ℕ) (s : Plan) (n : ℕ) (r : Run) (ms : List Move) → IsApart owner s → IsSmooth n s → IsOnWay s n r → HoldsWrites owner s r → is_legal_from s r ms ≡ true → faults ms ≡ 0 → HoldsWrites owner s (run_from s r ms)
all_hold owner s n r [] apart smooth way h legal clean = h
all_hold owner s n r (m ∷ ms) apart smooth way h legal clean =
    let reached : IsReached s r.state = record { so_far = way.so_far; is = way.reached } in
    let before : IsBefore s n r = record { smooth = smooth; reached = reached; way = way } in
    let marks = clean_first m ms clean in
    let may = and_left (may_move s r m.actor) (allows s r (event_of s r m.actor) m.mark) (and_left (is_legal_move s r m) (is_legal_from s (moved s r m) ms) legal) in
    all_hold owner s n (moved s r m) ms apart smooth (way_after s n r m (event_of s r m.actor) reached (on_move s n r m m.actor before refl marks.first may))
    (holds_more owner s r m (event_of s r m.actor) (move_grown s n r m m.actor before refl marks.first may) (move_adds owner s r m m.actor apart refl) h)
    (and_right (is_legal_move s r m) (is_legal_from s (moved s r m) ms) legal) marks.rest

fresh_writes : (X : Type 0) (rows : List X) (v : ℕ) → (Rattle.vss_model.specs.State.history_in (slice_get (map (λ _. Rattle.write_history.specs.History.fresh) rows) v)).writes ≡ []
fresh_writes X [] zero = refl
fresh_writes X [] (suc v) = refl
fresh_writes X (x ∷ rows) zero = refl
fresh_writes X (x ∷ rows) (suc v) = fresh_writes X rows v

take_none : (lines : List LaneLine) → take 0 lines ≡ []
take_none lines = grind arith

pub run_holds : (owner : ℕ → ℕ) (s : Plan) (n : ℕ) (trail : List Move) → IsApart owner s → IsSmooth n s → is_legal s trail ≡ true → faults trail ≡ 0 → HoldsWrites owner s (run s trail)
run_holds owner s n trail apart smooth legal clean =
    all_hold owner s n (begin s) trail apart smooth (at_start s n smooth)
    (record {
      count = length_map _ s.volumes;
      own = λ v i l. ap (filter (is_of owner i)) (fresh_writes _ s.volumes v) ∙ sym (ap (puts_in v) (take_none (lines_of s i)));
    }) legal clean

-- ## what a block reads

last_of_owner : (owner : ℕ → ℕ) (b : ℕ) (before : List ℕ) (ws : List Write) → last_bytes b before ws ≡ last_bytes b before (filter (is_of owner (owner b)) ws)
last_of_owner owner b before [] = refl
last_of_owner owner b before (w ∷ ws) = by_test (w.block == b) (is_of owner (owner b) w) refl refl (λ bytes. last_of_owner owner b bytes ws)
  where
    equal : (a c : ℕ) → (a == c) ≡ true → a ≡ c
    equal a c h = grind arith

    itself : (a : ℕ) → (a == a) ≡ true
    itself a = grind arith

    by_test : (t u : Bool) → (w.block == b) ≡ t → (is_of owner (owner b) w) ≡ u → ((bytes : List ℕ) → last_bytes b bytes ws ≡ last_bytes b bytes (filter (is_of owner (owner b)) ws))
        → last_bytes b (if t then w.bytes else before) ws ≡ last_bytes b before (if u then w ∷ filter (is_of owner (owner b)) ws else filter (is_of owner (owner b)) ws)
    by_test true true e f ih = ih w.bytes ∙ ap (λ (t : Bool). last_bytes b (if t then w.bytes else before) (filter (is_of owner (owner b)) ws)) (sym e)
    by_test true false e f ih = absurd (true_not_false (is_of owner (owner b) w) (ap (λ x. owner x == owner b) (equal w.block b e) ∙ itself (owner b)) f)
    by_test false true e f ih = ih before ∙ ap (λ (t : Bool). last_bytes b (if t then w.bytes else before) (filter (is_of owner (owner b)) ws)) (sym e)
    by_test false false e f ih = ih before

pub content_of_owner : (owner : ℕ → ℕ) (b : ℕ) (ws : List Write) → content ws (length ws) b ≡ last_bytes b zeros (filter (is_of owner (owner b)) ws)
content_of_owner owner b ws = ap (last_bytes b zeros) (all_taken ws) ∙ last_of_owner owner b zeros ws

-- How a run of a generated scenario ends.
use Rattle.std.proofs.Common.{◌≡◌, ℕ, zero, suc, ◌+◌, ◌/◌, ◌<◌, ◌≤◌, List, [], ◌∷◌, ◌++◌, Some, refl, Bool, true, false, ap, sym, ◌∙◌, ◌==◌, subst, length, arith, map}
use Rattle.std.specs.Prelude.{filter, slice_get, nat_lt, if◌then◌else◌}
use Rattle.generated.proofs.Terms.{list_all, range_with_len, zeros, Move, Write, last_bytes, content, contents, Op, Plan, LaneLine, lines_of, history_of, state}
use Rattle.generated.proofs.Terms.{run, acts, cursor, is_legal, faults, state-run, moves-run, Asked, IsAsked, AreAsked, four_sets, write_at, volume_at}
use Rattle.generated.proofs.Terms.{block_at, shape_of, IsGenerated, writes_to, final_bytes, final_blocks}
use Rattle.vss_model.specs.Trail.{is_complete}
use Rattle.vss_model.proofs.Headline.{each_line_once}
use Rattle.generated.proofs.Volumes.{put_if, puts_to, puts_in}
use Rattle.generated.specs.Contents.{EndsWell, write_of}
use Rattle.generated.proofs.Runs.{no_eviction, is_of, IsApart, run_holds, content_of_owner, smooth_runs}
use Rattle.generated.proofs.Standing.{length_map}
use Rattle.generated.proofs.Generated.{generated_smooth, few_lanes, no_lines}
use Rattle.generated.proofs.Kept.{keeps_images}
use Rattle.std.proofs.lemmas.List.{take_all}

abbrev pub lane_of : ℕ → ℕ
lane_of b = b / 16

-- ## each lane has blocks of its own

block_is_of : (n i k : ℕ) → (lane_of (block_at n i k) == i) ≡ true
unfolding block_at
block_is_of n i k = grind arith

all_put : (b : Bool) (p : Write → Bool) (w : Write) → p w ≡ true → list_all p (put_if b w) ≡ true
all_put b p w e = grind arith

op_is_of : (n i v k : ℕ) → list_all (is_of lane_of i) (puts_to v (write_at n i k)) ≡ true
op_is_of n i v k = all_put (volume_at n i k == v) (is_of lane_of i) (write_of n i k) (block_is_of n i k)

lines_of_lane : (n i v a m : ℕ) (lines : List LaneLine) → map (λ (l : LaneLine). l.op) lines ≡ map (write_at n i) (range_with_len a m) → (k : ℕ) (l : LaneLine) → slice_get lines k ≡ Some l → list_all (is_of lane_of i) (puts_to v l.op) ≡ true
lines_of_lane n i v a m [] e zero l f = absurd cc
lines_of_lane n i v a m [] e (suc k) l f = absurd cc
lines_of_lane n i v a zero (x ∷ lines) e k l f = absurd cc
lines_of_lane n i v a (suc m) (x ∷ lines) e zero l f =
    let same : x ≡ l = cc in
    let op : x.op ≡ write_at n i a = cc in
    subst (λ y. list_all (is_of lane_of i) (puts_to v y) ≡ true) (sym op ∙ ap (λ (y : LaneLine). y.op) same) (op_is_of n i v a)
lines_of_lane n i v a (suc m) (x ∷ lines) e (suc k) l f =
    let rest : map (λ (z : LaneLine). z.op) lines ≡ map (write_at n i) (range_with_len (a + 1) m) = cc in
    lines_of_lane n i v (a + 1) m lines rest k l f

no_puts : (s : Plan) (v : ℕ) (a : Asked) (op : Op) → IsAsked s a op → puts_to v op ≡ []
no_puts s v a op e = grind arith

no_puts_at : (s : Plan) (v : ℕ) (asked : List Asked) (lines : List LaneLine) → AreAsked s asked lines → (k : ℕ) (l : LaneLine) → slice_get lines k ≡ Some l → puts_to v l.op ≡ []
no_puts_at s v asked [] h zero l e = absurd cc
no_puts_at s v asked [] h (suc k) l e = absurd cc
no_puts_at s v [] (x ∷ lines) h k l e = absurd h
no_puts_at s v (a ∷ asked) (x ∷ lines) h zero l e = let same : x ≡ l = cc in ap (λ (y : LaneLine). puts_to v y.op) (sym same) ∙ no_puts s v a x.op h.0
no_puts_at s v (a ∷ asked) (x ∷ lines) h (suc k) l e = no_puts_at s v asked lines h.1 k l e

no_puts_in : (s : Plan) (v : ℕ) (asked : List Asked) (lines : List LaneLine) → AreAsked s asked lines → puts_in v lines ≡ []
no_puts_in s v asked [] h = refl
no_puts_in s v [] (x ∷ lines) h = absurd h
no_puts_in s v (a ∷ asked) (x ∷ lines) h = ap (λ (ws : List Write). ws ++ puts_in v lines) (no_puts s v a x.op h.0) ∙ no_puts_in s v asked lines h.1

no_such : (lines : List LaneLine) (k : ℕ) (l : LaneLine) → lines ≡ [] → slice_get lines k ≡ Some l → ⊥
no_such lines k l e f = grind arith

pub apart : (n : ℕ) (s : Plan) → IsGenerated n s → IsApart lane_of s
unfolding IsApart
apart n s g v zero k l e = ap (list_all (is_of lane_of 0)) (no_puts_at s v four_sets (lines_of s 0) g.sets k l e)
apart n s g v (suc i) k l e = by_range (nat_lt i 15) refl
  where
    less : (i : ℕ) → nat_lt i 15 ≡ true → i < 15
    less i e = grind arith

    not_less : (i : ℕ) → nat_lt i 15 ≡ false → 15 ≤ i
    not_less i e = grind arith

    by_range : (b : Bool) → nat_lt i 15 ≡ b → list_all (is_of lane_of (suc i)) (puts_to v l.op) ≡ true
    by_range true f = lines_of_lane n (suc i) v 0 200 (lines_of s (suc i)) (g.writes i (less i f)) k l e
    by_range false f = let m = not_less i f in let count = few_lanes n s g in absurd (no_such (lines_of s (suc i)) k l (no_lines s.lanes (suc i) (omega (arith, m, count))) e)

-- ## the last writes

put_filtered : (n i v a : ℕ) (ks : List ℕ) (b : Bool) → put_if b (write_of n i a) ++ map (write_of n i) ks ≡ map (write_of n i) (if b then a ∷ ks else ks)
put_filtered n i v a ks b = grind arith

puts_are : (n i v a m : ℕ) (lines : List LaneLine) → map (λ (l : LaneLine). l.op) lines ≡ map (write_at n i) (range_with_len a m) → puts_in v lines ≡ map (write_of n i) (filter (λ k. volume_at n i k == v) (range_with_len a m))
puts_are n i v a zero [] e = refl
puts_are n i v a (suc m) [] e = absurd cc
puts_are n i v a zero (x ∷ lines) e = absurd cc
puts_are n i v a (suc m) (x ∷ lines) e =
    let op : x.op ≡ write_at n i a = cc in
    let rest : map (λ (z : LaneLine). z.op) lines ≡ map (write_at n i) (range_with_len (a + 1) m) = cc in
    ap (λ (y : Op). puts_to v y ++ puts_in v lines) op
    ∙ ap (λ (ws : List Write). put_if (volume_at n i a == v) (write_of n i a) ++ ws) (puts_are n i v (a + 1) m lines rest)
    ∙ put_filtered n i v a (filter (λ k. volume_at n i k == v) (range_with_len (a + 1) m)) (volume_at n i a == v)

lane_puts : (n : ℕ) (s : Plan) (v i : ℕ) → IsGenerated n s → i < 16 → puts_in v (lines_of s i) ≡ writes_to n i v
unfolding writes_to
lane_puts n s v zero g l = no_puts_in s v four_sets (lines_of s 0) g.sets
lane_puts n s v (suc i) g l = puts_are n (suc i) v 0 200 (lines_of s (suc i)) (g.writes i (omega (arith, l)))

below_lanes : (b : ℕ) → b < 256 → b / 16 < 16
below_lanes b l = omega (arith, l)

pub ends_in_contents : (n : ℕ) (s : Plan) (trail : List Move) → IsGenerated n s → is_legal s trail ≡ true → is_complete s trail ≡ true → faults trail ≡ 0 → (v b : ℕ) → v < 8 → b < 256
    → content (history_of (state s (acts s trail)) v).writes (length (history_of (state s (acts s trail)) v).writes) b ≡ final_bytes n v b
unfolding final_bytes
ends_in_contents n s trail g legal complete clean v b l m =
    let smooth = generated_smooth n s g in
    let holds = run_holds lane_of s 4 trail (apart n s g) smooth legal clean in
    let count : length s.volumes ≡ 8 = sym (length_map shape_of s.volumes) ∙ ap length g.volumes in
    let i = lane_of b in
    let once : cursor (run s trail).moves i ≡ length (lines_of s i) = ap (λ (moves : List Move). cursor moves i) (moves-run s trail) ∙ each_line_once s trail legal complete i in
    let own : filter (is_of lane_of i) (history_of (run s trail).state v).writes ≡ writes_to n i v
    = holds.own v i (omega (arith, count, l)) ∙ ap (puts_in v) (take_all (cursor (run s trail).moves i) (lines_of s i) (omega (arith, once))) ∙ lane_puts n s v i g (below_lanes b m) in
    subst (λ st. content (history_of st v).writes (length (history_of st v).writes) b ≡ final_bytes n v b) (state-run s trail)
    (content_of_owner lane_of b (history_of (run s trail).state v).writes ∙ ap (last_bytes b zeros) own)

same_map : {X : Type 0} (f g : ℕ → X) (a n : ℕ) → ((k : ℕ) → k < a + n → f k ≡ g k) → map f (range_with_len a n) ≡ map g (range_with_len a n)
same_map f g a zero h = refl
same_map f g a (suc n) h = ap (λ x. x ∷ map f (range_with_len (a + 1) n)) (h a (omega arith)) ∙ ap (λ xs. g a ∷ xs) (same_map f g (a + 1) n (λ k l. h k (omega (arith, l))))

pub ends_in_blocks : (n : ℕ) (s : Plan) (trail : List Move) → IsGenerated n s → is_legal s trail ≡ true → is_complete s trail ≡ true → faults trail ≡ 0 → (v : ℕ) → v < 8
    → contents 256 (history_of (state s (acts s trail)) v).writes (length (history_of (state s (acts s trail)) v).writes) ≡ final_blocks n v
unfolding final_blocks
ends_in_blocks n s trail g legal complete clean v l =
    same_map (content (history_of (state s (acts s trail)) v).writes (length (history_of (state s (acts s trail)) v).writes)) (final_bytes n v) 0 256
    (λ b m. ends_in_contents n s trail g legal complete clean v b l (omega (arith, m)))

pub ends_well : (n : ℕ) (s : Plan) (trail : List Move) → IsGenerated n s → is_legal s trail ≡ true → is_complete s trail ≡ true → faults trail ≡ 0 → EndsWell n s trail
ends_well n s trail g legal complete clean =
    let smooth = generated_smooth n s g in
    let done = smooth_runs 4 s trail smooth legal complete clean in
    let count : length s.volumes ≡ 8 = sym (length_map shape_of s.volumes) ∙ ap length g.volumes in
    record {
      four = done.count;
      complete = done.complete;
      no_eviction = no_eviction s 4 trail smooth legal clean;
      images = λ v l. keeps_images 4 s trail smooth legal complete clean v (omega (arith, l, count));
      contents = ends_in_contents n s trail g legal complete clean;
    }

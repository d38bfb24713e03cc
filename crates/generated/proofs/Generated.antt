-- A generated scenario is smooth, and there is one.
use Rattle.std.proofs.Common.{◌≡◌, ℕ, zero, suc, ◌+◌, ◌*◌, ◌/◌, ◌%◌, ◌<◌, ◌≤◌, List, [], ◌∷◌, Some, refl, Bool, true, false, ap, sym, ◌∙◌, subst, length, arith}
use Rattle.std.proofs.Common.{map, Option}
use Rattle.std.specs.Prelude.{slice_get, All}
use Rattle.generated.specs.Scenario.{op_of, line_of}
use Rattle.generated.proofs.Standing.{length_map}
use Rattle.generated.proofs.Terms.{list_all, range_with_len, mod-lt, Scripted, Op, VolumeRow, Plan, WriterPlan, LanePlan, LaneLine, blocks_in, blocks_of}
use Rattle.generated.proofs.Terms.{script_in, lines_in, lines_of, IsOp, four_sets, write_at, drawn, volume_at, block_at, Shape, shape_of, own_shape}
use Rattle.generated.proofs.Terms.{IsGenerated, Free, completes_sets, is_write, AreAlone, IsSmooth, and_left, and_right, Asked, IsAsked, AreAsked, stamp_at}
use Rattle.generated.proofs.Terms.{stands_at, writing_lane, plan_of}

-- ## A generated scenario is smooth.

-- ## volumes

record IsOwn (r : VolumeRow) (g : ℕ) : Type 0 where
  blocks : r.blocks ≡ 256
  slots : r.slots ≡ 1024
  group : r.group ≡ g

is_own : (r : VolumeRow) (g : ℕ) → shape_of r ≡ own_shape g → IsOwn r g
is_own r g e = record { blocks = ap (λ (x : Shape). x.blocks) e; slots = ap (λ (x : Shape). x.slots) e; group = ap (λ (x : Shape). x.group) e }

record Parts (r : VolumeRow) (rows : List VolumeRow) (g k : ℕ) : Type 0 where
  own : IsOwn r g
  rest : map shape_of rows ≡ map own_shape (range_with_len (g + 1) k)

parts : (r : VolumeRow) (rows : List VolumeRow) (g k : ℕ) → shape_of r ∷ map shape_of rows ≡ own_shape g ∷ map own_shape (range_with_len (g + 1) k) → Parts r rows g k
parts r rows g k e =
    let head : shape_of r ≡ own_shape g = cc in
    let tail : map shape_of rows ≡ map own_shape (range_with_len (g + 1) k) = cc in
    record { own = is_own r g head; rest = tail }

alone_from : (g k : ℕ) (rows : List VolumeRow) → map shape_of rows ≡ map own_shape (range_with_len g k) → AreAlone g rows
alone_from g zero [] e = tt
alone_from g zero (r ∷ rows) e = absurd cc
alone_from g (suc k) [] e = absurd cc
alone_from g (suc k) (r ∷ rows) e =
    let p = parts r rows g k e in
    (p.own.group, subst (λ j. AreAlone j rows) (next g) (alone_from (g + 1) k rows p.rest))
  where
    next : (g : ℕ) → g + 1 ≡ suc g
    next g = omega arith

room_from : (g k : ℕ) (rows : List VolumeRow) → map shape_of rows ≡ map own_shape (range_with_len g k) → All (λ (r : VolumeRow). 4 * r.blocks ≤ r.slots) rows
room_from g zero [] e i x l = absurd (omega (arith, l))
room_from g zero (r ∷ rows) e i x l = absurd cc
room_from g (suc k) [] e i x l = absurd cc
room_from g (suc k) (r ∷ rows) e zero x l = let p = parts r rows g k e in let b = p.own.blocks in let d = p.own.slots in omega (arith, b, d)
room_from g (suc k) (r ∷ rows) e (suc i) x l = room_from (g + 1) k rows (parts r rows g k e).rest i x (omega (arith, l))

pub blocks_from : (g k v : ℕ) (rows : List VolumeRow) → map shape_of rows ≡ map own_shape (range_with_len g k) → v < k → blocks_in (slice_get rows v) ≡ 256
blocks_from g zero v rows e l = absurd (omega (arith, l))
blocks_from g (suc k) v [] e l = absurd cc
blocks_from g (suc k) zero (r ∷ rows) e l = (parts r rows g k e).own.blocks
blocks_from g (suc k) (suc v) (r ∷ rows) e l = blocks_from (g + 1) k v rows (parts r rows g k e).rest (omega (arith, l))

-- ## writers

is_empty : List Scripted → Bool
is_empty [] = true
is_empty (x ∷ xs) = false

empty_is : (xs : List Scripted) → is_empty xs ≡ true → xs ≡ []
unfolding is_empty
empty_is [] e = refl
empty_is (x ∷ xs) e = absurd cc

no_script : (ws : List WriterPlan) (w : ℕ) → list_all is_empty (map (λ (x : WriterPlan). x.script) ws) ≡ true → script_in (slice_get ws w) ≡ []
no_script [] zero e = refl
no_script [] (suc w) e = refl
no_script (x ∷ ws) zero e = empty_is x.script (and_left (is_empty x.script) _ e)
no_script (x ∷ ws) (suc w) e = no_script ws w (and_right (is_empty x.script) (list_all is_empty (map (λ (y : WriterPlan). y.script) ws)) e)

none_scripted : list_all is_empty ([] ∷ [] ∷ [] ∷ []) ≡ true
unfolding is_empty
none_scripted = refl

-- ## writes

pub volume_below : (n i k : ℕ) → volume_at n i k < 8
unfolding volume_at
volume_below n i k = mod-lt (drawn n i k) (omega arith)

pub block_below : (n i k : ℕ) → i < 16 → block_at n i k < 256
unfolding block_at
block_below n i k l = let h : (drawn n i k / 8) % 16 < 16 = mod-lt (drawn n i k / 8) (omega arith) in omega (arith, l, h)

IsWriteOf : Plan → Op → Type 0
IsWriteOf s op = (is_write op ≡ true) × IsOp s op

good_write : (s : Plan) (n i k : ℕ) → IsGenerated n s → i < 16 → IsWriteOf s (write_at n i k)
unfolding IsWriteOf
good_write s n i k g l =
    let v = volume_at n i k in
    let below = volume_below n i k in
    let block = block_below n i k l in
    let blocks : blocks_of s v ≡ 256 = blocks_from 0 8 v s.volumes g.volumes below in
    let count : length s.volumes ≡ 8 = sym (length_map shape_of s.volumes) ∙ ap length g.volumes in
    (refl, (omega (arith, below, count), omega (arith, block, blocks)))

all_good : (s : Plan) (n i a k : ℕ) (lines : List LaneLine) → ((j : ℕ) → IsWriteOf s (write_at n i j)) → map (λ (l : LaneLine). l.op) lines ≡ map (write_at n i) (range_with_len a k) → All (λ (l : LaneLine). IsWriteOf s l.op) lines
all_good s n i a k [] good e j x l = absurd (omega (arith, l))
all_good s n i a zero (y ∷ lines) good e j x l = absurd cc
all_good s n i a (suc k) (y ∷ lines) good e zero x l = let same : y.op ≡ write_at n i a = cc in subst (IsWriteOf s) (sym same) (good a)
all_good s n i a (suc k) (y ∷ lines) good e (suc j) x l =
    let rest : map (λ (z : LaneLine). z.op) lines ≡ map (write_at n i) (range_with_len (a + 1) k) = cc in
    all_good s n i (a + 1) k lines good rest j x (omega (arith, l))

pub no_lines : (lanes : List LanePlan) (i : ℕ) → length lanes ≤ i → lines_in (slice_get lanes i) ≡ []
no_lines [] zero l = refl
no_lines [] (suc i) l = refl
no_lines (x ∷ lanes) zero l = absurd (omega (arith, l))
no_lines (x ∷ lanes) (suc i) l = no_lines lanes i (omega (arith, l))

none_in_none : (s : Plan) (lines : List LaneLine) → lines ≡ [] → All (λ (l : LaneLine). IsWriteOf s l.op) lines
none_in_none s [] e j x l = absurd (omega (arith, l))
none_in_none s (y ∷ lines) e j x l = absurd cc

pub few_lanes : (n : ℕ) (s : Plan) → IsGenerated n s → length s.lanes ≡ 16
few_lanes n s g = sym (length_map (λ (l : LanePlan). l.acts_as) s.lanes) ∙ ap length g.as_whom

writes_at : (s : Plan) (n i : ℕ) → IsGenerated n s → All (λ (l : LaneLine). IsWriteOf s l.op) (lines_of s (suc i))
writes_at s n i g = by_range (Rattle.std.specs.Prelude.nat_lt i 15) refl
  where
    less : (i : ℕ) → Rattle.std.specs.Prelude.nat_lt i 15 ≡ true → i < 15
    less i e = grind arith

    not_less : (i : ℕ) → Rattle.std.specs.Prelude.nat_lt i 15 ≡ false → 15 ≤ i
    not_less i e = grind arith

    by_range : (b : Bool) → Rattle.std.specs.Prelude.nat_lt i 15 ≡ b → All (λ (l : LaneLine). IsWriteOf s l.op) (lines_of s (suc i))
    by_range true e = let l = less i e in all_good s n (suc i) 0 200 (lines_of s (suc i)) (λ j. good_write s n (suc i) j g (omega (arith, l))) (g.writes i l)
    by_range false e = let l = not_less i e in let count = few_lanes n s g in none_in_none s (lines_of s (suc i)) (no_lines s.lanes (suc i) (omega (arith, l, count)))

-- ## all of it

pub generated_smooth : (n : ℕ) (s : Plan) → IsGenerated n s → IsSmooth 4 s
unfolding IsWriteOf
generated_smooth n s g = record {
  asked = four_sets;
  sets = g.sets;
  leads = ap (λ c. completes_sets c 4 four_sets (Some (record { place = Free; sets = 0; volumes = [] }))) (sym (length_map shape_of s.volumes) ∙ ap length g.volumes);
  few = omega arith;
  writes = λ i. writes_at s n i g;
  scripts = λ w. no_script s.writers w (ap (list_all is_empty) g.scripts ∙ none_scripted);
  alone = alone_from 0 8 s.volumes g.volumes;
  room = room_from 0 8 s.volumes g.volumes;
}

-- ## The plan that is written down is a generated scenario, so the laws speak of something.

asked_op : (n : ℕ) (a : Asked) → IsAsked (plan_of n) a (op_of a)
asked_op n a = grind arith

are_asked : (n : ℕ) (asked : List Asked) → AreAsked (plan_of n) asked (map line_of (map op_of asked))
are_asked n [] = tt
are_asked n (a ∷ asked) = (asked_op n a, are_asked n asked)

ops_back : (ops : List Op) → map (λ (l : LaneLine). l.op) (map line_of ops) ≡ ops
ops_back [] = refl
ops_back (op ∷ ops) = ap (λ xs. op ∷ xs) (ops_back ops)

lane_at : (n a m i : ℕ) → i < m → slice_get (map (writing_lane n) (range_with_len a m)) i ≡ Some (writing_lane n (a + i))
lane_at n a zero i l = absurd (omega (arith, l))
lane_at n a (suc m) zero l = ap (λ x. Some (writing_lane n x)) (none a)
  where
    none : (a : ℕ) → a ≡ a + 0
    none a = omega arith
lane_at n a (suc m) (suc i) l = lane_at n (a + 1) m i (omega (arith, l)) ∙ ap (λ x. Some (writing_lane n x)) (shift a i)
  where
    shift : (a i : ℕ) → a + 1 + i ≡ a + suc i
    shift a i = omega arith

writes_of : (n i : ℕ) → i < 15 → map (λ (l : LaneLine). l.op) (lines_of (plan_of n) (suc i)) ≡ map (write_at n (suc i)) (range_with_len 0 200)
writes_of n i l =
    ap (λ (x : Option LanePlan). map (λ (y : LaneLine). y.op) (lines_in x)) (lane_at n 0 15 i l)
    ∙ ops_back (map (write_at n (suc (0 + i))) (range_with_len 0 200))
    ∙ ap (λ j. map (write_at n (suc j)) (range_with_len 0 200)) (none i)
  where
    none : (i : ℕ) → 0 + i ≡ i
    none i = omega arith

pub plan_is_generated : (n : ℕ) → IsGenerated n (plan_of n)
plan_is_generated n = grind (arith, are_asked, writes_of)

pub first_volume : volume_at 7 1 0 ≡ 1
unfolding volume_at drawn stands_at
first_volume = refl

pub first_block : block_at 7 1 0 ≡ 18
unfolding block_at drawn stands_at
first_block = refl

pub first_stamp : stamp_at 1 0 ≡ 1000000
unfolding stamp_at
first_stamp = refl

pub last_volume : volume_at 7 1 199 ≡ 0
unfolding volume_at drawn stands_at
last_volume = refl

pub last_block : block_at 7 1 199 ≡ 16
unfolding block_at drawn stands_at
last_block = refl

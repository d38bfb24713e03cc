-- The kept images that go for a write are those of the definitions, that of the set in progress just where the sets go up to it.
use Rattle.std.proofs.Common.{◌≡◌, ℕ, zero, suc, ◌+◌, ◌<◌, ◌≤◌, ◌==◌, List, [], ◌∷◌, refl, ap, sym, ◌∙◌, arith, Bool, true, false, Option, Some, None}
use Rattle.std.proofs.Common.{slice_get, ◌&&◌, not, find, nat_lt, is_some, if◌then◌else◌, ◌++◌, length, filter, nat_le}
use Rattle.vss_world.proofs.SetGoesOn.{skip}
use Rattle.vss_world.proofs.Words.{History, Image, Placed, UpTo, after_set, and-true, cond-false, cond-true, eqb-true, evicted_up_to, gone_up_to, group_used}
use Rattle.vss_world.proofs.Words.{has_image, has_lost_image, lacks_slot, le-ltb, lt-ltb, nat_tests, needs_slot_in, or_from, or_parts, point_in, range_with_len}
use Rattle.vss_world.proofs.Words.{unwrap_or, Evicted, NumberedFrom, Plan, SetRow, State, eq-eqb, evicted_for, evicted_of, filter-append, flat_map, going_up_to}
use Rattle.vss_world.proofs.Words.{group_of, has_complete, holders, images_going, is_complete, is_kept_set, le-leb, leb-false, lt-leb, ne_eqb, none_below}
use Rattle.vss_world.proofs.Words.{or-false, volumes_losing}

-- ## For a write the image of the set in progress goes just where the sets go up to it.

-- no image of these volumes is of a set after n
abbrev pub AllUpTo : ℕ → List History → Type 0
AllUpTo n [] = Unit {0}
AllUpTo n (h ∷ hs) = UpTo n h.images × AllUpTo n hs

-- ## one history

-- beyond the greatest set nothing is left
all_gone : (n : ℕ) (images : List Image) → UpTo n images → after_set n images ≡ []
all_gone n [] up = refl
all_gone n (i ∷ images) up = cond-false (nat_lt n i.set) (i ∷ after_set n images) (after_set n images) (le-ltb n i.set up.0) ∙ all_gone n images up.1

if_kept : (b c : Bool) (p : ℕ) (i : Image) (n : ℕ) (xs : List Image) (o : Option ℕ) → (i.set == n) ≡ c → (c ≡ true → b ≡ true) → point_in n xs ≡ o
    → point_in n (if b then i ∷ xs else xs) ≡ (if c then Some i.point else o)
if_kept b c p i n xs o e f g = grind arith

-- the image of a later set stays
pub stays : (m n : ℕ) (images : List Image) → m < n → point_in n (after_set m images) ≡ point_in n images
stays m n [] l = refl
stays m n (i ∷ images) l =
    if_kept (nat_lt m i.set) (i.set == n) i.point i n (after_set m images) (point_in n images) refl (λ e. let same = eqb-true i.set n e in lt-ltb m i.set (omega (arith, same, l)))
    (stays m n images l)

none_if : (b : Bool) (p : ℕ) (o : Option ℕ) → is_some (if b then Some p else o) ≡ false → (b ≡ false) × (is_some o ≡ false)
none_if b p o e = grind arith

-- where no image is of the next set, one more set takes nothing
no_more : (k : ℕ) (images : List Image) → is_some (point_in (suc k) images) ≡ false → after_set (suc k) images ≡ after_set k images
no_more k [] e = refl
no_more k (i ∷ images) e =
    let n = none_if (i.set == suc k) i.point (point_in (suc k) images) e in
    by_test (nat_lt k i.set) refl (nat_lt (suc k) i.set) refl n.0 (no_more k images n.1)
  where
    by_test : (b : Bool) → nat_lt k i.set ≡ b → (c : Bool) → nat_lt (suc k) i.set ≡ c → (i.set == suc k) ≡ false → after_set (suc k) images ≡ after_set k images
        → (if nat_lt (suc k) i.set then i ∷ after_set (suc k) images else after_set (suc k) images) ≡ (if nat_lt k i.set then i ∷ after_set k images else after_set k images)
    by_test true f true g h rest = cond-true (nat_lt (suc k) i.set) (i ∷ after_set (suc k) images) (after_set (suc k) images) g
        ∙ ap (λ (xs : List Image). i ∷ xs) rest ∙ sym (cond-true (nat_lt k i.set) (i ∷ after_set k images) (after_set k images) f)
    by_test false f false g h rest = cond-false (nat_lt (suc k) i.set) (i ∷ after_set (suc k) images) (after_set (suc k) images) g
        ∙ rest ∙ sym (cond-false (nat_lt k i.set) (i ∷ after_set k images) (after_set k images) f)
    by_test true f false g h rest = absurd (apart k i.set f g h)
      where
        apart : (k n : ℕ) → nat_lt k n ≡ true → nat_lt (suc k) n ≡ false → (n == suc k) ≡ false → ⊥
        apart k n f g h = grind (arith, nat_tests)
    by_test false f true g h rest = absurd (apart k i.set f g)
      where
        apart : (k n : ℕ) → nat_lt k n ≡ false → nat_lt (suc k) n ≡ true → ⊥
        apart k n f g = grind (arith, nat_tests)

-- ## all of them

pub and_not : (x : Bool) → (x && not x) ≡ false
and_not x = grind arith

lost_itself : (n : ℕ) (hs : List History) → has_lost_image n hs hs ≡ false
lost_itself n [] = refl
lost_itself n (h ∷ hs) = or_from (has_image n h && not (has_image n h)) (has_lost_image n hs hs) (and_not (has_image n h)) (lost_itself n hs)

-- the image of a later set is not lost
pub not_lost : (m n : ℕ) (ps : List Placed) (hs : List History) → m < n → has_lost_image n hs (gone_up_to m ps hs) ≡ false
not_lost m n [] hs l = lost_itself n hs
not_lost m n (p ∷ ps) [] l = refl
not_lost m n (p ∷ ps) (h ∷ hs) l = or_from _ (has_lost_image n hs (gone_up_to m ps hs)) (grind (arith, stays, and_not)) (not_lost m n ps hs l)

lost_if : (b : Bool) (k : ℕ) (h : History) → UpTo (suc k) h.images
    → (has_image (suc k) h && not (has_image (suc k) (if b then record { writes = h.writes; images = after_set (suc k) h.images } else h))) ≡ false
    → (if b then record { writes = h.writes; images = after_set (suc k) h.images } else h) ≡ (if b then record { writes = h.writes; images = after_set k h.images } else h)
lost_if b k h up e = grind (arith, all_gone, no_more, and-true)

-- where the image of the greatest set is not lost, it is on no volume of the group
same_gone : (k : ℕ) (ps : List Placed) (hs : List History) → AllUpTo (suc k) hs → has_lost_image (suc k) hs (gone_up_to (suc k) ps hs) ≡ false → gone_up_to (suc k) ps hs ≡ gone_up_to k ps hs
same_gone k [] hs up e = refl
same_gone k (p ∷ ps) [] up e = refl
same_gone k (p ∷ ps) (h ∷ hs) up e =
    let parts = or_parts _ (has_lost_image (suc k) hs (gone_up_to (suc k) ps hs)) e in
    let here = lost_if p.within k h up.0 parts.0 in
    let rest = same_gone k ps hs up.1 parts.1 in
    ap (λ (x : History). x ∷ gone_up_to (suc k) ps hs) here ∙ ap (λ (xs : List History). (if p.within then record { writes = h.writes; images = after_set k h.images } else h) ∷ xs) rest

-- no slot is needed where all images of the volume are gone
needs_if : (b c : Bool) (n b_ : ℕ) (h : History) → b ≡ true → UpTo n h.images → needs_slot_in (Some (if b then record { writes = h.writes; images = after_set n h.images } else h)) b_ ≡ false
needs_if b c n b_ h e up = grind (arith, all_gone)

needs_none : (n v b : ℕ) (ps : List Placed) (hs : List History) (p : Placed) → slice_get ps v ≡ Some p → p.within ≡ true → AllUpTo n hs → needs_slot_in (slice_get (gone_up_to n ps hs) v) b ≡ false
needs_none n v b [] hs p e w up = cc
needs_none n zero b (q ∷ ps) [] p e w up = refl
needs_none n (suc v) b (q ∷ ps) [] p e w up = refl
needs_none n zero b (q ∷ ps) (h ∷ hs) p e w up = let same : q ≡ p = cc in needs_if q.within true n b h (ap (λ (x : Placed). x.within) same ∙ w) up.0
needs_none n (suc v) b (q ∷ ps) (h ∷ hs) p e w up = needs_none n v b ps hs p e w up.1

-- ## the least number

found_below : (f : ℕ → Bool) (a n x : ℕ) → find f (range_with_len a n) ≡ Some x → x < a + n
found_below f a zero x e = cc
found_below f a (suc n) x e = grind (arith, (found_below f (a + 1) n x))

none_by : (t u : Bool) (f : ℕ → Bool) (a n k : ℕ) (o : Option ℕ) → f a ≡ t → (a == k) ≡ u → (if t then Some a else o) ≡ None → a ≤ k → (o ≡ None → a + 1 ≤ k → f k ≡ false) → f k ≡ false
none_by t u f a n k o g i e l h = grind arith

none_found : (f : ℕ → Bool) (a n k : ℕ) → find f (range_with_len a n) ≡ None → a ≤ k → k < a + n → f k ≡ false
none_found f a zero k e l m = absurd (omega arith)
none_found f a (suc n) k e l m = none_by (f a) (a == k) f a n k (find f (range_with_len (a + 1) n)) refl refl e l (λ h i. none_found f (a + 1) n k h i (omega (arith, m)))

pub up_to_most : (f : ℕ → Bool) (n : ℕ) → unwrap_or (find f (range_with_len 0 n)) n ≤ n
up_to_most f n = grind (arith, found_below)

-- where sets go up to the greatest, its image goes
pub is_lost : (k slots v b : ℕ) (ps : List Placed) (hs : List History) (p : Placed) → slice_get ps v ≡ Some p → p.within ≡ true → AllUpTo (suc k) hs → evicted_up_to (suc k) slots ps v b hs ≡ suc k
    → has_lost_image (suc k) hs (gone_up_to (suc k) ps hs) ≡ true
is_lost k slots v b ps hs p at within up e = by_test (has_lost_image (suc k) hs (gone_up_to (suc k) ps hs)) refl
  where
    none : (o : Option ℕ) → find (λ m. not (lacks_slot slots ps v b (gone_up_to m ps hs))) (range_with_len 0 (suc k)) ≡ o → unwrap_or o (suc k) ≡ suc k → o ≡ None
    none None f g = refl
    none (Some x) f g = let l = found_below (λ m. not (lacks_slot slots ps v b (gone_up_to m ps hs))) 0 (suc k) x f in absurd (omega (arith, l, g))

    at_k : not (lacks_slot slots ps v b (gone_up_to k ps hs)) ≡ false
    at_k = none_found (λ m. not (lacks_slot slots ps v b (gone_up_to m ps hs))) 0 (suc k) k (none _ refl e) (omega arith) (omega arith)

    at_last : lacks_slot slots ps v b (gone_up_to (suc k) ps hs) ≡ false
    at_last = ap (λ (t : Bool). t && (group_used ps (gone_up_to (suc k) ps hs) == slots)) (needs_none (suc k) v b ps hs p at within up)

    by_test : (t : Bool) → has_lost_image (suc k) hs (gone_up_to (suc k) ps hs) ≡ t → t ≡ true
    by_test true f = refl
    by_test false f =
        let same = same_gone k ps hs up f in
        let q : lacks_slot slots ps v b (gone_up_to k ps hs) ≡ false = ap (λ (xs : List History). lacks_slot slots ps v b xs) (sym same) ∙ at_last in
        let w : not false ≡ false = ap not (sym q) ∙ at_k in
        cc

pub lost_at : (n slots v b : ℕ) (ps : List Placed) (hs : List History) (p : Placed) → 0 < n → slice_get ps v ≡ Some p → p.within ≡ true → AllUpTo n hs → evicted_up_to n slots ps v b hs ≡ n
    → has_lost_image n hs (gone_up_to n ps hs) ≡ true
lost_at n slots v b ps hs p l at within up e = grind (arith, is_lost)

-- ## The kept images that go for a write: those that the provider tells, but for sets that are not complete, are those of the definitions.

-- ## the volumes that lose an image

above_most : (s n m : ℕ) → nat_le n m ≡ true → nat_lt m s ≡ true → (s == n) ≡ false
above_most s n m e f = grind (arith, nat_tests)

gone_image : (n m : ℕ) (images : List Image) → nat_le n m ≡ true → point_in n (after_set m images) ≡ None
gone_image n m [] e = refl
gone_image n m (i ∷ images) e = by_test (nat_lt m i.set) refl (gone_image n m images e)
  where
    by_test : (b : Bool) → nat_lt m i.set ≡ b → point_in n (after_set m images) ≡ None → point_in n (if b then i ∷ after_set m images else after_set m images) ≡ None
    by_test true f rest = ap (λ (t : Bool). if t then Some i.point else point_in n (after_set m images)) (above_most i.set n m e f) ∙ rest
    by_test false f rest = rest

same_test : (a b : Bool) (v : ℕ) (xs ys : List ℕ) → a ≡ b → xs ≡ ys → (if a then v ∷ xs else xs) ≡ (if b then v ∷ ys else ys)
same_test a b v xs ys e f = ap (λ (t : Bool). if t then v ∷ xs else xs) e ∙ ap (λ (zs : List ℕ). if b then v ∷ zs else zs) f

none_lost : (n v : ℕ) (hs : List History) → volumes_losing n v hs hs ≡ []
none_lost n v [] = refl
none_lost n v (h ∷ hs) = same_test (has_image n h && not (has_image n h)) false v (volumes_losing n (v + 1) hs hs) [] (and_not (has_image n h)) (none_lost n (v + 1) hs)

losing_is : (n m v : ℕ) (ps : List Placed) (hs : List History) → nat_le n m ≡ true → volumes_losing n v hs (gone_up_to m ps hs) ≡ holders n v ps hs
losing_is n m v [] hs e = none_lost n v hs
losing_is n m v (p ∷ ps) [] e = refl
losing_is n m v (p ∷ ps) (h ∷ hs) e =
    same_test _ (p.within && has_image n h) v (volumes_losing n (v + 1) hs (gone_up_to m ps hs)) (holders n (v + 1) ps hs) (here p.within) (losing_is n m (v + 1) ps hs e)
  where
    here : (b : Bool) → (has_image n h && not (has_image n (if b then record { writes = h.writes; images = after_set m h.images } else h))) ≡ (b && has_image n h)
    here true = ap (λ (o : Option ℕ). has_image n h && not (is_some o)) (gone_image n m h.images e) ∙ and-true (has_image n h)
    here false = and_not (has_image n h)

not_losing : (n m v : ℕ) (ps : List Placed) (hs : List History) → nat_le n m ≡ false → volumes_losing n v hs (gone_up_to m ps hs) ≡ []
not_losing n m v [] hs e = none_lost n v hs
not_losing n m v (p ∷ ps) [] e = refl
not_losing n m v (p ∷ ps) (h ∷ hs) e = same_test _ false v (volumes_losing n (v + 1) hs (gone_up_to m ps hs)) [] (here p.within) (not_losing n m (v + 1) ps hs e)
  where
    here : (b : Bool) → (has_image n h && not (has_image n (if b then record { writes = h.writes; images = after_set m h.images } else h))) ≡ false
    here true = ap (λ (o : Option ℕ). has_image n h && not (is_some o)) (stays m n h.images (leb-false n m e)) ∙ and_not (has_image n h)
    here false = and_not (has_image n h)

-- ## the images of complete sets among them

kept_of_set : (test : ℕ → Bool) (n : ℕ) (b : Bool) (vs : List ℕ) → test n ≡ b → filter (λ (i : Evicted). test i.set) (evicted_of n vs) ≡ (if b then evicted_of n vs else [])
kept_of_set test n true [] e = refl
kept_of_set test n false [] e = refl
kept_of_set test n true (v ∷ vs) e =
    ap (λ (t : Bool). if t then record { set = n; volume = v } ∷ filter (λ (i : Evicted). test i.set) (evicted_of n vs) else filter (λ (i : Evicted). test i.set) (evicted_of n vs)) e
    ∙ ap (λ (xs : List Evicted). record { set = n; volume = v } ∷ xs) (kept_of_set test n true vs e)
kept_of_set test n false (v ∷ vs) e =
    ap (λ (t : Bool). if t then record { set = n; volume = v } ∷ filter (λ (i : Evicted). test i.set) (evicted_of n vs) else filter (λ (i : Evicted). test i.set) (evicted_of n vs)) e
    ∙ kept_of_set test n false vs e

abbrev kept_going : (ℕ → Bool) → (ℕ → List ℕ) → ℕ → List Evicted
kept_going test volumes n = if test n then evicted_of n (volumes n) else []

kept_all : (test : ℕ → Bool) (volumes : ℕ → List ℕ) (ns : List ℕ) → filter (λ (i : Evicted). test i.set) (flat_map (λ (n : ℕ). evicted_of n (volumes n)) ns) ≡ flat_map (kept_going test volumes) ns
kept_all test volumes [] = refl
kept_all test volumes (n ∷ ns) =
    filter-append (λ (i : Evicted). test i.set) (evicted_of n (volumes n)) (flat_map (λ (k : ℕ). evicted_of k (volumes k)) ns)
    ∙ ap (λ (xs : List Evicted). xs ++ filter (λ (i : Evicted). test i.set) (flat_map (λ (k : ℕ). evicted_of k (volumes k)) ns)) (kept_of_set test n (test n) (volumes n) refl)
    ∙ ap (λ (xs : List Evicted). kept_going test volumes n ++ xs) (kept_all test volumes ns)

-- ## set by set

abbrev completes : List SetRow → List SetRow
completes rows = filter (λ (r : SetRow). is_complete r.result) rows

abbrev of_rows : (ℕ → List Evicted) → List SetRow → List Evicted
of_rows f rows = flat_map (λ (r : SetRow). f r.number) (completes rows)

row_first : (f : ℕ → List Evicted) (r : SetRow) (rows : List SetRow) (b : Bool) → is_complete r.result ≡ b → of_rows f (r ∷ rows) ≡ (if b then f r.number else []) ++ of_rows f rows
row_first f r rows b e = grind arith

past_rows : (f : ℕ → List Evicted) (k : ℕ) (rows : List SetRow) → NumberedFrom k rows → ((n : ℕ) → k ≤ n → f n ≡ []) → of_rows f rows ≡ []
past_rows f k [] numbered none = refl
past_rows f k (r ∷ rows) numbered none =
    row_first f r rows (is_complete r.result) refl ∙ (grind (arith, (let here = numbered.0 in none r.number (omega (arith, here)))))
    ∙ past_rows f (k + 1) rows numbered.1 (λ n l. none n (omega (arith, l)))

-- a row further on has another number
later_rows : (m n : ℕ) (r : SetRow) (rows : List SetRow) → r.number ≡ m → m + 1 ≤ n → has_complete (r ∷ rows) n ≡ has_complete rows n
later_rows m n r rows here l = skip (r.number == n) (is_complete r.result) (has_complete rows n) (ne_eqb r.number n (λ e. omega (arith, here, l, e)))

rows_are : (f g : ℕ → List Evicted) (k j : ℕ) (rows : List SetRow) → NumberedFrom k rows → ((n : ℕ) → k ≤ n → n < k + j → g n ≡ (if has_complete rows n then f n else []))
    → ((n : ℕ) → k + j ≤ n → f n ≡ []) → j ≤ length rows → flat_map g (range_with_len k j) ≡ of_rows f rows
rows_are f g k zero rows numbered near far few = sym (past_rows f k rows numbered (λ n l. far n (omega (arith, l))))
rows_are f g k (suc j) [] numbered near far few = absurd (omega (arith, few))
rows_are f g k (suc j) (r ∷ rows) numbered near far few =
    let here : r.number ≡ k = numbered.0 in
    ap (λ (xs : List Evicted). xs ++ flat_map g (range_with_len (k + 1) j))
    (near k (omega arith) (omega arith) ∙ ap (λ (n : ℕ). if has_complete (r ∷ rows) n then f n else []) (sym here)
    ∙ ap (λ (t : Bool). if t then f r.number else []) (grind (arith, eq-eqb, none_below, or-false)))
    ∙ ap (λ (xs : List Evicted). (if is_complete r.result then f r.number else []) ++ xs)
    (rows_are f g (k + 1) j rows numbered.1
    (λ n l m. near n (omega (arith, l)) (omega (arith, m)) ∙ ap (λ (t : Bool). if t then f n else []) (later_rows k n r rows here l)) (λ n l. far n (omega (arith, l))) (omega (arith, few)))
    ∙ sym (row_first f r rows (is_complete r.result) refl)

-- ## all of them

pub evicted_is : (s : Plan) (v b : ℕ) (st : State) → NumberedFrom 1 st.sets → going_up_to s v b st ≤ length st.sets
    → filter (λ (i : Evicted). is_kept_set st i.set) (images_going (going_up_to s v b st) (group_of s v) st.volumes) ≡ evicted_for s st v b
evicted_is s v b st numbered few =
    let m = going_up_to s v b st in
    let ps = group_of s v in
    let volumes : ℕ → List ℕ = λ n. holders n 0 ps st.volumes in
    kept_all (is_kept_set st) volumes (range_with_len 1 m)
    ∙ rows_are (λ n. evicted_of n (volumes_losing n 0 st.volumes (gone_up_to m ps st.volumes))) (kept_going (is_kept_set st) volumes) 1 m st.sets numbered
    (λ n low l. near n (is_kept_set st n) refl (le-leb n m (omega (arith, l)))) (λ n l. ap (evicted_of n) (not_losing n m 0 ps st.volumes (lt-leb n m (omega (arith, l))))) few
  where
    near : (n : ℕ) (t : Bool) → is_kept_set st n ≡ t → nat_le n (going_up_to s v b st) ≡ true
        → (if is_kept_set st n then evicted_of n (holders n 0 (group_of s v) st.volumes) else [])
        ≡ (if is_kept_set st n then evicted_of n (volumes_losing n 0 st.volumes (gone_up_to (going_up_to s v b st) (group_of s v) st.volumes)) else [])
    near n true e l =
        ap (λ (us : List ℕ). if is_kept_set st n then evicted_of n us else [])
        (sym (losing_is n (going_up_to s v b st) 0 (group_of s v) st.volumes l))
    near n false e l =
        ap (λ (t : Bool). if t then evicted_of n (holders n 0 (group_of s v) st.volumes) else []) e
        ∙ sym (ap (λ (t : Bool). if t then evicted_of n (volumes_losing n 0 st.volumes (gone_up_to (going_up_to s v b st) (group_of s v) st.volumes)) else []) e)

-- Each move of a legal trail without faults keeps a run on its way, and a write finds its slot.
use Rattle.std.proofs.Common.{◌≡◌, ℕ, zero, suc, ◌+◌, ◌*◌, ◌<◌, ◌≤◌, ◌==◌, List, [], ◌∷◌, length, map, refl, ap, sym, ◌∙◌, subst, arith, Bool, true, false}
use Rattle.std.proofs.Common.{Option, Some, None}
use Rattle.std.specs.Prelude.{slice_get, filter, find, not, nat_lt, unwrap_or, ◌&&◌, ◌||◌, if◌then◌else◌, All}
use Rattle.set_agenda.proofs.Closings.{unless}
use Rattle.generated.proofs.Terms.{range_with_len, nat_tests, mul-le-mul_right, mul_comm, mul-add, mul-one, Write, History, Image, names, after_set, AreInTime}
use Rattle.generated.proofs.Terms.{Placed, used, group_used, lacks_slot, needs_slot, needs_slot_in, gone_up_to, evicted_up_to, writes_since, VolumeRow, Plan}
use Rattle.generated.proofs.Terms.{blocks_in, slots_in, placed, placed_in, SetRow, history_in, history_of, has_image, has_lost_image, set_loses_image, cleared}
use Rattle.generated.proofs.Terms.{Act, state, NumberedFrom, AreLive, AllLive, is_live, has_failed, images_in_time, orderly, AreAlone, apart, live_at}

-- ## few images

pub record IsWithin (j n top : ℕ) : Type 0 where
  pub above : j ≤ n
  pub below : n < top

pub live_within : (j n : ℕ) (rows : List SetRow) → NumberedFrom j rows → is_live rows n ≡ true → IsWithin j n (j + length rows)
live_within j n [] numbered live = absurd cc
live_within j n (r ∷ rows) numbered live = by_test (r.number == n) (not (has_failed r.result)) refl live (λ l. live_within (j + 1) n rows numbered.1 l)
  where
    same : (a b : ℕ) → (a == b) ≡ true → a ≡ b
    same a b f = grind arith

    by_test : (t f : Bool) → (r.number == n) ≡ t → ((t && f) || is_live rows n) ≡ true → (is_live rows n ≡ true → IsWithin (j + 1) n (j + 1 + length rows)) → IsWithin j n (j + length (r ∷ rows))
    by_test true f e h later = let g = same r.number n e in let d = numbered.0 in record { above = omega (arith, g, d); below = omega (arith, g, d) }
    by_test false f e h later = let w = later h in let a = w.above in let b = w.below in record { above = omega (arith, a); below = omega (arith, b) }

pub rising : (rows : List SetRow) (writes : ℕ) (i : Image) (images : List Image) → NumberedFrom 1 rows → AreLive rows (i ∷ images) → AreInTime writes (i ∷ images) → i.set + length images ≤ length rows
rising rows writes i [] numbered live time = let w = live_within 1 i.set rows numbered live.0 in let b = w.below in omega (arith, b)
rising rows writes i (j ∷ images) numbered live time =
    let h = rising rows writes j images numbered live.1 time.2 in
    let less = time.1.0 in
    omega (arith, h, less)

pub few_in : (rows : List SetRow) (writes : ℕ) (images : List Image) → NumberedFrom 1 rows → AreLive rows images → AreInTime writes images → length images ≤ length rows
few_in rows writes [] numbered live time = omega arith
few_in rows writes (i ∷ images) numbered live time =
    let h = rising rows writes i images numbered live time in
    let w = live_within 1 i.set rows numbered live.0 in
    let a = w.above in
    omega (arith, h, a)

-- a volume has at most as many images as sets were started
pub few_images : (s : Plan) (so_far : List Act) (v : ℕ) → length (history_of (state s so_far) v).images ≤ length (state s so_far).sets
few_images s so_far v =
    let kept = orderly s so_far in
    few_in (state s so_far).sets _ (history_of (state s so_far) v).images kept.numbered (live_at (state s so_far).sets (state s so_far).volumes v kept.live) (images_in_time s so_far v)

-- ## used slots

filter_most : (f : ℕ → Bool) (a n : ℕ) → length (filter f (range_with_len a n)) ≤ n
filter_most f a zero = omega arith
filter_most f a (suc n) = by_test (f a) (filter_most f (a + 1) n)
  where
    by_test : (t : Bool) → length (filter f (range_with_len (a + 1) n)) ≤ n → length (if t then a ∷ filter f (range_with_len (a + 1) n) else filter f (range_with_len (a + 1) n)) ≤ suc n
    by_test true l = omega (arith, l)
    by_test false l = omega (arith, l)

filter_few : (f : ℕ → Bool) (a n i : ℕ) → i < n → f (a + i) ≡ false → length (filter f (range_with_len a n)) < n
filter_few f a zero i l no_f = absurd (omega (arith, l))
filter_few f a (suc n) zero l no_f =
    let none : a + 0 ≡ a = omega arith in
    let most = filter_most f (a + 1) n in
    let e = ap (λ (t : Bool). length (if t then a ∷ filter f (range_with_len (a + 1) n) else filter f (range_with_len (a + 1) n))) (ap f (sym none) ∙ no_f) in
    omega (arith, most, e)
filter_few f a (suc n) (suc i) l no_f =
    let e : a + suc i ≡ a + 1 + i = omega arith in
    by_test (f a) (filter_few f (a + 1) n i (omega (arith, l)) (ap f (sym e) ∙ no_f))
  where
    by_test : (t : Bool) → length (filter f (range_with_len (a + 1) n)) < n → length (if t then a ∷ filter f (range_with_len (a + 1) n) else filter f (range_with_len (a + 1) n)) < suc n
    by_test true k = omega (arith, k)
    by_test false k = omega (arith, k)

-- so many blocks for each image
all_of : ℕ → List Image → ℕ
all_of n [] = 0
all_of n (i ∷ images) = n + all_of n images

used_less : (n b : ℕ) (ws : List Write) (images : List Image) → b < n → needs_slot ws images b ≡ true → used n ws images < all_of n images
unfolding all_of
used_less n b ws [] l e = absurd cc
used_less n b ws (i ∷ []) l e =
    let zero_more : 0 + b ≡ b = omega arith in
    let fewer = filter_few (names (writes_since ws i.point [])) 0 n b l (ap (names (writes_since ws i.point [])) zero_more ∙ unless _ e) in
    omega (arith, fewer)
used_less n b ws (i ∷ j ∷ newer) l e =
    let a = filter_most (names (writes_since ws i.point (j ∷ newer))) 0 n in
    let fewer = used_less n b ws (j ∷ newer) l e in
    omega (arith, a, fewer)

all_times : (n : ℕ) (images : List Image) → all_of n images ≡ n * length images
unfolding all_of
all_times n [] = sym (mul_zero n)
  where
    mul_zero : (n : ℕ) → n * 0 ≡ 0
    mul_zero n = omega arith
all_times n (i ∷ images) = let h = all_times n images in let e = mul-add n (length images) 1 in let o = mul-one n in omega (arith, h, e, o)

fits : (n b k slots : ℕ) (ws : List Write) (images : List Image) → b < n → length images ≤ k → k * n ≤ slots → needs_slot ws images b ≡ true → used n ws images < slots
fits n b k slots ws images l few enough e =
    let less = used_less n b ws images l e in
    let times = all_times n images in
    let turned = mul_comm n (length images) in
    let most = mul-le-mul_right n few in
    omega (arith, less, times, turned, most, enough)

-- ## a volume alone in its group

own_number : (a : ℕ) → (a == a) ≡ true
own_number a = grind arith

none_within : (g j : ℕ) (rows : List VolumeRow) (hs : List History) → g < j → AreAlone j rows → group_used (map (placed g) rows) hs ≡ 0
none_within g j [] hs l alone = refl
none_within g j (r ∷ rows) [] l alone = refl
none_within g j (r ∷ rows) (h ∷ hs) l alone =
    let other : (r.group == g) ≡ false = ap (λ x. x == g) alone.0 ∙ above g j l in
    let later = none_within g (suc j) rows hs (omega (arith, l)) alone.1 in
    let head = ap (λ (t : Bool). if t then used r.blocks h.writes h.images else 0) other in
    omega (arith, head, later)
  where
    above : (a b : ℕ) → a < b → (b == a) ≡ false
    above a b l = grind (arith, nat_tests)

own_used : (j v : ℕ) (rows : List VolumeRow) (hs : List History) (r : VolumeRow) (h : History) → AreAlone j rows → slice_get rows v ≡ Some r → slice_get hs v ≡ Some h
    → group_used (map (placed (j + v)) rows) hs ≡ used r.blocks h.writes h.images
own_used j zero [] hs r h alone e f = absurd cc
own_used j (suc v) [] hs r h alone e f = absurd cc
own_used j zero (q ∷ rows) [] r h alone e f = absurd cc
own_used j (suc v) (q ∷ rows) [] r h alone e f = absurd cc
own_used j zero (q ∷ rows) (x ∷ hs) r h alone e f =
    let same : q ≡ r = cc in
    let own : x ≡ h = cc in
    let none : j + 0 ≡ j = omega arith in
    let within : (q.group == j + 0) ≡ true = ap (λ y. y == j + 0) (alone.0 ∙ sym none) ∙ own_number (j + 0) in
    let head = ap (λ (t : Bool). if t then used q.blocks x.writes x.images else 0) within in
    let later = none_within (j + 0) (suc j) rows hs (omega arith) alone.1 in
    let is : used q.blocks x.writes x.images ≡ used r.blocks h.writes h.images = ap (λ (y : VolumeRow). used y.blocks x.writes x.images) same ∙ ap (λ (y : History). used r.blocks y.writes y.images) own in
    omega (arith, head, later, is)
own_used j (suc v) (q ∷ rows) (x ∷ hs) r h alone e f =
    let other : (q.group == j + suc v) ≡ false = ap (λ y. y == j + suc v) alone.0 ∙ apart j (j + suc v) (omega arith) in
    let head = ap (λ (t : Bool). if t then used q.blocks x.writes x.images else 0) other in
    let shift : j + suc v ≡ suc j + v = omega arith in
    let later = ap (λ g. group_used (map (placed g) rows) hs) shift ∙ own_used (suc j) v rows hs r h alone.1 e f in
    omega (arith, head, later)

group_at : (j v : ℕ) (rows : List VolumeRow) (r : VolumeRow) → AreAlone j rows → slice_get rows v ≡ Some r → r.group ≡ j + v
group_at j zero [] r alone e = absurd cc
group_at j (suc v) [] r alone e = absurd cc
group_at j zero (q ∷ rows) r alone e = let same : q ≡ r = cc in ap (λ (y : VolumeRow). y.group) (sym same) ∙ (let d = alone.0 in omega (arith, d))
group_at j (suc v) (q ∷ rows) r alone e = let h = group_at (suc j) v rows r alone.1 e in omega (arith, h)

-- ## nothing goes

above_none : (rows : List SetRow) (images : List Image) → NumberedFrom 1 rows → AreLive rows images → after_set 0 images ≡ images
above_none rows [] numbered live = refl
above_none rows (i ∷ images) numbered live =
    let w = live_within 1 i.set rows numbered live.0 in
    ap (λ (t : Bool). if t then i ∷ after_set 0 images else after_set 0 images) (positive i.set w.above) ∙ ap (λ is. i ∷ is) (above_none rows images numbered live.1)
  where
    positive : (a : ℕ) → 1 ≤ a → nat_lt 0 a ≡ true
    positive a l = grind (arith, nat_tests)

gone_if : (t : Bool) (h : History) → after_set 0 h.images ≡ h.images → (if t then record { writes = h.writes; images = after_set 0 h.images } else h) ≡ h
gone_if true h e = ap (λ (is : List Image). record { writes = h.writes; images = is }) e
gone_if false h e = refl

none_gone : (rows : List SetRow) (ps : List Placed) (hs : List History) → NumberedFrom 1 rows → AllLive rows hs → gone_up_to 0 ps hs ≡ hs
none_gone rows [] hs numbered live = refl
none_gone rows (p ∷ ps) [] numbered live = refl
none_gone rows (p ∷ ps) (h ∷ hs) numbered live =
    ap (λ (x : History). x ∷ gone_up_to 0 ps hs) (gone_if p.within h (above_none rows h.images numbered live.0))
    ∙ ap (λ (xs : List History). h ∷ xs) (none_gone rows ps hs numbered live.1)

found_first : (sets : ℕ) (f : ℕ → Bool) → f 0 ≡ true → unwrap_or (find f (range_with_len 0 sets)) sets ≡ 0
found_first zero f h = refl
found_first (suc sets) f h = ap (λ (t : Bool). unwrap_or (if t then Some 0 else find f (range_with_len (0 + 1) sets)) (suc sets)) h

and_less : (a : Bool) (x y : ℕ) → (a ≡ true → x < y) → (a && (x == y)) ≡ false
and_less true x y l = apart x y (l refl)
and_less false x y l = refl

no_lack_at : (rows : List VolumeRow) (hs : List History) (v b k : ℕ) (r : VolumeRow) (o : Option History) → AreAlone 0 rows → slice_get rows v ≡ Some r → slice_get hs v ≡ o → b < r.blocks → k * r.blocks ≤ r.slots
    → length (history_in o).images ≤ k → (needs_slot_in o b && (group_used (map (placed r.group) rows) hs == r.slots)) ≡ false
no_lack_at rows hs v b k r None alone e f l enough few = refl
no_lack_at rows hs v b k r (Some h) alone e f l enough few =
    and_less (needs_slot h.writes h.images b) (group_used (map (placed r.group) rows) hs) r.slots
    (λ need.
    let less = fits r.blocks b k r.slots h.writes h.images l few enough need in
    let own = ap (λ g. group_used (map (placed g) rows) hs) (group_at 0 v rows r alone e) ∙ own_used 0 v rows hs r h alone e f in
    omega (arith, less, own))

none_goes : (rows : List VolumeRow) (hs : List History) (of : List SetRow) (sets v b k : ℕ) (o : Option VolumeRow) → AreAlone 0 rows → slice_get rows v ≡ o → b < blocks_in o → All (λ (r : VolumeRow). k * r.blocks ≤ r.slots) rows
    → length (history_in (slice_get hs v)).images ≤ k → NumberedFrom 1 of → AllLive of hs
    → gone_up_to (evicted_up_to sets (slots_in o) (placed_in rows o) v b hs) (placed_in rows o) hs ≡ hs
none_goes rows hs of sets v b k None alone e l enough few numbered live = refl
none_goes rows hs of sets v b k (Some r) alone e l enough few numbered live =
    let ps = map (placed r.group) rows in
    let stays = none_gone of ps hs numbered live in
    let no_lack : lacks_slot r.slots ps v b hs ≡ false = no_lack_at rows hs v b k r (slice_get hs v) alone e refl l (room_at rows v r enough e) few in
    let finds : not (lacks_slot r.slots ps v b (gone_up_to 0 ps hs)) ≡ true = ap (λ (ks : List History). not (lacks_slot r.slots ps v b ks)) stays ∙ ap not no_lack in
    ap (λ (m : ℕ). gone_up_to m ps hs) (found_first sets (λ m. not (lacks_slot r.slots ps v b (gone_up_to m ps hs))) finds) ∙ stays
  where
    room_at : (qs : List VolumeRow) (u : ℕ) (r : VolumeRow) → All (λ (q : VolumeRow). k * q.blocks ≤ q.slots) qs → slice_get qs u ≡ Some r → k * r.blocks ≤ r.slots
    room_at [] zero r all e = absurd cc
    room_at [] (suc u) r all e = absurd cc
    room_at (q ∷ qs) zero r all e = let same : q ≡ r = cc in subst (λ (y : VolumeRow). k * y.blocks ≤ y.slots) same (all 0 q (omega arith))
    room_at (q ∷ qs) (suc u) r all e = room_at qs u r (λ j d g. all (suc j) d (omega (arith, g))) e

-- a write evicts nothing
pub none_cleared : (s : Plan) (so_far : List Act) (v b k : ℕ) → AreAlone 0 s.volumes → All (λ (r : VolumeRow). k * r.blocks ≤ r.slots) s.volumes → b < blocks_in (slice_get s.volumes v) → length (state s so_far).sets ≤ k
    → (cleared s v b (state s so_far)).volumes ≡ (state s so_far).volumes
none_cleared s so_far v b k alone room l few =
    let st = state s so_far in
    let kept = orderly s so_far in
    let images = few_images s so_far v in
    none_goes s.volumes st.volumes st.sets (length st.sets) v b k (slice_get s.volumes v) alone refl l room (omega (arith, images, few)) kept.numbered kept.live

no_less : (a : Bool) → (a && not a) ≡ false
no_less true = refl
no_less false = refl

no_loss : (n : ℕ) (hs : List History) → has_lost_image n hs hs ≡ false
no_loss n [] = refl
no_loss n (h ∷ hs) = ap (λ (t : Bool). t || has_lost_image n hs hs) (no_less (has_image n h)) ∙ no_loss n hs

pub no_set_loses : (o : Option SetRow) (hs ks : List History) → ks ≡ hs → set_loses_image o hs ks ≡ false
no_set_loses None hs ks same = refl
no_set_loses (Some r) hs ks same = ap (λ (js : List History). has_lost_image r.number hs js) same ∙ no_loss r.number hs

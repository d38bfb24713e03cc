-- Devices that are sorted into the lists of their groups, and the lines of lanes, with how far each lane is.
use Rattle.std.proofs.Common.{◌≡◌, ℕ, zero, suc, ◌+◌, ◌==◌, ◌<◌, ◌≤◌, List, [], ◌∷◌, ◌++◌, length, take, drop, refl, ap, sym, ◌∙◌, arith, Bool, true, false}
use Rattle.std.proofs.Common.{Some, subst, add-one, replicate, get_or, Option, None}
use Rattle.std.proofs.lemmas.List.Elements.{All-cons, All-head, All-tail, All-nil, All-get_or}
use Rattle.std.proofs.lemmas.List.Sums.{sum_by-cons}
use Rattle.std.proofs.lemmas.Option.{slice_get_past, slice_get_within, slice_get-map, slice_get-get_or, get_or_from_slice_get}
use Rattle.std.specs.List.{range_with_len}
use Rattle.std.specs.Prelude.{slice_get, slice_set, map, All, option_map, if◌then◌else◌, slice_index, sum}
use Rattle.write_history.specs.declared.actor.Actor.{Actor}
use Rattle.write_history.specs.declared.actor.Actor.TheVariants.{Lane}
use Rattle.write_history.specs.declared.move_item.Move.{Move}
use Rattle.diff_area.proofs.ByPlace.{get-set_same as set_here}
use Rattle.cow_volume.proofs.Group.{length-slice_set, number_is}
use Rattle.scenario.specs.Bounds.{IsPlan, IsLane, IsOp}
use Rattle.scenario.specs.Plan.{Plan, LaneLine, LanePlan, lines_in, lines_of}
use Rattle.scenario.proofs.Places.{other_number}
use Rattle.vss_model.specs.Trail.{is_lane, cursor}
use Rattle.vss_model.proofs.GoesOn.{cursor_more, cursor_same}
use Rattle.vss_play.specs.Made.{in_group, IsSorting}
use Rattle.vss_play.specs.Running.{AreCursors, advanced}
use Rattle.vss_play.proofs.FaultMarks.{append_nil}
use Rattle.vss_play.proofs.NewDevices.{take_all}

-- ## Devices are sorted one by one into the lists of their groups.

pub nothing : {X : Type 0} (k : ℕ) (x : X) → slice_get [] k ≡ Some x → ⊥
nothing k x e = grind (arith, slice_get_past)

-- ## lists

pub record Next {X : Type 0} (xs : List X) (k : ℕ) (x : X) (rest : List X) : Type 0 where
  pub at : slice_get xs k ≡ Some x
  pub within : k < length xs
  pub rest_is : drop (k + 1) xs ≡ rest

next_suc : {X : Type 0} (xs : List X) (k : ℕ) (x : X) (rest : List X) → drop k xs ≡ x ∷ rest → (slice_get xs k ≡ Some x) × (k < length xs) × (drop (suc k) xs ≡ rest)
next_suc [] zero x rest e = absurd cc
next_suc [] (suc k) x rest e = absurd cc
next_suc (y ∷ xs) zero x rest e = (cc, omega arith, cc)
next_suc (y ∷ xs) (suc k) x rest e = let h = next_suc xs k x rest e in (h.0, (let l = h.1 in omega arith), h.2)

pub next_at : {X : Type 0} (xs : List X) (k : ℕ) (x : X) (rest : List X) → drop k xs ≡ x ∷ rest → Next xs k x rest
next_at xs k x rest e = let h = next_suc xs k x rest e in record { at = h.0; within = h.1; rest_is = ap (λ n. drop n xs) (add-one k) ∙ h.2 }

pub none_left : {X : Type 0} (xs : List X) (k : ℕ) → drop k xs ≡ [] → length xs ≤ k
none_left [] k e = omega arith
none_left (x ∷ xs) zero e = absurd cc
none_left (x ∷ xs) (suc k) e = let l = none_left xs k e in omega arith

set_there : {X : Type 0} (xs : List X) (k i : ℕ) (y : X) → (i ≡ k → ⊥) → slice_get (slice_set xs k y) i ≡ slice_get xs i
set_there [] k i y h = refl
set_there (x ∷ xs) zero zero y h = absurd (h refl)
set_there (x ∷ xs) zero (suc i) y h = refl
set_there (x ∷ xs) (suc k) zero y h = refl
set_there (x ∷ xs) (suc k) (suc i) y h = set_there xs k i y (λ e. h (ap suc e))

pub map_set : {X Y : Type 0} (f : X → Y) (xs : List X) (k : ℕ) (x : X) → map f (slice_set xs k x) ≡ slice_set (map f xs) k (f x)
map_set f [] k x = refl
map_set f (y ∷ xs) zero x = refl
map_set f (y ∷ xs) (suc k) x = ap (λ ys. f y ∷ ys) (map_set f xs k x)

-- ## members of a group

pub in_group_none : {X : Type 0} (g : ℕ) (hs : List ℕ) → in_group {X = X} g hs [] ≡ []
in_group_none g [] = refl
in_group_none g (h ∷ hs) = refl

in_group_suc : {X : Type 0} (g : ℕ) (hs : List ℕ) (xs : List X) (k h : ℕ) (x : X) → slice_get hs k ≡ Some h → slice_get xs k ≡ Some x
    → in_group g hs (take (suc k) xs) ≡ in_group g hs (take k xs) ++ (if h == g then x ∷ [] else [])
in_group_suc g [] xs k h x e f = absurd (nothing k h e)
in_group_suc g (i ∷ hs) [] k h x e f = absurd (nothing k x f)
in_group_suc {X} g (i ∷ hs) (y ∷ xs) zero h x e f =
    let same : i ≡ h = cc in let like : y ≡ x = cc in
    ap (λ (zs : List X). if i == g then y ∷ zs else zs) (in_group_none {X = X} g hs) ∙ ap (λ (z : X). if i == g then z ∷ [] else []) like ∙ ap (λ n. if n == g then x ∷ [] else []) same
in_group_suc {X} g (i ∷ hs) (y ∷ xs) (suc k) h x e f = by_test (i == g) (in_group_suc g hs xs k h x e f)
  where
    by_test : (b : Bool) → in_group g hs (take (suc k) xs) ≡ in_group g hs (take k xs) ++ (if h == g then x ∷ [] else [])
        → (if b then y ∷ in_group g hs (take (suc k) xs) else in_group g hs (take (suc k) xs))
        ≡ (if b then y ∷ in_group g hs (take k xs) else in_group g hs (take k xs)) ++ (if h == g then x ∷ [] else [])
    by_test true h = ap (λ zs. y ∷ zs) h
    by_test false h = h

in_group_more : {X : Type 0} (g : ℕ) (hs : List ℕ) (xs : List X) (k h : ℕ) (x : X) → slice_get hs k ≡ Some h → slice_get xs k ≡ Some x
    → in_group g hs (take (k + 1) xs) ≡ in_group g hs (take k xs) ++ (if h == g then x ∷ [] else [])
in_group_more g hs xs k h x e f = ap (λ n. in_group g hs (take n xs)) (add-one k) ∙ in_group_suc g hs xs k h x e f

pub in_group_append : {X : Type 0} (g : ℕ) (hs ks : List ℕ) (xs ys : List X) → length hs ≡ length xs → in_group g (hs ++ ks) (xs ++ ys) ≡ in_group g hs xs ++ in_group g ks ys
in_group_append g [] ks [] ys e = refl
in_group_append g [] ks (x ∷ xs) ys e = absurd (omega arith)
in_group_append g (h ∷ hs) ks [] ys e = absurd (omega arith)
in_group_append g (h ∷ hs) ks (x ∷ xs) ys e = by_test (h == g) (in_group_append g hs ks xs ys (omega arith))
  where
    by_test : (b : Bool) → in_group g (hs ++ ks) (xs ++ ys) ≡ in_group g hs xs ++ in_group g ks ys
        → (if b then x ∷ in_group g (hs ++ ks) (xs ++ ys) else in_group g (hs ++ ks) (xs ++ ys)) ≡ (if b then x ∷ in_group g hs xs else in_group g hs xs) ++ in_group g ks ys
    by_test true i = ap (λ zs. x ∷ zs) i
    by_test false i = i

later_none : {X : Type 0} (g b n : ℕ) (ys : List X) → g < b → in_group g (range_with_len b n) ys ≡ []
later_none g b zero ys l = refl
later_none g b (suc n) [] l = refl
later_none {X} g b (suc n) (y ∷ ys) l = let other : (b == g) ≡ false = grind arith
    in ap (λ (t : Bool). if t then y ∷ in_group g (range_with_len (b + 1) n) ys else in_group g (range_with_len (b + 1) n) ys) other
    ∙ later_none g (b + 1) n ys (omega arith)

-- one of each number
pub one_of_each : {X : Type 0} (a n k : ℕ) (ys : List X) (y : X) → length ys ≡ n → slice_get ys k ≡ Some y → in_group (a + k) (range_with_len a n) ys ≡ y ∷ []
one_of_each a zero k [] y l e = absurd (nothing k y e)
one_of_each a zero k (x ∷ ys) y l e = absurd (omega arith)
one_of_each a (suc n) k [] y l e = absurd (omega arith)
one_of_each a (suc n) zero (x ∷ ys) y l e =
    let same : x ≡ y = cc in
    let here : (a == a + 0) ≡ true = grind arith in
    ap (λ (t : Bool). if t then x ∷ in_group (a + 0) (range_with_len (a + 1) n) ys else in_group (a + 0) (range_with_len (a + 1) n) ys) here
    ∙ ap (λ zs. x ∷ zs) (later_none (a + 0) (a + 1) n ys (omega arith)) ∙ ap (λ z. z ∷ []) same
one_of_each a (suc n) (suc k) (x ∷ ys) y l e =
    let other : (a == a + suc k) ≡ false = grind arith in
    let at : a + 1 + k ≡ a + suc k = omega arith in
    ap (λ (t : Bool). if t then x ∷ in_group (a + suc k) (range_with_len (a + 1) n) ys else in_group (a + suc k) (range_with_len (a + 1) n) ys) other
    ∙ ap (λ g. in_group g (range_with_len (a + 1) n) ys) (sym at) ∙ one_of_each (a + 1) n k ys y (omega arith) e

-- what holds of all holds of those of a group
pub all_in_group : {X : Type 0} (P : X → Type 0) (g : ℕ) (hs : List ℕ) (xs : List X) → All P xs → All P (in_group g hs xs)
all_in_group P g [] xs h = All-nil P
all_in_group P g (i ∷ hs) [] h = All-nil P
all_in_group {X} P g (i ∷ hs) (x ∷ xs) h = by_test (i == g) (all_in_group P g hs xs (All-tail P x xs h))
  where
    by_test : (b : Bool) → All P (in_group g hs xs) → All P (if b then x ∷ in_group g hs xs else in_group g hs xs)
    by_test true i = All-cons P x (in_group g hs xs) (All-head P x xs h) i
    by_test false i = i

pub map_in_group : {X Y : Type 0} (f : X → Y) (g : ℕ) (hs : List ℕ) (xs : List X) → map f (in_group g hs xs) ≡ in_group g hs (map f xs)
map_in_group f g [] xs = refl
map_in_group f g (i ∷ hs) [] = refl
map_in_group f g (i ∷ hs) (x ∷ xs) = by_test (i == g) (map_in_group f g hs xs)
  where
    by_test : (b : Bool) → map f (in_group g hs xs) ≡ in_group g hs (map f xs)
        → map f (if b then x ∷ in_group g hs xs else in_group g hs xs) ≡ (if b then f x ∷ in_group g hs (map f xs) else in_group g hs (map f xs))
    by_test true e = ap (λ ys. f x ∷ ys) e
    by_test false e = e

-- ## the loop

empty_at : {X : Type 0} (n g : ℕ) (ds : List X) → slice_get (replicate n []) g ≡ Some ds → ds ≡ []
empty_at {X} zero g ds e = absurd (nothing {X = List X} g ds e)
empty_at (suc n) zero ds e = cc
empty_at (suc n) (suc g) ds e = empty_at n g ds e

length_replicate : {X : Type 0} (n : ℕ) (x : X) → length (replicate n x) ≡ n
length_replicate zero x = refl
length_replicate (suc n) x = ap suc (length_replicate n x)

pub none_sorted : {D : Type 0} (groups : List ℕ) (devices rest : List D) (number : ℕ) (sorted : List (List D)) → rest ≡ devices → sorted ≡ replicate number []
    → IsSorting groups devices 0 rest number sorted
none_sorted groups devices rest number sorted whole e = grind (arith, length_replicate, empty_at, in_group_none)

pub one_sorted : {D : Type 0} (groups : List ℕ) (devices : List D) (place : ℕ) (rest less : List D) (number : ℕ) (sorted new : List (List D)) (d : D) (group : ℕ) (mine : List D)
    → IsSorting groups devices place rest number sorted → rest ≡ d ∷ less → slice_get groups place ≡ Some group → slice_get sorted group ≡ Some mine
    → new ≡ slice_set sorted group (mine ++ d ∷ []) → IsSorting groups devices (place + 1) less number new
one_sorted {D} groups devices place rest less number sorted new d group mine h first at own is =
    let next = next_at devices place d less (sym h.rest_is ∙ first) in
    let room = slice_get_within sorted group mine own in
    record {
      few = let l = next.within in omega arith;
      rest_is = sym next.rest_is;
      many = ap length is ∙ length-slice_set sorted group (mine ++ d ∷ []) ∙ h.many;
      each = λ g ds there. by_group g ds (g == group) refl (subst (λ (ls : List (List D)). slice_get ls g ≡ Some ds) is there) next room;
    }
  where
    own_number : (n : ℕ) → (n == n) ≡ true
    own_number n = grind arith

    clash : false ≡ true → ⊥
    clash e = cc

    by_group : (g : ℕ) (ds : List D) (b : Bool) → (g == group) ≡ b → slice_get (slice_set sorted group (mine ++ d ∷ [])) g ≡ Some ds → Next devices place d less
        → group < length sorted → ds ≡ in_group g groups (take (place + 1) devices)
    by_group g ds true e there next room =
        let same : g ≡ group = grind arith in
        let here : Some ds ≡ Some (mine ++ d ∷ []) = sym there ∙ ap (slice_get (slice_set sorted group (mine ++ d ∷ []))) same ∙ set_here sorted group (mine ++ d ∷ []) room in
        let is_mine : ds ≡ mine ++ d ∷ [] = cc in
        let test : (group == g) ≡ true = grind arith in
        is_mine ∙ ap (λ zs. zs ++ d ∷ []) (h.each g mine (ap (slice_get sorted) same ∙ own))
        ∙ ap (λ (t : Bool). in_group g groups (take place devices) ++ (if t then d ∷ [] else [])) (sym test)
        ∙ sym (in_group_more g groups devices place group d at next.at)
    by_group g ds false e there next room =
        let other : g ≡ group → ⊥ = λ same. clash (sym e ∙ ap (λ n. n == group) same ∙ own_number group) in
        let test : (group == g) ≡ false = grind (arith, other) in
        h.each g ds (sym (set_there sorted group g (mine ++ d ∷ []) other) ∙ there) ∙ sym (append_nil (in_group g groups (take place devices)))
        ∙ ap (λ (t : Bool). in_group g groups (take place devices) ++ (if t then d ∷ [] else [])) (sym test) ∙ sym (in_group_more g groups devices place group d at next.at)

pub all_sorted : {D : Type 0} (groups : List ℕ) (devices : List D) (place : ℕ) (rest : List D) (number : ℕ) (sorted : List (List D))
    → IsSorting groups devices place rest number sorted → rest ≡ [] → (g : ℕ) (ds : List D) → slice_get sorted g ≡ Some ds → ds ≡ in_group g groups devices
all_sorted groups devices place rest number sorted h done g ds at = grind (arith, take_all, none_left)

-- ## lists that are held by vectors

pub own_list : {V D : Type 0} (items : V → List D) (xs : List V) (k : ℕ) (v : V) → k < length xs → v ≡ get_or xs k v → slice_get (map items xs) k ≡ Some (items v)
own_list items xs k v l e = slice_get-map items xs k ∙ ap (option_map items) (slice_get-get_or xs k v l) ∙ ap (λ z. Some (items z)) (sym e)

pub new_lists : {V D : Type 0} (items : V → List D) (xs : List V) (k : ℕ) (new : V) (ds : List D) → items new ≡ ds → map items (slice_set xs k new) ≡ slice_set (map items xs) k ds
new_lists items xs k new ds e = map_set items xs k new ∙ ap (slice_set (map items xs) k) e

pub mapped : {V D : Type 0} (items : V → List D) (rest less : List V) (v : V) → rest ≡ v ∷ less → map items rest ≡ items v ∷ map items less
mapped items rest less v e = ap (map items) e

pub mapped_none : {V D : Type 0} (items : V → List D) (rest : List V) → rest ≡ [] → map items rest ≡ []
mapped_none items rest e = ap (map items) e

-- ## The lines of lanes, and how far each lane is.

pub at_all : {X : Type 0} (P : X → Type 0) (xs : List X) (i : ℕ) (x : X) → slice_get xs i ≡ Some x → All P xs → P x
at_all P xs i x e h = subst P (get_or_from_slice_get xs i x x e) (All-get_or P xs i x (slice_get_within xs i x e) h)

lane_in_from : (xs : List LanePlan) (i k : ℕ) (l : LaneLine) → slice_get (lines_in (slice_get xs i)) k ≡ Some l → i < length xs
lane_in_from xs i k l e = grind (arith, nothing, slice_get_past)

-- a lane that has a line is there
pub lane_in : (s : Plan) (i k : ℕ) (l : LaneLine) → slice_get (lines_of s i) k ≡ Some l → i < length s.lanes
lane_in s i k l e = lane_in_from s.lanes i k l e

op_in : (s : Plan) (o : Option LanePlan) (i k : ℕ) (l : LaneLine) → All (IsLane s) s.lanes → slice_get s.lanes i ≡ o → slice_get (lines_in o) k ≡ Some l → IsOp s l.op
op_in s None i k l h e f = absurd (nothing k l f)
op_in s (Some lane) i k l h e f = at_all (λ (x : LaneLine). IsOp s x.op) lane.lines k l f (at_all (IsLane s) s.lanes i lane e h).ops

pub line_is_op : (s : Plan) (i k : ℕ) (l : LaneLine) → IsPlan s → slice_get (lines_of s i) k ≡ Some l → IsOp s l.op
line_is_op s i k l plan e = op_in s (slice_get s.lanes i) i k l plan.lanes refl e

-- ## cursors

cursors_same : (trail : List Move) (m : Move) (i : ℕ) (cursors : List ℕ) → ((j : ℕ) → is_lane j m.actor ≡ false) → AreCursors trail i cursors → AreCursors (trail ++ m ∷ []) i cursors
cursors_same trail m i [] out h = tt
cursors_same trail m i (c ∷ cursors) out h = (h.0 ∙ sym (cursor_same trail m i (out i)), cursors_same trail m (i + 1) cursors out h.1)

-- those of later lanes
cursors_past : (trail : List Move) (m : Move) (lane i : ℕ) (cursors : List ℕ) → m.actor ≡ Lane lane → lane < i → AreCursors trail i cursors → AreCursors (trail ++ m ∷ []) i cursors
cursors_past trail m lane i [] who past h = tt
cursors_past trail m lane i (c ∷ cursors) who past h =
    (h.0 ∙ sym (cursor_same trail m i (ap (is_lane i) who ∙ other_number lane i (λ e. absurd (omega arith)))), cursors_past trail m lane (i + 1) cursors who (omega arith) h.1)

cursors_at : (trail : List Move) (m : Move) (lane i k : ℕ) (cursors : List ℕ) → m.actor ≡ Lane lane → lane ≡ i + k → AreCursors trail i cursors
    → AreCursors (trail ++ m ∷ []) i (slice_set cursors k (slice_index cursors k + 1))
cursors_at trail m lane i k [] who at h = tt
cursors_at trail m lane i zero (c ∷ cursors) who at h =
    let here : lane ≡ i = omega arith in
    (add-one c ∙ ap suc h.0 ∙ sym (cursor_more trail m i (ap (is_lane i) who ∙ ap (λ n. n == i) here ∙ number_is i)), cursors_past trail m lane (i + 1) cursors who (omega arith) h.1)
cursors_at trail m lane i (suc k) (c ∷ cursors) who at h =
    (h.0 ∙ sym (cursor_same trail m i (ap (is_lane i) who ∙ other_number lane i (λ e. absurd (omega arith)))), cursors_at trail m lane (i + 1) k cursors who (omega arith) h.1)

pub cursors_after : (trail : List Move) (m : Move) (actor : Actor) (cursors : List ℕ) → m.actor ≡ actor → AreCursors trail 0 cursors → AreCursors (trail ++ m ∷ []) 0 (advanced actor cursors)
cursors_after trail m actor cursors who h = grind (arith, cursors_at, cursors_same)

length-slice_set_lane : (xs : List ℕ) (k x : ℕ) → length (slice_set xs k x) ≡ length xs
length-slice_set_lane [] k x = refl
length-slice_set_lane (y ∷ xs) zero x = refl
length-slice_set_lane (y ∷ xs) (suc k) x = ap suc (length-slice_set_lane xs k x)

pub length-advanced : (actor : Actor) (cursors : List ℕ) → length (advanced actor cursors) ≡ length cursors
length-advanced actor cursors = grind (arith, length-slice_set_lane)

cursor_in : (trail : List Move) (i k : ℕ) (cursors : List ℕ) → k < length cursors → AreCursors trail i cursors → slice_index cursors k ≡ cursor trail (i + k)
cursor_in trail i k [] l h = absurd (omega arith)
cursor_in trail i zero (c ∷ cursors) l h = h.0 ∙ ap (cursor trail) (omega arith)
cursor_in trail i (suc k) (c ∷ cursors) l h = cursor_in trail (i + 1) k cursors (omega arith) h.1 ∙ ap (cursor trail) (omega arith)

pub cursor_is : (trail : List Move) (cursors : List ℕ) (i : ℕ) → i < length cursors → AreCursors trail 0 cursors → slice_index cursors i ≡ cursor trail i
cursor_is trail cursors i l h = cursor_in trail 0 i cursors l h ∙ ap (cursor trail) (omega arith)

lines_le_sum : (xs : List LanePlan) (i : ℕ) → i < length xs → length (lines_in (slice_get xs i)) ≤ sum (map (λ (l : LanePlan). length l.lines) xs)
lines_le_sum [] i l = absurd (omega arith)
lines_le_sum (x ∷ xs) zero l = let e = sum_by-cons (λ (n : ℕ). n) (length x.lines) (map (λ (y : LanePlan). length y.lines) xs) in omega arith
lines_le_sum (x ∷ xs) (suc i) l = let e = sum_by-cons (λ (n : ℕ). n) (length x.lines) (map (λ (y : LanePlan). length y.lines) xs) in let below = lines_le_sum xs i (omega arith) in omega arith

-- a cursor at a line is small
pub cursor_small : (s : Plan) (i k : ℕ) (l : LaneLine) → IsPlan s → slice_get (lines_of s i) k ≡ Some l → k < 1000000
cursor_small s i k l plan e = grind (arith, lines_le_sum, lane_in, slice_get_within)

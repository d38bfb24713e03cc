-- Volumes in their groups, and where a volume is within its group: the volumes before it are counted.
use Rattle.std.proofs.Common.{◌≡◌, ℕ, zero, suc, ◌+◌, ◌<◌, Bool, List, [], ◌∷◌, ◌++◌, length, set, All, Option, Some, None, IfSome, refl, ap, sym, arith, ◌≤◌}
use Rattle.std.proofs.Common.{◌==◌, get_or, ◌∙◌, subst, true, false, slice_get}
use Rattle.std.proofs.lemmas.Bool.{and_parts}
use Rattle.std.proofs.lemmas.Bool.Decides.{nat_tests}
use Rattle.std.proofs.lemmas.Grind.{common_steps}
use Rattle.std.proofs.lemmas.List.Elements.{All-weaker}
use Rattle.std.proofs.lemmas.List.Quantifiers.{position-Some}
use Rattle.std.proofs.lemmas.List.Sums.{fails_before_first}
use Rattle.std.proofs.lemmas.Option.{slice_get-get_or}
use Rattle.std.specs.List.{position, position_or_len}
use Rattle.std.specs.Prelude.{if◌then◌else◌, ◌&&◌, nat_lt}
use Rattle.scenario.specs.Bounds.{IsInGroup, groups_from}
use Rattle.scenario.specs.Drafts.{IsAreaRow}
use Rattle.scenario.specs.Places.{count_if, place_in, volume_after, volume_in, is_place, IsPlaceIn, ArePlaces}
use Rattle.scenario.specs.Plan.{GroupPlan}
use Rattle.scenario.specs.declared.area_row.AreaRow.{AreaRow}
use Rattle.scenario.specs.declared.place.Place.{Place}
use Rattle.scenario.specs.declared.volume_row.VolumeRow.{VolumeRow}

-- ## Volumes in their groups: each is in one of those before it, or in the next.

-- ## what stands at a place

pub get_left : {X : Type 0} (xs ys : List X) (i : ℕ) → i < length xs → slice_get (xs ++ ys) i ≡ slice_get xs i
get_left [] ys i h = absurd (omega arith)
get_left (x ∷ xs) ys zero h = refl
get_left (x ∷ xs) ys (suc i) h = get_left xs ys i (omega arith)

pub get_some_left : {X : Type 0} (xs ys : List X) (i : ℕ) (x : X) → slice_get xs i ≡ Some x → slice_get (xs ++ ys) i ≡ Some x
get_some_left [] ys i x h = cc h
get_some_left (y ∷ xs) ys zero x h = h
get_some_left (y ∷ xs) ys (suc i) x h = get_some_left xs ys i x h

pub get_last : {X : Type 0} (xs : List X) (x : X) → slice_get (xs ++ x ∷ []) (length xs) ≡ Some x
get_last [] x = refl
get_last (y ∷ xs) x = get_last xs x

pub set_same : {X : Type 0} (xs : List X) (i : ℕ) (x : X) → slice_get xs i ≡ Some x → set xs i x ≡ xs
set_same [] i x h = refl
set_same (y ∷ xs) zero x h = let e : y ≡ x = cc h in ap (λ z. z ∷ xs) (sym e)
set_same (y ∷ xs) (suc i) x h = ap (λ zs. y ∷ zs) (set_same xs i x h)

-- ## numbers of groups

by_tests : (a b : Bool) (m : ℕ) (new x y u v : Option ℕ) → (x ≡ Some m → u ≡ new) → (y ≡ Some m → v ≡ new)
    → (if a then x else (if b then y else None)) ≡ Some m → (if a then u else (if b then v else None)) ≡ new
by_tests a b m new x y u v f g h = grind arith

pub numbered_new : (n m : ℕ) (rows : List VolumeRow) (row : VolumeRow) → groups_from n rows ≡ Some m → row.group ≡ m → groups_from n (rows ++ row ∷ []) ≡ Some (m + 1)
numbered_new n m [] row h e = grind (arith, common_steps)
numbered_new n m (r ∷ rows) row h e = grind (arith, common_steps, by_tests, numbered_new n m rows row, numbered_new (n + 1) m rows row)

pub numbered_old : (n m : ℕ) (rows : List VolumeRow) (row : VolumeRow) → groups_from n rows ≡ Some m → row.group < m → groups_from n (rows ++ row ∷ []) ≡ Some m
numbered_old n m [] row h e = grind (arith, common_steps)
numbered_old n m (r ∷ rows) row h e = grind (arith, common_steps, by_tests, numbered_old n m rows row, numbered_old (n + 1) m rows row)

-- ## one group more

in_more_groups : (groups : List GroupPlan) (g : GroupPlan) (r : VolumeRow) → IsInGroup groups r → IsInGroup (groups ++ g ∷ []) r
in_more_groups groups g r h = grind (arith, common_steps, get_left)

pub all_in_more_groups : (groups : List GroupPlan) (g : GroupPlan) (rows : List VolumeRow) → All (IsInGroup groups) rows → All (IsInGroup (groups ++ g ∷ [])) rows
all_in_more_groups groups g rows h = All-weaker (IsInGroup groups) (IsInGroup (groups ++ g ∷ [])) (in_more_groups groups g) rows h

-- a volume in the group that comes next
pub in_new_group : (groups : List GroupPlan) (g : GroupPlan) (r : VolumeRow) → r.group ≡ length groups → r.slots ≡ g.slots → IsInGroup (groups ++ g ∷ []) r
in_new_group groups g r e s = grind (arith, common_steps, get_last)

-- a volume in a group that is there
pub in_old_group : (groups : List GroupPlan) (g : GroupPlan) (r : VolumeRow) → r.group < length groups → slice_get groups r.group ≡ Some g → r.slots ≡ g.slots → IsInGroup groups r
in_old_group groups g r within e s = record { in_range = within; slots = rw e s }

group_stays : (groups : List GroupPlan) (g : GroupPlan) (own : GroupPlan) (o : Option ℕ) → IfSome o (λ i. slice_get groups i ≡ Some own) → IfSome o (λ i. slice_get (groups ++ g ∷ []) i ≡ Some own)
group_stays groups g own o h = grind (arith, get_some_left)

pub areas_with_more_groups : (n : ℕ) (groups : List GroupPlan) (g : GroupPlan) (areas : List AreaRow) → All (IsAreaRow n groups) areas → All (IsAreaRow n (groups ++ g ∷ [])) areas
areas_with_more_groups n groups g areas h = grind (arith, group_stays)

-- ## Where a volume is within its group: the volumes before it are counted.

pub number_is : (a b : ℕ) → (a == b) ≡ true → a ≡ b
number_is a b e = grind (arith, nat_tests)

pub same_number : (a b : ℕ) → a ≡ b → (a == b) ≡ true
same_number a b e = grind (arith, nat_tests)

pub other_number : (a b : ℕ) → (a ≡ b → ⊥) → (a == b) ≡ false
other_number a b e = grind arith

-- ## one volume is counted after the other

place_if : (b c : Bool) (n m : ℕ) → m ≡ count_if c n → count_if b m ≡ count_if c (count_if b n)
place_if b c n m e = grind arith

-- one volume more is passed
place_more : (g : ℕ) (rows : List VolumeRow) (v : ℕ) (r : VolumeRow) → slice_get rows v ≡ Some r → place_in g rows (suc v) ≡ count_if (r.group == g) (place_in g rows v)
place_more g [] v r e = cc
place_more g (q ∷ []) zero r e = let same : q ≡ r = cc in ap (λ (z : VolumeRow). count_if (z.group == g) 0) same
place_more g (q ∷ p ∷ rows) zero r e = let same : q ≡ r = cc in ap (λ (z : VolumeRow). count_if (z.group == g) 0) same
place_more g (q ∷ rows) (suc v) r e = place_if (q.group == g) (r.group == g) (place_in g rows v) (place_in g rows (suc v)) (place_more g rows v r e)

-- so many of the first v volumes are of group g
abbrev pub IsCounted : ℕ → List VolumeRow → ℕ → ℕ → Type 0
IsCounted g rows v n = (n ≡ place_in g rows v) × (n ≤ v)

pub counted_is : (g : ℕ) (rows : List VolumeRow) (v n m : ℕ) → n ≡ m → IsCounted g rows v m → IsCounted g rows v n
counted_is g rows v n m same h = subst (λ (k : ℕ). IsCounted g rows v k) (sym same) h

count_yes : (b : Bool) (n : ℕ) → b ≡ true → count_if b n ≡ suc n
count_yes b n e = grind arith

count_no : (b : Bool) (n : ℕ) → b ≡ false → count_if b n ≡ n
count_no b n e = grind arith

next_is : (n : ℕ) → suc n ≡ n + 1
next_is n = omega arith

pub counted_one : (g : ℕ) (rows : List VolumeRow) (v n : ℕ) (r : VolumeRow) → slice_get rows v ≡ Some r → r.group ≡ g → IsCounted g rows v n → IsCounted g rows (v + 1) (n + 1)
counted_one g rows v n r e is h =
    let fact = count_yes (r.group == g) (place_in g rows v) (same_number r.group g is) in
    grind (arith, common_steps, next_is n, next_is v, same_number r.group g is, place_more g rows v r e)

pub passed_one : (g : ℕ) (rows : List VolumeRow) (v n : ℕ) (r : VolumeRow) → slice_get rows v ≡ Some r → (r.group ≡ g → ⊥) → IsCounted g rows v n → IsCounted g rows (v + 1) n
passed_one g rows v n r e is h =
    let fact = count_no (r.group == g) (place_in g rows v) (other_number r.group g is) in
    grind (arith, common_steps, other_number r.group g is, place_more g rows v r e, next_is v)

-- ## one place after the other is listed

-- ## the volume at a place

after_first : (b : Bool) (later : ℕ → ℕ) → b ≡ true → volume_after b later 0 ≡ 0
after_first b later e = grind arith

after_more : (b : Bool) (later : ℕ → ℕ) (n : ℕ) → volume_after b later (count_if b n) ≡ suc (later n)
after_more b later n = grind arith

volume_back : (rows : List VolumeRow) (v : ℕ) (r : VolumeRow) → slice_get rows v ≡ Some r → volume_in r.group rows (place_in r.group rows v) ≡ v
volume_back [] v r e = cc
volume_back (q ∷ rows) zero r e = let same : q ≡ r = cc in after_first (q.group == r.group) (volume_in r.group rows) (same_number q.group r.group (ap (λ (z : VolumeRow). z.group) same))
volume_back (q ∷ rows) (suc v) r e = after_more (q.group == r.group) (volume_in r.group rows) (place_in r.group rows v) ∙ ap (λ n. suc n) (volume_back rows v r e)

-- a volume is the one at its place
pub volume_is : (rows : List VolumeRow) (v g u : ℕ) → IsPlaceIn rows v g u → volume_in g rows u ≡ v
volume_is rows v g u p = grind (arith, volume_back)

place_behind : (q : VolumeRow) (rows : List VolumeRow) (v g u : ℕ) → IsPlaceIn rows v g u → IsPlaceIn (q ∷ rows) (suc v) g (count_if (q.group == g) u)
place_behind q rows v g u p = grind arith

-- where there is a volume at a place, it is one of these
place_found : (g u : ℕ) (rows : List VolumeRow) → volume_in g rows u < length rows → IsPlaceIn rows (volume_in g rows u) g u
place_found g u [] low = absurd (omega arith)
place_found g u (q ∷ rows) low = by_test (q.group == g) refl u low (λ w l. place_found g w rows l)
  where
    behind : (b : Bool) → (q.group == g) ≡ b → (w : ℕ) → IsPlaceIn rows (volume_in g rows w) g w → IsPlaceIn (q ∷ rows) (suc (volume_in g rows w)) g (count_if b w)
    behind b e w p = subst (λ (c : Bool). IsPlaceIn (q ∷ rows) (suc (volume_in g rows w)) g (count_if c w)) e (place_behind q rows (volume_in g rows w) g w p)

    by_test : (b : Bool) → (q.group == g) ≡ b → (w : ℕ) → volume_after b (volume_in g rows) w < suc (length rows) → ((k : ℕ) → volume_in g rows k < length rows → IsPlaceIn rows (volume_in g rows k) g k)
        → IsPlaceIn (q ∷ rows) (volume_after b (volume_in g rows) w) g w
    by_test true e zero l more = record { row = q; is_row = refl; group_is = sym (number_is q.group g e); within_is = refl }
    by_test true e (suc w) l more = behind true e w (more w (omega (arith, l)))
    by_test false e w l more = behind false e w (more w (omega (arith, l)))

-- a volume has one place
pub one_place : (rows : List VolumeRow) (v g u k w : ℕ) → IsPlaceIn rows v g u → IsPlaceIn rows v k w → (k ≡ g) × (w ≡ u)
one_place rows v g u k w a b = grind arith

pub found_place : (rows : List VolumeRow) (places : List Place) (p : Place) (v : ℕ) → ArePlaces rows (length rows) places → position (is_place p) places ≡ Some v → v ≡ volume_in p.group rows p.volume
found_place rows places p v are is =
    let at = position-Some (is_place p) places v p is in let q = get_or places v p in let tests = and_parts (q.group == p.group) (q.volume == p.volume) at.1 in
    let fact = number_is q.volume p.volume tests.1 in
    grind (arith, common_steps, slice_get-get_or places v p at.0, volume_is rows v p.group p.volume, number_is q.group p.group tests.0)

volume_within : (g u : ℕ) (rows : List VolumeRow) → volume_in g rows u ≤ length rows
volume_within g u [] = omega arith
volume_within g u (q ∷ rows) = by_test (q.group == g) u (λ w. volume_within g w rows)
  where
    by_test : (b : Bool) (w : ℕ) → ((k : ℕ) → volume_in g rows k ≤ length rows) → volume_after b (volume_in g rows) w ≤ suc (length rows)
    by_test true zero more = omega arith
    by_test true (suc w) more = let l = more w in omega (arith, l)
    by_test false w more = let l = more w in omega (arith, l)

pub no_place : (rows : List VolumeRow) (places : List Place) (p : Place) → ArePlaces rows (length rows) places → position (is_place p) places ≡ None → length rows ≡ volume_in p.group rows p.volume
no_place rows places p are none = by_test (nat_lt (volume_in p.group rows p.volume) (length rows)) refl
  where
    passes : (q : Place) → q.group ≡ p.group → q.volume ≡ p.volume → is_place p q ≡ true
    passes q e f = ap (λ (b : Bool). b && (q.volume == p.volume)) (same_number q.group p.group e) ∙ same_number q.volume p.volume f

    clash : volume_in p.group rows p.volume < length rows → ⊥
    clash low =
        let many = are.number in
        let v = volume_in p.group rows p.volume in
        let q = get_or places v p in
        let there = are.each v q (slice_get-get_or places v p (omega (arith, low, many))) in
        let one = one_place rows v p.group p.volume q.group q.volume (place_found p.group p.volume rows low) there in
        let all : length places ≤ position_or_len (is_place p) places = grind (arith, common_steps) in
        yes_no (sym (passes q one.0 one.1) ∙ fails_before_first (is_place p) places v p (omega (arith, low, many, all)))
      where
        yes_no : true ≡ false → ⊥
        yes_no e = cc

    by_test : (t : Bool) → nat_lt (volume_in p.group rows p.volume) (length rows) ≡ t → length rows ≡ volume_in p.group rows p.volume
    by_test true e = absurd (clash (grind (arith, nat_tests)))
    by_test false e = let most = volume_within p.group p.volume rows in grind (arith, nat_tests)

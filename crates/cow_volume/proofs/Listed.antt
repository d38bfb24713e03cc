-- The images of the sets up to one, listed set by set and in each volume by volume: what is added at a step, and how many there are.
use Rattle.std.proofs.Common.{ℕ, zero, suc, ◌≡◌, ◌<◌, ◌≤◌, ◌+◌, ◌-◌, ◌*◌, Bool, true, false, ◌||◌, get_or, List, [], ◌∷◌, ◌++◌, length, drop, Option, Some, None, slice_get, refl, sym, ap, ◌∙◌, subst}
use Rattle.std.proofs.Common.{arith, append_assoc, inl, inr}
use Rattle.std.specs.Prelude.{◌==◌, nat_lt, if◌then◌else◌, IfSome}
use Rattle.std.specs.List.{flat_map, range_with_len, AllWithin}
use Rattle.std.proofs.lemmas.Bool.{cases_lt}
use Rattle.std.proofs.lemmas.Bool.Decides.{nat_tests}
use Rattle.std.proofs.lemmas.List.{length-append, length-map, drop_more, drop_all}
use Rattle.std.proofs.lemmas.Option.{slice_get_within}
use Rattle.write_history.specs.declared.evicted.Evicted.{Evicted}
use Rattle.write_history.specs.Slots.{evicted_of}
use Rattle.diff_map.specs.Copies.{AreImages}
use Rattle.cow_volume.specs.Calls.{sets_in, is_among}
use Rattle.cow_volume.specs.Room.{holders, images_going, first_above, lesser, IsNextSet}
use Rattle.cow_volume.proofs.MakingRoom.{lesser_of}

-- ## one volume more

on_is : (images : List (List ℕ)) (v : ℕ) → get_or images v [] ≡ sets_in (slice_get images v)
on_is [] v = refl
on_is (sets ∷ images) zero = refl
on_is (sets ∷ images) (suc v) = on_is images v

rest_is : (n v : ℕ) (images : List (List ℕ)) (has : Bool) → v < length images → is_among n (sets_in (slice_get images v)) ≡ has
    → holders n v (drop v images) ≡ (if has then v ∷ holders n (v + 1) (drop (v + 1) images) else holders n (v + 1) (drop (v + 1) images))
rest_is n v images has inside e =
    ap (holders n v) (drop_more images v [] inside)
    ∙ ap (λ (t : Bool). if t then v ∷ holders n (v + 1) (drop (v + 1) images) else holders n (v + 1) (drop (v + 1) images)) (ap (is_among n) (on_is images v) ∙ e)

-- what is listed, and what is to come of a set from volume v on, is what there was and all of the set
abbrev pub IsSoFar : List (List ℕ) → ℕ → List Evicted → List Evicted → ℕ → Type 0
IsSoFar images n first now v = now ++ evicted_of n (holders n v (drop v images)) ≡ first ++ evicted_of n (holders n 0 images)

pub one_more : (images : List (List ℕ)) (n v : ℕ) (first now : List Evicted) → v < length images → is_among n (sets_in (slice_get images v)) ≡ true → IsSoFar images n first now v
    → IsSoFar images n first (now ++ record { set = n; volume = v } ∷ []) (v + 1)
one_more images n v first now inside has so_far =
    append_assoc now (record { set = n; volume = v } ∷ []) (evicted_of n (holders n (v + 1) (drop (v + 1) images)))
    ∙ ap (λ (vs : List ℕ). now ++ evicted_of n vs) (sym (rest_is n v images true inside has))
    ∙ so_far

pub none_more : (images : List (List ℕ)) (n v : ℕ) (first now : List Evicted) → v < length images → is_among n (sets_in (slice_get images v)) ≡ false → IsSoFar images n first now v
    → IsSoFar images n first now (v + 1)
none_more images n v first now inside has so_far = ap (λ (vs : List ℕ). now ++ evicted_of n vs) (sym (rest_is n v images false inside has)) ∙ so_far

append_none : {X : Type 0} (xs : List X) → xs ++ [] ≡ xs
append_none [] = refl
append_none (x ∷ xs) = ap (λ ys. x ∷ ys) (append_none xs)

pub all_so_far : (images : List (List ℕ)) (n v : ℕ) (first now : List Evicted) → length images ≤ v → IsSoFar images n first now v → now ≡ first ++ evicted_of n (holders n 0 images)
all_so_far images n v first now end so_far = grind (arith, append_none, drop_all)

-- so there is room for one more
pub has_room : (images : List (List ℕ)) (n v room : ℕ) (first now : List Evicted) → v < length images → is_among n (sets_in (slice_get images v)) ≡ true → IsSoFar images n first now v
    → length first + length (holders n 0 images) ≤ room → length now < room
has_room images n v room first now inside has so_far fits =
    let rest = holders n (v + 1) (drop (v + 1) images) in
    let is : now ++ evicted_of n (v ∷ rest) ≡ first ++ evicted_of n (holders n 0 images) = ap (λ (vs : List ℕ). now ++ evicted_of n vs) (sym (rest_is n v images true inside has)) ∙ so_far in
    let long : length (now ++ evicted_of n (v ∷ rest)) ≡ length (first ++ evicted_of n (holders n 0 images)) = ap length is in
    let all : length (first ++ evicted_of n (holders n 0 images)) ≡ length first + length (evicted_of n (holders n 0 images)) = length-append first (evicted_of n (holders n 0 images)) in
    let each : length (evicted_of n (holders n 0 images)) ≡ length (holders n 0 images) = length-map {B = Evicted} (holders n 0 images) (λ (u : ℕ). record { set = n; volume = u }) in
    let more : length (now ++ evicted_of n (v ∷ rest)) ≡ length now + suc (length (evicted_of n rest)) = length-append now (evicted_of n (v ∷ rest)) in
    omega (arith, long, all, each, more, fits)

-- ## one set more

grow : {X : Type 0} (f : ℕ → List X) (a k : ℕ) → flat_map f (range_with_len a (suc k)) ≡ flat_map f (range_with_len a k) ++ f (a + k)
grow f a zero = let none : a ≡ a + 0 = omega arith in append_none (f a) ∙ ap f none
grow f a (suc k) =
    let next : a + 1 + k ≡ a + suc k = omega arith in
    ap (λ xs. f a ++ xs) (grow f (a + 1) k ∙ ap (λ n. flat_map f (range_with_len (a + 1) k) ++ f n) next) ∙ sym (append_assoc (f a) (flat_map f (range_with_len (a + 1) k)) (f (a + suc k)))

one_set : (images : List (List ℕ)) (k : ℕ) → images_going (suc k) images ≡ images_going k images ++ evicted_of (suc k) (holders (suc k) 0 images)
one_set images k = let next : 1 + k ≡ suc k = omega arith in
    grow (λ n. evicted_of n (holders n 0 images)) 1 k ∙ ap (λ (n : ℕ). images_going k images ++ evicted_of n (holders n 0 images)) next

-- sets of which no image stands add nothing
passed : (images : List (List ℕ)) (above k : ℕ) → ((n : ℕ) → above < n → n < suc (above + k) → holders n 0 images ≡ []) → images_going (above + k) images ≡ images_going above images
passed images above zero none = let same : above + 0 ≡ above = omega arith in ap (λ (n : ℕ). images_going n images) same
passed images above (suc k) none =
    let next : above + suc k ≡ suc (above + k) = omega arith in
    ap (λ (n : ℕ). images_going n images) next
    ∙ one_set images (above + k)
    ∙ ap (λ (vs : List ℕ). images_going (above + k) images ++ evicted_of (suc (above + k)) vs) (none (suc (above + k)) (omega arith) (omega arith))
    ∙ append_none (images_going (above + k) images)
    ∙ passed images above k (λ n high low. none n high (omega arith))

pub next_is : (images : List (List ℕ)) (above up_to set : ℕ) → IsNextSet images above up_to set → images_going set images ≡ images_going above images ++ evicted_of set (holders set 0 images)
next_is images above up_to set next = let high = next.higher in by_number (set - suc above) (omega (arith, high))
  where
    by_number : (k : ℕ) → set ≡ suc (above + k) → images_going set images ≡ images_going above images ++ evicted_of set (holders set 0 images)
    by_number k is =
        ap (λ (n : ℕ). images_going n images) is
        ∙ one_set images (above + k)
        ∙ ap (λ (xs : List Evicted). xs ++ evicted_of (suc (above + k)) (holders (suc (above + k)) 0 images)) (passed images above k (λ n low less. next.none n low (omega (arith, less, is))))
        ∙ ap (λ (n : ℕ). images_going above images ++ evicted_of n (holders n 0 images)) (sym is)

-- ## the next set

pub apart_below : (s n : ℕ) → s < n → (s == n) ≡ false
apart_below s n l = grind (arith, nat_tests)

at_most : (above s : ℕ) → nat_lt above s ≡ false → s ≤ above
at_most above s e = grind (arith, nat_tests)

not_among : (n s : ℕ) (sets : List ℕ) → (s == n) ≡ false → is_among n sets ≡ false → is_among n (s ∷ sets) ≡ false
not_among n s sets e f = ap (λ (t : Bool). t || is_among n sets) e ∙ f

all_above : (n : ℕ) (sets : List ℕ) → ((i : ℕ) → i < length sets → n < get_or sets i 0) → is_among n sets ≡ false
all_above n [] above = refl
all_above n (s ∷ sets) above = not_among n s sets (grind (arith, nat_tests, above 0 (omega arith))) (all_above n sets (λ i l. above (suc i) (omega arith)))

-- no set between is among sets that rise
none_between : (above n : ℕ) (sets : List ℕ) → ((i j : ℕ) → i < j → j < length sets → get_or sets i 0 < get_or sets j 0) → above < n → IfSome (first_above above sets) (λ s. n < s)
    → is_among n sets ≡ false
none_between above n [] rise l h = refl
none_between above n (s ∷ sets) rise l h = by_test (nat_lt above s) refl h (none_between above n sets (λ i j low inside. rise (suc i) (suc j) (omega arith) (omega arith)) l) where
  far : (a b c : ℕ) → a < b → b < c → a < c
  far a b c l k = omega arith

  higher : n < s → (i : ℕ) → i < length (s ∷ sets) → n < get_or (s ∷ sets) i 0
  higher less zero inside = less
  higher less (suc i) inside = far n s (get_or sets i 0) less (rise 0 (suc i) (omega arith) inside)

  by_test : (t : Bool) → nat_lt above s ≡ t → IfSome (if t then Some s else first_above above sets) (λ k. n < k) → (IfSome (first_above above sets) (λ k. n < k) → is_among n sets ≡ false)
      → is_among n (s ∷ sets) ≡ false
  by_test true e less rest = all_above n (s ∷ sets) (higher less)
  by_test false e less rest = let most = at_most above s e in not_among n s sets (apart_below s n (omega arith)) (rest less)

-- over the volumes below v
pub record IsNextBelow (images : List (List ℕ)) (above up_to next v : ℕ) : Type 0 where
  pub higher : above < next
  pub within : next ≤ up_to
  pub none : (n u : ℕ) (sets : List ℕ) → above < n → n < next → u < v → slice_get images u ≡ Some sets → is_among n sets ≡ false

pub next_first : (images : List (List ℕ)) (above up_to : ℕ) → above < up_to → IsNextBelow images above up_to up_to 0
next_first images above up_to l = record { higher = l; within = omega arith; none = λ n u sets high low inside at. absurd (omega arith) }

first_is : (above : ℕ) (sets : List ℕ) → IfSome (first_above above sets) (λ s. above < s)
first_is above [] = tt
first_is above (s ∷ sets) = by_test (nat_lt above s) refl (first_is above sets) where
  by_test : (t : Bool) → nat_lt above s ≡ t → IfSome (first_above above sets) (λ k. above < k) → IfSome (if t then Some s else first_above above sets) (λ k. above < k)
  by_test true e rest = grind (arith, nat_tests)
  by_test false e rest = rest

pub first_none : (above : ℕ) (sets : List ℕ) → AllWithin (λ s. s ≤ above) sets 0 (length sets) → None ≡ first_above above sets
first_none above [] before = refl
first_none above (s ∷ sets) before = by_test (nat_lt above s) refl (first_none above sets (λ k d low inside. before (suc k) d (omega arith) (omega arith))) where
  by_test : (t : Bool) → nat_lt above s ≡ t → None ≡ first_above above sets → None ≡ (if t then Some s else first_above above sets)
  by_test true e rest = let low = before 0 0 (omega arith) (omega arith) in absurd (grind (arith, nat_tests))
  by_test false e rest = rest

pub first_at : (above n : ℕ) (sets : List ℕ) → n < length sets → AllWithin (λ s. s ≤ above) sets 0 n → above < get_or sets n 0 → Some (get_or sets n 0) ≡ first_above above sets
first_at above n [] inside before past = absurd (omega arith)
first_at above zero (s ∷ sets) inside before past = by_test (nat_lt above s) refl where
  by_test : (t : Bool) → nat_lt above s ≡ t → Some s ≡ (if t then Some s else first_above above sets)
  by_test true e = refl
  by_test false e = absurd (grind (arith, nat_tests))
first_at above (suc n) (s ∷ sets) inside before past = by_test (nat_lt above s) refl (first_at above n sets (omega arith) (λ k d low within. before (suc k) d (omega arith) (omega arith)) past) where
  by_test : (t : Bool) → nat_lt above s ≡ t → Some (get_or sets n 0) ≡ first_above above sets → Some (get_or sets n 0) ≡ (if t then Some s else first_above above sets)
  by_test true e rest = let low = before 0 0 (omega arith) (omega arith) in absurd (grind (arith, nat_tests))
  by_test false e rest = rest

pub next_more : (images : List (List ℕ)) (above up_to next v : ℕ) (sets : List ℕ) → slice_get images v ≡ Some sets → AreImages sets → IsNextBelow images above up_to next v
    → IsNextBelow images above up_to (lesser next (first_above above sets)) (v + 1)
next_more images above up_to next v sets at are so_far = by_first (first_above above sets) (first_is above sets)
    (λ n high low. none_between above n sets (λ i j l inside. are.ascend i j 0 l inside) high low) where
      last : (n u : ℕ) (xs : List ℕ) → is_among n sets ≡ false → u < v + 1 → slice_get images u ≡ Some xs → (u < v → is_among n xs ≡ false) → is_among n xs ≡ false
      last n u xs none inside here before = elim (cases_lt u v) [
        | inl low ↦ before low
        | inr high ↦
            let is : u ≡ v = omega arith in
            let same : Some xs ≡ Some sets = sym here ∙ ap (slice_get images) is ∙ at in
            let equal : xs ≡ sets = cc in
            ap (is_among n) equal ∙ none
      ]

      by_first : (o : Option ℕ) → IfSome o (λ s. above < s) → ((n : ℕ) → above < n → IfSome o (λ s. n < s) → is_among n sets ≡ false) → IsNextBelow images above up_to (lesser next o) (v + 1)
      by_first None above_is absent = record {
        higher = so_far.higher;
        within = so_far.within;
        none = λ n u xs high low inside here. last n u xs (absent n high tt) inside here (λ before. so_far.none n u xs high low before here);
      }
      by_first (Some s) above_is absent = elim (lesser_of next s) [
        | inl less ↦ let below = less.0 in let most = so_far.within in subst (λ (m : ℕ). IsNextBelow images above up_to m (v + 1)) (sym less.1) (record {
          higher = above_is;
          within = omega arith;
          none = λ n u xs high low inside here. last n u xs (absent n high low) inside here (λ before. so_far.none n u xs high (omega arith) before here);
        })
        | inr least ↦ let bound = least.0 in subst (λ (m : ℕ). IsNextBelow images above up_to m (v + 1)) (sym least.1) (record {
          higher = so_far.higher;
          within = so_far.within;
          none = λ n u xs high low inside here. last n u xs (absent n high (omega arith)) inside here (λ before. so_far.none n u xs high low before here);
        })
      ]

none_hold : (n v : ℕ) (images : List (List ℕ)) → ((u : ℕ) (sets : List ℕ) → slice_get images u ≡ Some sets → is_among n sets ≡ false) → holders n v images ≡ []
none_hold n v [] none = refl
none_hold n v (sets ∷ images) none =
    ap (λ (t : Bool). if t then v ∷ holders n (v + 1) images else holders n (v + 1) images) (none 0 sets refl) ∙ none_hold n (v + 1) images (λ u xs at. none (suc u) xs at)

pub next_all : (images : List (List ℕ)) (above up_to next v : ℕ) → length images ≤ v → IsNextBelow images above up_to next v → IsNextSet images above up_to next
next_all images above up_to next v end so_far = grind (arith, none_hold, slice_get_within)

-- ## how many

abbrev bit : Bool → ℕ
bit true = 1
bit false = 0

-- how many of these numbers are among the sets
abbrev hits : List ℕ → List ℕ → ℕ
hits sets [] = 0
hits sets (n ∷ ns) = bit (is_among n sets) + hits sets ns

abbrev listed : List ℕ → ℕ → List (List ℕ) → List Evicted
listed ns v images = flat_map (λ n. evicted_of n (holders n v images)) ns

none_listed : (ns : List ℕ) (v : ℕ) → listed ns v [] ≡ []
none_listed [] v = refl
none_listed (n ∷ ns) v = none_listed ns v

volume_more : (ns : List ℕ) (v : ℕ) (sets : List ℕ) (images : List (List ℕ)) → length (listed ns v (sets ∷ images)) ≡ hits sets ns + length (listed ns (v + 1) images)
volume_more [] v sets images = refl
volume_more (n ∷ ns) v sets images =
    let now : length (listed (n ∷ ns) v (sets ∷ images)) ≡ length (evicted_of n (holders n v (sets ∷ images))) + length (listed ns v (sets ∷ images)) =
    length-append (evicted_of n (holders n v (sets ∷ images))) (listed ns v (sets ∷ images)) in
    let less : length (listed (n ∷ ns) (v + 1) images) ≡ length (evicted_of n (holders n (v + 1) images)) + length (listed ns (v + 1) images) =
    length-append (evicted_of n (holders n (v + 1) images)) (listed ns (v + 1) images) in
    let here : length (evicted_of n (holders n v (sets ∷ images))) ≡ bit (is_among n sets) + length (evicted_of n (holders n (v + 1) images)) = by_test (is_among n sets) in
    let hit : hits sets (n ∷ ns) ≡ bit (is_among n sets) + hits sets ns = refl in
    let rest = volume_more ns v sets images in
    omega (arith, now, less, here, hit, rest)
  where
    one_more : (k : ℕ) → suc k ≡ 1 + k
    one_more k = omega arith

    no_more : (k : ℕ) → k ≡ 0 + k
    no_more k = omega arith

    by_test : (t : Bool) → length (evicted_of n (if t then v ∷ holders n (v + 1) images else holders n (v + 1) images)) ≡ bit t + length (evicted_of n (holders n (v + 1) images))
    by_test true = one_more (length (evicted_of n (holders n (v + 1) images)))
    by_test false = no_more (length (evicted_of n (holders n (v + 1) images)))

no_hit : (ns : List ℕ) → hits [] ns ≡ 0
no_hit [] = refl
no_hit (n ∷ ns) = let here : hits [] (n ∷ ns) ≡ 0 + hits [] ns = refl in let rest = no_hit ns in omega (arith, here, rest)

either : (t u : Bool) → bit (t || u) ≤ bit (t || false) + bit u
either t u = grind arith

set_more : (s : ℕ) (sets ns : List ℕ) → hits (s ∷ sets) ns ≤ hits (s ∷ []) ns + hits sets ns
set_more s sets [] = omega arith
set_more s sets (n ∷ ns) =
    let all : hits (s ∷ sets) (n ∷ ns) ≡ bit ((s == n) || is_among n sets) + hits (s ∷ sets) ns = refl in
    let one : hits (s ∷ []) (n ∷ ns) ≡ bit ((s == n) || false) + hits (s ∷ []) ns = refl in
    let others : hits sets (n ∷ ns) ≡ bit (is_among n sets) + hits sets ns = refl in
    let here = either (s == n) (is_among n sets) in
    let rest = set_more s sets ns in
    omega (arith, all, one, others, here, rest)

past_it : (s a k : ℕ) → s < a → hits (s ∷ []) (range_with_len a k) ≡ 0
past_it s a zero l = refl
past_it s a (suc k) l =
    let here : hits (s ∷ []) (range_with_len a (suc k)) ≡ 0 + hits (s ∷ []) (range_with_len (a + 1) k) = grind (arith, apart_below s a l) in
    let rest = past_it s (a + 1) k (omega arith) in
    omega (arith, here, rest)

once : (s a k : ℕ) → hits (s ∷ []) (range_with_len a k) ≤ 1
once s a zero = omega arith
once s a (suc k) = by_test (s == a) refl (once s (a + 1) k) where
  by_test : (t : Bool) → (s == a) ≡ t → hits (s ∷ []) (range_with_len (a + 1) k) ≤ 1 → hits (s ∷ []) (range_with_len a (suc k)) ≤ 1
  by_test true e rest =
      let same : s ≡ a = grind (arith, nat_tests) in
      let here : hits (s ∷ []) (range_with_len a (suc k)) ≡ 1 + hits (s ∷ []) (range_with_len (a + 1) k) = grind arith in
      let none = past_it s (a + 1) k (omega arith) in
      omega (arith, here, none)
  by_test false e rest =
      let here : hits (s ∷ []) (range_with_len a (suc k)) ≡ 0 + hits (s ∷ []) (range_with_len (a + 1) k) = grind arith in
      omega (arith, here, rest)

few_hits : (sets : List ℕ) (a k : ℕ) → hits sets (range_with_len a k) ≤ length sets
few_hits [] a k = let none = no_hit (range_with_len a k) in omega arith
few_hits (s ∷ sets) a k =
    let more = set_more s sets (range_with_len a k) in
    let one = once s a k in
    let rest = few_hits sets a k in
    omega (arith, more, one, rest)

few_listed : (a k v : ℕ) (images : List (List ℕ)) → ((u : ℕ) (sets : List ℕ) → slice_get images u ≡ Some sets → length sets ≤ 512) → length (listed (range_with_len a k) v images) ≤ 512 * length images
few_listed a k v [] few = let none = ap length (none_listed (range_with_len a k) v) in omega (arith, none)
few_listed a k v (sets ∷ images) few =
    let more = volume_more (range_with_len a k) v sets images in
    let here = few_hits sets a k in
    let most = few 0 sets refl in
    let rest = few_listed a k (v + 1) images (λ u xs at. few (suc u) xs at) in
    omega (arith, more, here, most, rest)

pub few_going : (up_to : ℕ) (images : List (List ℕ)) → ((u : ℕ) (sets : List ℕ) → slice_get images u ≡ Some sets → length sets ≤ 512) → length (images_going up_to images) ≤ 512 * length images
few_going up_to images few = few_listed 1 up_to 0 images few

-- so there is room for the next set
pub few_next : (images : List (List ℕ)) (above up_to set room : ℕ) (now : List Evicted) → IsNextSet images above up_to set → now ≡ images_going above images
    → ((u : ℕ) (sets : List ℕ) → slice_get images u ≡ Some sets → length sets ≤ 512)
    → 512 * length images ≤ room → length now + length (holders set 0 images) ≤ room
few_next images above up_to set room now next listed few fits =
    let most = few_going set images few in
    let is = ap length (next_is images above up_to set next) in
    let both = length-append (images_going above images) (evicted_of set (holders set 0 images)) in
    let own = length-map {B = Evicted} (holders set 0 images) (λ (v : ℕ). record { set = set; volume = v }) in
    let same = ap length listed in
    omega (arith, most, is, both, own, same, fits)

-- The images that mirrors hold, as one is split off or joins again, how many mirrors are ready, and how the counts of their devices add up.
use Rattle.std.proofs.Common.{◌≡◌, ℕ, zero, suc, ◌<◌, ◌≤◌, List, [], ◌∷◌, ◌++◌, length, refl, ap, sym, ◌∙◌, arith, Bool, true, false, Option, Some, None, subst}
use Rattle.std.proofs.Common.{inl, inr, ◌+◌}
use Rattle.std.proofs.lemmas.Bool.Decides.{nat_tests}
use Rattle.std.proofs.lemmas.Grind.{common_steps}
use Rattle.std.proofs.lemmas.List.{length-map, length-replicate}
use Rattle.std.proofs.lemmas.Option.{same_Some, slice_get_within}
use Rattle.std.specs.List.{list_all}
use Rattle.std.specs.Prelude.{◌⊎◌, slice_get, slice_set, ◌==◌, not, filter, map, All, ◌&&◌, if◌then◌else◌, count_by, is_some, is_none}
use Rattle.std.proofs.Math.Nat.{le_refl}
use Rattle.vss_names.specs.Faults.{counted, all_counted, Rose}
use Rattle.volume_device.specs.declared.device.Device.{Ghosts}
use Rattle.cow_volume.specs.Calls.{is_among}
use Rattle.cow_volume.proofs.Group.{slice_get-set_same, slice_get-set_other, length-slice_set, slice_get_inside, same_number, other_number}
use Rattle.cow_volume.proofs.Merging.{was_row, and_left, and_right}
use Rattle.mirror_volume.specs.MirrorCalls.{IsFollowed, AreFollowed}
use Rattle.mirror_volume.specs.Mirrors.{AreMirrors, AreHeld, holds_of, mirror_over, is_ready}
use Rattle.mirror_volume.specs.declared.mirror.Mirror.{Mirror}
use Rattle.mirror_volume.proofs.Counts.{among_more, among_last, among_of_more, among_without, among_was, count-cons, fewer_stale}
use Rattle.mirror_volume.proofs.Standing.{All-at}

-- ## The images that mirrors hold, as one is split off or joins again; and what is always so of mirrors, as one changes.

pub map-slice_set : {X Y : Type 0} → (f : X → Y) (xs : List X) (i : ℕ) (y : X) → map f (slice_set xs i y) ≡ slice_set (map f xs) i (f y)
map-slice_set f [] i y = refl
map-slice_set f (x ∷ xs) zero y = refl
map-slice_set f (x ∷ xs) (suc i) y = ap (λ ys. f x ∷ ys) (map-slice_set f xs i y)

-- ## the images that mirrors hold

pub held_cut : (holds : List (Option ℕ)) (images : List ℕ) (k set : ℕ) → AreHeld holds images → slice_get holds k ≡ Some None → is_among set images ≡ false
    → AreHeld (slice_set holds k (Some set)) (images ++ set ∷ [])
held_cut holds images k set are free new = record {
  each = λ j s at. each j s (j == k) refl at;
  held = λ s is. found s (among_of_more s set images is);
  one = λ j i s at also. one j i s (j == k) (i == k) refl refl at also;
} where
  here : slice_get (slice_set holds k (Some set)) k ≡ Some (Some set)
  here = slice_get-set_same holds k None (Some set) free

  at_other : (j s : ℕ) → (j == k) ≡ false → slice_get (slice_set holds k (Some set)) j ≡ Some (Some s) → slice_get holds j ≡ Some (Some s)
  at_other j s is at = sym (slice_get-set_other holds k j (Some set) (λ e. other_number j k is (sym e))) ∙ at

  is_set : (j s : ℕ) → (j == k) ≡ true → slice_get (slice_set holds k (Some set)) j ≡ Some (Some s) → set ≡ s
  is_set j s is at = same_Some set s (same_Some (Some set) (Some s) (sym here ∙ ap (slice_get (slice_set holds k (Some set))) (sym (same_number j k is)) ∙ at))

  each : (j s : ℕ) (t : Bool) → (j == k) ≡ t → slice_get (slice_set holds k (Some set)) j ≡ Some (Some s) → is_among s (images ++ set ∷ []) ≡ true
  each j s true is at = subst (λ (x : ℕ). is_among x (images ++ set ∷ []) ≡ true) (is_set j s is at) (among_last set images)
  each j s false is at = among_more s set images (are.each j s (at_other j s is at))

  found : (s : ℕ) → (s ≡ set) ⊎ (is_among s images ≡ true) → (j : ℕ) × (slice_get (slice_set holds k (Some set)) j ≡ Some (Some s))
  found s (inl same) = (k, here ∙ ap (λ (x : ℕ). Some (Some x)) (sym same))
  found s (inr is) = let was = are.held s is in (was.0, elsewhere s was.0 was.1 (was.0 == k) refl) where
    elsewhere : (s j : ℕ) → slice_get holds j ≡ Some (Some s) → (t : Bool) → (j == k) ≡ t → slice_get (slice_set holds k (Some set)) j ≡ Some (Some s)
    elsewhere s j at true is = let none = sym free ∙ ap (slice_get holds) (sym (same_number j k is)) ∙ at in cc
    elsewhere s j at false is = slice_get-set_other holds k j (Some set) (λ e. other_number j k is (sym e)) ∙ at

  one : (j i s : ℕ) (t u : Bool) → (j == k) ≡ t → (i == k) ≡ u → slice_get (slice_set holds k (Some set)) j ≡ Some (Some s) → slice_get (slice_set holds k (Some set)) i ≡ Some (Some s) → j ≡ i
  one j i s true true is also at too = same_number j k is ∙ sym (same_number i k also)
  one j i s true false is also at too =
      let old = are.each i s (at_other i s also too) in
      let none = ap (λ (x : ℕ). is_among x images) (is_set j s is at) in
      absurd (no (sym new ∙ none ∙ old)) where
        no : false ≡ true → ⊥
        no e = cc
  one j i s false true is also at too =
      let old = are.each j s (at_other j s is at) in
      let none = ap (λ (x : ℕ). is_among x images) (is_set i s also too) in
      absurd (no (sym new ∙ none ∙ old)) where
        no : false ≡ true → ⊥
        no e = cc
  one j i s false false is also at too = are.one j i s (at_other j s is at) (at_other i s also too)

pub held_drop : (holds : List (Option ℕ)) (images : List ℕ) (k set : ℕ) → AreHeld holds images → slice_get holds k ≡ Some (Some set)
    → AreHeld (slice_set holds k None) (filter (λ s. not (s == set)) images)
held_drop holds images k set are was = grind (arith, among_was, slice_get-set_same, same_number, slice_get-set_other, other_number, among_without, same_Some)

-- ## the mirrors

pub mirrors_one : {D : Type 0} → (size : D → ℕ) (n k : ℕ) (mirrors : List (Mirror D)) (m next : Mirror D) → AreMirrors size n mirrors → slice_get mirrors k ≡ Some m → size next.device ≡ n
    → length next.stale ≡ n → AreMirrors size n (slice_set mirrors k next)
mirrors_one size n k mirrors m next are was sized long = grind (arith, length-slice_set, same_Some, slice_get-set_same, same_number, slice_get-set_other, other_number)

followed_size : {D : Type 0} → (ghosts : Ghosts D) (b : ℕ) (bytes : List ℕ) (m next : Mirror D) → IsFollowed ghosts b bytes m next
    → (ghosts.size next.device ≡ ghosts.size m.device) × (length next.stale ≡ length m.stale)
followed_size ghosts b bytes m next is = grind (arith, length-slice_set)

pub mirrors_followed : {D : Type 0} → (ghosts : Ghosts D) (n b : ℕ) (bytes : List ℕ) (old new : List (Mirror D)) → AreFollowed ghosts b bytes old new → AreMirrors ghosts.size n old
    → AreMirrors ghosts.size n new
mirrors_followed {D = D} ghosts n b bytes old new are was = let long = are.long in record {
  some = let some = was.some in omega arith;
  few = let few = was.few in omega arith;
  sizes = λ k m at. let before = at_old k m at in (followed_size ghosts b bytes before.0 m (are.each k before.0 m before.1 at)).0 ∙ was.sizes k before.0 before.1;
  stale = λ k m at. let before = at_old k m at in (followed_size ghosts b bytes before.0 m (are.each k before.0 m before.1 at)).1 ∙ was.stale k before.0 before.1;
} where
  at_old : (k : ℕ) (m : Mirror D) → slice_get new k ≡ Some m → (x : Mirror D) × (slice_get old k ≡ Some x)
  at_old k m at = let within = slice_get_within new k m at in let long = are.long in slice_get_inside old k (omega arith)

pub followed_rest : {D : Type 0} → (ghosts : Ghosts D) (b : ℕ) (bytes : List ℕ) (m n : Mirror D) (old new : List (Mirror D)) → AreFollowed ghosts b bytes (m ∷ old) (n ∷ new)
    → AreFollowed ghosts b bytes old new
followed_rest ghosts b bytes m n old new are = record {
  long = let long = are.long in omega arith;
  each = λ k x y at also. are.each (suc k) x y at also;
}

-- what followed holds what it held
pub holds_followed : {D : Type 0} → (ghosts : Ghosts D) (b : ℕ) (bytes : List ℕ) (old new : List (Mirror D)) → AreFollowed ghosts b bytes old new → holds_of new ≡ holds_of old
holds_followed ghosts b bytes [] [] are = refl
holds_followed ghosts b bytes [] (n ∷ new) are = absurd (let long = are.long in omega arith)
holds_followed ghosts b bytes (m ∷ old) [] are = absurd (let long = are.long in omega arith)
holds_followed {D = D} ghosts b bytes (m ∷ old) (n ∷ new) are =
    ap (λ (o : Option ℕ). o ∷ holds_of new) (are.each 0 m n refl refl).holds ∙ ap (λ os. m.holds ∷ os) (holds_followed ghosts b bytes old new (followed_rest ghosts b bytes m n old new are))

-- new mirrors
pub mirrors_new : {D : Type 0} → (size : D → ℕ) (stale : Bool) (n : ℕ) (devices : List D) → 0 < length devices → length devices ≤ 8 → All (λ d. size d ≡ n) devices
    → AreMirrors size n (map (mirror_over stale n) devices)
mirrors_new {D = D} size stale n devices some few sized = let long = length-map devices (mirror_over stale n) in record {
  some = omega arith;
  few = omega arith;
  sizes = λ k m at. let was = was_row (mirror_over stale n) devices k m at in ap (λ (x : Mirror D). size x.device) (sym was.2) ∙ All-at (λ (d : D). size d ≡ n) devices k was.0 sized was.1;
  stale = λ k m at. let was = was_row (mirror_over stale n) devices k m at in ap (λ (x : Mirror D). length x.stale) (sym was.2) ∙ length-replicate n stale;
}

holds_new : {D : Type 0} → (stale : Bool) (n : ℕ) (devices : List D) (k : ℕ) (o : Option ℕ) → slice_get (holds_of (map (mirror_over stale n) devices)) k ≡ Some o → o ≡ None
holds_new stale n [] k o at = cc
holds_new stale n (d ∷ devices) zero o at = sym (same_Some None o at)
holds_new stale n (d ∷ devices) (suc k) o at = holds_new stale n devices k o at

pub held_new : {D : Type 0} → (stale : Bool) (n : ℕ) (devices : List D) → AreHeld (holds_of (map (mirror_over stale n) devices)) []
held_new stale n devices = grind (arith, holds_new)

-- ## How many mirrors are ready, and how the counts of the devices add up, as mirrors follow and one changes.

-- ## counts that are added up

pub counted_later : (a b c d : ℕ) → a ≤ b → c ≤ d → counted a c ≤ counted b d
counted_later a b c d l m = grind arith

-- the sum rose where one of the two did
counted_rose : (a b c d : ℕ) → a ≤ b → c ≤ d → Rose a b ⊎ Rose c d → Rose (counted a c) (counted b d)
counted_rose a b c d l m rose = grind arith

-- counts, one by one: none fell
abbrev pub AllLater : List ℕ → List ℕ → Type 0
AllLater [] [] = Unit {0}
AllLater [] (d ∷ ds) = ⊥
AllLater (c ∷ cs) [] = ⊥
AllLater (c ∷ cs) (d ∷ ds) = (c ≤ d) × AllLater cs ds

-- one rose
abbrev pub AnyRose : List ℕ → List ℕ → Type 0
AnyRose [] ds = ⊥
AnyRose (c ∷ cs) [] = ⊥
AnyRose (c ∷ cs) (d ∷ ds) = Rose c d ⊎ AnyRose cs ds

pub all_later : (a b : ℕ) (cs ds : List ℕ) → a ≤ b → AllLater cs ds → all_counted a cs ≤ all_counted b ds
all_later a b [] [] l are = l
all_later a b [] (d ∷ ds) l are = absurd are
all_later a b (c ∷ cs) [] l are = absurd are
all_later a b (c ∷ cs) (d ∷ ds) l are = all_later (counted a c) (counted b d) cs ds (counted_later a b c d l are.0) are.1

pub all_rose : (a b : ℕ) (cs ds : List ℕ) → a ≤ b → AllLater cs ds → Rose a b ⊎ AnyRose cs ds → Rose (all_counted a cs) (all_counted b ds)
all_rose a b [] [] l are (inl rose) = rose
all_rose a b [] [] l are (inr rose) = absurd rose
all_rose a b [] (d ∷ ds) l are rose = absurd are
all_rose a b (c ∷ cs) [] l are rose = absurd are
all_rose a b (c ∷ cs) (d ∷ ds) l are (inl rose) = all_rose (counted a c) (counted b d) cs ds (counted_later a b c d l are.0) are.1 (inl (counted_rose a b c d l are.0 (inl rose)))
all_rose a b (c ∷ cs) (d ∷ ds) l are (inr (inl rose)) = all_rose (counted a c) (counted b d) cs ds (counted_later a b c d l are.0) are.1 (inl (counted_rose a b c d l are.0 (inr rose)))
all_rose a b (c ∷ cs) (d ∷ ds) l are (inr (inr rose)) = all_rose (counted a c) (counted b d) cs ds (counted_later a b c d l are.0) are.1 (inr rose)

pub later_itself : (cs : List ℕ) → AllLater cs cs
later_itself [] = tt
later_itself (c ∷ cs) = ((let same : c ≤ c = omega arith in same), later_itself cs)

pub later_set : (cs : List ℕ) (k c d : ℕ) → slice_get cs k ≡ Some c → c ≤ d → AllLater cs (slice_set cs k d)
later_set [] k c d at l = cc
later_set (x ∷ cs) zero c d at l = ((let same = same_Some x c at in omega arith), later_itself cs)
later_set (x ∷ cs) (suc k) c d at l = ((let same : x ≤ x = omega arith in same), later_set cs k c d at l)

pub rose_set : (cs : List ℕ) (k c d : ℕ) → slice_get cs k ≡ Some c → Rose c d → AnyRose cs (slice_set cs k d)
rose_set [] k c d at rose = cc
rose_set (x ∷ cs) zero c d at rose = inl (subst (λ (y : ℕ). Rose y d) (sym (same_Some x c at)) rose)
rose_set (x ∷ cs) (suc k) c d at rose = inr (rose_set cs k c d at rose)

-- ## mirrors that follow

later_followed : {D : Type 0} → (ghosts : Ghosts D) (b : ℕ) (bytes : List ℕ) (m next : Mirror D) → IsFollowed ghosts b bytes m next → ghosts.count m.device ≤ ghosts.count next.device
later_followed ghosts b bytes m next is = grind arith

pub all_later_followed : {D : Type 0} → (ghosts : Ghosts D) (b : ℕ) (bytes : List ℕ) (old new : List (Mirror D)) → AreFollowed ghosts b bytes old new
    → AllLater (map (λ m. ghosts.count m.device) old) (map (λ m. ghosts.count m.device) new)
all_later_followed ghosts b bytes [] [] are = tt
all_later_followed ghosts b bytes [] (n ∷ new) are = absurd (let long = are.long in omega arith)
all_later_followed ghosts b bytes (m ∷ old) [] are = absurd (let long = are.long in omega arith)
all_later_followed ghosts b bytes (m ∷ old) (n ∷ new) are =
    (later_followed ghosts b bytes m n (are.each 0 m n refl refl), all_later_followed ghosts b bytes old new (followed_rest ghosts b bytes m n old new are))

tells_one : {D : Type 0} → (ghosts : Ghosts D) (b : ℕ) (bytes : List ℕ) (m next : Mirror D) → IsFollowed ghosts b bytes m next → is_some (ghosts.told next.device) ≡ is_some (ghosts.told m.device)
tells_one ghosts b bytes m next is = grind arith

pub tells_followed : {D : Type 0} → (ghosts : Ghosts D) (b : ℕ) (bytes : List ℕ) (old new : List (Mirror D)) → AreFollowed ghosts b bytes old new
    → list_all (λ m. is_some (ghosts.told m.device)) new ≡ list_all (λ m. is_some (ghosts.told m.device)) old
tells_followed ghosts b bytes [] [] are = refl
tells_followed ghosts b bytes [] (n ∷ new) are = absurd (let long = are.long in omega arith)
tells_followed ghosts b bytes (m ∷ old) [] are = absurd (let long = are.long in omega arith)
tells_followed ghosts b bytes (m ∷ old) (n ∷ new) are =
    ap (λ (t : Bool). t && list_all (λ x. is_some (ghosts.told x.device)) new) (tells_one ghosts b bytes m n (are.each 0 m n refl refl))
    ∙ ap (λ (t : Bool). is_some (ghosts.told m.device) && t) (tells_followed ghosts b bytes old new (followed_rest ghosts b bytes m n old new are))

pub tells_set : {X : Type 0} → (test : X → Bool) (xs : List X) (k : ℕ) (x next : X) → slice_get xs k ≡ Some x → test next ≡ test x → list_all test (slice_set xs k next) ≡ list_all test xs
tells_set test [] k x next at same = refl
tells_set test (y ∷ xs) zero x next at same = ap (λ (t : Bool). t && list_all test xs) (same ∙ ap test (sym (same_Some y x at)))
tells_set test (y ∷ xs) (suc k) x next at same = ap (λ (t : Bool). test y && t) (tells_set test xs k x next at same)

-- ## mirrors that are ready

not_none : (o : Option ℕ) → is_some o ≡ true → is_none o ≡ true → ⊥
not_none o e f = grind arith

zero_is : (n : ℕ) → n ≤ 0 → (n == 0) ≡ true
zero_is n l = grind (arith, nat_tests)

-- a mirror that was ready is so still, or its device failed
still_ready : {D : Type 0} → (ghosts : Ghosts D) (b : ℕ) (bytes : List ℕ) (m next : Mirror D) → IsFollowed ghosts b bytes m next → is_ready m ≡ true
    → (is_ready next ≡ true) ⊎ Rose (ghosts.count m.device) (ghosts.count next.device)
still_ready ghosts b bytes m next is ready = grind (arith, and_left, same_number, and_right, not_none, fewer_stale, zero_is)

count_two : (s t : Bool) (m n : ℕ) → (s ≡ true → t ≡ true) → m ≤ n → (if s then 1 else 0) + m ≤ (if t then 1 else 0) + n
count_two s t m n more l = grind arith

pub ready_followed : {D : Type 0} → (ghosts : Ghosts D) (b : ℕ) (bytes : List ℕ) (old new : List (Mirror D)) → AreFollowed ghosts b bytes old new
    → (count_by is_ready old ≤ count_by is_ready new) ⊎ AnyRose (map (λ m. ghosts.count m.device) old) (map (λ m. ghosts.count m.device) new)
ready_followed ghosts b bytes [] [] are = inl (omega arith)
ready_followed ghosts b bytes [] (n ∷ new) are = absurd (let long = are.long in omega arith)
ready_followed ghosts b bytes (m ∷ old) [] are = absurd (let long = are.long in omega arith)
ready_followed {D = D} ghosts b bytes (m ∷ old) (n ∷ new) are = by_one (is_ready m) refl (ready_followed ghosts b bytes old new (followed_rest ghosts b bytes m n old new are)) where
  Goal : Type 0
  Goal = (count_by is_ready (m ∷ old) ≤ count_by is_ready (n ∷ new)) ⊎ AnyRose (map (λ (x : Mirror D). ghosts.count x.device) (m ∷ old)) (map (λ (x : Mirror D). ghosts.count x.device) (n ∷ new))

  by_both : (count_by is_ready old ≤ count_by is_ready new) ⊎ AnyRose (map (λ (x : Mirror D). ghosts.count x.device) old) (map (λ (x : Mirror D). ghosts.count x.device) new)
      → ((is_ready m ≡ true → is_ready n ≡ true) ⊎ Rose (ghosts.count m.device) (ghosts.count n.device))
      → (count_by is_ready (m ∷ old) ≤ count_by is_ready (n ∷ new)) ⊎ AnyRose (map (λ (x : Mirror D). ghosts.count x.device) (m ∷ old)) (map (λ (x : Mirror D). ghosts.count x.device) (n ∷ new))
  by_both (inl rest) (inl more) = inl
      (let a = count-cons is_ready m old in let b = count-cons is_ready n new in let l = count_two (is_ready m) (is_ready n) (count_by is_ready old)
      (count_by is_ready new) more rest in omega arith)
  by_both (inr rest) more = inr (inr rest)
  by_both (inl rest) (inr rose) = inr (inl rose)

  by_one : (t : Bool) → is_ready m ≡ t
      → (count_by is_ready old ≤ count_by is_ready new) ⊎ AnyRose (map (λ (x : Mirror D). ghosts.count x.device) old) (map (λ (x : Mirror D). ghosts.count x.device) new)
      → (count_by is_ready (m ∷ old) ≤ count_by is_ready (n ∷ new)) ⊎ AnyRose (map (λ (x : Mirror D). ghosts.count x.device) (m ∷ old)) (map (λ (x : Mirror D). ghosts.count x.device) (n ∷ new))
  by_one true is rest = by_both rest (elim (still_ready ghosts b bytes m n (are.each 0 m n refl refl) is) [ inl r ↦ inl (λ _. r) | inr r ↦ inr r ])
  by_one false is rest = by_both rest (inl (λ ready. absurd (false_not_true (sym is ∙ ready)))) where
    false_not_true : false ≡ true → ⊥
    false_not_true e = cc

-- one mirror changes
pub ready_set : {D : Type 0} → (mirrors : List (Mirror D)) (k : ℕ) (m next : Mirror D) → slice_get mirrors k ≡ Some m → (is_ready m ≡ true → is_ready next ≡ true)
    → count_by is_ready mirrors ≤ count_by is_ready (slice_set mirrors k next)
ready_set [] k m next at more = omega arith
ready_set {D = D} (x ∷ mirrors) zero m next at more = grind (arith, common_steps, count-cons, count_two, same_Some, le_refl)
ready_set (x ∷ mirrors) (suc k) m next at more = grind (arith, common_steps, count-cons, ready_set mirrors k m next)

-- one that was ready is split off
pub ready_split : {D : Type 0} → (mirrors : List (Mirror D)) (k : ℕ) (m next : Mirror D) → slice_get mirrors k ≡ Some m → count_by is_ready mirrors ≤ count_by is_ready (slice_set mirrors k next) + 1
ready_split [] k m next at = omega arith
ready_split (x ∷ mirrors) zero m next at = grind (arith, common_steps, count-cons)
ready_split (x ∷ mirrors) (suc k) m next at = grind (arith, common_steps, count-cons, ready_split mirrors k m next)

one_counts : (t : Bool) (m n : ℕ) → t ≡ true → m ≡ (if t then 1 else 0) + n → 0 < m
one_counts t m n e is = grind arith

none_counts : (t : Bool) (m n : ℕ) → t ≡ false → m ≡ (if t then 1 else 0) + n → n ≡ 0 → m ≡ 0
none_counts t m n e is none = grind arith

-- some are ready where one is, and none where none is
pub ready_some : {D : Type 0} → (mirrors : List (Mirror D)) (k : ℕ) (m : Mirror D) → slice_get mirrors k ≡ Some m → is_ready m ≡ true → 0 < count_by is_ready mirrors
ready_some [] k m at ready = cc
ready_some (x ∷ mirrors) zero m at ready = grind (arith, common_steps, one_counts, same_Some, count-cons)
ready_some (x ∷ mirrors) (suc k) m at ready = grind (arith, common_steps, count-cons, ready_some mirrors k m)

pub ready_none : {D : Type 0} → (mirrors : List (Mirror D)) → ((k : ℕ) (m : Mirror D) → slice_get mirrors k ≡ Some m → is_ready m ≡ false) → count_by is_ready mirrors ≡ 0
ready_none [] none = refl
ready_none (x ∷ mirrors) none =
    none_counts (is_ready x) (count_by is_ready (x ∷ mirrors)) (count_by is_ready mirrors) (none 0 x refl) (count-cons is_ready x mirrors) (ready_none mirrors (λ k m at. none (suc k) m at))

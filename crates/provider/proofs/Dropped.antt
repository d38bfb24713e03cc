-- The images of a set go from the volumes of a group, and of all groups; and whether an image stands.
use Rattle.std.proofs.Common.{◌≡◌, ℕ, ◌==◌, List, [], ◌∷◌, refl, ap, sym, ◌∙◌, Bool, Option, Some, ◌||◌, is_some, if◌then◌else◌, arith, zero, suc, ◌+◌, ◌<◌}
use Rattle.std.proofs.Common.{◌≤◌, length, subst, true, false, map, take, not, ◌++◌, ◌*◌, slice_get, slice_set}
use Rattle.vss_model.proofs.Words.{number_is}
use Rattle.provider.specs.Words.{history_at as group_history_at}
use Rattle.provider.proofs.Flat.{devices_same}
use Rattle.provider.proofs.Kept.{kept_then, keeps}
use Rattle.provider.proofs.Words.{GroupValue, HasImage, IfStandFor, Image, Plan, history_at, is_among, point_in, sets_of, Ghosts, History, IsGroupDrop}
use Rattle.provider.proofs.Words.{IsKeptGroup, IsWithout, StandsFor, changed_at, count_images, dropped, has_image, history_in, place_at, sets_at, sets_in}
use Rattle.provider.proofs.Words.{slice_get_inside, take-length, take_next, without_set, AreGroups, AreWithout, VolumeRow, devices_of, length-map}
use Rattle.provider.proofs.Words.{length-slice_set, nat_tests, of_group, of_group_if, same_number, slice_get-set_other, slice_get-set_same, slice_get_within}
use Rattle.provider.proofs.Words.{slice_set-same}

-- ## Whether an image stands, by the list of sets.

point_if : (b : Bool) (p : ℕ) (o : Option ℕ) (c : Bool) → is_some o ≡ c → is_some (if b then Some p else o) ≡ (b || c)
point_if b p o c e = grind arith

pub point_among : (set : ℕ) (images : List Image) → is_some (point_in set images) ≡ is_among set (sets_of images)
point_among set [] = refl
point_among set (i ∷ images) = point_if (i.set == set) i.point (point_in set images) (is_among set (sets_of images)) (point_among set images)

pub image_listed : {D : Type 0} (told : D → Option (List (List ℕ))) (s : Plan) (groups : List (GroupValue D)) (v set : ℕ) (sets : List ℕ) (b : Bool)
    → IfStandFor told s groups (λ hs. sets ≡ sets_of (history_at hs v).images) → b ≡ is_among set sets → HasImage told s groups v set b
image_listed told s groups v set sets b are is hs stand = point_among set (history_at hs v).images ∙ sym (ap (is_among set) (are hs stand)) ∙ sym is

-- ## The images of a set go from all volumes of a group.

-- ## one history

without_if : (b c : Bool) (n : ℕ) (i : Image) (images : List Image) → (i.set == n) ≡ b → ((i.set == n) || c) ≡ false → (c ≡ false → without_set n images ≡ images)
    → (if not b then i ∷ without_set n images else without_set n images) ≡ i ∷ images
without_if b c n i images e f h = grind arith

without_none : (n : ℕ) (images : List Image) → is_among n (sets_of images) ≡ false → without_set n images ≡ images
without_none n [] e = refl
without_none n (i ∷ images) e = without_if (i.set == n) (is_among n (sets_of images)) n i images refl e (without_none n images)

-- ## one more history

-- the first k histories without the image of set n
abbrev pub dropped_first : ℕ → ℕ → List History → List History
dropped_first zero n hs = hs
dropped_first (suc k) n [] = []
dropped_first (suc k) n (h ∷ hs) = dropped n h ∷ dropped_first k n hs

one_more : (u n : ℕ) (hs : List History) → changed_at u (dropped n) (dropped_first u n hs) ≡ dropped_first (suc u) n hs
one_more zero n [] = refl
one_more zero n (h ∷ hs) = refl
one_more (suc u) n [] = refl
one_more (suc u) n (h ∷ hs) = ap (λ (xs : List History). dropped n h ∷ xs) (one_more u n hs)

at_first : (u n : ℕ) (hs : List History) → group_history_at (dropped_first u n hs) u ≡ group_history_at hs u
at_first zero n hs = refl
at_first (suc u) n [] = refl
at_first (suc u) n (h ∷ hs) = at_first u n hs

none_more : (u n : ℕ) (hs : List History) → without_set n (group_history_at hs u).images ≡ (group_history_at hs u).images → dropped_first u n hs ≡ dropped_first (suc u) n hs
none_more zero n [] e = refl
none_more zero n (h ∷ hs) e = ap (λ (is : List Image). record { writes = h.writes; images = is } ∷ hs) (sym e)
none_more (suc u) n [] e = refl
none_more (suc u) n (h ∷ hs) e = ap (λ (xs : List History). dropped n h ∷ xs) (none_more u n hs e)

all_first : (n : ℕ) (hs : List History) → dropped_first (length hs) n hs ≡ map (dropped n) hs
all_first n [] = refl
all_first n (h ∷ hs) = ap (λ (xs : List History). dropped n h ∷ xs) (all_first n hs)

-- ## counting

pub count-append : (n : ℕ) (hs ks : List History) → count_images n (hs ++ ks) ≡ count_images n hs + count_images n ks
count-append n [] ks = let z : count_images n ks ≡ 0 + count_images n ks = omega arith in z
count-append n (h ∷ hs) ks =
    let rest = count-append n hs ks in
    ap (λ (m : ℕ). (if has_image n h then 1 else 0) + m) rest ∙ regroup (if has_image n h then 1 else 0) (count_images n hs) (count_images n ks)
  where
    regroup : (a b c : ℕ) → a + (b + c) ≡ a + b + c
    regroup a b c = omega arith

-- ## all volumes of a group

-- the first k volumes are without the image, of which so many stood
pub record IsDroppedTo {D : Type 0} (device : Ghosts D) (old new : GroupValue D) (k n stood : ℕ) : Type 0 where
  pub kept : IsKeptGroup device old new
  pub devices : new.devices ≡ old.devices
  pub area : new.area.device ≡ old.area.device
  pub stands : (hs : List History) → StandsFor device.told old hs → StandsFor device.told new (dropped_first k n hs)
  pub number : (hs : List History) → StandsFor device.told old hs → stood ≡ count_images n (take k hs)
  pub none : stood ≡ 0 → new ≡ old
  pub low : stood ≤ k

-- whether the image stands on the next volume, by the group's own list
listed : {D : Type 0} (told : D → Option (List (List ℕ))) (old : GroupValue D) (u n : ℕ) (hs : List History) (b : Bool) → u < length old.area.volumes
    → StandsFor told old (dropped_first u n hs) → is_among n (sets_at old u) ≡ b
    → is_among n (sets_of (group_history_at hs u).images) ≡ b
listed told old u n hs b within stands is =
    let place = place_at told old (dropped_first u n hs) u stands within in
    let here : is_among n (sets_of (group_history_at (dropped_first u n hs) u).images) ≡ b = ap (is_among n) (sym place.stands.sets_are) ∙ ap (λ (o : Option (List ℕ)). is_among n (sets_in o))
    (sym place.sets_at) ∙ is in
    subst (λ (h : History). is_among n (sets_of h.images) ≡ b) (at_first u n hs) here

counted_more : {D : Type 0} (told : D → Option (List (List ℕ))) (first old : GroupValue D) (u n stood : ℕ) (hs : List History) (b : Bool) → u < length old.area.volumes
    → length old.area.volumes ≡ length first.area.volumes → StandsFor told first hs
    → stood ≡ count_images n (take u hs) → is_among n (sets_of (group_history_at hs u).images) ≡ b → stood + (if b then 1 else 0) ≡ count_images n (take (u + 1) hs)
counted_more told first old u n stood hs b within same stands so_far is =
    let long = stands.histories in
    let h = slice_get_inside hs u (omega (arith, within, same, long)) in
    let has : has_image n h.0 ≡ b = point_among n h.0.images ∙ ap (λ (o : Option History). is_among n (sets_of (history_in o).images)) (sym h.1) ∙ is in
    let next : take (u + 1) hs ≡ take u hs ++ h.0 ∷ [] = take_next hs u h.0 h.1 in
    ap (λ (m : ℕ). m + (if b then 1 else 0)) so_far
    ∙ ap (λ (m : ℕ). count_images n (take u hs) + m) (one b h.0 has)
    ∙ sym (count-append n (take u hs) (h.0 ∷ []))
    ∙ ap (count_images n) (sym next)
  where
    one : (b : Bool) (h : History) → has_image n h ≡ b → (if b then 1 else 0) ≡ count_images n (h ∷ [])
    one true h e = sym (ap (λ (b : Bool). (if b then 1 else 0) + 0) e)
    one false h e = sym (ap (λ (b : Bool). (if b then 1 else 0) + 0) e)

pub dropped_more : {D : Type 0} (device : Ghosts D) (first old new : GroupValue D) (u n stood : ℕ)
    → u < length old.area.volumes → IsDroppedTo device first old u n stood → IsGroupDrop device old new u n true → IsDroppedTo device first new (u + 1) n (stood + 1)
dropped_more device first old new u n stood within was call =
    let next : suc u ≡ u + 1 = omega arith in
    record {
      kept = kept_then device first old new was.kept call.1.kept;
      devices = call.1.devices ∙ was.devices;
      area = call.1.area ∙ was.area;
      stands = λ hs stood. subst (λ (k : ℕ). StandsFor device.told new (dropped_first k n hs)) next
          (subst (λ (ks : List History). StandsFor device.told new ks) (one_more u n hs) (call.1.stands (dropped_first u n hs) (was.stands hs stood)));
      number = λ hs stands. counted_more device.told first old u n stood hs true within (ap length was.kept.volumes) stands (was.number hs stands)
          (listed device.told old u n hs true within (was.stands hs stands) call.0);
      none = λ e. absurd (omega arith);
      low = let l = was.low in omega (arith, l);
    }

pub dropped_same : {D : Type 0} (device : Ghosts D) (first old new : GroupValue D) (u n stood : ℕ)
    → u < length old.area.volumes → IsDroppedTo device first old u n stood → IsGroupDrop device old new u n false → IsDroppedTo device first new (u + 1) n stood
dropped_same {D = D} device first old new u n stood within was call =
    let next : suc u ≡ u + 1 = omega arith in
    let still : stood ≡ stood + 0 = omega arith in
    subst (λ (x : GroupValue D). IsDroppedTo device first x (u + 1) n stood) (sym call.1) (record {
      kept = was.kept;
      devices = was.devices;
      area = was.area;
      stands = λ hs stands.
          let now = was.stands hs stands in
          let here = listed device.told old u n hs false within now call.0 in
          subst (λ (k : ℕ). StandsFor device.told old (dropped_first k n hs)) next
          (subst (λ (ks : List History). StandsFor device.told old ks) (none_more u n hs (without_none n (group_history_at hs u).images here)) now);
      number = λ hs stands. still ∙ counted_more device.told first old u n stood hs false within (ap length was.kept.volumes) stands (was.number hs stands)
          (listed device.told old u n hs false within (was.stands hs stands) call.0);
      none = was.none;
      low = let l = was.low in omega (arith, l);
    })

pub dropped_all : {D : Type 0} (device : Ghosts D) (old new : GroupValue D) (k n stood : ℕ) → k ≡ length old.area.volumes → k < 4294967296 → IsDroppedTo device old new k n stood
    → IsWithout device old new n stood
dropped_all device old new k n stood e few h = grind (arith, all_first, take-length)

-- ## The images of a set go from the volumes of all groups.

-- ## all groups

mapped_if : (b : Bool) (f : History → History) (h : History) (hs ks : List History) → ks ≡ map f hs → of_group_if b (f h) ks ≡ map f (of_group_if b h hs)
mapped_if b f h hs ks e = grind arith

mapped : (g : ℕ) (f : History → History) (rows : List VolumeRow) (hs : List History) → of_group g rows (map f hs) ≡ map f (of_group g rows hs)
mapped g f [] hs = refl
mapped g f (r ∷ rows) [] = refl
mapped g f (r ∷ rows) (h ∷ hs) = mapped_if (r.group == g) f h (of_group g rows hs) (of_group g rows (map f hs)) (mapped g f rows hs)

-- the sum over the first k numbers
abbrev pub sum_below : ℕ → (ℕ → ℕ) → ℕ
sum_below zero f = 0
sum_below (suc k) f = sum_below k f + f k

sum_same : (k : ℕ) (f h : ℕ → ℕ) → ((i : ℕ) → f i ≡ h i) → sum_below k f ≡ sum_below k h
sum_same k f h e = grind arith

sum_zero : (k : ℕ) → sum_below k (λ i. 0) ≡ 0
sum_zero zero = refl
sum_zero (suc k) = let e = sum_zero k in omega (arith, e)

sum_both : (k : ℕ) (f h : ℕ → ℕ) → sum_below k (λ i. f i + h i) ≡ sum_below k f + sum_below k h
sum_both zero f h = refl
sum_both (suc k) f h = let e = sum_both k f h in omega (arith, e)

-- one of them has n, the others nothing
sum_one : (k g n : ℕ) → g < k → sum_below k (λ i. if g == i then n else 0) ≡ n
sum_one zero g n low = absurd (omega arith)
sum_one (suc k) g n low = by_test (g == k) refl (λ below. sum_one k g n below)
  where
    past : (k : ℕ) → k ≤ g → sum_below k (λ i. if g == i then n else 0) ≡ 0
    past zero high = refl
    past (suc k) high =
        let rest = past k (omega arith) in
        let none : (if g == k then n else 0) ≡ 0 = ap (λ (b : Bool). if b then n else 0) (apart k (omega arith)) in
        omega (arith, rest, none)
      where
        apart : (k : ℕ) → k < g → (g == k) ≡ false
        apart k low = grind (arith, nat_tests)

    by_test : (t : Bool) → (g == k) ≡ t → (g < k → sum_below k (λ i. if g == i then n else 0) ≡ n) → sum_below k (λ i. if g == i then n else 0) + (if g == k then n else 0) ≡ n
    by_test true e more =
        let same = number_is g k e in
        let before = past k (omega (arith, same)) in
        let here : (if g == k then n else 0) ≡ n = ap (λ (b : Bool). if b then n else 0) e in
        omega (arith, before, here)
    by_test false e more =
        let below : g < k = less e low in
        let rest = more below in
        let here : (if g == k then n else 0) ≡ 0 = ap (λ (b : Bool). if b then n else 0) e in
        omega (arith, rest, here)
      where
        less : (g == k) ≡ false → g < suc k → g < k
        less e low = grind (arith, nat_tests)

counted_if : (n : ℕ) (b : Bool) (h : History) (hs : List History) → count_images n (of_group_if b h hs) ≡ (if b then (if has_image n h then 1 else 0) else 0) + count_images n hs
counted_if n b h hs = grind arith

-- each volume is in one of the groups, so what is counted group by group is all
pub count_all : (n k : ℕ) (rows : List VolumeRow) (hs : List History) → length hs ≡ length rows → ((v : ℕ) (r : VolumeRow) → slice_get rows v ≡ Some r → r.group < k)
    → sum_below k (λ g. count_images n (of_group g rows hs)) ≡ count_images n hs
count_all n k [] [] long there = sum_zero k
count_all n k [] (h ∷ hs) long there = absurd (omega arith)
count_all n k (r ∷ rows) [] long there = absurd (omega arith)
count_all n k (r ∷ rows) (h ∷ hs) long there =
    sum_same k (λ g. count_images n (of_group_if (r.group == g) h (of_group g rows hs)))
    (λ g. (if r.group == g then (if has_image n h then 1 else 0) else 0) + count_images n (of_group g rows hs)) (λ g. counted_if n (r.group == g) h (of_group g rows hs))
    ∙ sum_both k (λ g. if r.group == g then (if has_image n h then 1 else 0) else 0) (λ g. count_images n (of_group g rows hs))
    ∙ ap (λ (m : ℕ). m + sum_below k (λ g. count_images n (of_group g rows hs))) (sum_one k r.group (if has_image n h then 1 else 0) (there zero r refl))
    ∙ ap (λ (m : ℕ). (if has_image n h then 1 else 0) + m) (count_all n k rows hs (omega arith) (λ v q e. there (suc v) q e))

-- no more images of one set stand than there are volumes
pub count_within : (n : ℕ) (hs : List History) → count_images n hs ≤ length hs
count_within n [] = omega arith
count_within n (h ∷ hs) = by_test (has_image n h) (count_within n hs)
  where
    by_test : (b : Bool) → count_images n hs ≤ length hs → (if b then 1 else 0) + count_images n hs ≤ suc (length hs)
    by_test true e = omega arith
    by_test false e = omega arith

-- the groups below number k are without the set, of which so many stood; the others are as they were
pub record AreWithoutTo {D : Type 0} (device : Ghosts D) (old new : List (GroupValue D)) (k n stood : ℕ) : Type 0 where
  pub number : length new ≡ length old
  pub done : (g : ℕ) (x y : GroupValue D) → g < k → slice_get old g ≡ Some x → slice_get new g ≡ Some y → (m : ℕ) × IsWithout device x y n m
  pub rest : (g : ℕ) → k ≤ g → slice_get new g ≡ slice_get old g
  pub devices : devices_of new ≡ devices_of old
  pub so_many : (s : Plan) (hs : List History) → AreGroups device.told s old hs → stood ≡ sum_below k (λ g. count_images n (of_group g s.volumes hs))
  pub none : stood ≡ 0 → new ≡ old
  pub most : stood ≤ k * 4294967296

pub without_more : {D : Type 0} (device : Ghosts D) (first old : List (GroupValue D)) (k n stood more : ℕ) (x y : GroupValue D) → slice_get old k ≡ Some x
    → AreWithoutTo device first old k n stood → IsWithout device x y n more → AreWithoutTo device first (slice_set old k y) (k + 1) n (stood + more)
without_more device first old k n stood more x y at was now = grind (arith, length-slice_set, slice_get-set_other, devices_same, slice_set-same, number_is, slice_get-set_same, same_number)

pub without_all : {D : Type 0} (device : Ghosts D) (old new : List (GroupValue D)) (k n stood : ℕ) → k ≡ length old → AreWithoutTo device old new k n stood → AreWithout device old new n stood
without_all {D = D} device old new k n stood long h = record {
  kept = keeps device old new h.number (λ g x y at there. (call g x y at there).1.kept);
  devices = h.devices;
  stands = λ s hs are. record {
    histories = length-map hs (dropped n) ∙ are.histories;
    each = λ g y there.
        let x = before g y there in
        let w = call g x.0 y x.1 there in
        let mine = are.each g x.0 x.1 in
        record {
          stands = subst (λ (ks : List History). StandsFor device.told y ks) (sym (mapped g (dropped n) s.volumes hs)) (w.1.stands (of_group g s.volumes hs) mine.stands);
          volumes = w.1.kept.volumes ∙ mine.volumes;
          slots = λ v r e i. w.1.kept.slots ∙ mine.slots v r e i;
        };
  };
  number = λ s has hs are.
      h.so_many s hs are ∙ ap (λ (m : ℕ). sum_below m (λ g. count_images n (of_group g s.volumes hs))) long ∙ count_all n (length old) s.volumes hs are.histories has.there;
  none = h.none;
}
  where
    before : (g : ℕ) (y : GroupValue D) → slice_get new g ≡ Some y → (x : GroupValue D) × (slice_get old g ≡ Some x)
    before g y there = let within = slice_get_within new g y there in let many = h.number in slice_get_inside old g (omega (arith, within, many))

    call : (g : ℕ) (x y : GroupValue D) → slice_get old g ≡ Some x → slice_get new g ≡ Some y → (m : ℕ) × IsWithout device x y n m
    call g x y at there = let within = slice_get_within old g x at in h.done g x y (omega (arith, within, long)) at there

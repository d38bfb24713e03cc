-- The devices of all groups in their order: where each stands, how many there are, and how they are given back.
use Rattle.std.proofs.Common.{◌≡◌, ◌<◌, ℕ, zero, suc, ◌+◌, ◌-◌, List, [], ◌∷◌, ◌++◌, length, refl, ap, sym, ◌∙◌, subst, arith, append_assoc, Some, map}
use Rattle.std.proofs.Common.{slice_get, slice_set, ◌≤◌, ◌*◌, take, ◌==◌, Bool, true, false}
use Rattle.std.proofs.lemmas.List.{append-nil, length-append}
use Rattle.cow_volume.specs.StandsFor.{GroupValue}
use Rattle.vss_model.proofs.Words.{number_is}
use Rattle.provider.specs.Groups.{devices_of, IsFit}
use Rattle.provider.proofs.Words.{AreaRose, Ghosts, HasGroups, IsPlaceOf, IsUnfailed, LastsAt, Plan, Rose, RoseAlone, StillLasts, VolumeRose, VolumeRow}
use Rattle.provider.proofs.Words.{area_place, blocks_in_group, counts_of, first_place, get_some_left, length-map, map-append, map-id, set-append_left}
use Rattle.provider.proofs.Words.{set-append_right, slice_get_map, slice_get_within, volume_place, volumes_area, volumes_area_in, nat_tests, take_next}

-- ## The devices of all groups in their order: at which place each stands, and what is known of all of them from what is known of
-- each group.

-- ## joined lists

pub get-back : {X : Type 0} (xs ys : List X) (n i : ℕ) → n ≡ length xs → slice_get (xs ++ ys) (n + i) ≡ slice_get ys i
get-back [] ys zero i e = let z : 0 + i ≡ i = omega arith in ap (slice_get ys) z
get-back [] ys (suc n) i e = absurd (omega arith)
get-back (z ∷ xs) ys zero i e = absurd (omega arith)
get-back (z ∷ xs) ys (suc n) i e =
    let more : suc n + i ≡ suc (n + i) = omega arith in
    let rest : n ≡ length xs = omega arith in
    ap (slice_get (z ∷ xs ++ ys)) more ∙ get-back xs ys n i rest

-- ## places

-- the place of the first device of a group, by the numbers of volumes of the groups before it
abbrev gap : (ℕ → ℕ) → ℕ → ℕ
gap lens zero = 0
gap lens (suc g) = gap lens g + lens g + 1

gap_shift : (lens : ℕ → ℕ) (g : ℕ) → gap lens (suc g) ≡ lens 0 + 1 + gap (λ k. lens (suc k)) g
gap_shift lens zero = omega arith
gap_shift lens (suc g) = let e = gap_shift lens g in omega (arith, e)

first_is_gap : (g : ℕ) (rows : List VolumeRow) → first_place g rows ≡ gap (λ k. length (blocks_in_group k rows)) g
first_is_gap zero rows = refl
first_is_gap (suc g) rows = ap (λ n. n + length (blocks_in_group g rows) + 1) (first_is_gap g rows)

at_gap : {D : Type 0} (groups : List (GroupValue D)) (lens : ℕ → ℕ) (g i : ℕ) (x : GroupValue D) → ((k : ℕ) (z : GroupValue D) → slice_get groups k ≡ Some z → length z.devices ≡ lens k)
    → slice_get groups g ≡ Some x → (d : D) → slice_get (x.devices ++ x.area.device ∷ []) i ≡ Some d → slice_get (devices_of groups) (gap lens g + i) ≡ Some d
at_gap [] lens g i x long at d e = cc
at_gap {D = D} (z ∷ groups) lens zero i x long at d e =
    let same : z ≡ x = cc in
    let none : 0 + i ≡ i = omega arith in
    ap (slice_get (z.devices ++ z.area.device ∷ devices_of groups)) none
    ∙ ap (λ (xs : List D). slice_get xs i) (sym (append_assoc z.devices (z.area.device ∷ []) (devices_of groups)))
    ∙ get_some_left (z.devices ++ z.area.device ∷ []) (devices_of groups) i d (subst (λ (q : GroupValue D). slice_get (q.devices ++ q.area.device ∷ []) i ≡ Some d) (sym same) e)
at_gap (z ∷ groups) lens (suc g) i x long at d e =
    let shift = gap_shift lens g in
    let first : lens 0 ≡ length z.devices = sym (long 0 z refl) in
    let is : gap lens (suc g) + i ≡ (length z.devices + 1) + (gap (λ k. lens (suc k)) g + i) = omega (arith, shift, first) in
    let many : length z.devices + 1 ≡ length (z.devices ++ z.area.device ∷ []) = sym (length-append z.devices (z.area.device ∷ [])) in
    ap (slice_get (z.devices ++ z.area.device ∷ devices_of groups)) is
    ∙ ap (λ (xs : List _). slice_get xs ((length z.devices + 1) + (gap (λ k. lens (suc k)) g + i))) (sym (append_assoc z.devices (z.area.device ∷ []) (devices_of groups)))
    ∙ get-back (z.devices ++ z.area.device ∷ []) (devices_of groups) (length z.devices + 1) (gap (λ k. lens (suc k)) g + i) many
    ∙ at_gap groups (λ k. lens (suc k)) g i x (λ k q there. long (suc k) q there) at d e

-- each group has as many devices as volumes of the scenario
lens_are : {D : Type 0} (s : Plan) (groups : List (GroupValue D)) → HasGroups s groups → (k : ℕ) (z : GroupValue D) → slice_get groups k ≡ Some z
    → length z.devices ≡ length (blocks_in_group k s.volumes)
lens_are s groups has k z at = has.devices k z at ∙ ap length (has.volumes k z at)

volume_place_is : (s : Plan) (v g u : ℕ) → IsPlaceOf s v g u → volume_place s v ≡ first_place g s.volumes + u
volume_place_is s v g u place = grind arith

-- a device of a group's volume stands in the list of all
pub device_at : {D : Type 0} (s : Plan) (groups : List (GroupValue D)) (g u : ℕ) (x : GroupValue D) (d : D) → HasGroups s groups → slice_get groups g ≡ Some x → slice_get x.devices u ≡ Some d
    → slice_get (devices_of groups) (first_place g s.volumes + u) ≡ Some d
device_at s groups g u x d has at e =
    ap (λ (n : ℕ). slice_get (devices_of groups) (n + u)) (first_is_gap g s.volumes)
    ∙ at_gap groups (λ k. length (blocks_in_group k s.volumes)) g u x (lens_are s groups has) at d (get_some_left x.devices (x.area.device ∷ []) u d e)

pub volume_device_at : {D : Type 0} (s : Plan) (groups : List (GroupValue D)) (v g u : ℕ) (x : GroupValue D) (d : D) → HasGroups s groups → IsPlaceOf s v g u → slice_get groups g ≡ Some x
    → slice_get x.devices u ≡ Some d → slice_get (devices_of groups) (volume_place s v) ≡ Some d
volume_device_at s groups v g u x d has place at e = ap (slice_get (devices_of groups)) (volume_place_is s v g u place) ∙ device_at s groups g u x d has at e

pub area_device_at : {D : Type 0} (s : Plan) (groups : List (GroupValue D)) (g : ℕ) (x : GroupValue D) → HasGroups s groups → slice_get groups g ≡ Some x
    → slice_get (devices_of groups) (area_place g s.volumes) ≡ Some x.area.device
area_device_at s groups g x has at =
    let long = lens_are s groups has g x at in
    let last : slice_get (x.devices ++ x.area.device ∷ []) (length (blocks_in_group g s.volumes)) ≡ Some x.area.device =
    ap (slice_get (x.devices ++ x.area.device ∷ [])) (omega (arith, long)) ∙ get-back x.devices (x.area.device ∷ []) (length x.devices) 0 refl in
    ap (λ (n : ℕ). slice_get (devices_of groups) (n + length (blocks_in_group g s.volumes))) (first_is_gap g s.volumes)
    ∙ at_gap groups (λ k. length (blocks_in_group k s.volumes)) g (length (blocks_in_group g s.volumes)) x (lens_are s groups has) at x.area.device last

-- ## counts

set-back : {X : Type 0} (xs ys : List X) (n i : ℕ) (y : X) → n ≡ length xs → slice_set (xs ++ ys) (n + i) y ≡ xs ++ slice_set ys i y
set-back xs ys n i y e =
    let z : (n + i) - n ≡ i = omega arith in
    set-append_right xs ys n (n + i) y (sym e) (omega arith) ∙ ap (λ k. xs ++ slice_set ys k y) z

-- one count of a list rose, and no other
rose_alone : (i : ℕ) (xs ys : List ℕ) (a b : ℕ) → slice_get xs i ≡ Some a → ys ≡ slice_set xs i b → Rose a b → RoseAlone i xs ys
rose_alone i [] ys a b at is rose = cc
rose_alone zero (x ∷ xs) ys a b at is rose =
    let same : x ≡ a = cc in
    subst (λ (zs : List ℕ). RoseAlone zero (x ∷ xs) zs) (sym is) (subst (λ (n : ℕ). Rose n b) (sym same) rose, refl)
rose_alone (suc i) (x ∷ xs) ys a b at is rose =
    subst (λ (zs : List ℕ). RoseAlone (suc i) (x ∷ xs) zs) (sym is) (refl, rose_alone i xs (slice_set xs i b) a b at refl rose)

-- the devices of one group, the area's behind the volumes'
abbrev group_devices : {D : Type 0} → GroupValue D → List D
group_devices x = x.devices ++ x.area.device ∷ []

joined_devices : {D X : Type 0} (f : D → X) (z : GroupValue D) (groups : List (GroupValue D)) → map f (devices_of (z ∷ groups)) ≡ map f (group_devices z) ++ map f (devices_of groups)
joined_devices f z groups = sym (ap (map f) (append_assoc z.devices (z.area.device ∷ []) (devices_of groups))) ∙ map-append f (group_devices z) (devices_of groups)

-- what is read of one device of one group is another, and so it is of all
mapped_set : {D X : Type 0} (f : D → X) (groups : List (GroupValue D)) (lens : ℕ → ℕ) (g i : ℕ) (x y : GroupValue D) (n : X)
    → ((k : ℕ) (z : GroupValue D) → slice_get groups k ≡ Some z → length z.devices ≡ lens k)
    → slice_get groups g ≡ Some x → i < length x.devices + 1 → map f (group_devices y) ≡ slice_set (map f (group_devices x)) i n
    → map f (devices_of (slice_set groups g y)) ≡ slice_set (map f (devices_of groups)) (gap lens g + i) n
mapped_set f [] lens g i x y n long at inside set = cc
mapped_set {D = D} {X = X} f (z ∷ groups) lens zero i x y n long at inside set =
    let same : z ≡ x = cc in
    let none : i ≡ 0 + i = omega arith in
    let many = length-map (group_devices x) f ∙ length-append x.devices (x.area.device ∷ []) in
    joined_devices f y groups
    ∙ ap (λ (xs : List X). xs ++ map f (devices_of groups)) set
    ∙ sym (set-append_left (map f (group_devices x)) (map f (devices_of groups)) i n (omega (arith, inside, many)))
    ∙ ap (λ (xs : List X). slice_set xs i n) (sym (joined_devices f x groups) ∙ ap (λ (q : GroupValue D). map f (devices_of (q ∷ groups))) (sym same))
    ∙ ap (λ k. slice_set (map f (devices_of (z ∷ groups))) k n) none
mapped_set {X = X} f (z ∷ groups) lens (suc g) i x y n long at inside set =
    let shift = gap_shift lens g in
    let first : lens 0 ≡ length z.devices = sym (long 0 z refl) in
    let many : length z.devices + 1 ≡ length (map f (group_devices z)) = sym (length-map (group_devices z) f ∙ length-append z.devices (z.area.device ∷ [])) in
    let is : (length z.devices + 1) + (gap (λ k. lens (suc k)) g + i) ≡ gap lens (suc g) + i = omega (arith, shift, first) in
    joined_devices f z (slice_set groups g y)
    ∙ ap (λ (xs : List X). map f (group_devices z) ++ xs) (mapped_set f groups (λ k. lens (suc k)) g i x y n (λ k q there. long (suc k) q there) at inside set)
    ∙ sym (set-back (map f (group_devices z)) (map f (devices_of groups)) (length z.devices + 1) (gap (λ k. lens (suc k)) g + i) n many)
    ∙ ap (λ (xs : List X). slice_set xs ((length z.devices + 1) + (gap (λ k. lens (suc k)) g + i)) n) (sym (joined_devices f z groups))
    ∙ ap (λ k. slice_set (map f (devices_of (z ∷ groups))) k n) is

-- that of volume u
volume_set : {D X : Type 0} (f : D → X) (x y : GroupValue D) (u : ℕ) (n : X) → u < length x.devices → map f y.devices ≡ slice_set (map f x.devices) u n → f y.area.device ≡ f x.area.device
    → map f (group_devices y) ≡ slice_set (map f (group_devices x)) u n
volume_set f x y u n low devices area = grind (arith, length-map, map-append, set-append_left)

-- that of the area
area_set : {D X : Type 0} (f : D → X) (x y : GroupValue D) (u : ℕ) → u ≡ length x.devices → map f y.devices ≡ map f x.devices
    → map f (group_devices y) ≡ slice_set (map f (group_devices x)) u (f y.area.device)
area_set {X = X} f x y u size devices =
    let many = length-map x.devices f in
    let at_end : u + 0 ≡ u = omega arith in
    map-append f y.devices (y.area.device ∷ [])
    ∙ ap (λ (xs : List X). xs ++ f y.area.device ∷ []) devices
    ∙ sym (set-back (map f x.devices) (f x.area.device ∷ []) u 0 (f y.area.device) (omega (arith, size, many)))
    ∙ ap (λ (k : ℕ). slice_set (map f x.devices ++ f x.area.device ∷ []) k (f y.area.device)) at_end
    ∙ ap (λ (xs : List X). slice_set xs u (f y.area.device)) (sym (map-append f x.devices (x.area.device ∷ [])))

-- the area's device of a group is another, and no device else
pub area_is_set : {D X : Type 0} (f : D → X) (s : Plan) (old : List (GroupValue D)) (g : ℕ) (x y : GroupValue D) → HasGroups s old → slice_get old g ≡ Some x → map f y.devices ≡ map f x.devices
    → map f (devices_of (slice_set old g y)) ≡ slice_set (map f (devices_of old)) (area_place g s.volumes) (f y.area.device)
area_is_set f s old g x y has was devices =
    let many = lens_are s old has g x was in
    mapped_set f old (λ k. length (blocks_in_group k s.volumes)) g (length (blocks_in_group g s.volumes)) x y (f y.area.device) (lens_are s old has) was (omega (arith, many))
    (area_set f x y (length (blocks_in_group g s.volumes)) (sym many) devices)
    ∙ ap (λ (n : ℕ). slice_set (map f (devices_of old)) (n + length (blocks_in_group g s.volumes)) (f y.area.device)) (sym (first_is_gap g s.volumes))

pub rose_volume : {D : Type 0} (count : D → ℕ) (s : Plan) (old new : List (GroupValue D)) (v g u : ℕ) (x y : GroupValue D) → HasGroups s old → IsPlaceOf s v g u
    → slice_get old g ≡ Some x → new ≡ slice_set old g y → VolumeRose count u x y → RoseAlone (volume_place s v) (counts_of count old) (counts_of count new)
rose_volume {D = D} count s old new v g u x y has place was is rose =
    let inside = slice_get_within x.devices u rose.before rose.was in
    rose_alone (volume_place s v) (counts_of count old) (counts_of count new) (count rose.before) (count rose.now)
    (slice_get_map count (devices_of old) (volume_place s v) rose.before (volume_device_at s old v g u x rose.before has place was rose.was))
    (ap (counts_of count) is
    ∙ mapped_set count old (λ k. length (blocks_in_group k s.volumes)) g u x y (count rose.now) (lens_are s old has) was (omega (arith, inside))
    (volume_set count x y u (count rose.now) inside rose.devices rose.area)
    ∙ ap (λ (k : ℕ). slice_set (counts_of count old) k (count rose.now)) (sym (volume_place_is s v g u place ∙ ap (λ (n : ℕ). n + u) (first_is_gap g s.volumes))))
    rose.rose

pub rose_area : {D : Type 0} (count : D → ℕ) (s : Plan) (old new : List (GroupValue D)) (g : ℕ) (x y : GroupValue D) → HasGroups s old
    → slice_get old g ≡ Some x → new ≡ slice_set old g y → AreaRose count x y → RoseAlone (area_place g s.volumes) (counts_of count old) (counts_of count new)
rose_area {D = D} count s old new g x y has was is rose =
    rose_alone (area_place g s.volumes) (counts_of count old) (counts_of count new) (count x.area.device) (count y.area.device)
    (slice_get_map count (devices_of old) (area_place g s.volumes) x.area.device (area_device_at s old g x has was))
    (ap (counts_of count) is ∙ area_is_set count s old g x y has was rose.devices) rose.rose

pub area_of_place : (s : Plan) (v g u : ℕ) → IsPlaceOf s v g u → volumes_area s v ≡ area_place g s.volumes
area_of_place s v g u place = ap (volumes_area_in s.volumes) place.is_row ∙ ap (λ (n : ℕ). area_place n s.volumes) (sym place.group_is)

-- what is read of each device of one group is as it was, and so it is of all
pub mapped_same : {D X : Type 0} (f : D → X) (groups : List (GroupValue D)) (g : ℕ) (x y : GroupValue D) → slice_get groups g ≡ Some x → map f y.devices ≡ map f x.devices
    → f y.area.device ≡ f x.area.device
    → map f (devices_of (slice_set groups g y)) ≡ map f (devices_of groups)
mapped_same f [] g x y at devices area = cc
mapped_same {D = D} {X = X} f (z ∷ groups) zero x y at devices area =
    let is : z ≡ x = cc in
    map-append f y.devices (y.area.device ∷ devices_of groups)
    ∙ ap (λ (xs : List X). xs ++ f y.area.device ∷ map f (devices_of groups)) devices
    ∙ ap (λ (n : X). map f x.devices ++ n ∷ map f (devices_of groups)) area
    ∙ sym (map-append f x.devices (x.area.device ∷ devices_of groups))
    ∙ ap (λ (q : GroupValue D). map f (q.devices ++ q.area.device ∷ devices_of groups)) (sym is)
mapped_same {D = D} {X = X} f (z ∷ groups) (suc g) x y at devices area =
    map-append f z.devices (z.area.device ∷ devices_of (slice_set groups g y))
    ∙ ap (λ (xs : List X). map f z.devices ++ f z.area.device ∷ xs) (mapped_same f groups g x y at devices area)
    ∙ sym (map-append f z.devices (z.area.device ∷ devices_of groups))

-- so the counts of one group are as they were, and so are all
pub counts_same : {D : Type 0} (count : D → ℕ) (groups : List (GroupValue D)) (g : ℕ) (x y : GroupValue D) → slice_get groups g ≡ Some x → IsUnfailed count x y
    → counts_of count (slice_set groups g y) ≡ counts_of count groups
counts_same count groups g x y at same = mapped_same count groups g x y at same.devices same.area

-- the devices are as they were where those of the group that was called are
pub devices_same : {D : Type 0} (groups : List (GroupValue D)) (g : ℕ) (x y : GroupValue D) → slice_get groups g ≡ Some x → y.devices ≡ x.devices → y.area.device ≡ x.area.device
    → devices_of (slice_set groups g y) ≡ devices_of groups
devices_same groups g x y at devices area =
    sym (map-id (devices_of (slice_set groups g y))) ∙ mapped_same (λ d. d) groups g x y at (ap (map (λ d. d)) devices) area ∙ map-id (devices_of groups)

-- what the devices of one group tell lasts if it did, and so it is of all
joined_last : {D : Type 0} (ghosts : Ghosts D) (xs ys zs ws : List D) → length ys ≡ length xs → ((v : ℕ) → LastsAt ghosts v xs → LastsAt ghosts v ys)
    → ((v : ℕ) → LastsAt ghosts v zs → LastsAt ghosts v ws) → (place : ℕ) → LastsAt ghosts place (xs ++ zs) → LastsAt ghosts place (ys ++ ws)
joined_last ghosts [] [] zs ws long first rest place lasts = rest place lasts
joined_last ghosts [] (y ∷ ys) zs ws long first rest place lasts = absurd (omega arith)
joined_last ghosts (x ∷ xs) [] zs ws long first rest place lasts = absurd (omega arith)
joined_last ghosts (x ∷ xs) (y ∷ ys) zs ws long first rest zero lasts = first 0 lasts
joined_last ghosts (x ∷ xs) (y ∷ ys) zs ws long first rest (suc place) lasts = joined_last ghosts xs ys zs ws (omega arith) (λ v. first (suc v)) rest place lasts

one_last : {D : Type 0} (ghosts : Ghosts D) (x y : D) → StillLasts ghosts x y → (v : ℕ) → LastsAt ghosts v (x ∷ []) → LastsAt ghosts v (y ∷ [])
one_last ghosts x y still zero lasts d at = let same : y ≡ d = cc in subst (λ (z : _). ghosts.lasting z ≡ ghosts.told z) same (still (lasts x refl))
one_last ghosts x y still (suc v) lasts d at = cc

pub lasts_same : {D : Type 0} (ghosts : Ghosts D) (groups : List (GroupValue D)) (g : ℕ) (x y : GroupValue D) → slice_get groups g ≡ Some x → length y.devices ≡ length x.devices
    → ((v : ℕ) → LastsAt ghosts v x.devices → LastsAt ghosts v y.devices) → StillLasts ghosts x.area.device y.area.device
    → (place : ℕ) → LastsAt ghosts place (devices_of groups) → LastsAt ghosts place (devices_of (slice_set groups g y))
lasts_same ghosts [] g x y at long devices area = cc
lasts_same {D = D} ghosts (z ∷ groups) zero x y at long devices area =
    let is : z ≡ x = cc in
    let rest = joined_last ghosts (x.area.device ∷ []) (y.area.device ∷ []) (devices_of groups) (devices_of groups) refl (one_last ghosts x.area.device y.area.device area) (λ v h. h) in
    subst (λ (q : GroupValue D). (place : ℕ) → LastsAt ghosts place (devices_of (q ∷ groups)) → LastsAt ghosts place (devices_of (y ∷ groups))) (sym is)
    (joined_last ghosts x.devices y.devices (x.area.device ∷ devices_of groups) (y.area.device ∷ devices_of groups) long devices rest)
lasts_same ghosts (z ∷ groups) (suc g) x y at long devices area =
    let more = slice_set groups g y in
    joined_last ghosts (z.devices) z.devices (z.area.device ∷ devices_of groups) (z.area.device ∷ devices_of more) refl (λ v h. h)
    (joined_last ghosts (z.area.device ∷ []) (z.area.device ∷ []) (devices_of groups) (devices_of more) refl (λ v h. h) (lasts_same ghosts groups g x y at long devices area))

-- ## Counting the devices of groups.

devices_more : {D : Type 0} (groups : List (GroupValue D)) (x : GroupValue D) → length (devices_of (groups ++ x ∷ [])) ≡ length (devices_of groups) + (length x.devices + 1)
devices_more [] x = let e = length-append x.devices (x.area.device ∷ []) in omega (arith, e)
devices_more (y ∷ groups) x =
    let rest = devices_more groups x in
    let long = length-append y.devices (y.area.device ∷ devices_of (groups ++ x ∷ [])) in
    let before = length-append y.devices (y.area.device ∷ devices_of groups) in
    omega (arith, rest, long, before)

below_next : (k i : ℕ) → k < i + 1 → (k == i) ≡ false → k < i
below_next k i low e = grind (arith, nat_tests)

-- the groups so far have so many devices
pub record AreCounted {D : Type 0} (groups : List (GroupValue D)) (i count : ℕ) : Type 0 where
  pub count_is : count ≡ length (devices_of (take i groups))
  pub most : count ≤ i * 4294967296
  pub whole : (k : ℕ) (x : GroupValue D) → k < i → slice_get groups k ≡ Some x → length x.devices ≡ length x.area.volumes

pub counted_more : {D : Type 0} (groups : List (GroupValue D)) (i count volumes : ℕ) (x : GroupValue D) → slice_get groups i ≡ Some x → volumes ≡ length x.area.volumes
    → length x.devices ≡ length x.area.volumes → volumes < 4294967296
    → AreCounted groups i count → AreCounted groups (i + 1) (count + (volumes + 1))
counted_more {D = D} groups i count volumes x at many whole few c =
    let next = take_next groups i x at in
    let more = devices_more (take i groups) x in
    let so_far = c.count_is in
    let most = c.most in
    record {
      count_is = omega (arith, so_far, many, whole, more) ∙ sym (ap (λ (xs : List (GroupValue D)). length (devices_of xs)) next);
      most = omega arith;
      whole = λ k y low there. by_test k y low there (k == i) refl;
    }
  where
    by_test : (k : ℕ) (y : GroupValue D) → k < i + 1 → slice_get groups k ≡ Some y → (t : Bool) → (k == i) ≡ t → length y.devices ≡ length y.area.volumes
    by_test k y low there true e =
        let same = number_is k i e in
        let one : Some x ≡ Some y = sym at ∙ ap (slice_get groups) (sym same) ∙ there in
        let is : x ≡ y = cc in
        subst (λ (z : GroupValue D). length z.devices ≡ length z.area.volumes) is whole
    by_test k y low there false e =
        let less : k < i = below_next k i low e in
        c.whole k y less there

-- the devices of the groups so far fit
abbrev pub FirstFit : {D : Type 0} → (D → ℕ) → List (GroupValue D) → ℕ → Type 0
FirstFit {D = D} size groups i = (k : ℕ) (x : GroupValue D) → k < i → slice_get groups k ≡ Some x → IsFit size x

pub fit_more : {D : Type 0} (size : D → ℕ) (groups : List (GroupValue D)) (i : ℕ) (x : GroupValue D) → slice_get groups i ≡ Some x → IsFit size x → FirstFit size groups i
    → FirstFit size groups (i + 1)
fit_more size groups i x at fit before k y low there = by_test (k == i) refl
  where
    by_test : (t : Bool) → (k == i) ≡ t → IsFit size y
    by_test true e =
        let one : Some x ≡ Some y = sym at ∙ ap (slice_get groups) (sym (number_is k i e)) ∙ there in
        let is : x ≡ y = cc in
        subst (λ (z : GroupValue _). IsFit size z) is fit
    by_test false e = before k y (below_next k i low e) there

-- ## Devices go into a list one by one, and groups one by one.

-- what is listed and what is left are what there was, and there is room for all, as before
pub record IsMoving {X : Type 0} (first all list rest : List X) (before room : ℕ) : Type 0 where
  pub kept : list ++ rest ≡ first ++ all
  pub enough : length first + length all ≤ room
  pub same : room ≡ before

pub moving_room : {X : Type 0} (first all list rest less : List X) (x : X) (before room : ℕ) → rest ≡ x ∷ less → IsMoving first all list rest before room → length list < room
moving_room first all list rest less x before room next m =
    let a = length-append list rest in
    let b = length-append first all in
    let c = ap length m.kept in
    let d = ap length next in
    let e = m.enough in
    omega (arith, a, b, c, d, e)

-- ## groups

-- the devices that are listed and those of the groups that are left are all, and there is room for them
pub record AreMoving {D : Type 0} (all rest : List (GroupValue D)) (list : List D) (room : ℕ) : Type 0 where
  pub kept : list ++ devices_of rest ≡ devices_of all
  pub enough : length (devices_of all) ≤ room

devices_split : {D : Type 0} (x : GroupValue D) (rest : List (GroupValue D)) → devices_of (x ∷ []) ++ devices_of rest ≡ devices_of (x ∷ rest)
devices_split x rest = append_assoc x.devices (x.area.device ∷ []) (devices_of rest)

pub groups_room : {D : Type 0} (all rest less : List (GroupValue D)) (x : GroupValue D) (list : List D) (room : ℕ) → rest ≡ x ∷ less → AreMoving all rest list room
    → length list + length (devices_of (x ∷ [])) ≤ room
groups_room all rest less x list room next m = grind (arith, length-append, devices_split)

pub groups_all : {D : Type 0} (all rest : List (GroupValue D)) (list : List D) (room : ℕ) → rest ≡ [] → AreMoving all rest list room → list ≡ devices_of all
groups_all {D = D} all rest list room done m = sym (append-nil list) ∙ ap (λ (xs : List (GroupValue D)). list ++ devices_of xs) (sym done) ∙ m.kept

-- Room is made in one group for a write: which images go of all volumes, and by which numbers they are told.
use Rattle.std.proofs.Common.{◌≡◌, ℕ, zero, suc, ◌+◌, ◌<◌, List, [], ◌∷◌, ◌++◌, length, take, drop, get_or, map, refl, ap, sym, ◌∙◌, arith, Some, slice_get}
use Rattle.std.proofs.Common.{slice_set, ◌≤◌, ◌==◌, subst, Bool, true, false, Option, ◌&&◌, if◌then◌else◌}
use Rattle.provider.specs.Words.{HasRoom as HasGroupRoom, holders as group_holders, images_going as group_images, lacks_slot, placed as all_placed}
use Rattle.provider.proofs.InGroup.{becomes, gone_in_group, gone_elsewhere, evicted_in_group}
use Rattle.provider.proofs.Called.{Called, call_of, called_found, devices_still}
use Rattle.provider.proofs.Found.{Found, own, stands_here, there}
use Rattle.provider.proofs.Kept.{kept_itself}
use Rattle.provider.proofs.Dropped.{point_among}
use Rattle.provider.proofs.Words.{Evicted, Plan, get_or_from_slice_get, renumbered, slice_get_inside, volume_in, AreGroups, Ghosts, GoUpTo, GroupValue, HasRoom}
use Rattle.provider.proofs.Words.{History, IsEvicted, IsKeptGroup, IsLastSet, IsRoomMade, Placed, StandsFor, VolumeRow, as_many_gone, blocks_in_group}
use Rattle.provider.proofs.Words.{evicted_of, evicted_up_to, flat_map, flat_map-cons, gone_group, gone_up_to, group_of, has_image, holders, images_going}
use Rattle.provider.proofs.Words.{length-map, made_room, map-append, of_group, of_group_if, place_in, placed, placed_in, range_with_len, sets_at, sets_of}
use Rattle.provider.proofs.Words.{slice_get_within, slots_in, slots_of, volume_after}

-- ## Images get the numbers of the scenario, one after another.

get_next : {X : Type 0} (h : X → X) (ys : List X) (i : ℕ) → slice_get (map h (take i ys) ++ drop i ys) i ≡ slice_get ys i
get_next h [] zero = refl
get_next h [] (suc i) = refl
get_next h (y ∷ ys) zero = refl
get_next h (y ∷ ys) (suc i) = get_next h ys i

set_next : {X : Type 0} (h : X → X) (ys : List X) (i : ℕ) (y : X) → slice_get ys i ≡ Some y → slice_set (map h (take i ys) ++ drop i ys) i (h y) ≡ map h (take (suc i) ys) ++ drop (suc i) ys
set_next h [] i y at = cc
set_next h (x ∷ ys) zero y at = let same : x ≡ y = cc in ap (λ z. h z ∷ ys) (sym same)
set_next h (x ∷ ys) (suc i) y at = ap (λ zs. h x ∷ zs) (set_next h ys i y at)

pub renumbered_next : (s : Plan) (g i : ℕ) (xs ys : List Evicted) (x m : Evicted) (v : ℕ) → i < length ys → xs ≡ map (renumbered s g) (take i ys) ++ drop i ys → x ≡ get_or xs i x → m ≡ get_or xs i m
    → v ≡ volume_in g s.volumes x.volume → slice_set xs i (record { set = m.set; volume = v }) ≡ map (renumbered s g) (take (i + 1) ys) ++ drop (i + 1) ys
renumbered_next s g i xs ys x m v low is first second number =
    let y = slice_get_inside ys i low in
    let at : slice_get xs i ≡ Some y.0 = ap (λ (zs : List Evicted). slice_get zs i) is ∙ get_next (renumbered s g) ys i ∙ y.1 in
    let here : x ≡ y.0 = first ∙ get_or_from_slice_get xs i y.0 x at in
    let there : m ≡ y.0 = second ∙ get_or_from_slice_get xs i y.0 m at in
    let next : suc i ≡ i + 1 = omega arith in
    ap (λ (k : ℕ). slice_set xs i (record { set = m.set; volume = k })) (number ∙ ap (λ (z : Evicted). volume_in g s.volumes z.volume) here)
    ∙ ap (λ (z : Evicted). slice_set xs i (record { set = z.set; volume = volume_in g s.volumes y.0.volume })) there
    ∙ ap (λ (zs : List Evicted). slice_set zs i (renumbered s g y.0)) is
    ∙ set_next (renumbered s g) ys i y.0 y.1
    ∙ ap (λ (k : ℕ). map (renumbered s g) (take k ys) ++ drop k ys) next

-- ## Room is made in one group for a write: which images go of all volumes, and by which numbers they are told.

-- ## members

record IsAt {X : Type 0} (xs : List X) (x : X) : Type 0 where
  at : ℕ
  is : slice_get xs at ≡ Some x

member_if : {X : Type 0} (b : Bool) (x y : X) (xs ys : List X) (u : ℕ) → slice_get (of_group_if b x xs) u ≡ Some y → ((k : ℕ) → slice_get xs k ≡ Some y → IsAt ys y) → IsAt (x ∷ ys) y
member_if true x y xs ys zero e f = record { at = 0; is = e }
member_if true x y xs ys (suc u) e f = let m = f u e in record { at = suc m.at; is = m.is }
member_if false x y xs ys u e f = let m = f u e in record { at = suc m.at; is = m.is }

member : {X : Type 0} (g : ℕ) (rows : List VolumeRow) (xs : List X) (u : ℕ) (y : X) → slice_get (of_group g rows xs) u ≡ Some y → IsAt xs y
member g [] xs u y e = cc
member g (r ∷ rows) [] u y e = cc
member g (r ∷ rows) (x ∷ xs) u y e = member_if (r.group == g) x y (of_group g rows xs) xs u e (λ k. member g rows xs k y)

last_set : (g sets : ℕ) (rows : List VolumeRow) (hs : List History) → IsLastSet sets hs → IsLastSet sets (of_group g rows hs)
last_set g sets rows hs h u n x e has = let m = member g rows hs u x e in h m.at n x m.is has

-- ## which images go

-- the sets of a history's images
abbrev sets : History → List ℕ
sets h = sets_of h.images

-- the volumes of a group that have an image, by the numbers of the scenario
holders_same : (g n w v : ℕ) (f : ℕ → ℕ) (rows : List VolumeRow) (hs : List History) → ((k : ℕ) → f (w + k) ≡ v + volume_in g rows k)
    → map f (group_holders n w (map sets (of_group g rows hs))) ≡ holders n v (map (placed g) rows) hs
holders_same g n w v f [] hs at = refl
holders_same g n w v f (r ∷ rows) [] at = refl
holders_same g n w v f (r ∷ rows) (h ∷ hs) at =
    by_test (r.group == g) at (λ more. holders_same g n (w + 1) (v + 1) f rows hs more) (λ more. holders_same g n w (v + 1) f rows hs more)
  where
    here : List ℕ
    here = group_holders n (w + 1) (map sets (of_group g rows hs))

    rest : List ℕ
    rest = holders n (v + 1) (map (placed g) rows) hs

    has : (t : Bool) → f w ≡ v → map f here ≡ rest → map f (if t then w ∷ here else here) ≡ (if t then v ∷ rest else rest)
    has true e m = ap (λ (k : ℕ). k ∷ map f here) e ∙ ap (λ (ks : List ℕ). v ∷ ks) m
    has false e m = m

    by_test : (b : Bool) → ((k : ℕ) → f (w + k) ≡ v + volume_after b (volume_in g rows) k)
        → (((k : ℕ) → f (w + 1 + k) ≡ v + 1 + volume_in g rows k) → map f here ≡ rest)
        → (((k : ℕ) → f (w + k) ≡ v + 1 + volume_in g rows k) → map f (group_holders n w (map sets (of_group g rows hs))) ≡ rest)
        → map f (group_holders n w (map sets (of_group_if b h (of_group g rows hs)))) ≡ (if b && has_image n h then v ∷ rest else rest)
    by_test true e mine others =
        let none : w ≡ w + 0 = omega arith in
        let first : v + 0 ≡ v = omega arith in
        ap (λ (t : Bool). map f (if t then w ∷ here else here)) (sym (point_among n h.images))
        ∙ has (has_image n h) (ap f none ∙ e 0 ∙ first) (mine (λ k.
        let up : w + 1 + k ≡ w + suc k = omega arith in
        let more : v + suc (volume_in g rows k) ≡ v + 1 + volume_in g rows k = omega arith in
        ap f up ∙ e (suc k) ∙ more))
    by_test false e mine others = others (λ k. let more : v + suc (volume_in g rows k) ≡ v + 1 + volume_in g rows k = omega arith in e k ∙ more)

evicted_same : (s : Plan) (g n : ℕ) (vs : List ℕ) → map (renumbered s g) (evicted_of n vs) ≡ evicted_of n (map (volume_in g s.volumes) vs)
evicted_same s g n [] = refl
evicted_same s g n (v ∷ vs) = ap (λ (images : List Evicted). record { set = n; volume = volume_in g s.volumes v } ∷ images) (evicted_same s g n vs)

flat_same : (h : Evicted → Evicted) (F G : ℕ → List Evicted) (ns : List ℕ) → ((n : ℕ) → map h (F n) ≡ G n) → map h (flat_map F ns) ≡ flat_map G ns
flat_same h F G [] same = refl
flat_same h F G (n ∷ ns) same =
    ap (map h) (flat_map-cons F n ns)
    ∙ map-append h (F n) (flat_map F ns)
    ∙ ap (λ (xs : List Evicted). xs ++ map h (flat_map F ns)) (same n)
    ∙ ap (λ (xs : List Evicted). G n ++ xs) (flat_same h F G ns same)
    ∙ sym (flat_map-cons G n ns)

images_are : (images : List (List ℕ)) (hs : List History) → length images ≡ length hs
    → ((u : ℕ) (is : List ℕ) (h : History) → slice_get images u ≡ Some is → slice_get hs u ≡ Some h → is ≡ sets h) → images ≡ map sets hs
images_are [] [] long same = refl
images_are [] (h ∷ hs) long same = absurd (omega arith)
images_are (is ∷ images) [] long same = absurd (omega arith)
images_are (is ∷ images) (h ∷ hs) long same =
    ap (λ (xs : List ℕ). xs ∷ images) (same zero is h refl refl) ∙ ap (λ (xs : List (List ℕ)). sets h ∷ xs) (images_are images hs (omega arith) (λ u js k at there. same (suc u) js k at there))

group_images_are : {D : Type 0} (told : D → Option (List (List ℕ))) (x : GroupValue D) (hs : List History) → StandsFor told x hs → x.images ≡ map sets hs
group_images_are told x hs stands = images_are x.images hs (stands.images ∙ sym stands.histories) each
  where
    each : (u : ℕ) (is : List ℕ) (h : History) → slice_get x.images u ≡ Some is → slice_get hs u ≡ Some h → is ≡ sets h
    each u is h at there =
        let low = slice_get_within hs u h there in
        let many = stands.histories in
        let long = stands.devices in
        let n = slice_get_inside x.area.volumes u (omega (arith, low, many)) in
        let d = slice_get_inside x.devices u (omega (arith, low, many, long)) in
        (stands.each u n.0 d.0 is h n.1 d.1 at there).sets_are

-- ## how far sets go

module _ {D : Type 0} (told : D → Option (List (List ℕ))) {s : Plan} {groups : List (GroupValue D)} {v : ℕ} (f : Found s groups v) where
  group_is : group_of s v ≡ map (placed f.group) s.volumes
  group_is = ap (placed_in s.volumes) f.place.is_row ∙ ap (λ (k : ℕ). map (placed k) s.volumes) (sym f.place.group_is)

  -- what the group says of its own volumes is what the definitions say of all
  go_up_to : (b up_to : ℕ) (hs : List History) → AreGroups told s groups hs → IsEvicted f.here f.within b (own f hs) up_to → GoUpTo s v b up_to hs
  go_up_to b up_to hs are of sets_to most =
      let mine = are.each f.group f.here f.at in
      let row = f.place.row in
      let slots : slots_of s v ≡ row.slots = ap slots_in f.place.is_row in
      let within : f.within ≡ place_in f.group s.volumes v = f.place.within_is ∙ ap (λ (k : ℕ). place_in k s.volumes v) (sym f.place.group_is) in
      of sets_to (last_set f.group sets_to s.volumes hs most)
      ∙ ap (λ (n : ℕ). evicted_up_to sets_to n (all_placed f.here.area.volumes) f.within b (own f hs)) (mine.slots v row f.place.is_row (sym f.place.group_is))
      ∙ ap (λ (ns : List ℕ). evicted_up_to sets_to row.slots (all_placed ns) f.within b (own f hs)) mine.volumes
      ∙ ap (λ (n : ℕ). evicted_up_to sets_to row.slots (all_placed (blocks_in_group f.group s.volumes)) n b (own f hs)) within
      ∙ sym (evicted_in_group sets_to row.slots f.group v b s.volumes row hs f.place.is_row (sym f.place.group_is) are.histories)
      ∙ ap (λ (n : ℕ). evicted_up_to sets_to n (map (placed f.group) s.volumes) v b hs) (sym slots)
      ∙ ap (λ (ps : List Placed). evicted_up_to sets_to (slots_of s v) ps v b hs) (sym group_is)

  going : (up_to : ℕ) (hs : List History) → AreGroups told s groups hs → map (renumbered s f.group) (group_images up_to f.here.images) ≡ images_going up_to (group_of s v) hs
  going up_to hs are =
      let images = group_images_are told f.here (own f hs) (stands_here told f hs are) in
      let none : (k : ℕ) → volume_in f.group s.volumes (0 + k) ≡ 0 + volume_in f.group s.volumes k = λ k. start k in
      flat_same (renumbered s f.group) (λ n. evicted_of n (group_holders n 0 f.here.images)) (λ n. evicted_of n (holders n 0 (map (placed f.group) s.volumes) hs)) (range_with_len 1 up_to)
      (λ n. evicted_same s f.group n (group_holders n 0 f.here.images)
      ∙ ap (λ (xs : List (List ℕ)). evicted_of n (map (volume_in f.group s.volumes) (group_holders n 0 xs))) images
      ∙ ap (evicted_of n) (holders_same f.group n 0 0 (volume_in f.group s.volumes) s.volumes hs none))
      ∙ ap (λ (ps : List Placed). images_going up_to ps hs) (sym group_is)
    where
      start : (k : ℕ) → volume_in f.group s.volumes (0 + k) ≡ 0 + volume_in f.group s.volumes k
      start k = let here : 0 + k ≡ k = omega arith in let there : volume_in f.group s.volumes k ≡ 0 + volume_in f.group s.volumes k = omega arith in ap (volume_in f.group s.volumes) here ∙ there

-- ## the call

module _ {D : Type 0} (device : Ghosts D) {s : Plan} {old new : List (GroupValue D)} {v : ℕ} (c : Called s old new v) where
  room_kept : (up_to : ℕ) → c.after ≡ gone_group up_to c.found.here → IsKeptGroup device c.found.here c.after
  room_kept up_to left = grind (arith, kept_itself, length-map)

  pub room_of : (b up_to : ℕ) (gone : List Evicted) → HasGroupRoom device.told c.found.here c.after c.found.within b up_to
      → gone ≡ map (renumbered s c.found.group) (group_images up_to c.found.here.images)
      → IsRoomMade device s old new v b gone up_to
  room_of b up_to gone room are_gone =
      let x = c.found.here in
      let kept = room_kept up_to room.left in
      record {
        call = call_of device c kept;
        devices = devices_still device c (ap (λ (y : GroupValue D). y.devices) room.left) (ap (λ (y : GroupValue D). y.area.device) room.left);
        evicted = λ hs are. go_up_to device.told c.found b up_to hs are (room.evicted (own c.found hs) (stands_here device.told c.found hs are));
        stands = λ hs are. stands_after hs kept are;
        gone = λ hs are. are_gone ∙ going device.told c.found up_to hs are;
        room = has_room;
      }
    where
      stands_after : (hs : List History) → IsKeptGroup device c.found.here c.after → AreGroups device.told s old hs → AreGroups device.told s new (gone_up_to up_to (group_of s v) hs)
      stands_after hs kept are =
          let g = c.found.group in
          let same = group_is device.told c.found in
          let mine = are.each g c.found.here c.found.at in
          let here : made_room c.found.here up_to (own c.found hs) ≡ of_group g s.volumes (gone_up_to up_to (map (placed g) s.volumes) hs) =
          ap (λ (ns : List ℕ). gone_up_to up_to (all_placed ns) (own c.found hs)) mine.volumes ∙ sym (gone_in_group g up_to s.volumes hs) in
          subst (λ (ps : List Placed). AreGroups device.told s new (gone_up_to up_to ps hs)) (sym same)
          (becomes device.told s old new g c.found.here c.after hs (gone_up_to up_to (map (placed g) s.volumes) hs) c.found.at c.is kept.volumes kept.slots are
          (as_many_gone up_to (map (placed g) s.volumes) hs)
          (subst (λ (ks : List History). StandsFor device.told c.after ks) here (room.stands (own c.found hs) (stands_here device.told c.found hs are)))
          (λ k apart. gone_elsewhere g k up_to s.volumes hs apart))

      has_room : HasRoom s new v b
      has_room = there (called_found device c (room_kept up_to room.left)) (λ x u. lacks_slot x.area.records u (sets_at x u) b ≡ false) room.enough

-- a call on the same place asks for room there
pub room_here : {D : Type 0} {s : Plan} {groups : List (GroupValue D)} {v : ℕ} (b : ℕ) (f : Found s groups v) → HasRoom s groups v b
    → lacks_slot f.here.area.records f.within (sets_at f.here f.within) b ≡ false
room_here b f room = room f.group f.within f.here f.place f.at

-- the group has no more volumes than the scenario
pub few_within : (g : ℕ) (rows : List VolumeRow) → length (blocks_in_group g rows) ≤ length rows
few_within g [] = omega arith
few_within g (r ∷ rows) = by_test (r.group == g) (few_within g rows)
  where
    by_test : (b : Bool) → length (blocks_in_group g rows) ≤ length rows → length (of_group_if b r.blocks (blocks_in_group g rows)) ≤ suc (length rows)
    by_test true low = omega arith
    by_test false low = omega arith

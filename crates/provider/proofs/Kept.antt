-- What every call keeps, from what it keeps of each group; and blocks that are hashed one after another.
use Rattle.std.proofs.Common.{◌≡◌, ℕ, zero, suc, ◌+◌, ◌<◌, ◌≤◌, ◌==◌, List, [], ◌∷◌, ◌++◌, length, refl, ap, sym, ◌∙◌, subst, arith, Bool, true, false, Option}
use Rattle.std.proofs.Common.{Some, None, map, slice_get, slice_set, ◌&&◌, is_some, Vec}
use Rattle.std.specs.declared.alloc.Global.{Global}
use Rattle.vss_model.proofs.Words.{number_is}
use Rattle.provider.specs.Words.{IsSeen, history_at}
use Rattle.provider.proofs.Words.{AreKept, AreLater, Ghosts, GroupValue, IsKeptGroup, IsProvider, IsSameDevice, Plan, VolumeRow, counts_of, devices_of}
use Rattle.provider.proofs.Words.{length-map, length-slice_set, map-append, same_number, slice_get-set_other, slice_get-set_same, slice_get_inside}
use Rattle.provider.proofs.Words.{slice_get_within, tells_from, tells_of, told_at, told_by, told_in, true≢false, AreaRose, AtPoint, HasDigestCause}
use Rattle.provider.proofs.Words.{HasTaken, Hasher, ImageFault, ImageRose, IsQuietGroup, IsUnfailed, Rose, VolumeRose, Write, append-nil, concat, concat-append}
use Rattle.provider.proofs.Words.{content, contents, is_there, map-range_with_len_more, quiet_stands, same_Some, sets_at, slice_get_map, unfailed_further}

-- ## What every call keeps, from what it keeps of each group.

-- ## lists of one length

map_same : {X Y : Type 0} (f : X → Y) (xs ys : List X) → length ys ≡ length xs → ((i : ℕ) (x y : X) → slice_get xs i ≡ Some x → slice_get ys i ≡ Some y → f y ≡ f x) → map f ys ≡ map f xs
map_same f [] [] long same = refl
map_same f [] (y ∷ ys) long same = absurd (omega arith)
map_same f (x ∷ xs) [] long same = absurd (omega arith)
map_same f (x ∷ xs) (y ∷ ys) long same =
    ap (λ z. z ∷ map f ys) (same zero x y refl refl) ∙ ap (λ zs. f x ∷ zs) (map_same f xs ys (omega arith) (λ i a b at there. same (suc i) a b at there))

later_each : {X : Type 0} (f : X → ℕ) (xs ys : List X) → length ys ≡ length xs → ((i : ℕ) (x y : X) → slice_get xs i ≡ Some x → slice_get ys i ≡ Some y → f x ≤ f y) → AreLater (map f xs) (map f ys)
later_each f [] [] long low = tt
later_each f [] (y ∷ ys) long low = absurd (omega arith)
later_each f (x ∷ xs) [] long low = absurd (omega arith)
later_each f (x ∷ xs) (y ∷ ys) long low = (low zero x y refl refl, later_each f xs ys (omega arith) (λ i a b at there. low (suc i) a b at there))

later_append : (xs ys cs ds : List ℕ) → AreLater xs ys → AreLater cs ds → AreLater (xs ++ cs) (ys ++ ds)
later_append [] [] cs ds h k = k
later_append [] (y ∷ ys) cs ds h k = elim h [ ]
later_append (x ∷ xs) [] cs ds h k = elim h [ ]
later_append (x ∷ xs) (y ∷ ys) cs ds h k = (h.0, later_append xs ys cs ds h.1 k)

pub later_same : (xs ys : List ℕ) → ys ≡ xs → AreLater xs ys
later_same xs ys e = subst (λ (zs : List ℕ). AreLater xs zs) (sym e) (itself xs)
  where
    itself : (zs : List ℕ) → AreLater zs zs
    itself [] = tt
    itself (z ∷ zs) = (omega arith, itself zs)

-- ## all groups

-- a device is another state of the same one
abbrev IsSame : {D : Type 0} → Ghosts D → D → D → Type 0
IsSame device d e = IsSameDevice device d e

abbrev pub AllKept : {D : Type 0} (device : Ghosts D) (old new : List (GroupValue D)) → Type 0
AllKept {D = D} device old new = (g : ℕ) (x y : GroupValue D) → slice_get old g ≡ Some x → slice_get new g ≡ Some y → IsKeptGroup device x y

mapped_all : {D X : Type 0} (device : Ghosts D) (f : D → X) → ((d e : D) → IsSame device d e → f e ≡ f d) → (old new : List (GroupValue D)) → length new ≡ length old → AllKept device old new
    → map f (devices_of new) ≡ map f (devices_of old)
mapped_all device f same [] [] long each = refl
mapped_all device f same [] (y ∷ ys) long each = absurd (omega arith)
mapped_all device f same (x ∷ xs) [] long each = absurd (omega arith)
mapped_all {X = X} device f same (x ∷ xs) (y ∷ ys) long each =
    let kept = each zero x y refl refl in
    map-append f y.devices (y.area.device ∷ devices_of ys)
    ∙ ap (λ (zs : List X). zs ++ f y.area.device ∷ map f (devices_of ys)) (map_same f x.devices y.devices kept.devices (λ i d e at there. same d e (kept.each i d e at there)))
    ∙ ap (λ (n : X). map f x.devices ++ n ∷ map f (devices_of ys)) (same x.area.device y.area.device kept.area)
    ∙ ap (λ (zs : List X). map f x.devices ++ f x.area.device ∷ zs) (mapped_all device f same xs ys (omega arith) (λ g p q at there. each (suc g) p q at there))
    ∙ sym (map-append f x.devices (x.area.device ∷ devices_of xs))

later_all : {D : Type 0} (device : Ghosts D) (old new : List (GroupValue D)) → length new ≡ length old → AllKept device old new
    → AreLater (counts_of device.count old) (counts_of device.count new)
later_all device [] [] long each = tt
later_all device [] (y ∷ ys) long each = absurd (omega arith)
later_all device (x ∷ xs) [] long each = absurd (omega arith)
later_all device (x ∷ xs) (y ∷ ys) long each =
    let kept = each zero x y refl refl in
    let first = later_each device.count x.devices y.devices kept.devices (λ i d e at there. (kept.each i d e at there).later) in
    let rest = later_all device xs ys (omega arith) (λ g p q at there. each (suc g) p q at there) in
    let both = later_append (map device.count x.devices) (map device.count y.devices) (device.count x.area.device ∷ counts_of device.count xs)
    (device.count y.area.device ∷ counts_of device.count ys) first (kept.area.later, rest) in
    subst (λ (zs : List ℕ). AreLater zs (map device.count (y.devices ++ y.area.device ∷ devices_of ys))) (sym (map-append device.count x.devices (x.area.device ∷ devices_of xs)))
    (subst (λ (zs : List ℕ). AreLater (map device.count x.devices ++ device.count x.area.device ∷ counts_of device.count xs) zs)
    (sym (map-append device.count y.devices (y.area.device ∷ devices_of ys))) both)

-- ## which volumes tell

-- a volume tells where its device and that of its area do
pub both_tell : (slots own : Option (List (List ℕ))) → is_some (told_in slots own) ≡ (is_some own && is_some slots)
both_tell slots own = grind arith

abbrev AreTelling : {D : Type 0} → (D → Option (List (List ℕ))) → List D → List D → Type 0
AreTelling told ds es = map (λ d. is_some (told d)) es ≡ map (λ d. is_some (told d)) ds

tells_there : {D : Type 0} (told : D → Option (List (List ℕ))) (place : ℕ) (ds es : List D) → AreTelling told ds es → is_some (told_by told es place) ≡ is_some (told_by told ds place)
tells_there told place [] [] e = refl
tells_there told place [] (x ∷ es) e = cc
tells_there told place (d ∷ ds) [] e = cc
tells_there told zero (d ∷ ds) (x ∷ es) e = cc
tells_there told (suc place) (d ∷ ds) (x ∷ es) e = let rest : AreTelling told ds es = cc in tells_there told place ds es rest

tells_same : {D : Type 0} (told : D → Option (List (List ℕ))) (s : Plan) (ds es : List D) (v : ℕ) (rows : List VolumeRow) → AreTelling told ds es
    → tells_from told s es v rows ≡ tells_from told s ds v rows
tells_same told s ds es v rows e = grind (arith, tells_there, both_tell)

-- the number of a volume counts up from where the list begins
tells_from-at : {D : Type 0} (told : D → Option (List (List ℕ))) (s : Plan) (ds : List D) (n v : ℕ) (rows : List VolumeRow) → v < length rows
    → slice_get (tells_from told s ds n rows) v ≡ Some (is_some (told_at told s ds (n + v)))
tells_from-at told s ds n v [] low = absurd (omega arith)
tells_from-at told s ds n zero (r ∷ rows) low = let here : n ≡ n + 0 = omega arith in ap (λ (k : ℕ). Some (is_some (told_at told s ds k))) here
tells_from-at told s ds n (suc v) (r ∷ rows) low =
    let more : n + 1 + v ≡ n + suc v = omega arith in
    tells_from-at told s ds (n + 1) v rows (omega arith) ∙ ap (λ (k : ℕ). Some (is_some (told_at told s ds k))) more

pub tells_of-at : {D : Type 0} (told : D → Option (List (List ℕ))) (s : Plan) (ds : List D) (v : ℕ) → v < length s.volumes → slice_get (tells_of told s ds) v ≡ Some (is_some (told_at told s ds v))
tells_of-at told s ds v within = let none : 0 + v ≡ v = omega arith in tells_from-at told s ds 0 v s.volumes within ∙ ap (λ (k : ℕ). Some (is_some (told_at told s ds k))) none

-- ## what is kept

pub keeps : {D : Type 0} (device : Ghosts D) (old new : List (GroupValue D)) → length new ≡ length old → AllKept device old new → AreKept device old new
keeps {D = D} device old new long each = record {
  number = long;
  each = each;
  has = λ s has. record {
    there = λ v r e. subst (λ (n : ℕ). r.group < n) (sym long) (has.there v r e);
    volumes = λ g y at. let x = before g y at in (each g x.0 y x.1 at).volumes ∙ has.volumes g x.0 x.1;
    devices = λ g y at. let x = before g y at in let kept = each g x.0 y x.1 at in kept.devices ∙ has.devices g x.0 x.1 ∙ ap length (sym kept.volumes);
  };
  tells = λ s. tells_same device.told s (devices_of old) (devices_of new) 0 s.volumes (mapped_all device (λ d. is_some (device.told d)) (λ d e same. same.tells) old new long each);
  sizes = mapped_all device device.size (λ d e same. same.size_is) old new long each;
  later = later_all device old new long each;
}
  where
    before : (g : ℕ) (y : GroupValue D) → slice_get new g ≡ Some y → (x : GroupValue D) × (slice_get old g ≡ Some x)
    before g y at = let within = slice_get_within new g y at in slice_get_inside old g (omega (arith, within, long))

same_device : {D : Type 0} (device : Ghosts D) (d : D) → IsSame device d d
same_device device d = record { tells = refl; size_is = refl; lends = refl; later = omega arith }

pub kept_itself : {D : Type 0} (device : Ghosts D) (x : GroupValue D) → IsKeptGroup device x x
kept_itself device x = grind (arith, same_device)

pub kept_same : {D : Type 0} (device : Ghosts D) (groups : List (GroupValue D)) → AreKept device groups groups
kept_same device groups = grind (arith, keeps, kept_itself)

device_trans : {D : Type 0} (device : Ghosts D) (a b c : D) → IsSame device a b → IsSame device b c → IsSame device a c
device_trans device a b c h k = grind arith

pub kept_then : {D : Type 0} (device : Ghosts D) (x y z : GroupValue D) → IsKeptGroup device x y → IsKeptGroup device y z → IsKeptGroup device x z
kept_then {D = D} device x y z h k = record {
  volumes = k.volumes ∙ h.volumes;
  slots = k.slots ∙ h.slots;
  area = device_trans device x.area.device y.area.device z.area.device h.area k.area;
  devices = k.devices ∙ h.devices;
  each = λ v d f at there.
      let within = slice_get_within x.devices v d at in
      let long = h.devices in
      let e = slice_get_inside y.devices v (omega (arith, within, long)) in
      device_trans device d e.0 f (h.each v d e.0 at e.1) (k.each v e.0 f e.1 there);
}

pub kept_trans : {D : Type 0} (device : Ghosts D) (a b c : List (GroupValue D)) → AreKept device a b → AreKept device b c → AreKept device a c
kept_trans device a b c h k = keeps device a c (k.number ∙ h.number) (λ g x z at there.
    let within = slice_get_within a g x at in
    let long = h.number in
    let y = slice_get_inside b g (omega (arith, within, long)) in
    kept_then device x y.0 z (h.each g x y.0 at y.1) (k.each g y.0 z y.1 there))

-- ## one group was called

pub kept_one : {D : Type 0} (device : Ghosts D) (old new : List (GroupValue D)) (g : ℕ) (x y : GroupValue D) → slice_get old g ≡ Some x → new ≡ slice_set old g y
    → IsKeptGroup device x y → AreKept device old new
kept_one {D = D} device old new g x y was is kept =
    subst (λ (zs : List (GroupValue D)). AreKept device old zs) (sym is) (keeps device old (slice_set old g y) (length-slice_set old g y) each)
  where
    each : AllKept device old (slice_set old g y)
    each k p q at there = by_test (g == k) refl
      where
        by_test : (t : Bool) → (g == k) ≡ t → IsKeptGroup device p q
        by_test true f =
            let same : g ≡ k = number_is g k f in
            let one : Some x ≡ Some p = sym was ∙ subst (λ (n : ℕ). slice_get old n ≡ Some p) (sym same) at in
            let first : x ≡ p = cc in
            let two : Some y ≡ Some q = sym (slice_get-set_same old g x y was) ∙ subst (λ (n : ℕ). slice_get (slice_set old g y) n ≡ Some q) (sym same) there in
            let second : y ≡ q = cc in
            subst (λ (z : GroupValue D). IsKeptGroup device z q) first (subst (λ (z : GroupValue D). IsKeptGroup device x z) second kept)
        by_test false f =
            let apart : (g ≡ k → ⊥) = λ same. true≢false (sym (same_number g k same) ∙ f) in
            let one : Some p ≡ Some q = sym at ∙ sym (slice_get-set_other old g k y apart) ∙ there in
            let same : p ≡ q = cc in
            subst (λ (z : GroupValue D). IsKeptGroup device p z) same (kept_itself device p)

-- the group that was called is there
pub called_there : {D : Type 0} (old new : List (GroupValue D)) (g : ℕ) (x y : GroupValue D) → slice_get old g ≡ Some x → new ≡ slice_set old g y → slice_get new g ≡ Some y
called_there old new g x y was is = ap (λ (zs : List (GroupValue _)). slice_get zs g) is ∙ slice_get-set_same old g x y was

-- ## the fields of a provider

pub same_length : {D : Type 0} (size : D → ℕ) (xs ys : List D) → map size ys ≡ map size xs → length ys ≡ length xs
same_length size xs ys e = sym (length-map ys size) ∙ ap length e ∙ length-map xs size

pub provider_kept : {D : Type 0} (device : Ghosts D) (old new : List (GroupValue D)) (volumes : Vec ℕ Global) (list : Vec D Global) → AreKept device old new → IsProvider old volumes list
    → IsProvider new volumes list
provider_kept device old new volumes list kept is = grind (arith, same_length)

-- ## The blocks of a volume, or of an image, are hashed one after another.

-- ## after quiet calls

pub quiet_same : {D : Type 0} (device : Ghosts D) (x : GroupValue D) → IsQuietGroup device x x
quiet_same device x = record { kept = kept_itself device x; records = refl; images = refl; blocks = refl; slots = refl; blocks_last = λ v h. h; slots_last = λ h. h }

pub quiet_then : {D : Type 0} (device : Ghosts D) (x y z : GroupValue D) → IsQuietGroup device x y → IsQuietGroup device y z → IsQuietGroup device x z
quiet_then device x y z h k = grind (arith, kept_then)

-- what holds at a point after quiet calls holds of the group as it was
at_first : {D : Type 0} (device : Ghosts D) (first now : GroupValue D) (u : ℕ) (set : Option ℕ) (P : List Write → ℕ → Type 0) → IsQuietGroup device first now → AtPoint device.told now u set P
    → AtPoint device.told first u set P
at_first {D = D} device first now u set P quiet holds hs d p stands at tells area there =
    let within = slice_get_within first.devices u d at in
    let long = quiet.kept.devices in
    let e = slice_get_inside now.devices u (omega (arith, within, long)) in
    let same : Some (device.told e.0) ≡ Some (device.told d) = sym (slice_get_map device.told now.devices u e.0 e.1) ∙ ap
    (λ (ts : List (Option (List (List ℕ)))). slice_get ts u) quiet.blocks ∙ slice_get_map device.told first.devices u d at in
    holds hs e.0 p
    (quiet_stands device.told first now hs stands quiet.blocks quiet.images quiet.kept.volumes quiet.records quiet.slots)
    e.1 (ap (λ (t : Option (List (List ℕ))). is_some t) (same_Some (device.told e.0) (device.told d) same) ∙ tells) (ap (λ (t : Option (List (List ℕ))). is_some t) quiet.slots ∙ area) there

-- the first k blocks were hashed as they were at a point, and only counts may have changed
pub record HasHashed {D : Type 0} (device : Ghosts D) (first now : GroupValue D) (u : ℕ) (set : Option ℕ) (k : ℕ) (hasher : Hasher) : Type 0 where
  pub quiet : IsQuietGroup device first now
  pub same : IsUnfailed device.count first now
  pub taken : AtPoint device.told first u set (λ ws p. HasTaken hasher (concat (contents k ws p)))

one_more : (k : ℕ) (ws : List Write) (p : ℕ) → concat (contents (k + 1) ws p) ≡ concat (contents k ws p) ++ content ws p k
one_more k ws p =
    ap concat (map-range_with_len_more (content ws p) 0 k k (omega arith))
    ∙ concat-append (contents k ws p) (content ws p k ∷ [])
    ∙ ap (λ (xs : List ℕ). concat (contents k ws p) ++ xs) (append-nil (content ws p k))

-- what is seen of a block is so at the point that is shown
pub at_seen : {D : Type 0} (told : D → Option (List (List ℕ))) (g : GroupValue D) (u : ℕ) (set : Option ℕ) (b : ℕ) (bytes : List ℕ) → IsSeen told g u set b bytes
    → AtPoint told g u set (λ ws p. bytes ≡ content ws p b)
at_seen told g u None b bytes seen hs d p stands at tells area end = grind arith
at_seen told g u (Some set) b bytes seen hs d p stands at tells area point = seen hs d p stands at tells area point

-- one more block was read as it was there, and was hashed
pub hashed_more : {D : Type 0} (device : Ghosts D) (first old new : GroupValue D) (u : ℕ) (set : Option ℕ) (k : ℕ) (bytes : List ℕ) (before after : Hasher)
    → HasHashed device first old u set k before → IsSeen device.told old u set k bytes → ((parts : List ℕ) → HasTaken before parts → HasTaken after (parts ++ bytes))
    → IsUnfailed device.count old new → IsQuietGroup device old new → HasHashed device first new u set (k + 1) after
hashed_more device first old new u set k bytes before after was seen taken same quiet = record {
  quiet = quiet_then device first old new was.quiet quiet;
  same = unfailed_further device.count first old new was.same same;
  taken = λ hs d p stands at tells area there.
      let so_far = was.taken hs d p stands at tells area there in
      let is = at_seen device.told old u set k bytes seen in
      let block = at_first device first old u set (λ ws q. bytes ≡ content ws q k) was.quiet is hs d p stands at tells area there in
      subst (λ (xs : List ℕ). HasTaken after xs) (ap (λ (xs : List ℕ). concat (contents k (history_at hs u).writes p) ++ xs) block ∙ sym (one_more k (history_at hs u).writes p))
      (taken (concat (contents k (history_at hs u).writes p)) so_far);
}

-- a device failed later: its count rose since the first call too
volume_since : {D : Type 0} (count : D → ℕ) (first old new : GroupValue D) (u : ℕ) → IsUnfailed count first old → length old.devices ≡ length first.devices → VolumeRose count u old new
    → VolumeRose count u first new
volume_since {D = D} count first old new u same long rose =
    let within = slice_get_within old.devices u rose.before rose.was in
    let d = slice_get_inside first.devices u (omega (arith, within, long)) in
    let one : Some (count rose.before) ≡ Some (count d.0) =
    sym (slice_get_map count old.devices u rose.before rose.was) ∙ ap (λ (ns : List ℕ). slice_get ns u) same.devices ∙ slice_get_map count first.devices u d.0 d.1 in
    record {
      before = d.0;
      now = rose.now;
      was = d.1;
      is = rose.is;
      rose = subst (λ (n : ℕ). Rose n (count rose.now)) (same_Some (count rose.before) (count d.0) one) rose.rose;
      devices = rose.devices ∙ ap (λ (ns : List ℕ). slice_set ns u (count rose.now)) same.devices;
      area = rose.area ∙ same.area;
    }

area_since : {D : Type 0} (count : D → ℕ) (first old new : GroupValue D) → IsUnfailed count first old → AreaRose count old new → AreaRose count first new
area_since count first old new same rose = grind arith

-- so there is no digest of what was there
pub digest_cause : {D : Type 0} (count : D → ℕ) (first old new : GroupValue D) (u : ℕ) (set : Option ℕ) (fault : ImageFault) → is_there set (sets_at first u) ≡ true → IsUnfailed count first old
    → length old.devices ≡ length first.devices
    → ImageRose count u old new fault → HasDigestCause count u set first new fault
digest_cause count first old new u set fault has same long rose = grind (arith, volume_since, area_since)

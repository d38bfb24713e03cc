-- A group and the whole copies that it has: how a call on it changes them.
use Rattle.std.proofs.Common.{◌≡◌, ℕ, zero, suc, ◌<◌, List, [], ◌∷◌, length, map, refl, ap, sym, subst, ◌∙◌, arith, true, Option, Some, option_map, is_some}
use Rattle.std.specs.Prelude.{slice_get, IfSome}
use Rattle.std.proofs.lemmas.Option.{same_Some, slice_get_within}
use Rattle.write_history.specs.History.{Image, History, content, contents, point_in, sets_of, AreInTime}
use Rattle.write_history.specs.Slots.{gone_up_to}
use Rattle.cow_volume.specs.StandsFor.{GroupValue, placed, StandsFor, told_in}
use Rattle.cow_volume.specs.Ending.{AllTell, IsSynced}
use Rattle.cow_volume.specs.Calls.{history_at, changed_at, blocks_at, blocks_in, sets_at, sets_in, is_among, IsKept, IsQuiet, IsNow, IsShown}
use Rattle.cow_volume.proofs.Group.{slice_get_inside, slice_get_map, place_at, quiet_stands}
use Rattle.cow_volume.proofs.Reading.{contents_at}
use Rattle.cow_volume.proofs.Named.{of_set, point_of}
use Rattle.image_store.specs.Plain.{Plain, volume_in, plain_in, plain_of, plains_of, on_volume, sets_on, image_in, gone_on}
use Rattle.image_store.specs.StoreValue.{HasPlains, KeepsPlains}
use Rattle.image_store.proofs.Copies.{image_of_point, sets_of_kept, length_contents, plain-gone}
use Rattle.volume_device.specs.declared.device.Device.{Ghosts}

-- ## lists of volumes

pub volumes_changed : (ns : List ℕ) (hs : List History) (v n : ℕ) (h : History) (F : History → History) (f : Plain → Plain) → slice_get ns v ≡ Some n → slice_get hs v ≡ Some h
    → plain_of n (F h) ≡ f (plain_of n h) → plains_of ns (changed_at v F hs) ≡ on_volume v f (plains_of ns hs)
volumes_changed [] hs v n h F f at is e = cc
volumes_changed (m ∷ ns) [] v n h F f at is e = cc
volumes_changed (m ∷ ns) (g ∷ hs) zero n h F f at is e =
    let same : n ≡ m = cc in
    let also : h ≡ g = cc in
    ap (λ p. p ∷ plains_of ns hs) (subst (λ x. plain_of x (F g) ≡ f (plain_of x g)) same (subst (λ y. plain_of n (F y) ≡ f (plain_of n y)) also e))
volumes_changed (m ∷ ns) (g ∷ hs) (suc v) n h F f at is e = ap (λ ps. plain_of m g ∷ ps) (volumes_changed ns hs v n h F f at is e)

pub volume_there : (ns : List ℕ) (hs : List History) (v n : ℕ) (h : History) → slice_get ns v ≡ Some n → slice_get hs v ≡ Some h → slice_get (plains_of ns hs) v ≡ Some (plain_of n h)
volume_there [] hs v n h at is = cc
volume_there (m ∷ ns) [] v n h at is = cc
volume_there (m ∷ ns) (g ∷ hs) zero n h at is =
    let same : m ≡ n = cc in
    let also : g ≡ h = cc in
    ap (λ x. Some (plain_of x g)) same ∙ ap (λ y. Some (plain_of n y)) also
volume_there (m ∷ ns) (g ∷ hs) (suc v) n h at is = volume_there ns hs v n h at is

length-plains : (ns : List ℕ) (hs : List History) → length hs ≡ length ns → length (plains_of ns hs) ≡ length ns
length-plains [] hs e = refl
length-plains (n ∷ ns) [] e = absurd (omega arith)
length-plains (n ∷ ns) (h ∷ hs) e = ap suc (length-plains ns hs (omega arith))

pub volumes_gone : (m : ℕ) (ns : List ℕ) (hs : List History) → plains_of ns (gone_up_to m (placed ns) hs) ≡ map (gone_on m) (plains_of ns hs)
volumes_gone m [] hs = refl
volumes_gone m (n ∷ ns) [] = refl
volumes_gone m (n ∷ ns) (h ∷ hs) = ap (λ p. p ∷ plains_of ns (gone_up_to m (placed ns) hs)) (plain-gone n m h) ∙ ap (λ ps. gone_on m (plain_of n h) ∷ ps) (volumes_gone m ns hs)

-- two lists with the same at each place
pub same_lists : {X : Type 0} → (xs ys : List X) → length xs ≡ length ys → ((i : ℕ) (x y : X) → slice_get xs i ≡ Some x → slice_get ys i ≡ Some y → x ≡ y) → xs ≡ ys
same_lists [] [] e h = refl
same_lists [] (y ∷ ys) e h = absurd (omega arith)
same_lists (x ∷ xs) [] e h = absurd (omega arith)
same_lists (x ∷ xs) (y ∷ ys) e h = ap (λ z. z ∷ xs) (h 0 x y refl refl) ∙ ap (λ zs. y ∷ zs) (same_lists xs ys (omega arith) (λ i a b at is. h (suc i) a b at is))

pub on_volume-same : (ps : List Plain) (v : ℕ) (f : Plain → Plain) → f (volume_in ps v) ≡ volume_in ps v → on_volume v f ps ≡ ps
on_volume-same [] v f e = refl
on_volume-same (p ∷ ps) zero f e = ap (λ q. q ∷ ps) e
on_volume-same (p ∷ ps) (suc v) f e = ap (λ qs. p ∷ qs) (on_volume-same ps v f e)

pub on_volume-twice : (ps : List Plain) (v : ℕ) (f g h : Plain → Plain) → ((p : Plain) → f (g p) ≡ h p) → on_volume v f (on_volume v g ps) ≡ on_volume v h ps
on_volume-twice [] v f g h e = refl
on_volume-twice (p ∷ ps) zero f g h e = ap (λ q. q ∷ ps) (e p)
on_volume-twice (p ∷ ps) (suc v) f g h e = ap (λ qs. p ∷ qs) (on_volume-twice ps v f g h e)

pub volume_on : (ps : List Plain) (v : ℕ) (f : Plain → Plain) → v < length ps → volume_in (on_volume v f ps) v ≡ f (volume_in ps v)
volume_on [] v f l = absurd (omega arith)
volume_on (p ∷ ps) zero f l = refl
volume_on (p ∷ ps) (suc v) f l = volume_on ps v f (omega arith)

-- ## what a group has

-- volume v of a group, and its copies
pub record At {D : Type 0} (told : D → Option (List (List ℕ))) (g : GroupValue D) (ps : List Plain) (hs : List History) (v : ℕ) : Type 0 where
  pub blocks : ℕ
  pub history : History
  pub device : D
  pub blocks_are : slice_get g.area.volumes v ≡ Some blocks
  pub blocks_at_is : blocks_at g v ≡ blocks
  pub history_is : slice_get hs v ≡ Some history
  pub history_at_is : history_at hs v ≡ history
  pub device_is : slice_get g.devices v ≡ Some device
  pub sets_are : sets_at g v ≡ sets_of history.images
  pub time : AreInTime (length history.writes) history.images
  pub plain : volume_in ps v ≡ plain_of blocks history

pub at_volume : {D : Type 0} → (told : D → Option (List (List ℕ))) (g : GroupValue D) (ps : List Plain) (v : ℕ) (has : HasPlains told g ps) → v < length g.area.volumes → At told g ps has.hs v
at_volume told g ps v has l =
    let place = place_at told g has.hs v has.stands l in
    record {
      blocks = place.blocks;
      history = history_at has.hs v;
      device = place.device;
      blocks_are = place.blocks_at;
      blocks_at_is = ap blocks_in place.blocks_at;
      history_is = place.history;
      history_at_is = refl;
      device_is = place.device_at;
      sets_are = ap sets_in place.sets_at ∙ place.stands.sets_are;
      time = place.stands.images.in_time;
      plain = ap (λ qs. volume_in qs v) has.plains ∙ ap plain_in (volume_there g.area.volumes has.hs v place.blocks (history_at has.hs v) place.blocks_at place.history);
    }

pub as_many_plains : {D : Type 0} → (told : D → Option (List (List ℕ))) (g : GroupValue D) (ps : List Plain) → HasPlains told g ps → length ps ≡ length g.area.volumes
as_many_plains told g ps has = ap length has.plains ∙ length-plains g.area.volumes has.hs has.stands.histories

pub as_many_blocks : {D : Type 0} → (told : D → Option (List (List ℕ))) (g : GroupValue D) (ps : List Plain) (v : ℕ) → HasPlains told g ps → v < length g.area.volumes
    → length (volume_in ps v).blocks ≡ blocks_at g v
as_many_blocks told g ps v has l =
    let at = at_volume told g ps v has l in
    ap (λ (p : Plain). length p.blocks) at.plain ∙ length_contents at.blocks at.history.writes (length at.history.writes) ∙ sym at.blocks_at_is

-- the sets of its images
pub sets_of_volume : {D : Type 0} → (told : D → Option (List (List ℕ))) (g : GroupValue D) (ps : List Plain) (v : ℕ) → HasPlains told g ps → v < length g.area.volumes
    → sets_at g v ≡ sets_on (volume_in ps v)
sets_of_volume told g ps v has l =
    let at = at_volume told g ps v has l in
    at.sets_are ∙ sym (ap sets_on at.plain ∙ sets_of_kept at.blocks at.history.writes at.history.images)

pub sets_of_volumes : {D : Type 0} → (told : D → Option (List (List ℕ))) (g : GroupValue D) (ps : List Plain) → HasPlains told g ps → g.images ≡ map sets_on ps
sets_of_volumes told g ps has = same_lists g.images (map sets_on ps) (has.stands.images ∙ sym (length-sets ps ∙ as_many_plains told g ps has)) (λ v sets qs at is.
    let within = slice_get_within g.images v sets at in
    let l : v < length g.area.volumes = omega arith in
    let here = sets_of_volume told g ps v has l in
    let many = as_many_plains told g ps has in
    let found = slice_get_inside ps v (omega arith) in
    let there = slice_get_map sets_on ps v found.0 found.1 in
    let same : qs ≡ sets_on found.0 = same_some (sym is ∙ there) in
    sym (ap sets_in at) ∙ here ∙ ap (λ (o : Option Plain). sets_on (plain_in o)) found.1 ∙ sym same) where
      length-sets : (xs : List Plain) → length (map sets_on xs) ≡ length xs
      length-sets [] = refl
      length-sets (x ∷ xs) = ap suc (length-sets xs)

      same_some : {x y : List ℕ} → Some x ≡ Some y → x ≡ y
      same_some e = cc

-- ## calls that keep them

pub kept_refl : {D : Type 0} → (told : D → Option (List (List ℕ))) (g : GroupValue D) → KeepsPlains told g g
kept_refl told g = record { volumes = refl; plains = λ ps has. has }

pub kept_then : {D : Type 0} → (told : D → Option (List (List ℕ))) (a b c : GroupValue D) → KeepsPlains told a b → KeepsPlains told b c → KeepsPlains told a c
kept_then told a b c first second = record { volumes = second.volumes ∙ first.volumes; plains = λ ps has. second.plains ps (first.plains ps has) }

pub kept_tells : {D : Type 0} → (ghosts : Ghosts D) (old new : GroupValue D) → IsKept ghosts old new
    → AllTell ghosts.told old.devices
    → AllTell ghosts.told new.devices
kept_tells ghosts old new kept tell = λ v d at.
    let within = slice_get_within new.devices v d at in
    let before = slice_get_inside old.devices v (omega arith) in
    (kept.each v before.0 d before.1 at).tells ∙ tell v before.0 before.1

-- it stands for other histories
pub has_now : {D : Type 0} → (ghosts : Ghosts D) (old new : GroupValue D) (ps qs : List Plain) (hs : List History) → HasPlains ghosts.told old ps
    → IsKept ghosts old new → StandsFor ghosts.told new hs → qs ≡ plains_of old.area.volumes hs → HasPlains ghosts.told new qs
has_now ghosts old new ps qs hs has kept stands are = grind (arith, kept_tells)

pub quiet_kept : {D : Type 0} → (ghosts : Ghosts D) (old new : GroupValue D) → IsQuiet ghosts old new
    → KeepsPlains ghosts.told old new
quiet_kept ghosts old new quiet = record {
  volumes = quiet.kept.volumes;
  plains = λ ps has. has_now ghosts old new ps ps has.hs has quiet.kept
      (quiet_stands ghosts.told old new has.hs has.stands quiet.blocks quiet.images quiet.kept.volumes quiet.records quiet.slots) has.plains;
}

pub synced_kept : {D : Type 0} → (ghosts : Ghosts D) (old new : GroupValue D) → IsSynced ghosts old new
    → KeepsPlains ghosts.told old new
synced_kept ghosts old new synced = record {
  volumes = synced.kept.volumes;
  plains = λ ps has. has_now ghosts old new ps ps has.hs has synced.kept (synced.stands has.hs has.stands) has.plains;
}

-- one volume's history changes
pub has_changed : {D : Type 0}
    → (ghosts : Ghosts D) (old new : GroupValue D) (ps : List Plain) (v : ℕ) (F : History → History) (f : Plain → Plain)
    (has : HasPlains ghosts.told old ps) → IsKept ghosts old new → v < length old.area.volumes → StandsFor ghosts.told new (changed_at v F has.hs)
    → ((at : At ghosts.told old ps has.hs v) → plain_of at.blocks (F at.history) ≡ f (plain_of at.blocks at.history)) → HasPlains ghosts.told new (on_volume v f ps)
has_changed ghosts old new ps v F f has kept l stands e =
    let at = at_volume ghosts.told old ps v has l in
    has_now ghosts old new ps (on_volume v f ps) (changed_at v F has.hs) has kept stands
    (ap (on_volume v f) has.plains ∙ sym (volumes_changed old.area.volumes has.hs v at.blocks at.history F f at.blocks_are at.history_is (e at)))

-- ## blocks that are told

-- a device tells what is known where the area's tells too
pub told_blocks : (area told : Option (List (List ℕ))) (want : List (List ℕ)) → is_some area ≡ true → is_some told ≡ true → IfSome (told_in area told) (λ blocks. blocks ≡ want) → told ≡ Some want
told_blocks area told want a t is = grind arith

pub device_tells : {D : Type 0} → (told : D → Option (List (List ℕ))) (g : GroupValue D) (ps : List Plain) (v : ℕ) (d : D) → HasPlains told g ps
    → v < length g.area.volumes → slice_get g.devices v ≡ Some d
    → told d ≡ Some (volume_in ps v).blocks
device_tells {D = D} told g ps v d has l at =
    let place = place_at told g has.hs v has.stands l in
    let h = history_at has.hs v in
    let same : place.device ≡ d = same_Some place.device d (sym place.device_at ∙ at) in
    let plain : volume_in ps v ≡ plain_of place.blocks h = ap (λ qs. volume_in qs v) has.plains ∙ ap plain_in (volume_there g.area.volumes has.hs v place.blocks h place.blocks_at place.history) in
    told_blocks (told g.area.device) (told d) (contents place.blocks h.writes (length h.writes)) has.area (has.devices v d at)
    (subst (λ (x : D). IfSome (told_in (told g.area.device) (told x)) (λ blocks. blocks ≡ contents place.blocks h.writes (length h.writes))) same place.stands.blocks)
    ∙ ap (λ (p : Plain). Some p.blocks) (sym plain)

-- ## blocks that are read

pub block_now : {D : Type 0} → (told : D → Option (List (List ℕ))) (g : GroupValue D) (ps : List Plain) (v b : ℕ) (bytes : List ℕ) → HasPlains told g ps → v < length g.area.volumes → b < blocks_at g v
    → IsNow told g v b bytes → slice_get (volume_in ps v).blocks b ≡ Some bytes
block_now told g ps v b bytes has l m is =
    let at = at_volume told g ps v has l in
    let same = is has.hs at.device has.stands at.device_is (has.devices v at.device at.device_is) has.area in
    let here : bytes ≡ content at.history.writes (length at.history.writes) b = same ∙ ap (λ (h : History). content h.writes (length h.writes) b) at.history_at_is in
    ap (λ (p : Plain). slice_get p.blocks b) at.plain ∙ contents_at at.blocks at.history.writes (length at.history.writes) b (omega arith) ∙ ap Some (sym here)

-- the point of an image that stands
pub point_there : (k set : ℕ) (images : List Image) → AreInTime k images → is_among set (sets_of images) ≡ true → (p : ℕ) × (point_in set images ≡ Some p)
point_there k set images time is =
    let of = of_set set images is in
    (of.image.point, ap (λ s. point_in s images) (sym of.set_is) ∙ point_of k images of.image of.newer time of.stands)

pub image_there : {D : Type 0} → (told : D → Option (List (List ℕ))) (g : GroupValue D) (ps : List Plain) (v set : ℕ) → HasPlains told g ps → v < length g.area.volumes
    → is_among set (sets_at g v) ≡ true
    → (blocks : List (List ℕ)) × (image_in set (volume_in ps v).images ≡ Some blocks)
image_there told g ps v set has l is =
    let at = at_volume told g ps v has l in
    let p = point_there (length at.history.writes) set at.history.images at.time (ap (is_among set) (sym at.sets_are) ∙ is) in (
      contents at.blocks at.history.writes p.0,
      ap (λ (q : Plain). image_in set q.images) at.plain ∙ image_of_point set at.blocks at.history.writes at.history.images ∙ ap (option_map (contents at.blocks at.history.writes)) p.1,
    )

pub block_shown : {D : Type 0} → (told : D → Option (List (List ℕ))) (g : GroupValue D) (ps : List Plain) (v set b : ℕ) (bytes : List ℕ) → HasPlains told g ps → v < length g.area.volumes
    → b < blocks_at g v
    → is_among set (sets_at g v) ≡ true → IsShown told g v set b bytes
    → (blocks : List (List ℕ)) × (image_in set (volume_in ps v).images ≡ Some blocks) × (slice_get blocks b ≡ Some bytes) × (length blocks ≡ blocks_at g v)
block_shown told g ps v set b bytes has l m among is =
    let at = at_volume told g ps v has l in
    let p = point_there (length at.history.writes) set at.history.images at.time (ap (is_among set) (sym at.sets_are) ∙ among) in
    let same = is has.hs at.device p.0 has.stands at.device_is (has.devices v at.device at.device_is) has.area (ap (λ (h : History). point_in set h.images) at.history_at_is ∙ p.1) in
    let here : bytes ≡ content at.history.writes p.0 b = same ∙ ap (λ (h : History). content h.writes p.0 b) at.history_at_is in
    let n = at.blocks_at_is in (
      contents at.blocks at.history.writes p.0,
      ap (λ (q : Plain). image_in set q.images) at.plain ∙ image_of_point set at.blocks at.history.writes at.history.images ∙ ap (option_map (contents at.blocks at.history.writes)) p.1,
      contents_at at.blocks at.history.writes p.0 b (omega arith) ∙ ap Some (sym here),
      length_contents at.blocks at.history.writes p.0 ∙ sym at.blocks_at_is,
    )

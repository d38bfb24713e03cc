-- What each call keeps of a group; and what it stands for where only counts of devices changed, or where a volume is cut.
use Rattle.std.proofs.Common.{◌≡◌, ◌≢◌, ◌≤◌, ℕ, zero, suc, Bool, true, false, List, [], ◌∷◌, length, map, refl, ap, sym, subst, ◌∙◌, arith, Option, Some, None}
use Rattle.std.proofs.Common.{◌+◌, ◌-◌, ◌<◌, ◌++◌, drop, replicate}
use Rattle.std.proofs.lemmas.List.{map-set, take_all, drop_all, length-drop, length_push, length-map, map-append}
use Rattle.std.proofs.lemmas.List.Elements.{All-head, All-tail, All-push}
use Rattle.std.proofs.lemmas.Option.{same_Some, slice_get_within, slice_get-map}
use Rattle.std.specs.List.{All, range_with_len}
use Rattle.std.specs.Prelude.{slice_get, slice_set, option_map, slice_range, ◌==◌, if◌then◌else◌, IfSome, is_some}
use Rattle.block_data.specs.BlockBytes.{zeros}
use Rattle.volume_device.specs.declared.device.Device.{Ghosts}
use Rattle.write_history.specs.History.{History, Write, Image, content, point_in, names, sets_of, cut, fresh, AreLater, AreInTime}
use Rattle.write_history.specs.Slots.{writes_since}
use Rattle.diff_area.specs.AreaValue.{KeepsTable, AreaValue}
use Rattle.diff_area.specs.Format.{place_of_slot, free}
use Rattle.diff_area.specs.declared.table_record.Record.{Record}
use Rattle.cow_volume.specs.Calls.{IsSameDevice, IsKept, IsUnfailed, IsQuiet, LastsAt, StillLasts, VolumeRose, history_at, changed_at, sets_in, sets_at}
use Rattle.cow_volume.specs.StandsFor.{GroupValue, told_in, IsVolume, StandsFor, is_named, record_of}
use Rattle.cow_volume.specs.Parts.{group_of, IsCalled, CopiesValue}
use Rattle.cow_volume.proofs.Group.{same_number, other_number, slice_get-set_same, slice_get-set_other, length-slice_set, slice_get_inside, number_is_other}
use Rattle.cow_volume.proofs.Group.{named_point, place_at, slice_set-same, others_same, slots_same, told_in-if, on_one}

-- ## What each call keeps of a group, and what it stands for where only counts of devices changed.

-- ## one device

pub same_itself : {D : Type 0} (ghosts : Ghosts D) (d : D) → IsSameDevice ghosts d d
same_itself ghosts d = record { tells = refl; size_is = refl; lends = refl; later = omega arith }

-- each device is the same one after a call on one of them
pub each_same : {D : Type 0} (ghosts : Ghosts D) (v : ℕ) (old new : List D) (failed : Bool)
    → IsCalled ghosts v old new failed
    → (u : ℕ) (d e : D) → slice_get old u ≡ Some d → slice_get new u ≡ Some e → IsSameDevice ghosts d e
each_same ghosts v old new failed call u d e was is = grind (arith, same_number, same_Some, slice_get-set_same, other_number, slice_get-set_other, same_itself)

pub map_set_told : {X Y : Type 0} (f : X → Y) (xs : List X) (v : ℕ) (before after : X) → slice_get xs v ≡ Some before → f after ≡ f before → map f (slice_set xs v after) ≡ map f xs
map_set_told f [] v before after at e = refl
map_set_told f (x ∷ xs) zero before after at e = let same : x ≡ before = cc in ap (λ y. y ∷ map f xs) (e ∙ ap f (sym same))
map_set_told f (x ∷ xs) (suc v) before after at e = ap (λ ys. f x ∷ ys) (map_set_told f xs v before after at e)

-- what a list of devices tells is as before where the device that was called tells the same
pub all_told : {D : Type 0} (ghosts : Ghosts D) (v : ℕ) (old new : List D) (failed : Bool)
    (call : IsCalled ghosts v old new failed) → ghosts.told call.after ≡ ghosts.told call.before → map ghosts.told new ≡ map ghosts.told old
all_told ghosts v old new failed call e = ap (map ghosts.told) call.devices ∙ map_set_told ghosts.told old v call.before call.after call.was e

-- what the devices tell lasts as before where it does of the one that was called
all_last : {D : Type 0} (ghosts : Ghosts D) (v : ℕ) (old new : List D) (failed : Bool) (call : IsCalled ghosts v old new failed) → StillLasts ghosts call.before call.after
    → (u : ℕ) → LastsAt ghosts u old → LastsAt ghosts u new
all_last ghosts v old new failed call still u lasts d is = grind (arith, same_number, same_Some, slice_get-set_same, other_number, slice_get-set_other)

-- the count of the device of a volume rose where the call failed
pub volume_rose_if : {D : Type 0} (ghosts : Ghosts D) (v : ℕ) (old new : List D) (failed : Bool) (g h : CopiesValue D)
    → IsCalled ghosts v old new failed → failed ≡ true → ghosts.count h.area.device ≡ ghosts.count g.area.device → VolumeRose ghosts.count v (group_of old g) (group_of new h)
volume_rose_if ghosts v old new failed g h call e area = grind (arith, slice_get-set_same, map-set)

pub volume_rose : {D : Type 0} (ghosts : Ghosts D) (v : ℕ) (old new : List D) (g h : CopiesValue D)
    → IsCalled ghosts v old new true → ghosts.count h.area.device ≡ ghosts.count g.area.device → VolumeRose ghosts.count v (group_of old g) (group_of new h)
volume_rose ghosts v old new g h call area = volume_rose_if ghosts v old new true g h call refl area

-- ## the group

-- nothing was called
pub kept_itself : {D : Type 0} (ghosts : Ghosts D) (g : GroupValue D) → IsKept ghosts g g
kept_itself ghosts g = grind arith

-- one call after another
pub kept_further : {D : Type 0} (ghosts : Ghosts D) (a b c : GroupValue D) → IsKept ghosts a b
    → IsKept ghosts b c → IsKept ghosts a c
kept_further {D = D} ghosts a b c first second = record {
  volumes = second.volumes ∙ first.volumes;
  slots = second.slots ∙ first.slots;
  area = grind (arith, first.area, second.area);
  devices = second.devices ∙ first.devices;
  each = λ v d f was is.
      let inside = slice_get_within a.devices v d was in
      let long = first.devices in
      let e = slice_get_inside b.devices v (omega arith) in
      grind (arith, (first.each v d e.0 was e.1), (second.each v e.0 f e.1 is));
}

-- one quiet call after another
pub quiet_further : {D : Type 0} (ghosts : Ghosts D) (a b c : GroupValue D) → IsQuiet ghosts a b
    → IsQuiet ghosts b c → IsQuiet ghosts a c
quiet_further ghosts a b c first second = grind (arith, kept_further)

-- a device was called
pub kept_called : {D : Type 0} (ghosts : Ghosts D) (v : ℕ) (old new : List D) (failed : Bool) (c : CopiesValue D)
    → IsCalled ghosts v old new failed → IsKept ghosts (group_of old c) (group_of new c)
kept_called ghosts v old new failed c call = record {
  volumes = refl;
  slots = refl;
  area = same_itself ghosts c.area.device;
  devices = ap length call.devices ∙ length-slice_set old v call.after;
  each = each_same ghosts v old new failed call;
}

pub quiet_called : {D : Type 0} (ghosts : Ghosts D) (v : ℕ) (old new : List D) (failed : Bool) (c : CopiesValue D)
    (call : IsCalled ghosts v old new failed) → ghosts.told call.after ≡ ghosts.told call.before → StillLasts ghosts call.before call.after
    → IsQuiet ghosts (group_of old c) (group_of new c)
quiet_called ghosts v old new failed c call e still = record {
  kept = kept_called ghosts v old new failed c call;
  records = refl;
  images = refl;
  blocks = all_told ghosts v old new failed call e;
  slots = refl;
  blocks_last = all_last ghosts v old new failed call still;
  slots_last = λ h. h;
}

pub quiet_area : {D : Type 0} (ghosts : Ghosts D) (devices : List D) (old new : CopiesValue D) → KeepsTable ghosts.size ghosts.lending old.area new.area
    → new.images ≡ old.images → ghosts.told new.area.device ≡ ghosts.told old.area.device → ghosts.count old.area.device ≤ ghosts.count new.area.device
    → StillLasts ghosts old.area.device new.area.device → IsQuiet ghosts (group_of devices old) (group_of devices new)
quiet_area ghosts devices old new table images same later still = grind arith

-- the records changed in memory, and no device was called
pub kept_records : {D : Type 0} (ghosts : Ghosts D) (devices : List D) (old new : CopiesValue D) → new.area.volumes ≡ old.area.volumes
    → length new.area.records ≡ length old.area.records → new.area.device ≡ old.area.device
    → IsKept ghosts (group_of devices old) (group_of devices new)
kept_records ghosts devices old new volumes slots device = grind arith

-- the device that was called
pub called_is : {D : Type 0} (ghosts : Ghosts D) (v : ℕ) (old new : List D) (failed : Bool) (d : D)
    (call : IsCalled ghosts v old new failed) → slice_get new v ≡ Some d → call.after ≡ d
called_is ghosts v old new failed d call is = grind (arith, same_Some, slice_get-set_same)

-- and the others
pub not_called : {D : Type 0} (ghosts : Ghosts D) (v u : ℕ) (old new : List D) (failed : Bool) → IsCalled ghosts v old new failed → u ≢ v → slice_get new u ≡ slice_get old u
not_called ghosts v u old new failed call other = grind (arith, slice_get-set_other)

-- ## no device failed

pub unfailed_itself : {D : Type 0} (count : D → ℕ) (g : GroupValue D) → IsUnfailed count g g
unfailed_itself count g = record { devices = refl; area = refl }

pub unfailed_further : {D : Type 0} (count : D → ℕ) (a b c : GroupValue D) → IsUnfailed count a b → IsUnfailed count b c → IsUnfailed count a c
unfailed_further count a b c first second = record { devices = second.devices ∙ first.devices; area = second.area ∙ first.area }

-- the device of a volume was called, and did not fail
pub unfailed_called : {D : Type 0} (ghosts : Ghosts D) (v : ℕ) (old new : List D) (failed : Bool) (g h : CopiesValue D)
    → IsCalled ghosts v old new failed → failed ≡ false → ghosts.count h.area.device ≡ ghosts.count g.area.device
    → IsUnfailed ghosts.count (group_of old g) (group_of new h)
unfailed_called ghosts v old new failed g h call e area = grind (arith, map_set_told)

-- each device still has as many blocks as its volume
maps_same : {X Y : Type 0} (f : X → Y) (xs ys : List X) → length ys ≡ length xs → ((v : ℕ) (d e : X) → slice_get xs v ≡ Some d → slice_get ys v ≡ Some e → f e ≡ f d) → map f ys ≡ map f xs
maps_same f [] [] long each = refl
maps_same f [] (y ∷ ys) long each = absurd (omega arith)
maps_same f (x ∷ xs) [] long each = absurd (omega arith)
maps_same f (x ∷ xs) (y ∷ ys) long each =
    let first : f y ≡ f x = each 0 x y refl refl in
    let rest : map f ys ≡ map f xs = maps_same f xs ys (omega arith) (λ v d e was is. each (suc v) d e was is) in
    ap (λ z. z ∷ map f ys) first ∙ ap (λ zs. f x ∷ zs) rest

pub sizes_kept : {D : Type 0} (ghosts : Ghosts D) (old new : GroupValue D) → IsKept ghosts old new
    → map ghosts.size old.devices ≡ old.area.volumes → map ghosts.size new.devices ≡ new.area.volumes
sizes_kept ghosts old new kept sizes = maps_same ghosts.size old.devices new.devices kept.devices (λ v d e was is. (kept.each v d e was is).size_is) ∙ sizes ∙ sym kept.volumes

-- ## what it stands for

told_before : {X Y : Type 0} (f : X → Y) (xs ys : List X) (v : ℕ) (e : X) → map f ys ≡ map f xs → slice_get ys v ≡ Some e → (d : X) × (slice_get xs v ≡ Some d) × (f d ≡ f e)
told_before f xs ys v e same at =
    let mapped : slice_get (map f xs) v ≡ Some (f e) = ap (λ zs. slice_get zs v) (sym same) ∙ slice_get-map f ys v ∙ ap (option_map f) at in
    from (slice_get xs v) refl (sym (slice_get-map f xs v) ∙ mapped) where
      from : (o : Option _) → slice_get xs v ≡ o → option_map f o ≡ Some (f e) → (d : _) × (slice_get xs v ≡ Some d) × (f d ≡ f e)
      from None g h = absurd cc
      from (Some d) g h = (d, g, same_Some (f d) (f e) h)

-- a group of which only counts of devices changed stands for what it stood for
pub quiet_stands : {D : Type 0} (ghosts : Ghosts D) (old new : GroupValue D) (hs : List History) → IsQuiet ghosts old new
    → StandsFor ghosts.told old hs → StandsFor ghosts.told new hs
quiet_stands ghosts old new hs quiet stands = record {
  devices = quiet.kept.devices ∙ stands.devices ∙ ap length (sym quiet.kept.volumes);
  images = ap length quiet.images ∙ stands.images ∙ ap length (sym quiet.kept.volumes);
  histories = stands.histories ∙ ap length (sym quiet.kept.volumes);
  each = λ v n e sets h blocks device images history.
      let was = told_before ghosts.told old.devices new.devices v e quiet.blocks device in
      let volume = stands.each v n was.0 sets h (ap (λ (ns : List ℕ). slice_get ns v) (sym quiet.kept.volumes) ∙ blocks) was.1
      (ap (λ (ss : List (List ℕ)). slice_get ss v) (sym quiet.images) ∙ images) history in
      subst (λ (t : Option (List (List ℕ))). IsVolume (told_in (ghosts.told new.area.device) t) (ghosts.told new.area.device) new.area.records v n sets h) was.2
      (subst (λ (t : Option (List (List ℕ))). IsVolume (told_in t (ghosts.told was.0)) t new.area.records v n sets h) (sym quiet.slots)
      (subst (λ (rs : List Record). IsVolume (told_in (ghosts.told old.area.device) (ghosts.told was.0)) (ghosts.told old.area.device) rs v n sets h) (sym quiet.records) volume));
}

-- ## A cut adds an image of a volume, and a new volume stands for the fresh history.

-- ## a cut

-- the images with one more
abbrev pub with_cut : List Image → ℕ → ℕ → List Image
with_cut images set point = images ++ record { set = set; point = point } ∷ []

later-cut : (i : Image) (images : List Image) (set point : ℕ) → i.set < set → i.point ≤ point → AreLater i images → AreLater i (with_cut images set point)
later-cut i [] set point above past later = (above, past, tt)
later-cut i (j ∷ images) set point above past later = (later.0, later.1, later-cut i images set point above past later.2)

below-head : (set : ℕ) (i : Image) (images : List Image) → All (λ s. s < set) (sets_of (i ∷ images)) → i.set < set
below-head set i images below = All-head (λ s. s < set) i.set (sets_of images) below

below-tail : (set : ℕ) (i : Image) (images : List Image) → All (λ s. s < set) (sets_of (i ∷ images)) → All (λ s. s < set) (sets_of images)
below-tail set i images below = All-tail (λ s. s < set) i.set (sets_of images) below

in_time-cut : (k : ℕ) (images : List Image) (set : ℕ) → All (λ s. s < set) (sets_of images) → AreInTime k images → AreInTime k (with_cut images set k)
in_time-cut k [] set below time = let here : k ≤ k = omega arith in (here, tt, tt)
in_time-cut k (i ∷ images) set below time =
    (time.0, later-cut i images set k (below-head set i images below) time.0 time.1, in_time-cut k images set (below-tail set i images below) time.2)

-- the image of a lesser set is another
not_cut : (set s p : ℕ) (images : List Image) → All (λ s. s < set) (sets_of images) → point_in s images ≡ Some p → s < set
not_cut set s p [] below at = cc
not_cut set s p (i ∷ images) below at = by_number (i.set == s) refl (not_cut set s p images (below-tail set i images below)) at where
  by_number : (t : Bool) → (i.set == s) ≡ t → (point_in s images ≡ Some p → s < set) → (if t then Some i.point else point_in s images) ≡ Some p → s < set
  by_number true e rest at = let same = same_number i.set s e in let head = below-head set i images below in omega arith
  by_number false e rest at = rest at

point-cut : (images : List Image) (set k s : ℕ) → s ≢ set → point_in s (with_cut images set k) ≡ point_in s images
point-cut [] set k s other = ap (λ (t : Bool). if t then Some k else None) (number_is_other set s (λ e. other (sym e)))
point-cut (i ∷ images) set k s other = ap (λ (o : Option ℕ). if i.set == s then Some i.point else o) (point-cut images set k s other)

-- the writes since the newest image are those up to the end
range-end : (ws : List Write) (p : ℕ) → slice_range ws p (length ws) ≡ drop p ws
range-end ws p = let long = length-drop p ws in take_all (length ws - p) (drop p ws) (omega arith)

since-cut : (ws : List Write) (p set : ℕ) (newer : List Image) → writes_since ws p (with_cut newer set (length ws)) ≡ writes_since ws p newer
since-cut ws p set newer = grind (arith, range-end)

named-cut : (ws : List Write) (images : List Image) (set s b : ℕ) → is_named ws (with_cut images set (length ws)) s b ≡ is_named ws images s b
named-cut ws [] set s b = grind (arith, drop_all)
named-cut ws (i ∷ images) set s b =
    ap (λ (t : Bool). if i.set == s then t else is_named ws (with_cut images set (length ws)) s b) (ap (λ (since : List Write). names since b) (since-cut ws i.point set images))
    ∙ ap (λ (t : Bool). if i.set == s then names (writes_since ws i.point images) b else t) (named-cut ws images set s b)

-- an image of a greater set is cut at the end
pub cut_stands : (told slots : Option (List (List ℕ))) (records : List Record) (v n : ℕ) (sets : List ℕ) (h : History) (set : ℕ) → IsVolume told slots records v n sets h
    → All (λ s. s < set) sets → 0 < set → length sets < 512 → IsVolume told slots records v n (sets ++ set ∷ []) (cut set h)
cut_stands told slots records v n sets h set volume below above few =
    let below_image : All (λ s. s < set) (sets_of h.images) = subst (λ (ss : List ℕ). All (λ s. s < set) ss) volume.sets_are below in
    record {
      blocks = volume.blocks;
      sets_are = ap (λ (ss : List ℕ). ss ++ set ∷ []) volume.sets_are ∙ sym (map-append (λ (i : Image). i.set) h.images (record { set = set; point = length h.writes } ∷ []));
      images = record {
        in_time = in_time-cut (length h.writes) h.images set below_image volume.images.in_time;
        above_zero = All-push (λ (i : Image). 0 < i.set) h.images (record { set = set; point = length h.writes }) volume.images.above_zero above;
        few = let long = ap length volume.sets_are in let same = length-map h.images (λ (i : Image). i.set) in let more = length_push h.images
            (record { set = set; point = length h.writes }) in omega arith;
      };
      named = λ slot s b over at. named-cut h.writes h.images set s b ∙ volume.named slot s b over at;
      recorded = λ s b within is. volume.recorded s b within (sym (named-cut h.writes h.images set s b) ∙ is);
      copied = λ slot s b p at point tells. copied slot s b p at point tells (s == set) refl;
    }
  where
    copied : (slot s b p : ℕ) → slice_get records slot ≡ Some (record_of v s b) → point_in s (with_cut h.images set (length h.writes)) ≡ Some p → is_some told ≡ true → (t : Bool) → (s == set) ≡ t
        → IfSome slots (λ blocks. slice_get blocks (place_of_slot (length records) slot) ≡ Some (content h.writes p b))
    copied slot s b p at point tells true e =
        let same = same_number s set e in
        let found = named_point h.writes s b h.images (volume.named slot s b (omega arith) at) in
        let lesser = not_cut set s found.0 h.images (subst (λ (ss : List ℕ). All (λ s. s < set) ss) volume.sets_are below) found.1 in
        absurd (omega arith)
    copied slot s b p at point tells false e = volume.copied slot s b p at (sym (point-cut h.images set (length h.writes) s (other_number s set e)) ∙ point) tells

-- ## a new volume

zeros-range : (a n : ℕ) → replicate n zeros ≡ map (content [] 0) (range_with_len a n)
zeros-range a zero = refl
zeros-range a (suc n) = ap (λ (bs : List (List ℕ)). zeros ∷ bs) (zeros-range (a + 1) n)

free_at : (k slot : ℕ) (r : Record) → slice_get (replicate k free) slot ≡ Some r → free ≡ r
free_at zero slot r at = cc
free_at (suc k) zero r at = same_Some free r at
free_at (suc k) (suc slot) r at = free_at k slot r at

-- a volume of zeros without an image, where no slot is used, stands for the fresh history
pub fresh_stands : (told slots : Option (List (List ℕ))) (records : List Record) (k v n : ℕ) → IfSome told (λ blocks. blocks ≡ replicate n zeros) → records ≡ replicate k free
    → IsVolume told slots records v n [] fresh
fresh_stands told slots records k v n held unused = grind (arith, zeros-range, free_at)

-- ## the group

-- an image of volume v is cut
pub group_cut : {D : Type 0} → (told : D → Option (List (List ℕ))) (g new : GroupValue D) (hs : List History) (v set : ℕ) → StandsFor told g hs → v < length g.area.volumes
    → All (λ s. s < set) (sets_at g v) → 0 < set → length (sets_at g v) < 512 → new.devices ≡ g.devices → new.images ≡ slice_set g.images v (sets_at g v ++ set ∷ []) → new.area ≡ g.area
    → StandsFor told new (changed_at v (cut set) hs)
group_cut told g new hs v set stands within below above few devices images area =
    let place = place_at told g hs v stands within in
    let h = history_at hs v in
    let sets_are : place.sets ≡ sets_at g v = sym (ap sets_in place.sets_at) in
    let volume = cut_stands (told_in (told g.area.device) (told place.device)) (told g.area.device) g.area.records v place.blocks (sets_at g v) h set
    (subst (λ (ss : List ℕ). IsVolume (told_in (told g.area.device) (told place.device)) (told g.area.device) g.area.records v place.blocks ss h) sets_are place.stands) below above few in
    let records = ap (λ (a : AreaValue _). a.records) area in
    let slots = ap (λ (a : AreaValue _). told a.device) area in
    on_one told g new hs v place.blocks place.device place.device (sets_at g v) (sets_at g v ++ set ∷ []) h (cut set) stands place.blocks_at place.device_at
    (place.sets_at ∙ ap Some sets_are) place.history
    (devices ∙ sym (slice_set-same g.devices v place.device place.device_at)) images (ap (λ (a : AreaValue _). a.volumes) area)
    (others_same v g.area.records new.area.records records) (slots_same v g.area.records (told g.area.device) (told new.area.device) slots)
    (subst (λ (a : AreaValue _). IsVolume (told_in (told a.device) (told place.device)) (told a.device) a.records v place.blocks (sets_at g v ++ set ∷ []) (cut set h)) (sym area) volume)

length-same : {X : Type 0} → (n : ℕ) (x : X) → length (replicate n x) ≡ n
length-same zero x = refl
length-same (suc n) x = ap suc (length-same n x)

same_at : {X : Type 0} → (n i : ℕ) (x y : X) → slice_get (replicate n x) i ≡ Some y → x ≡ y
same_at zero i x y at = cc
same_at (suc n) zero x y at = same_Some x y at
same_at (suc n) (suc i) x y at = same_at n i x y at

-- a new group of zeros stands for fresh histories
pub group_fresh : {D : Type 0} → (told : D → Option (List (List ℕ))) (g : GroupValue D) (k : ℕ) → length g.devices ≡ length g.area.volumes
    → ((v n : ℕ) (d : D) → slice_get g.area.volumes v ≡ Some n → slice_get g.devices v ≡ Some d → IfSome (told d) (λ blocks. blocks ≡ replicate n zeros))
    → g.images ≡ replicate (length g.area.volumes) [] → g.area.records ≡ replicate k free → StandsFor told g (replicate (length g.area.volumes) fresh)
group_fresh told g k devices held images records = record {
  devices = devices;
  images = ap length images ∙ length-same (length g.area.volumes) [];
  histories = length-same (length g.area.volumes) fresh;
  each = λ v n d sets h number device row history.
      let none = same_at (length g.area.volumes) v [] sets (ap (λ (rows : List (List ℕ)). slice_get rows v) (sym images) ∙ row) in
      subst (λ (ss : List ℕ). IsVolume (told_in (told g.area.device) (told d)) (told g.area.device) g.area.records v n ss h) none
      (subst (λ (x : History). IsVolume (told_in (told g.area.device) (told d)) (told g.area.device) g.area.records v n [] x) (same_at (length g.area.volumes) v fresh h history)
      (fresh_stands (told_in (told g.area.device) (told d)) (told g.area.device) g.area.records k v n
      (told_in-if (told g.area.device) (told d) (λ blocks. blocks ≡ replicate n zeros) (held v n d number device)) records));
}

-- A group stands for its histories volume by volume: what one volume's change leaves of it.
use Rattle.std.proofs.Common.{◌≡◌, ◌≢◌, ℕ, zero, suc, ◌<◌, List, [], ◌∷◌, length, refl, ap, sym, ◌∙◌, arith, Bool, true, false, Option, Some, subst}
use Rattle.std.specs.Prelude.{slice_get, slice_set, ◌==◌, if◌then◌else◌, IfSome, is_some, option_map, map}
use Rattle.std.specs.List.{All}
use Rattle.std.proofs.lemmas.Option.{slice_get_within, same_Some}
use Rattle.std.proofs.lemmas.List.{length-map}
use Rattle.std.proofs.lemmas.List.Elements.{All-head, All-tail}
use Rattle.std.proofs.lemmas.Bool.Decides.{nat_tests}
use Rattle.write_history.specs.History.{Write, Image, History, content, point_in, names}
use Rattle.write_history.specs.Slots.{writes_since}
use Rattle.diff_area.specs.Format.{place_of_slot}
use Rattle.diff_area.specs.declared.table_record.Record.{Record}
use Rattle.cow_volume.specs.StandsFor.{GroupValue, told_in, IsVolume, StandsFor, is_named, record_of}
use Rattle.cow_volume.specs.Calls.{history_in, history_at, changed_at}

-- ## one place of a list

pub slice_get-set_same : {X : Type 0} → (xs : List X) (i : ℕ) (x y : X) → slice_get xs i ≡ Some x → slice_get (slice_set xs i y) i ≡ Some y
slice_get-set_same [] i x y h = cc
slice_get-set_same (z ∷ xs) zero x y h = refl
slice_get-set_same (z ∷ xs) (suc i) x y h = slice_get-set_same xs i x y h

pub slice_get-set_other : {X : Type 0} → (xs : List X) (i k : ℕ) (y : X) → i ≢ k → slice_get (slice_set xs i y) k ≡ slice_get xs k
slice_get-set_other [] i k y h = refl
slice_get-set_other (z ∷ xs) zero zero y h = absurd (h refl)
slice_get-set_other (z ∷ xs) zero (suc k) y h = refl
slice_get-set_other (z ∷ xs) (suc i) zero y h = refl
slice_get-set_other (z ∷ xs) (suc i) (suc k) y h = slice_get-set_other xs i k y (λ e. h (ap suc e))

pub length-slice_set : {X : Type 0} → (xs : List X) (i : ℕ) (y : X) → length (slice_set xs i y) ≡ length xs
length-slice_set [] i y = refl
length-slice_set (z ∷ xs) zero y = refl
length-slice_set (z ∷ xs) (suc i) y = ap suc (length-slice_set xs i y)

-- what stands there already is set again
pub slice_set-same : {X : Type 0} → (xs : List X) (i : ℕ) (x : X) → slice_get xs i ≡ Some x → slice_set xs i x ≡ xs
slice_set-same [] i x h = refl
slice_set-same (z ∷ xs) zero x h = let same : x ≡ z = cc in ap (λ y. y ∷ xs) same
slice_set-same (z ∷ xs) (suc i) x h = ap (λ ys. z ∷ ys) (slice_set-same xs i x h)

pub slice_get_inside : {X : Type 0} → (xs : List X) (i : ℕ) → i < length xs → (x : X) × (slice_get xs i ≡ Some x)
slice_get_inside [] i l = absurd (omega arith)
slice_get_inside (x ∷ xs) zero l = (x, refl)
slice_get_inside (x ∷ xs) (suc i) l = slice_get_inside xs i (omega arith)

pub slice_get_map : {X Y : Type 0} → (f : X → Y) (xs : List X) (i : ℕ) (x : X) → slice_get xs i ≡ Some x → slice_get (map f xs) i ≡ Some (f x)
slice_get_map f [] i x h = cc
slice_get_map f (z ∷ xs) zero x h = let same : z ≡ x = cc in ap (λ w. Some (f w)) same
slice_get_map f (z ∷ xs) (suc i) x h = slice_get_map f xs i x h

-- ## numbers that are tested

pub same_number : (b k : ℕ) → (b == k) ≡ true → b ≡ k
same_number b k e = grind (arith, nat_tests)

pub other_number : (b k : ℕ) → (b == k) ≡ false → b ≢ k
other_number b k e = grind (arith, nat_tests)

pub number_is : (b : ℕ) → (b == b) ≡ true
number_is b = grind (arith, nat_tests)

pub number_is_other : (b k : ℕ) → b ≢ k → (b == k) ≡ false
number_is_other b k h = grind arith

-- ## one volume's history

pub length-changed_at : (v : ℕ) (f : History → History) (hs : List History) → length (changed_at v f hs) ≡ length hs
length-changed_at v f [] = refl
length-changed_at zero f (h ∷ hs) = refl
length-changed_at (suc v) f (h ∷ hs) = ap suc (length-changed_at v f hs)

pub changed_at-same : (v : ℕ) (f : History → History) (hs : List History) (h : History) → slice_get hs v ≡ Some h → slice_get (changed_at v f hs) v ≡ Some (f h)
changed_at-same v f [] h at = cc
changed_at-same zero f (x ∷ hs) h at = let same : x ≡ h = cc in ap (λ y. Some (f y)) same
changed_at-same (suc v) f (x ∷ hs) h at = changed_at-same v f hs h at

pub changed_at-other : (v u : ℕ) (f : History → History) (hs : List History) → u ≢ v → slice_get (changed_at v f hs) u ≡ slice_get hs u
changed_at-other v u f [] other = refl
changed_at-other zero zero f (x ∷ hs) other = absurd (other refl)
changed_at-other zero (suc u) f (x ∷ hs) other = refl
changed_at-other (suc v) zero f (x ∷ hs) other = refl
changed_at-other (suc v) (suc u) f (x ∷ hs) other = changed_at-other v u f hs (λ e. other (ap suc e))

pub history_at_is : (hs : List History) (v : ℕ) (h : History) → slice_get hs v ≡ Some h → history_at hs v ≡ h
history_at_is hs v h at = ap history_in at

-- ## what is told where the area's device tells too

-- where the area's device tells
pub told_in-tells : (slots told : Option (List (List ℕ))) → is_some slots ≡ true → told_in slots told ≡ told
told_in-tells slots told tells = grind arith

-- where both tell
pub told_in-both : (slots told : Option (List (List ℕ))) → is_some slots ≡ true → is_some told ≡ true → is_some (told_in slots told) ≡ true
told_in-both slots told tells is = ap (λ (t : Option (List (List ℕ))). is_some t) (told_in-tells slots told tells) ∙ is

-- only where the area's device tells
pub told_in-only : (slots told : Option (List (List ℕ))) → is_some (told_in slots told) ≡ true → is_some slots ≡ true
told_in-only slots told is = grind arith

-- what holds of all that is told
pub told_in-if : (slots told : Option (List (List ℕ))) (P : List (List ℕ) → Type 0) → IfSome told P → IfSome (told_in slots told) P
told_in-if slots told x2 held = grind arith

-- the volume's device changes
pub told_in-map : (slots told : Option (List (List ℕ))) (f : List (List ℕ) → List (List ℕ)) → told_in slots (option_map f told) ≡ option_map f (told_in slots told)
told_in-map slots told f = grind arith

-- the area's device changes, and tells as before
pub told_in-slots : (slots told : Option (List (List ℕ))) (f : List (List ℕ) → List (List ℕ)) → told_in (option_map f slots) told ≡ told_in slots told
told_in-slots slots told f = grind arith

-- ## a volume of the group

-- what stands at a volume's number
pub record Place {D : Type 0} (told : D → Option (List (List ℕ))) (g : GroupValue D) (hs : List History) (v : ℕ) : Type 0 where
  pub blocks : ℕ
  pub device : D
  pub sets : List ℕ
  pub blocks_at : slice_get g.area.volumes v ≡ Some blocks
  pub device_at : slice_get g.devices v ≡ Some device
  pub sets_at : slice_get g.images v ≡ Some sets
  pub history : slice_get hs v ≡ Some (history_at hs v)
  pub stands : IsVolume (told_in (told g.area.device) (told device)) (told g.area.device) g.area.records v blocks sets (history_at hs v)

-- a volume stands for its history
pub volume_at : {D : Type 0} → (told : D → Option (List (List ℕ))) (g : GroupValue D) (hs : List History) (v n : ℕ) (d : D) (sets : List ℕ) → StandsFor told g hs
    → slice_get g.area.volumes v ≡ Some n → slice_get g.devices v ≡ Some d → slice_get g.images v ≡ Some sets
    → IsVolume (told_in (told g.area.device) (told d)) (told g.area.device) g.area.records v n sets (history_at hs v)
volume_at told g hs v n d sets stands blocks device images =
    let long = stands.histories in
    let within = slice_get_within g.area.volumes v n blocks in
    let found = slice_get_inside hs v (omega arith) in
    stands.each v n d sets (history_at hs v) blocks device images (found.1 ∙ ap Some (sym (history_at_is hs v found.0 found.1)))

-- each volume has its place
pub place_at : {D : Type 0} → (told : D → Option (List (List ℕ))) (g : GroupValue D) (hs : List History) (v : ℕ) → StandsFor told g hs → v < length g.area.volumes → Place told g hs v
place_at told g hs v stands within =
    let histories = stands.histories in
    let devices = stands.devices in
    let images = stands.images in
    let n = slice_get_inside g.area.volumes v within in
    let d = slice_get_inside g.devices v (omega arith) in
    let sets = slice_get_inside g.images v (omega arith) in
    let h = slice_get_inside hs v (omega arith) in
    record {
      blocks = n.0;
      device = d.0;
      sets = sets.0;
      blocks_at = n.1;
      device_at = d.1;
      sets_at = sets.1;
      history = h.1 ∙ ap Some (sym (history_at_is hs v h.0 h.1));
      stands = volume_at told g hs v n.0 d.0 sets.0 stands n.1 d.1 sets.1;
    }

-- ## the other volumes

-- the records of each other volume stand in the same slots
pub record OthersKept (v : ℕ) (old new : List Record) : Type 0 where
  pub slots : length new ≡ length old
  pub stays : (u slot set b : ℕ) → u ≢ v → 0 < set → slice_get old slot ≡ Some (record_of u set b) → slice_get new slot ≡ Some (record_of u set b)
  pub was : (u slot set b : ℕ) → u ≢ v → 0 < set → slice_get new slot ≡ Some (record_of u set b) → slice_get old slot ≡ Some (record_of u set b)

-- the slots that have records of each other volume hold what they held, where it is known; and it is known now only
-- where it was
pub record SlotsKept (v : ℕ) (records : List Record) (old new : Option (List (List ℕ))) : Type 0 where
  pub tells : is_some new ≡ true → is_some old ≡ true
  pub held : (u slot set b : ℕ) (bytes : List ℕ) → u ≢ v → 0 < set → slice_get records slot ≡ Some (record_of u set b)
      → IfSome old (λ blocks. slice_get blocks (place_of_slot (length records) slot) ≡ Some bytes) → IfSome new (λ blocks. slice_get blocks (place_of_slot (length records) slot) ≡ Some bytes)

pub others_same : (v : ℕ) (old new : List Record) → new ≡ old → OthersKept v old new
others_same v old new same = grind arith

pub slots_same : (v : ℕ) (records : List Record) (old new : Option (List (List ℕ))) → new ≡ old → SlotsKept v records old new
slots_same v records old new same = grind arith

-- the set of an image that stands is above 0
set_above_if : (t : Bool) (set p : ℕ) (i : Image) (images : List Image) → (i.set == set) ≡ t → 0 < i.set → (point_in set images ≡ Some p → 0 < set)
    → (if t then Some i.point else point_in set images) ≡ Some p → 0 < set
set_above_if t set p i images e above rest at = grind arith

pub set_above : (set p : ℕ) (images : List Image) → All (λ (i : Image). 0 < i.set) images → point_in set images ≡ Some p → 0 < set
set_above set p [] above at = cc
set_above set p (i ∷ images) above at = set_above_if (i.set == set) set p i images refl (All-head (λ (i : Image). 0 < i.set) i images above)
    (set_above set p images (All-tail (λ (i : Image). 0 < i.set) i images above)) at

-- the image that names a block stands
named_point_if : (t : Bool) (ws : List Write) (set b : ℕ) (i : Image) (images : List Image) → (is_named ws images set b ≡ true → (p : ℕ) × (point_in set images ≡ Some p))
    → (if t then names (writes_since ws i.point images) b else is_named ws images set b) ≡ true → (p : ℕ) × ((if t then Some i.point else point_in set images) ≡ Some p)
named_point_if true ws set b i images rest is = (i.point, refl)
named_point_if false ws set b i images rest is = rest is

pub named_point : (ws : List Write) (set b : ℕ) (images : List Image) → is_named ws images set b ≡ true → (p : ℕ) × (point_in set images ≡ Some p)
named_point ws set b [] is = cc
named_point ws set b (i ∷ images) is = named_point_if (i.set == set) ws set b i images (named_point ws set b images) is

pub named_above : (ws : List Write) (set b : ℕ) (images : List Image) → All (λ (i : Image). 0 < i.set) images → is_named ws images set b ≡ true → 0 < set
named_above ws set b images above is = let found = named_point ws set b images is in set_above set found.0 images above found.1

-- a volume stands for its history as before where its records and their slots were kept
pub other_volume : (told slots new_slots : Option (List (List ℕ))) (old new : List Record) (v u n : ℕ) (sets : List ℕ) (h : History) → u ≢ v
    → OthersKept v old new → SlotsKept v old slots new_slots → IsVolume told slots old u n sets h → IsVolume told new_slots new u n sets h
other_volume told slots new_slots old new v u n sets h other records held volume = record {
  blocks = volume.blocks;
  sets_are = volume.sets_are;
  images = volume.images;
  named = λ slot set b above at. volume.named slot set b above (records.was u slot set b other above at);
  recorded = λ set b within is. let found = volume.recorded set b within is in (found.0, records.stays u found.0 set b other (named_above h.writes set b h.images volume.images.above_zero is) found.1);
  copied = λ slot set b p at point tells.
      let above = set_above set p h.images volume.images.above_zero point in
      let was = records.was u slot set b other above at in
      subst (λ (k : ℕ). IfSome new_slots (λ blocks. slice_get blocks (place_of_slot k slot) ≡ Some (content h.writes p b))) (sym records.slots)
      (held.held u slot set b (content h.writes p b) other above was (volume.copied slot set b p was point tells));
}

-- what is told of a volume where the area's device tells now
told_volume : (told slots new_slots : Option (List (List ℕ))) (records : List Record) (v n : ℕ) (sets : List ℕ) (h : History) → (is_some new_slots ≡ true → is_some slots ≡ true)
    → IsVolume (told_in slots told) new_slots records v n sets h → IsVolume (told_in new_slots told) new_slots records v n sets h
told_volume told slots new_slots records v n sets h tells volume = grind arith

-- the same volume, as it is spelled otherwise
same_volume : (told new_told slots : Option (List (List ℕ))) (records : List Record) (v u n m : ℕ) (sets new_sets : List ℕ) (h k : History)
    → told ≡ new_told → v ≡ u → n ≡ m → sets ≡ new_sets → h ≡ k → IsVolume told slots records v n sets h → IsVolume new_told slots records u m new_sets k
same_volume told new_told slots records v u n m sets new_sets h k tells number blocks sets_are is volume = grind arith

-- ## one volume changes

-- Where one volume stands for what its history becomes, and the records of the others and their slots were kept, the
-- group stands for the changed histories.
pub on_one : {D : Type 0} → (told : D → Option (List (List ℕ))) (g new : GroupValue D) (hs : List History) (v n : ℕ) (d e : D) (sets new_sets : List ℕ) (h : History) (f : History → History)
    → StandsFor told g hs
    → slice_get g.area.volumes v ≡ Some n → slice_get g.devices v ≡ Some d → slice_get g.images v ≡ Some sets → slice_get hs v ≡ Some h
    → new.devices ≡ slice_set g.devices v e → new.images ≡ slice_set g.images v new_sets → new.area.volumes ≡ g.area.volumes
    → OthersKept v g.area.records new.area.records → SlotsKept v g.area.records (told g.area.device) (told new.area.device)
    → IsVolume (told_in (told new.area.device) (told e)) (told new.area.device) new.area.records v n new_sets (f h) → StandsFor told new (changed_at v f hs)
on_one {D = D} told g new hs v n d e sets new_sets h f stands blocks_is device_is sets_is history_is devices images volumes others slots volume = record {
  devices = ap length devices ∙ length-slice_set g.devices v e ∙ stands.devices ∙ ap length (sym volumes);
  images = ap length images ∙ length-slice_set g.images v new_sets ∙ stands.images ∙ ap length (sym volumes);
  histories = length-changed_at v f hs ∙ stands.histories ∙ ap length (sym volumes);
  each = λ u m x ss k number device row history. by_number u m x ss k (u == v) refl number device row history;
} where
  by_number : (u m : ℕ) (x : D) (ss : List ℕ) (k : History) (t : Bool) → (u == v) ≡ t → slice_get new.area.volumes u ≡ Some m → slice_get new.devices u ≡ Some x → slice_get new.images u ≡ Some ss
      → slice_get (changed_at v f hs) u ≡ Some k → IsVolume (told_in (told new.area.device) (told x)) (told new.area.device) new.area.records u m ss k
  by_number u m x ss k true is number device row history =
      let same = same_number u v is in
      let at_blocks : Some n ≡ Some m = sym blocks_is ∙ ap (slice_get g.area.volumes) (sym same) ∙ ap (λ (ns : List ℕ). slice_get ns u) (sym volumes) ∙ number in
      let at_device : Some e ≡ Some x = sym (slice_get-set_same g.devices v d e device_is) ∙ ap (slice_get (slice_set g.devices v e)) (sym same) ∙ ap (λ (ds : List D). slice_get ds u) (sym devices)
      ∙ device in
      let at_sets : Some new_sets ≡ Some ss = sym (slice_get-set_same g.images v sets new_sets sets_is) ∙ ap (slice_get (slice_set g.images v new_sets)) (sym same)
      ∙ ap (λ (rows : List (List ℕ)). slice_get rows u) (sym images) ∙ row in
      let at_history : Some (f h) ≡ Some k = sym (changed_at-same v f hs h history_is) ∙ ap (slice_get (changed_at v f hs)) (sym same) ∙ history in
      same_volume (told_in (told new.area.device) (told e)) (told_in (told new.area.device) (told x)) (told new.area.device) new.area.records v u n m new_sets ss (f h) k
      (ap (λ (y : D). told_in (told new.area.device) (told y)) (same_Some e x at_device)) (sym same) (same_Some n m at_blocks) (same_Some new_sets ss at_sets) (same_Some (f h) k at_history) volume
  by_number u m x ss k false is number device row history =
      let other = other_number u v is in
      let away : v ≢ u = λ e. other (sym e) in
      told_volume (told x) (told g.area.device) (told new.area.device) new.area.records u m ss k slots.tells
      (other_volume (told_in (told g.area.device) (told x)) (told g.area.device) (told new.area.device) g.area.records new.area.records v u m ss k other others slots
      (stands.each u m x ss k
      (ap (λ (ns : List ℕ). slice_get ns u) (sym volumes) ∙ number)
      (sym (slice_get-set_other g.devices v u e away) ∙ ap (λ (ds : List D). slice_get ds u) (sym devices) ∙ device)
      (sym (slice_get-set_other g.images v u new_sets away) ∙ ap (λ (rows : List (List ℕ)). slice_get rows u) (sym images) ∙ row)
      (sym (changed_at-other v u f hs other) ∙ history)))

-- ## nothing changes

-- Where the devices tell what they told, and the records and the images are the same, the group stands for the same.
pub quiet_stands : {D : Type 0} → (told : D → Option (List (List ℕ))) (g new : GroupValue D) (hs : List History) → StandsFor told g hs
    → map told new.devices ≡ map told g.devices → new.images ≡ g.images → new.area.volumes ≡ g.area.volumes → new.area.records ≡ g.area.records → told new.area.device ≡ told g.area.device
    → StandsFor told new hs
quiet_stands {D = D} told g new hs stands devices images volumes records slots =
    let long : length new.devices ≡ length g.devices = sym (length-map new.devices told) ∙ ap length devices ∙ length-map g.devices told in
    record {
      devices = long ∙ stands.devices ∙ ap length (sym volumes);
      images = ap length images ∙ stands.images ∙ ap length (sym volumes);
      histories = stands.histories ∙ ap length (sym volumes);
      each = λ v n x sets h number device row history.
          let within = slice_get_within new.devices v x device in
          let old = slice_get_inside g.devices v (omega arith) in
          let tells : Some (told old.0) ≡ Some (told x) = sym (slice_get_map told g.devices v old.0 old.1) ∙ ap (λ (ts : List (Option (List (List ℕ)))). slice_get ts v) (sym devices)
          ∙ slice_get_map told new.devices v x device in
          subst (λ (t : Option (List (List ℕ))). IsVolume (told_in (told new.area.device) t) (told new.area.device) new.area.records v n sets h) (same_Some (told old.0) (told x) tells)
          (subst (λ (t : Option (List (List ℕ))). IsVolume (told_in t (told old.0)) t new.area.records v n sets h) (sym slots)
          (subst (λ (rs : List Record). IsVolume (told_in (told g.area.device) (told old.0)) (told g.area.device) rs v n sets h) (sym records)
          (stands.each v n old.0 sets h (ap (λ (ns : List ℕ). slice_get ns v) (sym volumes) ∙ number) old.1 (ap (λ (rows : List (List ℕ)). slice_get rows v) (sym images) ∙ row) history)));
    }

-- What a volume's device and the slots hold is what the volume and its images show.
use Rattle.std.proofs.Common.{◌≡◌, ◌≢◌, ℕ, zero, suc, ◌+◌, ◌-◌, ◌<◌, ◌≤◌, List, [], ◌∷◌, ◌++◌, length, take, drop, refl, ap, sym, ◌∙◌, arith, Bool, true, false, ◌||◌, Option, Some, None, subst}
use Rattle.std.specs.Prelude.{slice_get, slice_range, ◌==◌, if◌then◌else◌, IfSome, is_some, map}
use Rattle.std.specs.List.{range_with_len}
use Rattle.std.proofs.lemmas.Option.{same_Some, slice_get_within}
use Rattle.std.proofs.lemmas.List.{take_all, take-take, drop-take, take-append-drop}
use Rattle.std.proofs.lemmas.Bool.{false_from_ne_true}
use Rattle.block_data.specs.BlockBytes.{zeros}
use Rattle.write_history.specs.History.{Write, Image, History, last_bytes, content, contents, point_in, names, AreLater, AreInTime}
use Rattle.write_history.specs.Slots.{writes_since}
use Rattle.diff_area.specs.Format.{place_of_slot}
use Rattle.diff_area.specs.declared.table_record.Record.{Record}
use Rattle.cow_volume.specs.StandsFor.{is_named, told_in, IsVolume, StandsFor, GroupValue}
use Rattle.cow_volume.specs.Calls.{history_at, blocks_in, blocks_at, sets_in, sets_at, IsNow, IsSeen, IsShown}
use Rattle.cow_volume.specs.Changes.{IsFirstCopy, HasNoCopy, IsInSlot, IsInVolume}
use Rattle.cow_volume.proofs.Group.{same_number, number_is, number_is_other, set_above, named_point, told_in-tells, told_in-both, place_at}

-- ## content

pub last_bytes-append : (b : ℕ) (before : List ℕ) (xs ys : List Write) → last_bytes b before (xs ++ ys) ≡ last_bytes b (last_bytes b before xs) ys
last_bytes-append b before [] ys = refl
last_bytes-append b before (x ∷ xs) ys = last_bytes-append b (if x.block == b then x.bytes else before) xs ys

-- all effective writes
pub content_all : (ws : List Write) (b : ℕ) → content ws (length ws) b ≡ last_bytes b zeros ws
content_all ws b = ap (last_bytes b zeros) (take_all (length ws) ws (omega arith))

-- a block that no write names is as it was
unnamed_test : (t : Bool) (b : ℕ) (before bytes : List ℕ) (ws : List Write) → ((found : List ℕ) → names ws b ≡ false → last_bytes b found ws ≡ found) → (t || names ws b) ≡ false
    → last_bytes b (if t then bytes else before) ws ≡ before
unnamed_test t b before bytes ws rest none = grind arith

pub unnamed_same : (b : ℕ) (before : List ℕ) (ws : List Write) → names ws b ≡ false → last_bytes b before ws ≡ before
unnamed_same b before [] none = refl
unnamed_same b before (w ∷ ws) none = unnamed_test (w.block == b) b before w.bytes ws (λ found. unnamed_same b found ws) none

pub take_range : (ws : List Write) (p q : ℕ) → p ≤ q → take q ws ≡ take p ws ++ slice_range ws p q
take_range ws p q l =
    let e : p + (q - p) ≡ q = omega arith in
    sym (take-append-drop p (take q ws)) ∙ ap (λ (xs : List Write). xs ++ drop p (take q ws)) (take-take p q ws l)
    ∙ ap (λ k. take p ws ++ drop p (take k ws)) (sym e) ∙ ap (λ (xs : List Write). take p ws ++ xs) (drop-take p (q - p) ws)

-- from a point to a later one
pub unnamed_between : (ws : List Write) (p q b : ℕ) → p ≤ q → names (slice_range ws p q) b ≡ false → content ws p b ≡ content ws q b
unnamed_between ws p q b l none =
    sym (ap (last_bytes b zeros) (take_range ws p q l) ∙ last_bytes-append b zeros (take p ws) (slice_range ws p q) ∙ unnamed_same b (content ws p b) (slice_range ws p q) none)

-- from a point to the end
pub unnamed_since : (ws : List Write) (p b : ℕ) → names (drop p ws) b ≡ false → content ws p b ≡ content ws (length ws) b
unnamed_since ws p b none =
    sym (content_all ws b ∙ ap (last_bytes b zeros) (sym (take-append-drop p ws)) ∙ last_bytes-append b zeros (take p ws) (drop p ws) ∙ unnamed_same b (content ws p b) (drop p ws) none)

-- ## images in time

-- an image's point is not past the end
point_within_if : (t : Bool) (k p : ℕ) (i : Image) (o : Option ℕ) → i.point ≤ k → (o ≡ Some p → p ≤ k) → (if t then Some i.point else o) ≡ Some p → p ≤ k
point_within_if t k p i o l rest at = grind arith

pub point_within : (k set p : ℕ) (images : List Image) → AreInTime k images → point_in set images ≡ Some p → p ≤ k
point_within k set p [] time at = cc
point_within k set p (i ∷ images) time at = point_within_if (i.set == set) k p i (point_in set images) time.0 (point_within k set p images time.2) at

-- those after an image are of later sets
later_set_if : (t : Bool) (i j : Image) (set p : ℕ) (o : Option ℕ) → (j.set == set) ≡ t → i.set < j.set → (o ≡ Some p → i.set < set) → (if t then Some j.point else o) ≡ Some p → i.set < set
later_set_if t i j set p o e l rest at = grind arith

pub later_set : (i : Image) (images : List Image) (set p : ℕ) → AreLater i images → point_in set images ≡ Some p → i.set < set
later_set i [] set p later at = cc
later_set i (j ∷ images) set p later at = later_set_if (j.set == set) i j set p (point_in set images) refl later.0 (later_set i images set p later.2) at

-- what the first image names, and what another does
pub named_first : (ws : List Write) (i : Image) (newer : List Image) (b : ℕ) → is_named ws (i ∷ newer) i.set b ≡ names (writes_since ws i.point newer) b
named_first ws i newer b = ap (λ (t : Bool). if t then names (writes_since ws i.point newer) b else is_named ws newer i.set b) (number_is i.set)

pub named_rest : (ws : List Write) (i : Image) (newer : List Image) (set b : ℕ) → i.set ≢ set → is_named ws (i ∷ newer) set b ≡ is_named ws newer set b
named_rest ws i newer set b other = grind arith

-- ## a block that no image names

-- from the first image on
unnamed_from : (ws : List Write) (i : Image) (newer : List Image) (b : ℕ) → AreInTime (length ws) (i ∷ newer) → ((m : ℕ) → i.set ≤ m → is_named ws (i ∷ newer) m b ≡ false)
    → content ws i.point b ≡ content ws (length ws) b
unnamed_from ws i [] b time none = unnamed_since ws i.point b (sym (named_first ws i [] b) ∙ none i.set (omega arith))
unnamed_from ws i (j ∷ newer) b time none =
    unnamed_between ws i.point j.point b time.1.1 (sym (named_first ws i (j ∷ newer) b) ∙ none i.set (omega arith))
    ∙ unnamed_from ws j newer b time.2 (λ m l. let later = time.1.0 in sym (named_rest ws i (j ∷ newer) m b (λ e. absurd (omega arith))) ∙ none m (omega arith))

to_end_if : (t : Bool) (ws : List Write) (i : Image) (images : List Image) (set p b : ℕ) → (i.set == set) ≡ t → AreInTime (length ws) (i ∷ images)
    → ((m : ℕ) → set ≤ m → is_named ws (i ∷ images) m b ≡ false)
    → (point_in set images ≡ Some p → ((m : ℕ) → set ≤ m → is_named ws images m b ≡ false) → content ws p b ≡ content ws (length ws) b)
    → (if t then Some i.point else point_in set images) ≡ Some p → content ws p b ≡ content ws (length ws) b
to_end_if true ws i images set p b is time none rest at =
    let same = same_number i.set set is in
    ap (λ k. content ws k b) (sym (same_Some i.point p at)) ∙ unnamed_from ws i images b time (λ m l. none m (omega arith))
to_end_if false ws i images set p b is time none rest at =
    let later = later_set i images set p time.1 at in
    rest at (λ m l. sym (named_rest ws i images m b (λ e. absurd (omega arith))) ∙ none m l)

pub unnamed_to_end : (ws : List Write) (images : List Image) (set p b : ℕ) → AreInTime (length ws) images → point_in set images ≡ Some p → ((m : ℕ) → set ≤ m → is_named ws images m b ≡ false)
    → content ws p b ≡ content ws (length ws) b
unnamed_to_end ws [] set p b time at none = cc
unnamed_to_end ws (i ∷ images) set p b time at none = to_end_if (i.set == set) ws i images set p b refl time none (unnamed_to_end ws images set p b time.2) at

-- from the first image on to another
unnamed_up_to : (ws : List Write) (i : Image) (newer : List Image) (m q b : ℕ) → AreInTime (length ws) (i ∷ newer) → point_in m (i ∷ newer) ≡ Some q
    → ((k : ℕ) → i.set ≤ k → k < m → is_named ws (i ∷ newer) k b ≡ false)
    → content ws i.point b ≡ content ws q b
unnamed_up_to ws i [] m q b time at none = only (i.set == m) at where
  only : (t : Bool) → (if t then Some i.point else None) ≡ Some q → content ws i.point b ≡ content ws q b
  only true at = ap (λ k. content ws k b) (same_Some i.point q at)
  only false at = cc
unnamed_up_to ws i (j ∷ newer) m q b time at none = more (i.set == m) (unnamed_up_to ws j newer m q b time.2) at where
  more : (t : Bool) → (point_in m (j ∷ newer) ≡ Some q → ((k : ℕ) → j.set ≤ k → k < m → is_named ws (j ∷ newer) k b ≡ false) → content ws j.point b ≡ content ws q b)
      → (if t then Some i.point else point_in m (j ∷ newer)) ≡ Some q → content ws i.point b ≡ content ws q b
  more true rest at = ap (λ k. content ws k b) (same_Some i.point q at)
  more false rest at =
      let here = later_set i (j ∷ newer) m q time.1 at in
      unnamed_between ws i.point j.point b time.1.1 (sym (named_first ws i (j ∷ newer) b) ∙ none i.set (omega arith) here)
      ∙ rest at (λ k l below. let later = time.1.0 in sym (named_rest ws i (j ∷ newer) k b (λ e. absurd (omega arith))) ∙ none k (omega arith) below)

up_to_if : (t : Bool) (ws : List Write) (i : Image) (images : List Image) (set m p q b : ℕ) → (i.set == set) ≡ t → set ≤ m → AreInTime (length ws) (i ∷ images) → point_in m (i ∷ images) ≡ Some q
    → ((k : ℕ) → set ≤ k → k < m → is_named ws (i ∷ images) k b ≡ false)
    → (point_in set images ≡ Some p → point_in m images ≡ Some q → ((k : ℕ) → set ≤ k → k < m → is_named ws images k b ≡ false) → content ws p b ≡ content ws q b)
    → (if t then Some i.point else point_in set images) ≡ Some p → content ws p b ≡ content ws q b
up_to_if true ws i images set m p q b is l time at none rest from =
    let same = same_number i.set set is in
    ap (λ k. content ws k b) (sym (same_Some i.point p from)) ∙ unnamed_up_to ws i images m q b time at (λ k l below. none k (omega arith) below)
up_to_if false ws i images set m p q b is l time at none rest from =
    let later = later_set i images set p time.1 from in
    rest from (sym (ap (λ (t : Bool). if t then Some i.point else point_in m images) (number_is_other i.set m (λ e. absurd (omega arith)))) ∙ at)
    (λ k l below. sym (named_rest ws i images k b (λ e. absurd (omega arith))) ∙ none k l below)

-- from an image on to a later one
pub unnamed_to : (ws : List Write) (images : List Image) (set m p q b : ℕ) → set ≤ m → AreInTime (length ws) images → point_in set images ≡ Some p → point_in m images ≡ Some q
    → ((k : ℕ) → set ≤ k → k < m → is_named ws images k b ≡ false) → content ws p b ≡ content ws q b
unnamed_to ws [] set m p q b l time from at none = cc
unnamed_to ws (i ∷ images) set m p q b l time from at none = up_to_if (i.set == set) ws i images set m p q b refl l time at none
    (λ from at none. unnamed_to ws images set m p q b l time.2 from at none) from

-- ## what is read

slice_get-range : {X : Type 0} → (f : ℕ → X) (a n i : ℕ) → i < n → slice_get (map f (range_with_len a n)) i ≡ Some (f (a + i))
slice_get-range f a zero i l = absurd (omega arith)
slice_get-range f a (suc n) zero l = let e : a ≡ a + 0 = omega arith in ap (λ k. Some (f k)) e
slice_get-range f a (suc n) (suc i) l = let e : a + 1 + i ≡ a + suc i = omega arith in slice_get-range f (a + 1) n i (omega arith) ∙ ap (λ k. Some (f k)) e

pub contents_at : (n : ℕ) (ws : List Write) (k b : ℕ) → b < n → slice_get (contents n ws k) b ≡ Some (content ws k b)
contents_at n ws k b l = let e : 0 + b ≡ b = omega arith in slice_get-range (content ws k) 0 n b l ∙ ap (λ c. Some (content ws k c)) e

-- the device has each block as it is now
pub now : (told slots : Option (List (List ℕ))) (records : List Record) (v n : ℕ) (sets : List ℕ) (h : History) (b : ℕ) → IsVolume told slots records v n sets h → b < n
    → IfSome told (λ blocks. slice_get blocks b ≡ Some (content h.writes (length h.writes) b))
now told slots records v n sets h b volume l = grind (arith, contents_at, volume.blocks)

-- the slot of the first image that has a copy holds what the asked image shows
pub in_copy : (told slots : Option (List (List ℕ))) (records : List Record) (v n : ℕ) (sets : List ℕ) (h : History) (set b p slot : ℕ) → IsVolume told slots records v n sets h → b < n
    → point_in set h.images ≡ Some p → IsFirstCopy records v set b slot → is_some told ≡ true
    → IfSome slots (λ blocks. slice_get blocks (place_of_slot (length records) slot) ≡ Some (content h.writes p b))
in_copy told slots records v n sets h set b p slot volume l point found tells =
    let above = set_above set p h.images volume.images.above_zero point in
    let from_set = found.from_set in
    let image_above : 0 < found.image = omega arith in
    let at = named_point h.writes found.image b h.images (volume.named slot found.image b image_above found.is_noted) in
    let none : (k : ℕ) → set ≤ k → k < found.image → is_named h.writes h.images k b ≡ false = λ k from below. false_from_ne_true (is_named h.writes h.images k b) (λ is.
    let other = volume.recorded k b l is in
    let first = found.first other.0 k other.1 from in
    absurd (omega arith)) in
    subst (λ (bytes : List ℕ). IfSome slots (λ blocks. slice_get blocks (place_of_slot (length records) slot) ≡ Some bytes))
    (sym (unnamed_to h.writes h.images set found.image p at.0 b from_set volume.images.in_time point at.1 none))
    (volume.copied slot found.image b at.0 found.is_noted at.1 tells)

-- where no image from the asked one on has a copy, the volume has what the image shows
pub in_volume : (told slots : Option (List (List ℕ))) (records : List Record) (v n : ℕ) (sets : List ℕ) (h : History) (set b p : ℕ) → IsVolume told slots records v n sets h → b < n
    → point_in set h.images ≡ Some p → HasNoCopy records v set b → content h.writes p b ≡ content h.writes (length h.writes) b
in_volume told slots records v n sets h set b p volume l point none = grind (arith, unnamed_to_end, false_from_ne_true)

-- ## reads of the group

in_range_if : (o : Option ℕ) (b : ℕ) → b < blocks_in o → (n : ℕ) × (o ≡ Some n) × (b < n)
in_range_if o b l = grind arith

-- what stands at the number of a volume that has a block
pub record HasBlock {D : Type 0} (told : D → Option (List (List ℕ))) (g : GroupValue D) (hs : List History) (v b : ℕ) : Type 0 where
  pub blocks : ℕ
  pub device : D
  pub blocks_is : slice_get g.area.volumes v ≡ Some blocks
  pub device_is : slice_get g.devices v ≡ Some device
  pub sets_is : slice_get g.images v ≡ Some (sets_at g v)
  pub history_is : slice_get hs v ≡ Some (history_at hs v)
  pub within : b < blocks
  pub stands : IsVolume (told_in (told g.area.device) (told device)) (told g.area.device) g.area.records v blocks (sets_at g v) (history_at hs v)

pub place_of_block : {D : Type 0} → (told : D → Option (List (List ℕ))) (g : GroupValue D) (hs : List History) (v b : ℕ) → StandsFor told g hs → b < blocks_at g v → HasBlock told g hs v b
place_of_block told g hs v b stands l =
    let found = in_range_if (slice_get g.area.volumes v) b l in
    let place = place_at told g hs v stands (slice_get_within g.area.volumes v found.0 found.1) in
    let same : found.0 ≡ place.blocks = same_Some found.0 place.blocks (sym found.1 ∙ place.blocks_at) in
    let sets_are : place.sets ≡ sets_at g v = sym (ap sets_in place.sets_at) in
    record {
      blocks = place.blocks;
      device = place.device;
      blocks_is = place.blocks_at;
      device_is = place.device_at;
      sets_is = place.sets_at ∙ ap Some sets_are;
      history_is = place.history;
      within = subst (λ (n : ℕ). b < n) same found.2;
      stands = subst (λ (sets : List ℕ). IsVolume (told_in (told g.area.device) (told place.device)) (told g.area.device) g.area.records v place.blocks sets (history_at hs v)) sets_are place.stands;
    }

-- a block of a device that tells is one
pub one_told : (told : Option (List (List ℕ))) (b : ℕ) (x y : List ℕ) → IfSome told (λ blocks. slice_get blocks b ≡ Some x) → IfSome told (λ blocks. slice_get blocks b ≡ Some y) → is_some told ≡ true
    → x ≡ y
one_told told b x y one two tells = grind arith

-- what the device has of a block is what the volume has now
group_now : {D : Type 0} → (told : D → Option (List (List ℕ))) (g : GroupValue D) (v b : ℕ) (d : D) (bytes : List ℕ) → b < blocks_at g v → slice_get g.devices v ≡ Some d
    → IfSome (told d) (λ blocks. slice_get blocks b ≡ Some bytes) → IsNow told g v b bytes
group_now told g v b d bytes l device held = λ hs x stands at tells area_tells.
    let place = place_of_block told g hs v b stands l in
    let here : place.device ≡ x = same_Some place.device x (sym place.device_is ∙ at) in
    let there : d ≡ x = same_Some d x (sym device ∙ at) in
    one_told (told x) b bytes (content (history_at hs v).writes (length (history_at hs v).writes) b)
    (subst (λ (y : _). IfSome (told y) (λ blocks. slice_get blocks b ≡ Some bytes)) there held)
    (subst (λ (y : _). IfSome (told y) (λ blocks. slice_get blocks b ≡ Some (content (history_at hs v).writes (length (history_at hs v).writes) b))) here
    (subst (λ (t : Option (List (List ℕ))). IfSome t (λ blocks. slice_get blocks b ≡ Some (content (history_at hs v).writes (length (history_at hs v).writes) b)))
    (told_in-tells (told g.area.device) (told place.device) area_tells)
    (now (told_in (told g.area.device) (told place.device)) (told g.area.device) g.area.records v place.blocks (sets_at g v) (history_at hs v) b place.stands place.within))) tells

-- where no image from the asked one on has a copy, it is what the image shows
group_shown_there : {D : Type 0} → (told : D → Option (List (List ℕ))) (g : GroupValue D) (v set b : ℕ) (d : D) (bytes : List ℕ) → b < blocks_at g v → slice_get g.devices v ≡ Some d
    → IfSome (told d) (λ blocks. slice_get blocks b ≡ Some bytes) → HasNoCopy g.area.records v set b → IsShown told g v set b bytes
group_shown_there told g v set b d bytes l device held none = λ hs x p stands at tells area_tells point.
    let place = place_of_block told g hs v b stands l in
    group_now told g v b d bytes l device held hs x stands at tells area_tells
    ∙ sym (in_volume (told_in (told g.area.device) (told place.device)) (told g.area.device) g.area.records v place.blocks (sets_at g v) (history_at hs v) set b p place.stands place.within point none)

-- what the slot of the first copy holds is what the image shows
group_shown_copy : {D : Type 0} → (told : D → Option (List (List ℕ))) (g : GroupValue D) (v set b slot : ℕ) (bytes : List ℕ) → b < blocks_at g v → IsFirstCopy g.area.records v set b slot
    → IfSome (told g.area.device) (λ blocks. slice_get blocks (place_of_slot (length g.area.records) slot) ≡ Some bytes) → IsShown told g v set b bytes
group_shown_copy told g v set b slot bytes l found held = λ hs x p stands at tells area_tells point.
    let place = place_of_block told g hs v b stands l in
    let here : x ≡ place.device = same_Some x place.device (sym at ∙ place.device_is) in
    one_told (told g.area.device) (place_of_slot (length g.area.records) slot) bytes (content (history_at hs v).writes p b) held
    (in_copy (told_in (told g.area.device) (told place.device)) (told g.area.device) g.area.records v place.blocks (sets_at g v) (history_at hs v) set b p slot place.stands place.within point found
    (told_in-both (told g.area.device) (told place.device) area_tells (sym (ap (λ (y : _). is_some (told y)) here) ∙ tells)))
    area_tells

-- so what the device has, or the slot, is what is seen
pub group_seen_there : {D : Type 0} → (told : D → Option (List (List ℕ))) (g : GroupValue D) (v : ℕ) (set : Option ℕ) (b : ℕ) (d : D) (bytes : List ℕ) → b < blocks_at g v
    → slice_get g.devices v ≡ Some d → IfSome (told d) (λ blocks. slice_get blocks b ≡ Some bytes) → IsInVolume g.area.records v set b → IsSeen told g v set b bytes
group_seen_there told g v set b d bytes l device held none = grind (arith, group_now, group_shown_there)

pub group_seen_copy : {D : Type 0} → (told : D → Option (List (List ℕ))) (g : GroupValue D) (v : ℕ) (set : Option ℕ) (b slot : ℕ) (bytes : List ℕ) → b < blocks_at g v
    → IsInSlot g.area.records v set b slot → IfSome (told g.area.device) (λ blocks. slice_get blocks (place_of_slot (length g.area.records) slot) ≡ Some bytes) → IsSeen told g v set b bytes
group_seen_copy told g v set b slot bytes l found held = grind (arith, group_shown_copy)

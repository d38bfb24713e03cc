-- A revert of one volume of a group, step by step, against the histories of the whole group; and newer images that go, one after another.
use Rattle.std.proofs.Common.{◌≡◌, ◌<◌, ◌≤◌, ℕ, zero, suc, ◌+◌, List, [], ◌∷◌, ◌++◌, length, refl, ap, sym, subst, ◌∙◌, Option, Some, IfSome, option_map, inl}
use Rattle.std.proofs.Common.{inr, arith, ◌-◌, Bool, true, false, not, get_or, eq-or-lt_of_le}
use Rattle.std.proofs.lemmas.Bool.{or_right}
use Rattle.std.proofs.lemmas.List.{get_or_default, length-map}
use Rattle.std.proofs.lemmas.List.Elements.{All-head, All-tail}
use Rattle.std.specs.List.{AllWithin}
use Rattle.std.specs.Prelude.{slice_get, slice_set, filter, if◌then◌else◌, ◌==◌, ◌||◌, All, AllPairs, Contains}
use Rattle.volume_device.specs.declared.device.Device.{Ghosts}
use Rattle.write_history.specs.History.{Image, History, point_in, sets_of, dropped, reverted}
use Rattle.diff_map.proofs.Images.{place_is}
use Rattle.diff_area.specs.Format.{place_of_slot, AreRecords}
use Rattle.diff_area.specs.declared.table_record.Record.{Record}
use Rattle.cow_volume.specs.Calls.{history_at, changed_at, sets_in, sets_at, is_among, IsChanged}
use Rattle.cow_volume.specs.Changes.{cleared}
use Rattle.cow_volume.specs.CopiesAfter.{images_on, after_merge}
use Rattle.cow_volume.specs.StandsFor.{GroupValue, record_of, told_in, IsVolume, StandsFor}
use Rattle.cow_volume.specs.Parts.{group_of, CopiesValue}
use Rattle.cow_volume.specs.Restoring.{AreNewerGone}
use Rattle.cow_volume.proofs.GoingBack.{length-cleared, others_cleared, others_stood, AreUpTo, without_newer, dropped_all, newer_gone}
use Rattle.cow_volume.proofs.Group.{OthersKept, SlotsKept, others_same, slots_same, slice_set-same, changed_at-same, history_at_is, told_in-only, told_in-map}
use Rattle.cow_volume.proofs.Group.{place_at, on_one, same_number, number_is, slice_get-set_same}
use Rattle.cow_volume.proofs.Kept.{kept_records}
use Rattle.cow_volume.proofs.Members.{Has, has_either}
use Rattle.cow_volume.proofs.Merging.{image_dropped, image_dropped_within, AreWithin}
use Rattle.cow_volume.proofs.Reverting.{restored_below, restored_at, restored_end}

-- ## A revert of one volume of a group, step by step, against the histories of the whole group.

-- ## changes of one history

pub changed_at-twice : (v : ℕ) (f g : History → History) (hs : List History) → changed_at v f (changed_at v g hs) ≡ changed_at v (λ h. f (g h)) hs
changed_at-twice v f g [] = refl
changed_at-twice zero f g (h ∷ hs) = refl
changed_at-twice (suc v) f g (h ∷ hs) = ap (λ xs. h ∷ xs) (changed_at-twice v f g hs)

pub changed_at-agree : (v : ℕ) (f g : History → History) (hs : List History) → ((h : History) → slice_get hs v ≡ Some h → f h ≡ g h) → changed_at v f hs ≡ changed_at v g hs
changed_at-agree v f g [] e = refl
changed_at-agree zero f g (h ∷ hs) e = ap (λ x. x ∷ hs) (e h refl)
changed_at-agree (suc v) f g (h ∷ hs) e = ap (λ xs. h ∷ xs) (changed_at-agree v f g hs e)

pub changed_at-none : (v : ℕ) (hs : List History) → changed_at v (λ h. h) hs ≡ hs
changed_at-none v [] = refl
changed_at-none zero (h ∷ hs) = refl
changed_at-none (suc v) (h ∷ hs) = ap (λ xs. h ∷ xs) (changed_at-none v hs)

-- what a volume's history was changed to is changed further
pub on_history : {D : Type 0} (told : D → Option (List (List ℕ))) (g new : GroupValue D) (hs : List History) (v n : ℕ) (d e : D) (sets new_sets : List ℕ) (h : History) (f k : History → History)
    → StandsFor told g (changed_at v f hs)
    → slice_get g.area.volumes v ≡ Some n → slice_get g.devices v ≡ Some d → slice_get g.images v ≡ Some sets → slice_get hs v ≡ Some h
    → new.devices ≡ slice_set g.devices v e → new.images ≡ slice_set g.images v new_sets → new.area.volumes ≡ g.area.volumes
    → OthersKept v g.area.records new.area.records → SlotsKept v g.area.records (told g.area.device) (told new.area.device)
    → (IsVolume (told_in (told g.area.device) (told d)) (told g.area.device) g.area.records v n sets (f h)
    → IsVolume (told_in (told new.area.device) (told e)) (told new.area.device) new.area.records v n new_sets (k h)) → StandsFor told new (changed_at v k hs)
on_history told g new hs v n d e sets new_sets h f k stands blocks_is device_is sets_is history_is devices images volumes others slots step =
    let now = changed_at-same v f hs h history_is in
    let volume = step (stands.each v n d sets (f h) blocks_is device_is sets_is now) in
    let same : changed_at v (λ x. k h) (changed_at v f hs) ≡ changed_at v k hs =
    changed_at-twice v (λ x. k h) f hs ∙ changed_at-agree v (λ x. k h) k hs (λ x at. let is : h ≡ x = cc in ap k is) in
    subst (λ xs. StandsFor told new xs) same
    (on_one told g new (changed_at v f hs) v n d e sets new_sets (f h) (λ x. k h) stands blocks_is device_is sets_is now devices images volumes others slots volume)

-- ## the newer images go

-- images of volume v that are newer than that of a set went, one after another
pub record AreGoing {D : Type 0} (told : D → Option (List (List ℕ))) (old now : GroupValue D) (v set : ℕ) : Type 0 where
  pub gone : List ℕ
  pub later : (s : ℕ) → Has s gone → set < s
  pub stands : (hs : List History) → StandsFor told old hs → StandsFor told now (changed_at v (dropped_all gone) hs)

pub going_none : {D : Type 0} (told : D → Option (List (List ℕ))) (g : GroupValue D) (v set : ℕ) → AreGoing told g g v set
going_none told g v set = grind (arith, changed_at-none)

dropped_all-push : (sets : List ℕ) (s : ℕ) (h : History) → dropped s (dropped_all sets h) ≡ dropped_all (sets ++ s ∷ []) h
dropped_all-push [] s h = refl
dropped_all-push (x ∷ sets) s h = dropped_all-push sets s (dropped x h)

pub going_more : {D : Type 0} (told : D → Option (List (List ℕ))) (old now new : GroupValue D) (v set s : ℕ) → AreGoing told old now v set → set < s
    → ((hs : List History) → StandsFor told now hs → StandsFor told new (changed_at v (dropped s) hs)) → AreGoing told old new v set
going_more told old now new v set s going newer drops = record {
  gone = going.gone ++ s ∷ [];
  later = λ x m. elim (has_either x going.gone (s ∷ []) m) [
    | inl k ↦ going.later x k
    | inr k ↦ only x k
  ];
  stands = λ hs stands.
      subst (λ xs. StandsFor told new xs)
      (changed_at-twice v (dropped s) (dropped_all going.gone) hs
      ∙ changed_at-agree v (λ h. dropped s (dropped_all going.gone h)) (dropped_all (going.gone ++ s ∷ [])) hs (λ h at. dropped_all-push going.gone s h))
      (drops (changed_at v (dropped_all going.gone) hs) (going.stands hs stands));
} where
  only : (x : ℕ) → Has x (s ∷ []) → set < x
  only x (inl e) = subst (λ y. set < y) e newer
  only x (inr e) = absurd e

pub up_to_sets : (set : ℕ) (is : List Image) → ((s : ℕ) → Has s (sets_of is) → s ≤ set) → AreUpTo set is
up_to_sets set [] h = tt
up_to_sets set (i ∷ is) h = (h i.set (inl refl), up_to_sets set is (λ s m. h s (inr m)))

-- where no newer one is left, the images up to the set are left
pub going_all : {D : Type 0} (told : D → Option (List (List ℕ))) (old now : GroupValue D) (v set : ℕ) → AreGoing told old now v set → v < length now.area.volumes
    → ((s : ℕ) → Has s (sets_at now v) → s ≤ set) → (hs : List History) → StandsFor told old hs → StandsFor told now (changed_at v (without_newer set) hs)
going_all told old now v set going inside most hs stands =
    let after = going.stands hs stands in
    let place = place_at told now (changed_at v (dropped_all going.gone) hs) v after inside in
    let same_sets : sets_at now v ≡ sets_of (history_at (changed_at v (dropped_all going.gone) hs) v).images = ap sets_in place.sets_at ∙ place.stands.sets_are in
    subst (λ xs. StandsFor told now xs) (changed_at-agree v (dropped_all going.gone) (without_newer set) hs (λ h at.
    let here : history_at (changed_at v (dropped_all going.gone) hs) v ≡ dropped_all going.gone h = history_at_is (changed_at v (dropped_all going.gone) hs) v (dropped_all going.gone h)
    (changed_at-same v (dropped_all going.gone) hs h at) in
    newer_gone set going.gone h going.later
    (up_to_sets set (dropped_all going.gone h).images (λ s m. most s (subst (λ ss. Has s ss) (sym (same_sets ∙ ap (λ (x : History). sets_of x.images) here)) m)))))
    after

-- ## the blocks are restored

-- block m got the bytes of its slot
pub restoring_at : {D : Type 0} (told : D → Option (List (List ℕ))) (g new : GroupValue D) (hs : List History) (v n set p m slot : ℕ) (bytes : List ℕ) (d e : D) (sets : List ℕ) (h : History)
    → StandsFor told g (changed_at v (restored_below n set p m) hs)
    → slice_get g.area.volumes v ≡ Some n → slice_get g.devices v ≡ Some d → slice_get g.images v ≡ Some sets → slice_get hs v ≡ Some h → point_in set h.images ≡ Some p → p ≤ length h.writes → m < n
    → slice_get g.area.records slot ≡ Some (record_of v set m) → IfSome (told g.area.device) (λ blocks. slice_get blocks (place_of_slot (length g.area.records) slot) ≡ Some bytes)
    → new.devices ≡ slice_set g.devices v e → told e ≡ option_map (λ blocks. slice_set blocks m bytes) (told d) → new.images ≡ g.images → new.area.volumes ≡ g.area.volumes
    → new.area.records ≡ g.area.records → told new.area.device ≡ told g.area.device
    → StandsFor told new (changed_at v (restored_below n set p (m + 1)) hs)
restoring_at told g new hs v n set p m slot bytes d e sets h stands blocks_is device_is sets_is history_is point l within at read devices written images volumes records area =
    on_history told g new hs v n d e sets sets h (restored_below n set p m) (restored_below n set p (m + 1)) stands blocks_is device_is sets_is history_is
    devices (images ∙ sym (slice_set-same g.images v sets sets_is)) volumes
    (others_same v g.area.records new.area.records records) (slots_same v g.area.records (told g.area.device) (told new.area.device) area)
    (λ is.
    let known = told_in (told g.area.device) (told d) in
    let done = restored_at known (told g.area.device) g.area.records v n sets h set p m slot bytes l within is point at read (told_in-only (told g.area.device) (told d)) in
    let P : Option (List (List ℕ)) → Type 0 = λ t. IsVolume (told_in (told new.area.device) t) (told new.area.device) new.area.records v n sets (restored_below n set p (m + 1) h) in
    let Q : Option (List (List ℕ)) → Type 0 = λ t. IsVolume (told_in t (option_map (λ blocks. slice_set blocks m bytes) (told d))) t new.area.records v n sets (restored_below n set p (m + 1) h) in
    let R : Option (List (List ℕ)) → Type 0 = λ t. IsVolume t (told g.area.device) new.area.records v n sets (restored_below n set p (m + 1) h) in
    let S : List Record → Type 0 = λ rs. IsVolume (option_map (λ blocks. slice_set blocks m bytes) known) (told g.area.device) rs v n sets (restored_below n set p (m + 1) h) in
    subst P (sym written) (subst Q (sym area) (subst R (sym (told_in-map (told g.area.device) (told d) (λ blocks. slice_set blocks m bytes))) (subst S (sym records) done))))

-- the records of the other volumes are kept where the set's copies go
pub cleared_others : (v set : ℕ) (records : List Record) → OthersKept v records (cleared v set records)
cleared_others v set records = grind (arith, length-cleared, others_cleared, others_stood)

-- all blocks are restored, and the set's copies go
pub restoring_all : {D : Type 0} (told : D → Option (List (List ℕ))) (g new : GroupValue D) (hs : List History) (v n set p : ℕ) (d : D) (sets : List ℕ) (h : History)
    → StandsFor told g (changed_at v (restored_below n set p n) hs)
    → slice_get g.area.volumes v ≡ Some n → slice_get g.devices v ≡ Some d → slice_get g.images v ≡ Some sets → slice_get hs v ≡ Some h → point_in set h.images ≡ Some p → p ≤ length h.writes
    → new.devices ≡ g.devices → new.images ≡ g.images → new.area.volumes ≡ g.area.volumes → new.area.records ≡ cleared v set g.area.records → told new.area.device ≡ told g.area.device
    → StandsFor told new (changed_at v (reverted set p) hs)
restoring_all told g new hs v n set p d sets h stands blocks_is device_is sets_is history_is point l devices images volumes records area =
    on_history told g new hs v n d d sets sets h (restored_below n set p n) (reverted set p) stands blocks_is device_is sets_is history_is
    (devices ∙ sym (slice_set-same g.devices v d device_is)) (images ∙ sym (slice_set-same g.images v sets sets_is)) volumes
    (subst (OthersKept v g.area.records) (sym records) (cleared_others v set g.area.records)) (slots_same v g.area.records (told g.area.device) (told new.area.device) area)
    (λ is.
    let known = told_in (told g.area.device) (told d) in
    let done = restored_end known (told g.area.device) g.area.records v n sets h set p l is point in
    let Q : Option (List (List ℕ)) → Type 0 = λ t. IsVolume (told_in t (told d)) t new.area.records v n sets (reverted set p h) in
    let R : List Record → Type 0 = λ rs. IsVolume known (told g.area.device) rs v n sets (reverted set p h) in
    subst Q (sym area) (subst R (sym records) done))

-- ## The images of a volume that are newer than that of a set go, one after another.

-- ## the sets of the images of a volume

among_at : (set : ℕ) (xs : List ℕ) (k : ℕ) → k < length xs → get_or xs k set ≡ set → is_among set xs ≡ true
among_at set [] k l e = absurd (omega arith)
among_at set (x ∷ xs) zero l e = ap (λ (t : Bool). t || is_among set xs) (ap (λ (y : ℕ). x == y) (sym e) ∙ number_is x)
among_at set (x ∷ xs) (suc k) l e = or_right (x == set) (is_among set xs) (among_at set xs k (omega arith) e)

pub among_of : (set : ℕ) (xs : List ℕ) → Contains xs set → is_among set xs ≡ true
among_of set xs at = among_at set xs at.0 at.1 at.2

pub contains_of : (set : ℕ) (xs : List ℕ) → is_among set xs ≡ true → Contains xs set
contains_of set [] e = absurd cc
contains_of set (x ∷ xs) e = by_test (x == set) refl e (contains_of set xs) where
  by_test : (t : Bool) → (x == set) ≡ t → (t || is_among set xs) ≡ true → (is_among set xs ≡ true → Contains xs set) → Contains (x ∷ xs) set
  by_test true f g rest = (0, omega arith, same_number x set f)
  by_test false f g rest = let at = rest g in (suc at.0, omega arith, at.2)

-- whether a set is among sets that rise, by the first of them from it on
pub among_none : (set n : ℕ) (sets : List ℕ) → AllPairs (λ older newer. older < newer) sets → AllWithin (λ s. s < set) sets 0 n → AllWithin (λ s. set ≤ s) sets n (length sets) → n ≡ length sets
    → false ≡ is_among set sets
among_none set n sets rise before onward last = grind (arith, place_is, contains_of)

pub among_here : (set n : ℕ) (sets : List ℕ) → AllPairs (λ older newer. older < newer) sets → AllWithin (λ s. s < set) sets 0 n → AllWithin (λ s. set ≤ s) sets n (length sets) → n < length sets
    → (get_or sets n 0 == set) ≡ is_among set sets
among_here set n sets rise before onward inside = by_test (is_among set sets) refl (get_or sets n 0 == set) refl where
  by_test : (t : Bool) → is_among set sets ≡ t → (f : Bool) → (get_or sets n 0 == set) ≡ f → (get_or sets n 0 == set) ≡ is_among set sets
  by_test true e f g = let is = (place_is sets set n rise (contains_of set sets e) before onward).1 0 in ap (λ (s : ℕ). s == set) is ∙ number_is set ∙ sym e
  by_test false e false g = g ∙ sym e
  by_test false e true g = g ∙ sym (among_of set sets (n, inside, get_or_default sets n set 0 inside ∙ same_number (get_or sets n 0) set g))

-- another image is left
pub among_without : (set other : ℕ) (xs : List ℕ) → set < other → is_among set xs ≡ true → is_among set (filter (λ s. not (s == other)) xs) ≡ true
among_without set other [] l e = e
among_without set other (x ∷ xs) l e = by_tests (x == other) (x == set) refl refl e (among_without set other xs l) where
  by_tests : (t q : Bool) → (x == other) ≡ t → (x == set) ≡ q → (q || is_among set xs) ≡ true → (is_among set xs ≡ true → is_among set (filter (λ s. not (s == other)) xs) ≡ true)
      → is_among set (if not t then x ∷ filter (λ s. not (s == other)) xs else filter (λ s. not (s == other)) xs) ≡ true
  by_tests true true f g h rest =
      let one = same_number x other f in
      let two = same_number x set g in
      absurd (omega arith)
  by_tests true false f g h rest = rest h
  by_tests false true f g h rest = ap (λ (t : Bool). t || is_among set (filter (λ s. not (s == other)) xs)) g
  by_tests false false f g h rest = or_right (x == set) (is_among set (filter (λ s. not (s == other)) xs)) (rest h)

no_more : (p : ℕ → Bool) (xs : List ℕ) → length (filter p xs) ≤ length xs
no_more p [] = omega arith
no_more p (x ∷ xs) = by_test (p x) (no_more p xs) where
  by_test : (t : Bool) → length (filter p xs) ≤ length xs → length (if t then x ∷ filter p xs else filter p xs) ≤ suc (length xs)
  by_test true l = omega arith
  by_test false l = omega arith

-- one image fewer
pub one_fewer : (set : ℕ) (xs : List ℕ) → is_among set xs ≡ true → length (filter (λ s. not (s == set)) xs) < length xs
one_fewer set [] e = absurd cc
one_fewer set (x ∷ xs) e = by_test (x == set) e (one_fewer set xs) where
  by_test : (t : Bool) → (t || is_among set xs) ≡ true → (is_among set xs ≡ true → length (filter (λ s. not (s == set)) xs) < length xs)
      → length (if not t then x ∷ filter (λ s. not (s == set)) xs else filter (λ s. not (s == set)) xs) < suc (length xs)
  by_test true g rest = let l = no_more (λ s. not (s == set)) xs in omega arith
  by_test false g rest = let l = rest g in omega arith

pub most_of : (set s : ℕ) (xs : List ℕ) → All (λ x. x ≤ set) xs → Has s xs → s ≤ set
most_of set s [] all h = absurd h
most_of set s (x ∷ xs) all (inl e) = subst (λ (y : ℕ). y ≤ set) e (All-head (λ y. y ≤ set) x xs all)
most_of set s (x ∷ xs) all (inr h) = most_of set s xs (All-tail (λ y. y ≤ set) x xs all) h

-- where the last one is no later, none is
pub last_most : (xs : List ℕ) (set d : ℕ) → AllPairs (λ older newer. older < newer) xs → get_or xs (length xs - 1) d ≤ set → All (λ s. s ≤ set) xs
last_most xs set d ascend last = λ k e l.
    let same : get_or xs (length xs - 1) e ≡ get_or xs (length xs - 1) d = get_or_default xs (length xs - 1) e d (omega arith) in
    let within : k ≤ length xs - 1 = omega arith in
    elim (eq-or-lt_of_le within) [
      | inl at ↦ (let here : get_or xs k e ≡ get_or xs (length xs - 1) e = ap (λ i. get_or xs i e) at in omega arith)
      | inr before ↦ (let below = ascend k (length xs - 1) e before (omega arith) in omega arith)
    ]

pub images_row : {D : Type 0} (c : CopiesValue D) (v set : ℕ) → is_among set (images_on c v) ≡ true → slice_get c.images v ≡ Some (images_on c v)
images_row c v set e = grind arith

-- ## an image goes

pub merged_stands : {D : Type 0} (told : D → Option (List (List ℕ))) (devices : List D) (old : CopiesValue D) (hs : List History) (v set : ℕ) → AreRecords old.area.volumes old.area.records
    → Contains (images_on old v) set
    → StandsFor told (group_of devices old) hs → StandsFor told (group_of devices (after_merge old v set)) (changed_at v (dropped set) hs)
merged_stands told devices old hs v set are at stands =
    let among = among_of set (images_on old v) at in
    image_dropped told (group_of devices old) (group_of devices (after_merge old v set)) hs v set (images_on old v) stands are (images_row old v set among) among refl refl refl refl refl

pub merged_stands_within : {D : Type 0} (told : D → Option (List (List ℕ))) (devices : List D) (old : CopiesValue D) (hs : List History) (v set : ℕ)
    → ((n : ℕ) → slice_get old.area.volumes v ≡ Some n → AreWithin v n old.area.records) → Contains (images_on old v) set
    → StandsFor told (group_of devices old) hs → StandsFor told (group_of devices (after_merge old v set)) (changed_at v (dropped set) hs)
merged_stands_within told devices old hs v set within at stands =
    let among = among_of set (images_on old v) at in
    image_dropped_within told (group_of devices old) (group_of devices (after_merge old v set)) hs v set (images_on old v) stands within (images_row old v set among) among refl refl refl refl refl

-- one image goes, and nothing else changes
pub image_gone : {D : Type 0} (ghosts : Ghosts D) (devices : List D) (old new : CopiesValue D) (v set : ℕ)
    → is_among set (images_on old v) ≡ true → new ≡ after_merge old v set
    → ((hs : List History) → StandsFor ghosts.told (group_of devices old) hs → StandsFor ghosts.told (group_of devices new) (changed_at v (dropped set) hs))
    → (is_among set (images_on old v) ≡ true) × IsChanged ghosts (group_of devices old) (group_of devices new) v (dropped set)
image_gone ghosts devices old new v set among is stands = grind (arith, kept_records, length-map)

-- ## the newer images go

pub record IsDropping {D : Type 0} (told : D → Option (List (List ℕ))) (old now : CopiesValue D) (v set : ℕ) : Type 0 where
  pub among : is_among set (images_on now v) ≡ true
  pub device : now.area.device ≡ old.area.device
  pub volumes : now.area.volumes ≡ old.area.volumes
  pub slots : length now.area.records ≡ length old.area.records
  pub going : (devices : List D) → AreGoing told (group_of devices old) (group_of devices now) v set

pub dropping_none : {D : Type 0} (told : D → Option (List (List ℕ))) (old : CopiesValue D) (v set : ℕ) → is_among set (images_on old v) ≡ true → IsDropping told old old v set
dropping_none told old v set among = grind (arith, going_none)

pub images_after : {D : Type 0} (c : CopiesValue D) (v set : ℕ) → is_among set (images_on c v) ≡ true → images_on (after_merge c v set) v ≡ filter (λ s. not (s == set)) (images_on c v)
images_after c v set among = grind (arith, slice_get-set_same, images_row)

-- fewer are left
pub fewer_left : {D : Type 0} (c new : CopiesValue D) (v set : ℕ) → new ≡ after_merge c v set → Contains (images_on c v) set → length (images_on new v) < length (images_on c v)
fewer_left c new v set is at = grind (arith, among_of, images_after, one_fewer)

pub dropping_more : {D : Type 0} (told : D → Option (List (List ℕ))) (old now new : CopiesValue D) (v set newest : ℕ) → IsDropping told old now v set → set < newest
    → Contains (images_on now v) newest → new ≡ after_merge now v newest
    → ((devices : List D) (hs : List History) → StandsFor told (group_of devices now) hs → StandsFor told (group_of devices new) (changed_at v (dropped newest) hs)) → IsDropping told old new v set
dropping_more {D = D} told old now new v set newest dropping newer at is drops =
    let there = among_of newest (images_on now v) at in
    record {
      among = ap (λ (x : CopiesValue D). is_among set (images_on x v)) is ∙ ap (is_among set) (images_after now v newest there) ∙ among_without set newest (images_on now v) newer dropping.among;
      device = ap (λ (x : CopiesValue D). x.area.device) is ∙ dropping.device;
      volumes = ap (λ (x : CopiesValue D). x.area.volumes) is ∙ dropping.volumes;
      slots = ap (λ (x : CopiesValue D). length x.area.records) is ∙ length-map now.area.records _ ∙ dropping.slots;
      going = λ devices. going_more told (group_of devices old) (group_of devices now) (group_of devices new) v set newest (dropping.going devices) newer (drops devices);
    }

pub dropping_end : {D : Type 0} (told : D → Option (List (List ℕ))) (old now : CopiesValue D) (v set : ℕ) → IsDropping told old now v set → v < length old.area.volumes
    → All (λ s. s ≤ set) (images_on now v) → AreNewerGone told old now v set
dropping_end told old now v set dropping inside most = record {
  among = dropping.among;
  most = most;
  device = dropping.device;
  volumes = dropping.volumes;
  slots = dropping.slots;
  stands = λ devices hs stands. going_all told (group_of devices old) (group_of devices now) v set (dropping.going devices)
      (subst (λ (ns : List ℕ). v < length ns) (sym dropping.volumes) inside) (λ s m. most_of set s (images_on now v) most m) hs stands;
}

-- What the calls on a group leave where it is of one volume.
use Rattle.std.proofs.Common.{◌≡◌, ℕ, zero, suc, ◌≤◌, List, [], ◌∷◌, length, refl, ap, arith, true, Option, Some, None, subst}
use Rattle.std.proofs.lemmas.List.{append-nil}
use Rattle.std.specs.Prelude.{slice_get, is_some, Result, Ok, Err, OnOk, IfOk, IfSome}
use Rattle.std.specs.List.{list_all}
use Rattle.write_history.specs.History.{History, Write, point_in, written}
use Rattle.write_history.specs.Slots.{gone_up_to, copies, copies_of}
use Rattle.diff_area.specs.Copies.{AreStored}
use Rattle.cow_volume.specs.StandsFor.{GroupValue, placed, StandsFor}
use Rattle.cow_volume.specs.Calls.{changed_at, blocks_in, IsQuiet, IsNow, IsShown, IsEvicted, IsWrite, IsDropped, IsRevert}
use Rattle.cow_volume.specs.Ending.{AllTell, IsSync}
use Rattle.cow_volume.specs.OneVolume.{StandsForOne, tells, without_up_to, IsEvictedOne, IsOneWrite, IsOneNow, IsOneShown, IsOneDropped, IsOneRevert, IsOneSync, copies_in}
use Rattle.cow_volume.specs.declared.cause.Cause.{Cause}
use Rattle.cow_volume.specs.declared.written.Written.{Written}
use Rattle.cow_volume.specs.declared.write_fault.WriteFault.{WriteFault}
use Rattle.cow_volume.specs.declared.image_fault.ImageFault.{ImageFault}
use Rattle.cow_volume.specs.declared.revert_fault.RevertFault.{RevertFault}
use Rattle.cow_volume.specs.declared.revert_fault.RevertFault.TheVariants.{NoSuchImage, Fault}
use Rattle.cow_volume.proofs.Group.{quiet_stands}
use Rattle.volume_device.specs.declared.device.Device.{Ghosts}
use Rattle.diff_area.proofs.GoodRecords.{and_left, and_right}

-- ## a list of one

-- images that go from the one volume
one_gone : (volumes : List ℕ) (m : ℕ) (h : History) → length volumes ≡ 1 → gone_up_to m (placed volumes) (h ∷ []) ≡ without_up_to m h ∷ []
one_gone (n ∷ []) m h one = refl
one_gone _ m h one = absurd (omega arith)

-- the greatest set of the one history
one_within : (h : History) (sets : ℕ) → ((n : ℕ) → is_some (point_in n h.images) ≡ true → n ≤ sets)
    → (u n : ℕ) (k : History) → slice_get (h ∷ []) u ≡ Some k → is_some (point_in n k.images) ≡ true → n ≤ sets
one_within h sets most u n k at is = grind arith

one_evicted : {D : Type 0} → (volume : GroupValue D) (b : ℕ) (h : History) (up_to : ℕ) → IsEvicted volume 0 b (h ∷ []) up_to → IsEvictedOne volume b h up_to
one_evicted volume b h up_to is = λ sets most. is sets (one_within h sets most)

-- ## devices that tell

all_tell : {D : Type 0} → (told : D → Option (List (List ℕ))) (devices : List D) → list_all (λ d. is_some (told d)) devices ≡ true → AllTell told devices
all_tell told [] all v d at = cc
all_tell told (x ∷ devices) all zero d at = let same : x ≡ d = cc in subst (λ y. is_some (told y) ≡ true) same (and_left (is_some (told x)) (list_all (λ d. is_some (told d)) devices) all)
all_tell told (x ∷ devices) all (suc v) d at = all_tell told devices (and_right (is_some (told x)) (list_all (λ d. is_some (told d)) devices) all) v d at

device_tells : {D : Type 0} → (told : D → Option (List (List ℕ))) (volume : GroupValue D) → tells told volume ≡ true → AllTell told volume.devices
device_tells told volume all = grind (arith, all_tell, and_left)

area_tells : {D : Type 0} → (told : D → Option (List (List ℕ))) (volume : GroupValue D) → tells told volume ≡ true → is_some (told volume.area.device) ≡ true
area_tells told volume all = and_right (list_all (λ d. is_some (told d)) volume.devices) (is_some (told volume.area.device)) all

first_of_one : {D : Type 0} → (devices : List D) → length devices ≡ 1 → (d : D) × (slice_get devices 0 ≡ Some d)
first_of_one [] one = absurd (omega arith)
first_of_one (d ∷ devices) one = (d, refl)

-- ## what a volume stands for

pub one_quiet : {D : Type 0} → (ghosts : Ghosts D) (old new : GroupValue D)
    → IsQuiet ghosts old new → (h : History) → StandsForOne ghosts.told old h → StandsForOne ghosts.told new h
one_quiet ghosts old new quiet h stood = quiet_stands ghosts.told old new (h ∷ []) stood quiet.blocks quiet.images quiet.kept.volumes quiet.records quiet.slots

-- histories of a group of one volume are one history
pub one_untold : {D : Type 0} → (told : D → Option (List (List ℕ))) (volume : GroupValue D) → length volume.area.volumes ≡ 1 → (hs : List History) × StandsFor told volume hs
    → (h : History) × StandsForOne told volume h
one_untold told volume one some = of_one some.0 some.1 where
  of_one : (hs : List History) → StandsFor told volume hs → (h : History) × StandsForOne told volume h
  of_one [] stood = let many = stood.histories in absurd (omega arith)
  of_one (h ∷ []) stood = (h, stood)
  of_one (h ∷ k ∷ hs) stood = let many = stood.histories in absurd (omega arith)

-- ## reads

pub one_now : {D : Type 0} → (told : D → Option (List (List ℕ))) (volume : GroupValue D) (b : ℕ) (bytes : List ℕ)
    → length volume.devices ≡ 1 → IsNow told volume 0 b bytes → IsOneNow told volume b bytes
one_now told volume b bytes one is = λ h stood all.
    let device = first_of_one volume.devices one in
    is (h ∷ []) device.0 stood device.1 (device_tells told volume all 0 device.0 device.1) (area_tells told volume all)

pub one_shown : {D : Type 0} → (told : D → Option (List (List ℕ))) (volume : GroupValue D) (set b : ℕ) (bytes : List ℕ)
    → length volume.devices ≡ 1 → IsShown told volume 0 set b bytes → IsOneShown told volume set b bytes
one_shown told volume set b bytes one is = λ h p stood all point.
    let device = first_of_one volume.devices one in
    is (h ∷ []) device.0 p stood device.1 (device_tells told volume all 0 device.0 device.1) (area_tells told volume all) point

pub one_shown_if : {D E : Type 0} → (told : D → Option (List (List ℕ))) (volume : GroupValue D) (set b : ℕ) (bytes : List ℕ) (result : Result Unit E)
    → length volume.devices ≡ 1 → OnOk result (IsShown told volume 0 set b bytes) → OnOk result (IsOneShown told volume set b bytes)
one_shown_if told volume set b bytes (Ok done) one is = one_shown told volume set b bytes one is
one_shown_if told volume set b bytes (Err e) one is = tt

-- what is lent, of a block now and of an image
pub one_now_lent : {D B : Type 0} → (told : D → Option (List (List ℕ))) (volume : GroupValue D) (b : ℕ) (lent : Option B) (bytes_of : B → List ℕ)
    → length volume.devices ≡ 1 → IfSome lent (λ x. IsNow told volume 0 b (bytes_of x)) → IfSome lent (λ x. IsOneNow told volume b (bytes_of x))
one_now_lent told volume b None bytes_of one is = tt
one_now_lent told volume b (Some x) bytes_of one is = one_now told volume b (bytes_of x) one is

pub one_lent : {D B E : Type 0} → (told : D → Option (List (List ℕ))) (volume : GroupValue D) (set b : ℕ) (result : Result (Option B) E) (bytes_of : B → List ℕ)
    → length volume.devices ≡ 1 → IfOk result (λ lent. IfSome lent (λ x. IsShown told volume 0 set b (bytes_of x))) → IfOk result (λ lent. IfSome lent (λ x. IsOneShown told volume set b (bytes_of x)))
one_lent told volume set b (Ok (Some x)) bytes_of one is = one_shown told volume set b (bytes_of x) one is
one_lent told volume set b _ bytes_of one is = tt

-- ## writes

pub one_write : {D : Type 0} → (ghosts : Ghosts D) (old new : GroupValue D) (w : Write) (result : Result Written WriteFault)
    → length old.area.volumes ≡ 1 → IsWrite ghosts old new 0 w result → IsOneWrite ghosts old new w result
one_write ghosts old new w (Ok done) one is = record {
  in_range = is.in_range;
  kept = is.kept;
  evicted = λ h stood. one_evicted old w.block h done.evicted_up_to (is.evicted (h ∷ []) stood);
  stands = λ h stood. subst (λ (hs : List History). StandsFor ghosts.told new hs) (ap (changed_at 0 (written w)) (one_gone old.area.volumes done.evicted_up_to h one)) (is.stands (h ∷ []) stood);
  unfailed = is.unfailed;
}
one_write ghosts old new w (Err fault) one is = record {
  cause = is.cause;
  kept = is.kept;
  evicted = λ low h stood. one_evicted old w.block h fault.evicted_up_to (is.evicted low (h ∷ []) stood);
  none = is.none;
  stands = λ h stood. subst (λ (hs : List History). StandsFor ghosts.told new hs) (one_gone old.area.volumes fault.evicted_up_to h one) (is.stands (h ∷ []) stood);
}

pub write_volumes : {D : Type 0} → (ghosts : Ghosts D) (old new : GroupValue D) (w : Write) (result : Result Written WriteFault)
    → IsWrite ghosts old new 0 w result → new.area.volumes ≡ old.area.volumes
write_volumes ghosts old new w result is = grind arith

-- ## images

pub one_dropped : {D : Type 0} → (ghosts : Ghosts D) (old new : GroupValue D) (set : ℕ) (result : Result Unit ImageFault)
    → IsDropped ghosts old new 0 set result → IsOneDropped ghosts old new set result
one_dropped ghosts old new set (Ok done) is = (
  is.0,
  record {
    kept = is.1.kept;
    devices = is.1.devices;
    area = is.1.area;
    stands = λ h stood. is.1.stands (h ∷ []) stood;
  },
)
one_dropped ghosts old new set (Err fault) is = is

pub dropped_volumes : {D : Type 0} → (ghosts : Ghosts D) (old new : GroupValue D) (set : ℕ) (result : Result Unit ImageFault)
    → IsDropped ghosts old new 0 set result → new.area.volumes ≡ old.area.volumes
dropped_volumes ghosts old new set result is = grind arith

pub one_revert : {D : Type 0} → (ghosts : Ghosts D) (old new : GroupValue D) (set : ℕ) (result : Result Unit RevertFault)
    → IsRevert ghosts old new 0 set result → IsOneRevert ghosts old new set result
one_revert ghosts old new set (Ok done) is = record {
  image = is.image;
  kept = is.kept;
  stands = λ h p stood point. is.stands (h ∷ []) p stood point;
  unfailed = is.unfailed;
  slots = is.slots;
}
one_revert ghosts old new set (Err NoSuchImage) is = is
one_revert ghosts old new set (Err (Fault restored cause)) is = (
  record {
    image = is.0.image;
    kept = is.0.kept;
    fewer = λ h p stood point. is.0.fewer (h ∷ []) p stood point;
    stands = λ h p stood point. is.0.stands (h ∷ []) p stood point;
    slots = is.0.slots;
  },
  is.1,
)

pub revert_volumes : {D : Type 0} → (ghosts : Ghosts D) (old new : GroupValue D) (set : ℕ) (result : Result Unit RevertFault)
    → IsRevert ghosts old new 0 set result → new.area.volumes ≡ old.area.volumes
revert_volumes ghosts old new set result is = grind arith

-- ## what lasts

one_copies : (volumes : List ℕ) (h : History) → length volumes ≡ 1 → copies (placed volumes) (h ∷ []) ≡ copies_in (blocks_in (slice_get volumes 0)) h
one_copies (n ∷ []) h one = append-nil (copies_of 0 n h.writes h.images)
one_copies _ h one = absurd (omega arith)

pub one_sync : {D : Type 0} → (ghosts : Ghosts D) (old new : GroupValue D) (result : Result Unit Cause)
    → length old.area.volumes ≡ 1 → IsSync ghosts old new result → IsOneSync ghosts old new result
one_sync ghosts old new (Ok done) one is = (
  is.0,
  (λ h stood all.
      subst (λ cs. AreStored (ghosts.told new.area.device) cs) (one_copies old.area.volumes h one) (is.1 (h ∷ []) stood (device_tells ghosts.told old all))),
  is.2,
)
one_sync ghosts old new (Err cause) one is = is

pub sync_volumes : {D : Type 0} → (ghosts : Ghosts D) (old new : GroupValue D) (result : Result Unit Cause)
    → IsSync ghosts old new result → new.area.volumes ≡ old.area.volumes
sync_volumes ghosts old new result is = grind arith

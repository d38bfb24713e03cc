-- What a call on a volume comes to, against the histories of all volumes that the groups stand for. (This project's own.)
use Rattle.std.specs.Prelude.{ℕ, ◌≡◌, ◌<◌, ◌≤◌, ◌+◌, ◌&&◌, Bool, true, false, List, [], ◌∷◌, length, map, if◌then◌else◌, Option, Some, None, is_some, IfSome, slice_get, Result, Ok, Err}
use Rattle.std.specs.List.{concat, flat_map, range_with_len}
use Rattle.vss_model.specs.Words.{Evicted, History, IsPlaceOf, Placed, Plan, Write, blocks_of, change_at, content, contents, count_images, dropped, evicted_of, evicted_up_to, gone_up_to, group_of}
use Rattle.vss_model.specs.Words.{has_image, point_in, reverted, reverted_in_part, slots_of, to_restore, volume_in, written}
use Rattle.provider.specs.Words.{Cause, Digested, Fault, Ghosts, GroupValue, ImageFault, IsBytes, LastsAt, NoSuchImage, RevertFault, lacks_slot, sets_at, sha256}
use Rattle.cow_volume.specs.declared.cause.Cause.TheVariants as cause
use Rattle.cow_volume.specs.declared.image_fault.ImageFault.TheVariants.{NoSuchBlock, Volume, Area}
use Rattle.cow_volume.specs.declared.revert_fault.RevertFault.TheVariants.{NoSuchImage as NoImage}
use Rattle.provider.specs.Groups.{HasGroups, AreGroups, IfStandFor, IsPointOf, history_at, devices_of, told_at, AreKept, IsCallOn, HasCause, fault_of}

-- ## writes

-- no image is of a set above this number
abbrev pub IsLastSet : ℕ → List History → Type 0
IsLastSet sets hs = (u n : ℕ) (h : History) → slice_get hs u ≡ Some h → is_some (point_in n h.images) ≡ true → n ≤ sets

-- sets up to this number lose their images for a write of block b to volume v, as the definition of slots has it
abbrev pub GoUpTo : Plan → ℕ → ℕ → ℕ → List History → Type 0
GoUpTo s v b up_to hs = (sets : ℕ) → IsLastSet sets hs → up_to ≡ evicted_up_to sets (slots_of s v) (group_of s v) v b hs

-- the volumes of a group, numbered from v on, on which the image of set n stands
abbrev pub holders : ℕ → ℕ → List Placed → List History → List ℕ
holders n v [] hs = []
holders n v (p ∷ ps) [] = []
holders n v (p ∷ ps) (h ∷ hs) = if p.within && has_image n h then v ∷ holders n (v + 1) ps hs else holders n (v + 1) ps hs

-- the images of the sets up to this one on the volumes of a group, in order of sets and then of volumes
abbrev pub images_going : ℕ → List Placed → List History → List Evicted
images_going up_to ps hs = flat_map (λ n. evicted_of n (holders n 0 ps hs)) (range_with_len 1 up_to)

-- an image on a volume of group g, by the number that the scenario gives the volume
abbrev pub renumbered : Plan → ℕ → Evicted → Evicted
renumbered s g image = record { set = image.set; volume = volume_in g s.volumes image.volume }

-- a write of block b to volume v does not lack its slot
abbrev pub HasRoom : {D : Type 0} → Plan → List (GroupValue D) → ℕ → ℕ → Type 0
HasRoom {D = D} s groups v b = (g u : ℕ) (x : GroupValue D) → IsPlaceOf s v g u → slice_get groups g ≡ Some x → lacks_slot x.area.records u (sets_at x u) b ≡ false

-- the images of the volume's group went up to a set, as the definition has it, and these are they; the devices are as they were
pub record IsRoomMade {D : Type 0} (device : Ghosts D) (s : Plan) (old new : List (GroupValue D)) (v b : ℕ) (images : List Evicted) (up_to : ℕ) : Type 0 where
  pub call : IsCallOn device s v old new
  pub devices : devices_of new ≡ devices_of old
  pub evicted : IfStandFor device.told s old (GoUpTo s v b up_to)
  pub stands : IfStandFor device.told s old (λ hs. AreGroups device.told s new (gone_up_to up_to (group_of s v) hs))
  pub gone : IfStandFor device.told s old (λ hs. images ≡ images_going up_to (group_of s v) hs)
  pub room : HasRoom s new v b

abbrev pub put_if : Result Unit Cause → ℕ → Write → List History → List History
put_if (Ok done) v w hs = change_at v (written w) hs
put_if (Err cause) v w hs = hs

-- a block was written, or a device failed
pub record IsPut {D : Type 0} (device : Ghosts D) (s : Plan) (old new : List (GroupValue D)) (v : ℕ) (w : Write) (result : Result Unit Cause) : Type 0 where
  pub call : IsCallOn device s v old new
  pub stands : IfStandFor device.told s old (λ hs. AreGroups device.told s new (put_if result v w hs))
  pub cause : HasCause device.count s v (fault_of result) old new

-- ## reads

-- only counts of devices may have changed: the groups stand for what they stood for, each device tells what it told, and what lasted lasts
pub record IsQuiet {D : Type 0} (device : Ghosts D) (s : Plan) (old new : List (GroupValue D)) (v : ℕ) : Type 0 where
  pub call : IsCallOn device s v old new
  pub blocks : map device.told (devices_of new) ≡ map device.told (devices_of old)
  pub lasts : (place : ℕ) → LastsAt device place (devices_of old) → LastsAt device place (devices_of new)
  pub stands : IfStandFor device.told s old (AreGroups device.told s new)

-- where volume v tells, this holds of its effective writes and the point that is shown: its present end, or that of the image of a set
abbrev pub IfShown : {D : Type 0} → (D → Option (List (List ℕ))) → Plan → List (GroupValue D) → ℕ → Option ℕ → (List Write → ℕ → Type 0) → Type 0
IfShown told s groups v set P = is_some (told_at told s (devices_of groups) v) ≡ true
    → IfStandFor told s groups (λ hs. (p : ℕ) → IsPointOf set (history_at hs v) p → P (history_at hs v).writes p)

-- the bytes are those of block b
abbrev pub IsShown : {D : Type 0} → (D → Option (List (List ℕ))) → Plan → List (GroupValue D) → ℕ → Option ℕ → ℕ → List ℕ → Type 0
IsShown told s groups v set b bytes = IfShown told s groups v set (λ ws p. bytes ≡ content ws p b)

-- the digest is that of all blocks
abbrev pub IsDigestShown : {D : Type 0} → (D → Option (List (List ℕ))) → Plan → List (GroupValue D) → ℕ → Option ℕ → List ℕ → Type 0
IsDigestShown told s groups v set digest = IfShown told s groups v set (λ ws p. digest ≡ sha256 (concat (contents (blocks_of s v) ws p)))

-- likewise, and it has the width of one, whether the volume tells or not
abbrev pub IsDigestTold : {D : Type 0} → (D → Option (List (List ℕ))) → Plan → List (GroupValue D) → ℕ → Option ℕ → List ℕ → Type 0
IsDigestTold told s groups v set digest = IsDigestShown told s groups v set digest × (length digest ≡ 32) × IsBytes digest

-- where there is a digest it is that of what it is said to be of
abbrev pub IsDigestedAt : {D : Type 0} → (D → Option (List (List ℕ))) → Plan → List (GroupValue D) → Digested → Type 0
IsDigestedAt told s groups row = IfSome row.digest (IsDigestTold told s groups row.volume row.set)

-- the row is of a volume of the scenario, or of an image on it
abbrev pub IsRowOf : Plan → Digested → Type 0
IsRowOf s row = row.volume < length s.volumes

-- ## images

-- whether the image of a set stands on volume v
abbrev pub HasImage : {D : Type 0} → (D → Option (List (List ℕ))) → Plan → List (GroupValue D) → ℕ → ℕ → Bool → Type 0
HasImage told s groups v set has = IfStandFor told s groups (λ hs. is_some (point_in set (history_at hs v).images) ≡ has)

-- whether volume v is there: as it is now it always is, and as the image of a set shows it where that stands
abbrev pub IsThere : {D : Type 0} → (D → Option (List (List ℕ))) → Plan → List (GroupValue D) → ℕ → Option ℕ → Bool → Type 0
IsThere told s groups v None there = true ≡ there
IsThere told s groups v (Some set) there = HasImage told s groups v set there

-- why a call on volume v, as it is now or as the image of a set shows it, failed: just where no such image stands, and then nothing
-- changed; or a device failed
abbrev pub HasImageCause : {D : Type 0} → Ghosts D → Plan → ℕ → Option ℕ → Option ImageFault → List (GroupValue D) → List (GroupValue D) → Type 0
HasImageCause device s v set None old new = IsThere device.told s old v set true × HasCause device.count s v None old new
HasImageCause device s v set (Some NoSuchImage) old new = IsThere device.told s old v set false × (new ≡ old)
HasImageCause device s v set (Some NoSuchBlock) old new = ⊥
HasImageCause device s v set (Some Volume) old new = IsThere device.told s old v set true × HasCause device.count s v (Some cause.Volume) old new
HasImageCause device s v set (Some Area) old new = IsThere device.told s old v set true × HasCause device.count s v (Some cause.Area) old new

-- the image of a set went from volume v, or did not stand and nothing changed
abbrev pub IsDropped : {D : Type 0} → Ghosts D → Plan → List (GroupValue D) → List (GroupValue D) → ℕ → ℕ → Bool → Type 0
IsDropped device s old new v set false = HasImage device.told s old v set false × (new ≡ old)
IsDropped device s old new v set true = HasImage device.told s old v set true × IsCallOn device s v old new × (devices_of new ≡ devices_of old)
    × IfStandFor device.told s old (λ hs. AreGroups device.told s new (change_at v (dropped set) hs))

-- the images of a set went from all volumes; so many were they
pub record AreWithout {D : Type 0} (device : Ghosts D) (old new : List (GroupValue D)) (set stood : ℕ) : Type 0 where
  pub kept : AreKept device old new
  pub devices : devices_of new ≡ devices_of old
  pub stands : (s : Plan) → IfStandFor device.told s old (λ hs. AreGroups device.told s new (map (dropped set) hs))
  pub number : (s : Plan) → HasGroups s old → IfStandFor device.told s old (λ hs. stood ≡ count_images set hs)
  pub none : stood ≡ 0 → new ≡ old

-- volume v was brought back to the image of a set; or no such image stands, and nothing changed; or a device failed after so many
-- blocks were restored, in ascending order, which are fewer than there are to restore
abbrev pub IsRevert : {D : Type 0} → Ghosts D → Plan → List (GroupValue D) → List (GroupValue D) → ℕ → ℕ → Result Unit RevertFault → Type 0
IsRevert device s old new v set (Ok done) = HasImage device.told s old v set true × IsCallOn device s v old new × HasCause device.count s v None old new
    × IfStandFor device.told s old (λ hs. (p : ℕ) → point_in set (history_at hs v).images ≡ Some p → AreGroups device.told s new (change_at v (reverted set p) hs))
IsRevert device s old new v set (Err NoImage) = HasImage device.told s old v set false × (new ≡ old)
IsRevert device s old new v set (Err (Fault restored failed)) = HasImage device.told s old v set true × IsCallOn device s v old new × HasCause device.count s v (Some failed) old new
    × IfStandFor device.told s old (λ hs. (p : ℕ) → point_in set (history_at hs v).images ≡ Some p
    → (restored < length (to_restore (blocks_of s v) (history_at hs v).writes p)) × AreGroups device.told s new (change_at v (reverted_in_part (blocks_of s v) set p restored) hs))

-- a revert that is to stop after k blocks: there are no more to restore, no such image stands, or it stopped there
abbrev pub StopsAfter : {D : Type 0} → (D → Option (List (List ℕ))) → Plan → List (GroupValue D) → ℕ → ℕ → ℕ → Result Unit RevertFault → Type 0
StopsAfter told s old v set k (Ok done) = IfStandFor told s old (λ hs. (p : ℕ) → point_in set (history_at hs v).images ≡ Some p → length (to_restore (blocks_of s v) (history_at hs v).writes p) ≤ k)
StopsAfter told s old v set k (Err NoImage) = Unit {0}
StopsAfter told s old v set k (Err (Fault restored failed)) = restored ≡ k

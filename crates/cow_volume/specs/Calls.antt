-- What the calls on a group come to, against the histories that it stands for, and what is said of one that failed. (This project's own.)
use Rattle.std.specs.Fmt.{decimal}
use Rattle.std.specs.List.{list_any}
use Rattle.std.specs.Prelude.{ℕ, ◌≡◌, ◌<◌, ◌≤◌, Bool, true, false, zero, suc, List, [], ◌∷◌, length, map, Option, Some, None, is_some, slice_get, slice_set}
use Rattle.std.specs.Prelude.{◌==◌, Result, Ok, Err, ◌++◌, codes}
use Rattle.vss_names.specs.Faults.{Rose, most}
use Rattle.volume_device.specs.declared.device.Device.{Ghosts}
use Rattle.write_history.specs.History.{History, Write, content, point_in, fresh, written, dropped, reverted, reverted_in_part, to_restore}
use Rattle.write_history.specs.Slots.{gone_up_to, evicted_up_to}
use Rattle.cow_volume.specs.StandsFor.{GroupValue, placed, StandsFor}
use Rattle.cow_volume.specs.declared.cause.Cause.{Cause}
use Rattle.cow_volume.specs.declared.cause.Cause.TheVariants.{NoSuchBlock, Volume, Area}
use Rattle.cow_volume.specs.declared.cause.Cause.TheVariants as cause
use Rattle.cow_volume.specs.declared.image_fault.ImageFault.{ImageFault}
use Rattle.cow_volume.specs.declared.image_fault.ImageFault.TheVariants.{NoSuchImage, NoSuchBlock as NoBlock, Volume as VolumeFailed, Area as AreaFailed}
use Rattle.cow_volume.specs.declared.image_fault.ImageFault.TheVariants as image
use Rattle.cow_volume.specs.declared.resume_fault.ResumeFault.{ResumeFault}
use Rattle.cow_volume.specs.declared.resume_fault.ResumeFault.TheVariants as resume
use Rattle.cow_volume.specs.declared.revert_fault.RevertFault.{RevertFault}
use Rattle.cow_volume.specs.declared.revert_fault.RevertFault.TheVariants.{NoSuchImage as NoImage, Fault}
use Rattle.cow_volume.specs.declared.revert_fault.RevertFault.TheVariants as revert
use Rattle.cow_volume.specs.declared.write_fault.WriteFault.{WriteFault}
use Rattle.cow_volume.specs.declared.written.Written.{Written}

-- ## What the calls on a group come to, against the histories that it stands for. (This project's own.)

-- ## a place in the group

abbrev pub history_in : Option History → History
history_in None = fresh
history_in (Some h) = h

-- the history of volume v
abbrev pub history_at : List History → ℕ → History
history_at hs v = history_in (slice_get hs v)

-- f of the history of volume v
abbrev pub changed_at : ℕ → (History → History) → List History → List History
changed_at v f [] = []
changed_at zero f (h ∷ hs) = f h ∷ hs
changed_at (suc v) f (h ∷ hs) = h ∷ changed_at v f hs

abbrev pub blocks_in : Option ℕ → ℕ
blocks_in None = 0
blocks_in (Some n) = n

-- how many blocks volume v has
abbrev pub blocks_at : {D : Type 0} → GroupValue D → ℕ → ℕ
blocks_at g v = blocks_in (slice_get g.area.volumes v)

-- ## what every call keeps

-- a device keeps its size, whether it tells and whether it lends, and its count does not fall
pub record IsSameDevice {D : Type 0} (ghosts : Ghosts D) (old new : D) : Type 0 where
  pub tells : is_some (ghosts.told new) ≡ is_some (ghosts.told old)
  pub size_is : ghosts.size new ≡ ghosts.size old
  pub lends : ghosts.lending new ≡ ghosts.lending old
  pub later : ghosts.count old ≤ ghosts.count new

pub record IsKept {D : Type 0} (ghosts : Ghosts D) (old new : GroupValue D) : Type 0 where
  pub volumes : new.area.volumes ≡ old.area.volumes
  pub slots : length new.area.records ≡ length old.area.records
  pub area : IsSameDevice ghosts old.area.device new.area.device
  pub devices : length new.devices ≡ length old.devices
  pub each : (v : ℕ) (d e : D) → slice_get old.devices v ≡ Some d → slice_get new.devices v ≡ Some e → IsSameDevice ghosts d e

-- the count of the device of volume v rose, and each other count is as it was
pub record VolumeRose {D : Type 0} (count : D → ℕ) (v : ℕ) (old new : GroupValue D) : Type 0 where
  pub before : D
  pub now : D
  pub was : slice_get old.devices v ≡ Some before
  pub is : slice_get new.devices v ≡ Some now
  pub rose : Rose (count before) (count now)
  pub devices : map count new.devices ≡ slice_set (map count old.devices) v (count now)
  pub area : count new.area.device ≡ count old.area.device

-- the count of the area's device rose, and each other count is as it was
pub record AreaRose {D : Type 0} (count : D → ℕ) (old new : GroupValue D) : Type 0 where
  pub rose : Rose (count old.area.device) (count new.area.device)
  pub devices : map count new.devices ≡ map count old.devices

-- no device failed: each count is as it was
pub record IsUnfailed {D : Type 0} (count : D → ℕ) (old new : GroupValue D) : Type 0 where
  pub devices : map count new.devices ≡ map count old.devices
  pub area : count new.area.device ≡ count old.area.device

-- why a call failed on volume v and block b: just where there is no such block, or only where a count rose
abbrev pub HasCauseAt : {D : Type 0} → (D → ℕ) → ℕ → ℕ → GroupValue D → GroupValue D → Cause → Type 0
HasCauseAt count v b old new NoSuchBlock = (blocks_at old v ≤ b) × (new ≡ old)
HasCauseAt count v b old new Volume = (b < blocks_at old v) × VolumeRose count v old new
HasCauseAt count v b old new Area = (b < blocks_at old v) × AreaRose count old new

-- ## writes

-- sets up to this number are gone for a write of block b to volume v, as the definition of slots has it
abbrev pub IsEvicted : {D : Type 0} → GroupValue D → ℕ → ℕ → List History → ℕ → Type 0
IsEvicted g v b hs up_to = (sets : ℕ) → ((u n : ℕ) (h : History) → slice_get hs u ≡ Some h → is_some (point_in n h.images) ≡ true → n ≤ sets)
    → up_to ≡ evicted_up_to sets (length g.area.records) (placed g.area.volumes) v b hs

-- the histories without the images that went
abbrev pub made_room : {D : Type 0} → GroupValue D → ℕ → List History → List History
made_room g up_to hs = gone_up_to up_to (placed g.area.volumes) hs

-- the block was written: images went as the definition has it, and there is one more effective write
pub record IsWritten {D : Type 0} (ghosts : Ghosts D) (old new : GroupValue D) (v : ℕ) (w : Write) (up_to : ℕ) : Type 0 where
  pub in_range : w.block < blocks_at old v
  pub kept : IsKept ghosts old new
  pub evicted : (hs : List History) → StandsFor ghosts.told old hs → IsEvicted old v w.block hs up_to
  pub stands : (hs : List History) → StandsFor ghosts.told old hs → StandsFor ghosts.told new (changed_at v (written w) (made_room old up_to hs))
  pub unfailed : IsUnfailed ghosts.count old new

-- it was not: the images that went are gone all the same, and nothing else changed
pub record IsUnwritten {D : Type 0} (ghosts : Ghosts D) (old new : GroupValue D) (v b : ℕ) (fault : WriteFault) : Type 0 where
  pub cause : HasCauseAt ghosts.count v b old new fault.cause
  pub kept : IsKept ghosts old new
  pub evicted : b < blocks_at old v → (hs : List History) → StandsFor ghosts.told old hs → IsEvicted old v b hs fault.evicted_up_to
  pub none : blocks_at old v ≤ b → fault.evicted_up_to ≡ 0
  pub stands : (hs : List History) → StandsFor ghosts.told old hs → StandsFor ghosts.told new (made_room old fault.evicted_up_to hs)

abbrev pub IsWrite : {D : Type 0} → Ghosts D → GroupValue D → GroupValue D → ℕ → Write → Result Written WriteFault → Type 0
IsWrite ghosts old new v w (Ok done) = IsWritten ghosts old new v w done.evicted_up_to
IsWrite ghosts old new v w (Err fault) = IsUnwritten ghosts old new v w.block fault

-- ## reads

-- what the device tells lasts, if it did
abbrev pub StillLasts : {D : Type 0} → Ghosts D → D → D → Type 0
StillLasts ghosts old new = ghosts.lasting old ≡ ghosts.told old → ghosts.lasting new ≡ ghosts.told new

-- what the device at a place tells lasts
abbrev pub LastsAt : {D : Type 0} → Ghosts D → ℕ → List D → Type 0
LastsAt {D = D} ghosts place devices = (d : D) → slice_get devices place ≡ Some d → ghosts.lasting d ≡ ghosts.told d

-- only counts of devices may have changed: the group stands for what it stood for, and what lasted lasts
pub record IsQuiet {D : Type 0} (ghosts : Ghosts D) (old new : GroupValue D) : Type 0 where
  pub kept : IsKept ghosts old new
  pub records : new.area.records ≡ old.area.records
  pub images : new.images ≡ old.images
  pub blocks : map ghosts.told new.devices ≡ map ghosts.told old.devices
  pub slots : ghosts.told new.area.device ≡ ghosts.told old.area.device
  pub blocks_last : (v : ℕ) → LastsAt ghosts v old.devices → LastsAt ghosts v new.devices
  pub slots_last : StillLasts ghosts old.area.device new.area.device

-- the bytes are those of block b of volume v now, where its device and the area's tell
abbrev pub IsNow : {D : Type 0} → (D → Option (List (List ℕ))) → GroupValue D → ℕ → ℕ → List ℕ → Type 0
IsNow {D = D} told g v b bytes = (hs : List History) (d : D) → StandsFor told g hs → slice_get g.devices v ≡ Some d → is_some (told d) ≡ true → is_some (told g.area.device) ≡ true
    → bytes ≡ content (history_at hs v).writes (length (history_at hs v).writes) b

-- the bytes are those that the image of a set on volume v shows of block b, where its device and the area's tell
abbrev pub IsShown : {D : Type 0} → (D → Option (List (List ℕ))) → GroupValue D → ℕ → ℕ → ℕ → List ℕ → Type 0
IsShown {D = D} told g v set b bytes = (hs : List History) (d : D) (p : ℕ) → StandsFor told g hs → slice_get g.devices v ≡ Some d → is_some (told d) ≡ true → is_some (told g.area.device) ≡ true
    → point_in set (history_at hs v).images ≡ Some p → bytes ≡ content (history_at hs v).writes p b

-- the bytes are those of block b of volume v now, or those that the image of a set on it shows
abbrev pub IsSeen : {D : Type 0} → (D → Option (List (List ℕ))) → GroupValue D → ℕ → Option ℕ → ℕ → List ℕ → Type 0
IsSeen told g v None b bytes = IsNow told g v b bytes
IsSeen told g v (Some set) b bytes = IsShown told g v set b bytes

-- the sets of the images of volume v
abbrev pub sets_in : Option (List ℕ) → List ℕ
sets_in None = []
sets_in (Some sets) = sets

abbrev pub is_among : ℕ → List ℕ → Bool
is_among set sets = list_any (λ s. s == set) sets

abbrev pub sets_at : {D : Type 0} → GroupValue D → ℕ → List ℕ
sets_at g v = sets_in (slice_get g.images v)

-- whether it is there: as it is now, or as the image of one of these sets
abbrev pub is_there : Option ℕ → List ℕ → Bool
is_there None sets = true
is_there (Some set) sets = is_among set sets

-- why a call on volume v, as it is now or as the image of a set shows it, failed: the first cause that stands
abbrev pub HasImageCause : {D : Type 0} → (D → ℕ) → ℕ → Option ℕ → ℕ → GroupValue D → GroupValue D → ImageFault → Type 0
HasImageCause count v set b old new NoSuchImage = (is_there set (sets_at old v) ≡ false) × (new ≡ old)
HasImageCause count v set b old new NoBlock = (is_there set (sets_at old v) ≡ true) × (blocks_at old v ≤ b) × (new ≡ old)
HasImageCause count v set b old new VolumeFailed = (is_there set (sets_at old v) ≡ true) × (b < blocks_at old v) × VolumeRose count v old new
HasImageCause count v set b old new AreaFailed = (is_there set (sets_at old v) ≡ true) × (b < blocks_at old v) × AreaRose count old new

-- that cause, but where the image is wanting
abbrev pub cause_of : ImageFault → Option Cause
cause_of NoSuchImage = None
cause_of NoBlock = Some NoSuchBlock
cause_of VolumeFailed = Some Volume
cause_of AreaFailed = Some Area

-- ## images

-- the images of volume v changed, and its history as f says; the devices are as they were
pub record IsChanged {D : Type 0} (ghosts : Ghosts D) (old new : GroupValue D) (v : ℕ) (f : History → History) : Type 0 where
  pub kept : IsKept ghosts old new
  pub devices : new.devices ≡ old.devices
  pub area : new.area.device ≡ old.area.device
  pub stands : (hs : List History) → StandsFor ghosts.told old hs → StandsFor ghosts.told new (changed_at v f hs)

-- the image of a set went
abbrev pub IsDropped : {D : Type 0} → Ghosts D → GroupValue D → GroupValue D → ℕ → ℕ → Result Unit ImageFault → Type 0
IsDropped ghosts old new v set (Ok done) = (is_among set (sets_at old v) ≡ true) × IsChanged ghosts old new v (dropped set)
IsDropped ghosts old new v set (Err fault) = (fault ≡ NoSuchImage) × (is_among set (sets_at old v) ≡ false) × (new ≡ old)

-- ## revert

-- volume v was brought back to the image of a set; no slot's bytes changed
pub record IsReverted {D : Type 0} (ghosts : Ghosts D) (old new : GroupValue D) (v set : ℕ) : Type 0 where
  pub image : is_among set (sets_at old v) ≡ true
  pub kept : IsKept ghosts old new
  pub stands : (hs : List History) (p : ℕ) → StandsFor ghosts.told old hs → point_in set (history_at hs v).images ≡ Some p → StandsFor ghosts.told new (changed_at v (reverted set p) hs)
  pub unfailed : IsUnfailed ghosts.count old new
  pub slots : ghosts.told new.area.device ≡ ghosts.told old.area.device

-- a device failed after so many blocks were restored, in ascending order: fewer than there are to restore; no slot's bytes changed
pub record IsRevertedInPart {D : Type 0} (ghosts : Ghosts D) (old new : GroupValue D) (v set restored : ℕ) : Type 0 where
  pub image : is_among set (sets_at old v) ≡ true
  pub kept : IsKept ghosts old new
  pub fewer : (hs : List History) (p : ℕ) → StandsFor ghosts.told old hs → point_in set (history_at hs v).images ≡ Some p → restored < length (to_restore (blocks_at old v) (history_at hs v).writes p)
  pub stands : (hs : List History) (p : ℕ) → StandsFor ghosts.told old hs → point_in set (history_at hs v).images ≡ Some p
      → StandsFor ghosts.told new (changed_at v (reverted_in_part (blocks_at old v) set p restored) hs)
  pub slots : ghosts.told new.area.device ≡ ghosts.told old.area.device

-- a device failed: the volume's, or the area's
abbrev pub DeviceRose : {D : Type 0} → (D → ℕ) → ℕ → GroupValue D → GroupValue D → Cause → Type 0
DeviceRose count v old new NoSuchBlock = ⊥
DeviceRose count v old new Volume = VolumeRose count v old new
DeviceRose count v old new Area = AreaRose count old new

abbrev pub IsRevert : {D : Type 0} → Ghosts D → GroupValue D → GroupValue D → ℕ → ℕ → Result Unit RevertFault → Type 0
IsRevert ghosts old new v set (Ok done) = IsReverted ghosts old new v set
IsRevert ghosts old new v set (Err NoImage) = (is_among set (sets_at old v) ≡ false) × (new ≡ old)
IsRevert ghosts old new v set (Err (Fault restored cause)) = IsRevertedInPart ghosts old new v set restored × DeviceRose ghosts.count v old new cause

-- ## a revert that is to stop

-- the count of a device that says nothing of its faults: it is at its most, where it counts as risen
abbrev pub uncounted : {D : Type 0} → D → ℕ
uncounted d = most

-- the counts by which a call is judged; those of one that is told how to fail say nothing
abbrev pub counted_by : {D : Type 0} → (D → ℕ) → Bool → D → ℕ
counted_by count false = count
counted_by count true = uncounted

-- what is seen of a device, with the count by which a call is judged
abbrev pub counted_as : {D : Type 0} → Ghosts D → Bool → Ghosts D
counted_as ghosts stops = record ghosts { count = counted_by ghosts.count stops }

-- no device counts a fault, so no call of one fails
abbrev pub NeverFails : {D : Type 0} → (D → ℕ) → Type 0
NeverFails {D} count = (d : D) → count d ≡ 0

-- a revert that is to stop after k blocks: there are no more to restore, no such image stands, or it stopped there
abbrev pub StopsAfter : {D : Type 0} → (D → Option (List (List ℕ))) → GroupValue D → ℕ → ℕ → ℕ → Result Unit RevertFault → Type 0
StopsAfter told old v set k (Ok done) = (hs : List History) (p : ℕ) → StandsFor told old hs → point_in set (history_at hs v).images ≡ Some p
    → length (to_restore (blocks_at old v) (history_at hs v).writes p) ≤ k
StopsAfter told old v set k (Err NoImage) = Unit {0}
StopsAfter told old v set k (Err (Fault restored cause)) = restored ≡ k

-- ## What is said of a call on a volume that failed. (This project's own.)

abbrev pub cause_message : Cause → List ℕ
cause_message cause.NoSuchBlock = codes "no such block"
cause_message cause.Volume = codes "the volume's device failed"
cause_message cause.Area = codes "the diff area's device failed"

abbrev pub image_message : ImageFault → List ℕ
image_message image.NoSuchImage = codes "no such image"
image_message image.NoSuchBlock = codes "no such block"
image_message image.Volume = codes "the volume's device failed"
image_message image.Area = codes "the diff area's device failed"

-- which images went, if any
abbrev pub evicted_message : ℕ → List ℕ
evicted_message zero = codes ""
evicted_message (suc set) = codes ", and images up to set " ++ (decimal (suc set) ++ codes " went")

abbrev pub write_message : WriteFault → List ℕ
write_message fault = cause_message fault.cause ++ evicted_message fault.evicted_up_to

abbrev pub revert_message : RevertFault → List ℕ
revert_message revert.NoSuchImage = codes "no such image"
revert_message (revert.Fault restored why) = cause_message why ++ (codes ", after " ++ (decimal restored ++ codes " blocks were restored"))

abbrev pub resume_message : ResumeFault → List ℕ
resume_message (resume.NoImage slot set) = codes "slot " ++ (decimal slot ++ (codes " is of set " ++ (decimal set ++ codes ", which has no image")))
resume_message resume.OutOfMemory = codes "out of memory"
